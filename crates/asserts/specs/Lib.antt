-- That no assert or panic of the Rust but the numbered ones is ever met: the statement.
pub mod Sound
pub mod NeverAsserts
