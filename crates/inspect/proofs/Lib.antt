pub mod Saying
pub mod Lines
pub mod Looking
