pub mod Lines
pub mod Goals
