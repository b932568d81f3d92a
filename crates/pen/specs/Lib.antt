pub mod Pen
pub mod Refusals
pub mod Goals
