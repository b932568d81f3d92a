pub mod Putting
pub mod Sentences
pub mod Goals
pub mod Numbers
