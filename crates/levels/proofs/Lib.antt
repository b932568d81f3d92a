pub mod Telling
pub mod Once
