pub mod Places
pub mod Keeping
pub mod Reading
pub mod Importing
