pub mod Telling
pub mod Profile
pub mod Paper
pub mod Places
pub mod Asks
pub mod Reach
pub mod Spoilers
