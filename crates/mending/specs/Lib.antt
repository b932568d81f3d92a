pub mod Reasons
pub mod Copying
pub mod Mending
