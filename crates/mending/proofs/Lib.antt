-- Mending a paper.
pub mod Copies
pub mod Telling
pub mod Coding
pub mod Reasoned
pub mod AllReasons
pub mod Mends
pub mod Fits
