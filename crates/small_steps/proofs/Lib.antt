-- A turn is what is decided, done (`Theorem`). The other files follow logic.rs, a function at a time.
pub mod Matches
pub mod Writing
pub mod Deeds
pub mod Answers
pub mod Choosing
pub mod Clearing
pub mod Idle
pub mod Taking
pub mod Theorem
pub mod Reading
pub mod Searching
pub mod Peeking
