-- The Rust's asserts and panics that are never met: no call on any book ends in stop 0. `NeverAsserts` of specs/ says so, `Theorem`
-- proves it, `Sound` has the invariant, `Bounds` what it bounds; the others show that each step of the definitions keeps it.
pub mod Safe
pub mod Keeping
pub mod Making
pub mod Returning
pub mod Choosing
pub mod Unwinding
pub mod States
pub mod Merging
pub mod Cycles
pub mod Answers
pub mod Results
pub mod Clearing
pub mod Idle
pub mod Turns
pub mod Searches
pub mod Peeks
pub mod Reading
pub mod Bounds
pub mod Theorem
