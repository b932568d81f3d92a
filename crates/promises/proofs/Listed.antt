-- What demand 1 says of a turn, a search and a peek of the definitions, in any state: `Walk` has the statements that stop or go on, `Logic`
-- and `Turn` follow logic.rs, `Searches` a search and a peek.
pub mod Walk
pub mod Logic
pub mod Turn
pub mod Searches
pub mod Reading
