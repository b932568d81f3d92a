-- The link: on plain states the definitions do what the plain machine does, call by call. `View` says how their states stand side by
-- side; `Turns`, `Searches`, `Peeks` and `Calls` follow a turn, a search, a peek and a call.
pub mod View
pub mod Choose
pub mod Tables
pub mod Sums
pub mod Making
pub mod Back
pub mod Turn
pub mod Selected
pub mod Premises
pub mod Answers
pub mod Clearing
pub mod Idle
pub mod Taking
pub mod Turns
pub mod Searches
pub mod Peeks
pub mod Models
pub mod Reading
pub mod Naming
pub mod Calls
