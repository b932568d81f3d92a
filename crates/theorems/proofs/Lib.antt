-- `Theorems` has a proof of each statement of `Promises`. `Calls` shows that a sitting is a list of calls of the definitions, and `Steps`
-- that calls by value, calls of a forest that is lent and calls that are handed over together are one sitting. `Right` takes demand 3 over
-- from the definitions, and `Before` has it as it was first stated; `Total` takes demand 1 over, from which `Asserts` has that no call
-- meets an assert; `Accepted` has demand 3 of a paper that the check accepts. `Derivable` shows that what is found can be derived.
pub mod Calls
pub mod Steps
pub mod Right
pub mod Before
pub mod Total
pub mod Asserts
pub mod Accepted
pub mod Derivable
pub mod Theorems
