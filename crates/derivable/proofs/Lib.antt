-- A yes that can be printed (change request 2). `Kept` states the local steps and what is kept of a state; `Choosing` to `Calls` show that
-- every call keeps it, whatever P and Q are, and `Listing` that it holds of every line. `Derive` is the instance, `Theorem` has
-- `certified`; another instance is `Variants`: what is found has the variant of a clause of its goal (change request 3). `Spoilt` shows
-- that the goals which nothing spoils are the largest clean set, `Rounds` that rounds compute what can be derived, and `Cases` what can be
-- of each case.
pub mod Fine
pub mod Kept
pub mod Choosing
pub mod States
pub mod Merging
pub mod Answers
pub mod Turns
pub mod Calls
pub mod Derive
pub mod Spoilt
pub mod Rounds
pub mod Theorem
pub mod Listing
pub mod Variants
pub mod Cases
