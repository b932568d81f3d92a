-- A yes that can be printed (change request 2): which goals are within the promise, and what can be derived, computed. What can be derived
-- and the promise are in definitions (Derive, Certified); the proofs are in proofs/.
pub mod Spoilt
pub mod Listing
pub mod Rounds
pub mod Cases
