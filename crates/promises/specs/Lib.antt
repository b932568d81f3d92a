-- What is promised of the definitions, statements alone: `ListingWhole` that the listing is whole, `Skips` what `unsettled` in a listing
-- means, `Total` demand 1 of the definitions, `Before` demand 3 as it was first stated. Demand 3 is stated in `Claim` of crate `papers`; that
-- no assert is met is stated and proved in crate `asserts`. The proofs stand in proofs/: `Demand`, `Before`, `Total`, `Listing` and `Skips`
-- have the theorems. Crate `theorems` says all of it of the code.
pub mod ListingWhole
pub mod Before
pub mod Total
pub mod Skips
