-- The theorems. `Demand` has demand 3, by a smaller machine for plain books (`Plain`) and a link to it (`Link`); `Consequences` what it
-- says of two small books, `Before` that it says what it said when first stated; `Listing` that the listing is whole, `Skips` when it says
-- `unsettled`.
pub mod Plain
pub mod Link
pub mod Demand
pub mod Profile
pub mod Consequences
pub mod Before
pub mod ListingStored
pub mod Listing
pub mod Listed
pub mod Total
pub mod Skips
