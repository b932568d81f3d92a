-- The pages of change request 3: every line of a listing fits its columns, and what is printed is whole pages (`Fits`:
-- `listing_paged`). What is claimed stands in definitions (Pages).
pub mod Fits
