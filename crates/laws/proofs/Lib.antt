-- Laws that know neither the definitions nor the code, for whichever crate wants them: options, tests, lists, counts. What the kit has
-- (mathlib.Core.Bool, lib.ListN, lib.Seq, borrow.Author.Tests) is not said again.
pub mod Options
pub mod Bools
pub mod Lists
pub mod All
pub mod Maps
pub mod Takes
pub mod Spans
pub mod Pairs
pub mod Totals
pub mod Sums
pub mod Distinct
