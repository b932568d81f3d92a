-- Definitions on lists that name no store and no book, for whichever crate wants them.
pub mod All
pub mod Spans
pub mod Pairs
