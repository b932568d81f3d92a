-- The export of a plain book.
pub mod Exporting
