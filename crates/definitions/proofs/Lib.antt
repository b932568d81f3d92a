-- Facts about the definitions that more than one crate wants: on lists and refusals, on books that are read and written, and on the desk.
pub mod Lists
pub mod Refusal
pub mod Members
pub mod Book
pub mod Mend
pub mod RoundTrip
pub mod Prefix
pub mod ReadKeeps
pub mod ReadLimits
pub mod ReadNumbers
pub mod Desk
pub mod Cut
