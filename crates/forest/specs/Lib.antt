pub mod View
pub mod Make
pub mod Open
pub mod Searches
pub mod AnyFutureAnswer
pub mod Sittings
pub mod ServeCalls
pub mod Shown
