pub mod Calls
pub mod Refusal
pub mod Serve
pub mod ServeAll
