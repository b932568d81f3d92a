pub mod Course
pub mod RootAnswer
pub mod Falls
pub mod EnsureRootAnswer
pub mod Walk
pub mod Means
pub mod SolveState
