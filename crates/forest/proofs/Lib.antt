-- What is run from a sound forest on (Running), what a search and a peek are refused by (Refusing), what a call that is handed over comes
-- to (Opening, Serving), and the ways out of the functions of each file over variables (Cases), with what opening a goal means.
pub mod Running
pub mod Refusing
pub mod SearchesCases
pub mod SearchPeekCases
pub mod AnyFutureAnswerCases
pub mod MakeCases
pub mod OpenCases
pub mod Opening
pub mod Serving
pub mod ServeCallsCases
