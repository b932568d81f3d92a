-- The ways out of the functions of each file, over variables; and that the loop over the calls comes to one stage (Once).
pub mod CallsCases
pub mod RefusalCases
pub mod ServeCases
pub mod ServeAllCases
pub mod Once
