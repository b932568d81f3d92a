-- The ways out of the functions of each file over variables (Cases), what makes the loop of searches end (Falls), the loop's passes over
-- variables (Looping), and its turns by numbers (Settling), both of which come to one walk (Once); what is read of the answers that are
-- stored, what is done before a search's first turn (Starting): what it means, what it leaves, and how a peek goes by it; one pass of the
-- loop (Passing): that it is one step of a search, and what it leaves; and what a search and a peek come to, from stores between two
-- searches on (Answering); and a search by value, by turns and put back (SolveStates).
pub mod RootAnswerCases
pub mod RootAnswerFalls
pub mod EnsureRootAnswerCases
pub mod Bytes
pub mod Looping
pub mod Settling
pub mod Once
pub mod StoredAnswers
pub mod Starting
pub mod StartingSound
pub mod StartingPeeks
pub mod StartingValid
pub mod Passing
pub mod PassingSound
pub mod PassingByNumbers
pub mod PassingSearch
pub mod PassingPeeks
pub mod Answering
pub mod SolveStateCases
pub mod SolveStates
