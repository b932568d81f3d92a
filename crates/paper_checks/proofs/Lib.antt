-- The check of a paper. `Papers`: a plain paper; `Tested`: where it is not plain; `Asking`: what clauses ask of a level; `Settling`: one
-- pass, and whether it changes anything; `Ending`: where the passes end. Of the goals on a cycle through "not": `Raising`, a matrix that is
-- written; `Closing`, its closure; `Walks`, walks of the definitions; `Members`, the clauses and literals of a book by their places;
-- `Leading`, the edges; `Rounds`, the marks. `Checked` puts the parts together; `Once`: what is said of a profile settles it. Of the goals
-- whose yes can be printed: `Firsts`, the first of a list, and arrays that are filled; `Spoiling`, what a goal spoils by itself;
-- `Spreading`, by which goal a goal is spoilt in a pass; `SpoiltBooks`, all passes over a book, and a paper's.
pub mod Asking
pub mod Papers
pub mod Tested
pub mod Settling
pub mod Raising
pub mod Closing
pub mod Walks
pub mod Members
pub mod Leading
pub mod Ending
pub mod Rounds
pub mod Checked
pub mod Once
pub mod Firsts
pub mod Spoiling
pub mod Spreading
pub mod SpoiltBooks
