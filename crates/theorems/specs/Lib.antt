-- `Promises` is the page to read: every final statement. The others say what its words mean, of the code's own results: `Steps` ways of
-- calling, `Replies` a result in the definitions' words, `Total` the listed results, `Right` what a result says of the model, `Derivable`
-- what it says of the clauses. `Before` has demand 3 as it was first stated.
pub mod Replies
pub mod Steps
pub mod Right
pub mod Before
pub mod Derivable
pub mod Total
pub mod Promises
