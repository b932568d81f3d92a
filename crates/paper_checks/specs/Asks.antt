-- What the clauses of a goal ask of its level, by a book's arrays; and what passes over all goals give.
use Rattle.std.specs.Prelude.{ℕ, ◌≤◌, ◌<◌, ◌≡◌, List, [], ◌∷◌, length, get_or, take, Some, None, IfSome}
use Rattle.std.specs.declared.option.Option as found
use Rattle.std.proofs.Math.Option.{Option, none, some}
use Rattle.laws.specs.Spans.{span}
use Rattle.papers.specs.Levels.{larger, literals_ask}
use Rattle.book.specs.declared.Book.{Book}
use Rattle.book.specs.Access.{entry}
use Rattle.book.specs.Repeats.{lent_by, clause_read}

-- levels to which one can be added in a byte
pub record Low (levels : List ℕ) : Type 0 where
  pub whole : length levels ≡ 64
  pub room : (g : ℕ) → get_or levels g 0 < 255

abbrev pub most : List ℕ → ℕ
most [] = 0
most (n ∷ ns) = larger n (most ns)

-- what so many clauses from `first` on ask
abbrev pub asked_from : (levels : List ℕ) → (b : Book) → (first count : ℕ) → ℕ
asked_from levels b first count = most (span (λ c. literals_ask levels (clause_read (lent_by b) c).literals) first count)

-- what a pass gives: to each goal what its clauses ask, and 0 behind the last one
pub record PassGives (levels : List ℕ) (b : Book) (next : List ℕ) : Type 0 where
  pub whole : length next ≡ 64
  pub raised : (g : ℕ) → g < b.goals → get_or next g 0 ≡ asked_from levels b (entry 64 b.goal_first g) (entry 64 b.goal_len g)
  pub past : (g : ℕ) → b.goals ≤ g → get_or next g 0 ≡ 0

-- levels after all passes, as the definitions have them
abbrev pub settled_by : (goals : ℕ) → found.Option (List ℕ) → Option (List ℕ)
settled_by goals (Some levels) = some (take goals levels)
settled_by goals None = none

-- an array of levels of so many goals
pub record Filled (goals : ℕ) (levels : List ℕ) : Type 0 where
  pub whole : length levels ≡ 64
  pub past : (g : ℕ) → goals ≤ g → get_or levels g 0 ≡ 0

-- what the passes over a book of so many goals give, whose levels are these
pub record Settles (levels : Option (List ℕ)) (goals : ℕ) (r : found.Option (List ℕ)) : Type 0 where
  pub means : settled_by goals r ≡ levels
  pub filled : IfSome r (Filled goals)
