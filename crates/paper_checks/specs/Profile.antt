-- What the check of a paper is to give, by the definitions.
use Rattle.std.specs.Prelude.{ℕ, ◌≤◌, ◌≡◌, true, false, Bool, List, length, get_or, take, Result, Ok, Err, IfOk, IfErr}
use Rattle.definitions.specs.Refusal.{Refusable, refused, accepted}
use Rattle.definitions.specs.Book as said
use Rattle.definitions.specs.Desk.{desk}
use Rattle.papers.specs.Levels.{check_levels, OnNotCycle}
use Rattle.book.specs.Refusals.{number}
use Rattle.paper_checks.specs.declared.LeastLevels.{LeastLevels}
use Rattle.paper_checks.specs.declared.Unlevelled.{Unlevelled}
use Rattle.paper_checks.specs.declared.Unlevelled.TheVariants.{Refused, OnCycles}
use Rattle.paper_checks.specs.Asks.{Filled}

-- why a paper has no levels, by its number
abbrev pub why : Unlevelled → ℕ
why (Refused e) = number e
why (OnCycles marks) = 38

-- what is given as the definitions have it
abbrev pub profile_seen : Result LeastLevels Unlevelled → Refusable (List ℕ)
profile_seen (Ok l) = accepted (take l.goals l.levels)
profile_seen (Err e) = refused (why e)

-- each goal is marked that is on a cycle through "not", and no other
pub record Marks (book : said.Book) (marks : List Bool) : Type 0 where
  pub whole : length marks ≡ 64
  pub on_cycle : (g : ℕ) → get_or marks g false ≡ true → OnNotCycle book g
  pub off_cycle : (g : ℕ) → get_or marks g false ≡ false → OnNotCycle book g → ⊥

-- an array of levels, of at most 64 goals
pub record Whole (l : LeastLevels) : Type 0 where
  pub few : l.goals ≤ 64
  pub filled : Filled l.goals l.levels

-- with 38, and no other number, the marks of the goals on a cycle
abbrev pub Reason : (bytes : List ℕ) → Unlevelled → Type 0
Reason bytes (Refused e) = number e ≡ 38 → ⊥
Reason bytes (OnCycles marks) = (book : said.Book) → desk bytes ≡ accepted book → Marks book marks

-- THE PROFILE of a byte string
pub record Profiles (bytes : List ℕ) (r : Result LeastLevels Unlevelled) : Type 0 where
  pub means : profile_seen r ≡ check_levels bytes
  pub levels : IfOk r Whole
  pub reason : IfErr r (Reason bytes)
