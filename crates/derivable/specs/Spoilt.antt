-- The goals that nothing spoils (papers, Spoilt) are the largest clean set, and whatever goal is told to spoil another one does.
use Rattle.std.specs.Prelude.{ℕ, ◌≡◌}
use Rattle.std.proofs.Math.Option.{none, some}
use Rattle.std.proofs.Math.ListN.{get_elem?}
use Rattle.definitions.specs.Book.{Goal, Book}
use Rattle.papers.specs.Derive.{Clean}
use Rattle.papers.specs.Levels.{Walk}
use Rattle.papers.specs.Spoilt.{Spoil, spoil, spoiler_in, spoilers}

abbrev pub Unspoilt : Book → (goal : ℕ) → Type 0
Unspoilt book goal = spoiler_in (spoilers book) goal ≡ none

-- THE LARGEST CLEAN SET: they are a clean set, and every clean set is within it
pub record LargestClean (book : Book) : Type 1 where
  pub clean : Clean book (Unspoilt book)
  pub largest : (C : ℕ → Type 0) → Clean book C → (goal : ℕ) → C goal → Unspoilt book goal

-- WHO SPOILS IT: the goal leads to it, and it spoils by itself
pub record SpoiltBy (book : Book) (goal by : ℕ) : Type 0 where
  pub nots : ℕ
  pub leads : Walk book goal by nots
  pub own : Goal
  pub is_own : get_elem? book by ≡ some own
  pub what : Spoil
  pub itself : spoil own ≡ some what

abbrev pub SpoilersSpoil : Type 0
SpoilersSpoil = (book : Book) (goal by : ℕ) → spoiler_in (spoilers book) goal ≡ some by → SpoiltBy book goal by
