-- Demand 3 of the code as it was first stated, with no allowance in the bound. It follows as `Demand3` of `Right` does (proofs/Before).
-- And of a paper that the check accepts, with the allowance (`Promises` says it without).
use Rattle.std.specs.Prelude.{ℕ, ◌+◌, ◌≤◌, false, List, ◌≡◌, length, Ok}
use Rattle.definitions.specs.Book as books
use Rattle.definitions.specs.Book.{clause_count}
use Rattle.papers.specs.Model.{Plain, Levelled, In}
use Rattle.definitions.specs.Refusal.{accepted}
use Rattle.forest.specs.declared.make.Made.{Made}
use Rattle.forest.specs.declared.make.Making.TheVariants as makings
use Rattle.definitions.specs.Desk.{desk}
use Rattle.forest.specs.Make.{MakeSays, MakeAtDeskSays}
use Rattle.forest.specs.Sittings.{Told, Sits}
use Rattle.paper_checks.specs.declared.LeastLevels.{LeastLevels}
use Rattle.paper_checks.specs.Profile.{Profiles}
use Rattle.papers.specs.Levels.{level_in}
use Rattle.theorems.specs.Right.{AllTell, exceeded, all_granted}
use Rattle.theorems.specs.Steps.{Step, Runs, TellSo}

abbrev pub Demand3 : Type 0
Demand3 =
    (bytes : List ℕ) (clock_limit : ℕ) (m : Made) → MakeSays bytes clock_limit m → m.making ≡ makings.Made →
    (book : books.Book) → books.read bytes ≡ accepted book → (level : ℕ → ℕ) → Plain book → Levelled book level →
    (ts : List Told) → Sits m.forest ts →
    AllTell (In book level) clock_limit false ts × (exceeded ts ≤ length book + clause_count book)

abbrev pub AcceptedTells : Type 0
AcceptedTells =
    (bytes : List ℕ) (p : LeastLevels) → Profiles bytes (Ok p) →
    (clock_limit : ℕ) (m : Made) → MakeAtDeskSays bytes clock_limit m → m.making ≡ makings.Made →
    (book : books.Book) → desk bytes ≡ accepted book →
    (ss : List Step) → Runs m.forest ss →
    TellSo m.forest ss (λ ts.
    AllTell (In book (level_in p.levels)) clock_limit false ts × (exceeded ts ≤ length book + clause_count book + all_granted ts))
