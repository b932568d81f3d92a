-- A SEQUENCE OF STEPS on a forest, by every way of calling and in any order: a call by value, a call of a forest that is lent by `&mut`, or
-- calls that are handed over together. What is known of a step is its function's contract and nothing else.
use Rattle.std.specs.Prelude.{ℕ, List, [], ◌∷◌, ◌++◌, ◌≡◌}
use Rattle.forest.specs.declared.Forest.{Forest}
use Rattle.forest.specs.declared.open.Opening.{Opening}
use Rattle.forest.specs.Open.{OpenSays}
use Rattle.forest.specs.Searches.{SearchSays, PeekSays}
use Rattle.forest.specs.ServeCalls.{ServeCallsSays}
use Rattle.forest.specs.Sittings as told
use Rattle.forest.specs.Sittings.{Told, left, Gives}
use Rattle.forest.specs.View.{Sound}
use Rattle.forest.specs.declared.searches.PeekReply.{PeekReply}
use Rattle.forest.specs.declared.searches.SearchReply.{SearchReply}
use Rattle.in_place.specs.Joined.{opened, searched, peeked}

-- a call of a forest that is lent: what it gave, and the forest as it lies there afterwards
pub data Lent : Type 0 where
  opens : (goal : ℕ) → Opening → Forest → Lent
  searches : (table index limit : ℕ) → SearchReply → Forest → Lent
  peeks : (table index rounds limit : ℕ) → PeekReply → Forest → Lent

-- its function's contract, from the forest that lay there before
abbrev pub LentGives : Forest → Lent → Type 0
LentGives f (opens goal r g) = OpenSays f goal (opened r g)
LentGives f (searches table index limit r g) = SearchSays f table index limit (searched r g)
LentGives f (peeks table index rounds limit r g) = PeekSays f table index rounds limit (peeked r g)

-- the same by value
abbrev pub lent_told : Lent → Told
lent_told (opens goal r g) = told.opens goal (opened r g)
lent_told (searches table index limit r g) = told.searches table index limit (searched r g)
lent_told (peeks table index rounds limit r g) = told.peeks table index rounds limit (peeked r g)

-- `serve_calls` got so many calls as numbers, and a place for the replies as it was before; it gave a forest, and the replies
pub data Step : Type 0 where
  by_value : Told → Step
  lent : Lent → Step
  together : (count : ℕ) → (calls before : List ℕ) → Forest → (after : List ℕ) → Step

-- the forest that a step leaves
abbrev pub step_left : Forest → Step → Forest
step_left f (by_value t) = left f t
step_left f (lent l) = left f (lent_told l)
step_left f (together count calls before g after) = g

-- what it gave is what the contract lets it give; that of `serve_calls` speaks of sound forests
abbrev pub StepGives : Forest → Step → Type 0
StepGives f (by_value t) = Gives f t
StepGives f (lent l) = LentGives f l
StepGives f (together count calls before g after) = Sound f → ServeCallsSays f count calls before g after

-- each step gets the forest as the step before it left it, and nobody else writes it in between
abbrev pub Runs : Forest → List Step → Type 0
Runs f [] = Unit {0}
Runs f (s ∷ ss) = StepGives f s × Runs (step_left f s) ss

-- WHAT THEY TELL: one list of calls, each with what it gave

-- a step tells these calls; those that were handed over together one by one, as their numbers mean them (crate `forest`: `ServeCallsSays`)
abbrev pub StepTells : Forest → Step → List Told → Type 0
StepTells f (by_value t) ts = ts ≡ t ∷ []
StepTells f (lent l) ts = ts ≡ lent_told l ∷ []
StepTells f (together count calls before g after) ts = (says : ServeCallsSays f count calls before g after) × (ts ≡ says.told)

-- all steps tell these calls
abbrev pub Tell : Forest → List Step → List Told → Type 0
Tell f [] ts = ts ≡ []
Tell f (s ∷ ss) ts =
    (us : List Told) × (vs : List Told) × StepTells f s us × Tell (step_left f s) ss vs × (ts ≡ us ++ vs)

-- there is such a list, and this holds of it
abbrev pub TellSo : Forest → List Step → (List Told → Type 0) → Type 0
TellSo f ss Holds = (ts : List Told) × Tell f ss ts × Holds ts
