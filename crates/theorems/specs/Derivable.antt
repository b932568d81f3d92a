-- A yes that can be printed (change request 2), of the code: whatever a search or a peek finds for a goal of a clean set can be derived
-- from the book's clauses, variants and wants included, where it is unambiguous; and so can whatever is stored. Nothing is said about
-- answers that are not found.
use Rattle.std.specs.Prelude.{ℕ, false, List, [], ◌∷◌, ◌≡◌}
use Rattle.definitions.specs.Book as books
use Rattle.papers.specs.Certified.{StoredDerivable}
use Rattle.papers.specs.Derive.{Derivable}
use Rattle.forest.specs.declared.Forest.{Forest}
use Rattle.forest.specs.declared.searches.Outcome.{Outcome}
use Rattle.forest.specs.declared.searches.Outcome.TheVariants as outcomes
use Rattle.forest.specs.Sittings.{Told, opens, searches, peeks, asks_future, left}
use Rattle.forest.specs.View.{view}
use Rattle.theorems.specs.Right.{NamedGoal}

-- `C` is the clean set.
module _ (book : books.Book) (C : ℕ → Type 0) where
  -- a search or peek of table t; f is the forest that it left
  abbrev pub OutcomeDerivable : Forest → (table : ℕ) → Outcome → Type 0
  OutcomeDerivable f t (outcomes.Refused n) = Unit {0}
  OutcomeDerivable f t (outcomes.Found variant ambiguous) = NamedGoal f t (λ goal. C goal → ambiguous ≡ false → Derivable book goal variant)
  OutcomeDerivable f t outcomes.NoMoreSolutions = Unit {0}
  OutcomeDerivable f t outcomes.Floundered = Unit {0}
  OutcomeDerivable f t outcomes.QuantumExceeded = Unit {0}
  OutcomeDerivable f t outcomes.NegativeCycle = Unit {0}
  OutcomeDerivable f t outcomes.InvalidAnswer = Unit {0}
  OutcomeDerivable f t outcomes.Cut = Unit {0}
  OutcomeDerivable f t (outcomes.Stopped n) = Unit {0}

  abbrev pub ToldDerivable : Told → Type 0
  ToldDerivable (opens goal r) = Unit {0}
  ToldDerivable (searches table index limit r) = OutcomeDerivable r.forest table r.outcome
  ToldDerivable (peeks table index rounds limit r) = OutcomeDerivable r.forest table r.outcome
  ToldDerivable (asks_future table index variant r) = Unit {0}

  -- every call, and what is stored in the forest that it left
  abbrev pub AllDerivable : Forest → List Told → Type 0
  AllDerivable f [] = Unit {0}
  AllDerivable f (t ∷ ts) = ToldDerivable t × StoredDerivable book C (view (left f t)) × AllDerivable (left f t) ts
