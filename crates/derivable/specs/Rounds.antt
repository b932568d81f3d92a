-- What can be derived (papers, Derive), computed in rounds. What is derived so far is a list of pairs, a goal and a variant, in the
-- order of the book's clauses. It begins empty; a round derives every usable clause whose literals are met by what was derived before it.
use Rattle.std.specs.Prelude.{ℕ, zero, suc, ◌≡◌, Bool, true, false, not, ◌&&◌, eqb}
use mathlib.Core.List.{List, [], ◌∷◌, ◌++◌, Memᴰ}
use Rattle.definitions.specs.Book.{Want, Literal, Positive, Negative, Clause, Goal, Book}
use Rattle.definitions.specs.Fitting.{answer_fits}
use Rattle.definitions.specs.Lists.{any_passes}
use Rattle.papers.specs.Levels.{each_passes}
use Rattle.papers.specs.Derive.{Derivable}

abbrev pub Pairs : Type 0
Pairs = List (ℕ × ℕ)

abbrev pub Has : Pairs → (goal variant : ℕ) → Type 0
Has d goal variant = Memᴰ {A = ℕ × ℕ} (goal, variant) d

-- a pair of this goal, with a variant that fits
abbrev pub pair_fits : (goal : ℕ) → Want → ℕ × ℕ → Bool
pair_fits goal want p = eqb p.0 goal && answer_fits (Positive goal want false) p.1

-- a literal is met by some pair; an outsized one and a "not" by none
abbrev pub literal_derived : Pairs → Literal → Bool
literal_derived d (Positive goal want outsized) = not outsized && any_passes (pair_fits goal want) d
literal_derived d (Negative goal outsized) = false

abbrev pub clause_derived : Pairs → Clause → Bool
clause_derived d c = not c.cannot_prove && (not c.outsized && each_passes (literal_derived d) c.literals)

abbrev pub clauses_derived : Pairs → (goal : ℕ) → List Clause → Pairs
clauses_derived d goal [] = []
clauses_derived d goal (c ∷ cs) = elim (clause_derived d c) [
  | true ↦ (goal, c.variant) ∷ clauses_derived d goal cs
  | false ↦ clauses_derived d goal cs
]

-- nothing is derived of a floundered goal
abbrev pub goal_derived : Pairs → (goal : ℕ) → Goal → Pairs
goal_derived d goal g = elim g.floundered [ true ↦ [] | false ↦ clauses_derived d goal g.clauses ]

-- the goals from `goal` on
abbrev pub goals_derived : Pairs → (goal : ℕ) → List Goal → Pairs
goals_derived d goal [] = []
goals_derived d goal (g ∷ gs) = goal_derived d goal g ++ goals_derived d (suc goal) gs

abbrev pub round : Book → Pairs → Pairs
round book d = goals_derived d 0 book

abbrev pub after : (rounds : ℕ) → Book → Pairs
after zero book = []
after (suc n) book = round book (after n book)

-- the pairs are those that can be derived, and no other
pub record JustDerivable (book : Book) (pairs : Pairs) : Type 0 where
  pub each_derivable : (goal variant : ℕ) → Has pairs goal variant → Derivable book goal variant
  pub all_there : (goal variant : ℕ) → Derivable book goal variant → Has pairs goal variant

-- Once a round changes nothing, that is what the rounds have come to.
abbrev pub RoundsCompute : Type 0
RoundsCompute = (book : Book) (rounds : ℕ) → round book (after rounds book) ≡ after rounds book → JustDerivable book (after rounds book)
