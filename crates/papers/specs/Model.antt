-- Plain and levelled books, and the layered least model (document 01, "A book"; layered models follow Chen and Warren).
use Rattle.std.specs.Prelude.{ℕ, zero, suc, ◌≤◌, ◌<◌, ◌≡◌, Bool, false, ◌⊎◌}
use Rattle.std.proofs.Math.Option.{none, some}
use mathlib.Core.List.{List, [], ◌∷◌, Memᴰ}
use Rattle.std.proofs.Math.ListN.{get_elem?}
use Rattle.definitions.specs.Lists.{Each}
use Rattle.definitions.specs.Book.{Want, any, Literal, Positive, Negative, Clause, Goal, Book}

-- Plain: every clause has variant 0, every literal wants any variant, by command 50, and every flag is clear.

abbrev pub PlainLiteral : Literal → Type 0
PlainLiteral (Positive goal want outsized) = (want ≡ any) × (outsized ≡ false)
PlainLiteral (Negative goal outsized) = outsized ≡ false

pub record PlainClause (c : Clause) : Type 0 where
  pub as_a_whole : c.variant ≡ 0
  pub provable : c.cannot_prove ≡ false
  pub small : c.outsized ≡ false
  pub literals_plain : Each PlainLiteral c.literals

pub record PlainGoal (g : Goal) : Type 0 where
  pub inductive : g.coinductive ≡ false
  pub unfloundered : g.floundered ≡ false
  pub clauses_plain : Each PlainClause g.clauses

abbrev pub Plain : Book → Type 0
Plain book = Each PlainGoal book

-- Levelled: a clause's positive literals name goals of no higher level than its own goal's, its "not" literals goals of a lower one.

abbrev pub clauses_of : Book → (goal : ℕ) → List Clause
clauses_of book goal = elim (get_elem? book goal) [ none ↦ [] | some g ↦ g.clauses ]

-- a literal of a clause of a goal of level n
abbrev pub LevelLiteral : (level : ℕ → ℕ) → (n : ℕ) → Literal → Type 0
LevelLiteral level n (Positive goal want outsized) = level goal ≤ n
LevelLiteral level n (Negative goal outsized) = level goal < n

abbrev pub Levelled : Book → (level : ℕ → ℕ) → Type 0
Levelled book level = (goal : ℕ) (c : Clause) → Memᴰ c (clauses_of book goal) → Each (LevelLiteral level (level goal)) c.literals

-- The layered least model, level by level. `Holds ls` says that each literal of ls is true at level n, where `Below` are the goals of
-- the levels below that are in the model: a positive literal is true if its goal is below, or if it is of level n and a clause of it
-- holds, a "not" if its goal is not below. As an inductive type it is the least set that is closed under the clauses of level n.
pub data Holds (book : Book) (level : ℕ → ℕ) (n : ℕ) (Below : ℕ → Type 0) : List Literal → Type 0 where
  holds_end : Holds book level n Below []
  holds_below :
      {goal : ℕ} {want : Want} {outsized : Bool} {ls : List Literal} → Below goal → Holds book level n Below ls →
      Holds book level n Below (Positive goal want outsized ∷ ls)
  holds_here :
      {goal : ℕ} {want : Want} {outsized : Bool} {ls : List Literal} (c : Clause) →
      level goal ≡ n → Memᴰ c (clauses_of book goal) → Holds book level n Below c.literals → Holds book level n Below ls →
      Holds book level n Below (Positive goal want outsized ∷ ls)
  holds_not :
      {goal : ℕ} {outsized : Bool} {ls : List Literal} → (Below goal → ⊥) → Holds book level n Below ls →
      Holds book level n Below (Negative goal outsized ∷ ls)

module _ (book : Book) (level : ℕ → ℕ) where
  -- the goals of the levels below n that are in the model
  abbrev pub Below : ℕ → (goal : ℕ) → Type 0
  Below zero goal = ⊥
  Below (suc n) goal = Below n goal ⊎ ((level goal ≡ n) × Holds book level n (Below n) (Positive goal any false ∷ []))

  -- the goal is in the layered least model
  abbrev pub In : (goal : ℕ) → Type 0
  In goal = Holds book level (level goal) (Below (level goal)) (Positive goal any false ∷ [])
