-- A yes that can be printed (change request 2), one half: what can be derived from the clauses of a book, variants and wants included, and
-- the goals of which it is promised. The promise is in Certified.
use Rattle.std.specs.Prelude.{ℕ, ◌≡◌, false, true}
use Rattle.std.proofs.Math.Option.{some}
use mathlib.Core.List.{List, [], ◌∷◌, Memᴰ}
use Rattle.std.proofs.Math.ListN.{get_elem?}
use Rattle.definitions.specs.Book.{Want, Literal, Positive, Negative, Clause, Goal, Book}
use Rattle.definitions.specs.Fitting.{answer_fits}
use Rattle.definitions.specs.Lists.{Each}

-- A clause of a goal that a derivation may use: the goal isn't floundered, the clause isn't marked "cannot prove", and its answer isn't
-- outsized.
pub record Usable (book : Book) (goal : ℕ) (c : Clause) : Type 0 where
  pub own : Goal
  pub is_own : get_elem? book goal ≡ some own
  pub unfloundered : own.floundered ≡ false
  pub of_own : Memᴰ c own.clauses
  pub provable : c.cannot_prove ≡ false
  pub small : c.outsized ≡ false

-- Each literal of the list is derived: it is positive and not outsized, and some usable clause of its goal has a variant that fits and
-- literals that are derived. As an inductive type it has the finite derivations and no other.
pub data Derives (book : Book) : List Literal → Type 0 where
  derives_end : Derives book []
  derives :
      {goal : ℕ} {want : Want} {ls : List Literal} (c : Clause) →
      Usable book goal c → answer_fits (Positive goal want false) c.variant ≡ true →
      Derives book c.literals → Derives book ls → Derives book (Positive goal want false ∷ ls)

-- the goal, as this variant: by a usable clause of that variant
abbrev pub Derivable : Book → (goal variant : ℕ) → Type 0
Derivable book goal variant = (c : Clause) × Usable book goal c × (c.variant ≡ variant) × Derives book c.literals

-- A clean set of goals: none is coinductive, and their clauses have no "not" and name goals of the set. The goals of a book with
-- no "not" and no coinductive goal are one (crate `derivable`, `whole_book`).

abbrev pub CleanLiteral : (ℕ → Type 0) → Literal → Type 0
CleanLiteral C (Positive goal want outsized) = C goal
CleanLiteral C (Negative goal outsized) = ⊥

pub record CleanGoal (C : ℕ → Type 0) (g : Goal) : Type 0 where
  pub inductive : g.coinductive ≡ false
  pub literals_clean : Each (λ c. Each (CleanLiteral C) c.literals) g.clauses

abbrev pub Clean : Book → (ℕ → Type 0) → Type 0
Clean book C = (goal : ℕ) (g : Goal) → C goal → get_elem? book goal ≡ some g → CleanGoal C g

-- a book with no "not" and no coinductive goal
abbrev pub CleanBook : Book → Type 0
CleanBook book = Each (CleanGoal (λ goal. Unit {0})) book
