-- The levelled profile (change request 12): the least level of each goal, from 0; or that the book is not plain, or not levelled. The
-- rules themselves are `Plain` and `Levelled` of Model.
use Rattle.std.specs.Prelude.{ℕ, zero, suc, ◌+◌, Bool, true, false, not, ◌&&◌, length, get_or, eqb, ltb}
use Rattle.std.proofs.Math.Option.{Option, none, some}
use mathlib.Core.List.{List, [], ◌∷◌, map, Memᴰ}
use Rattle.definitions.specs.Refusal.{Refusable, refused, accepted}
use Rattle.definitions.specs.Lists.{same}
use Rattle.definitions.specs.Book.{Want, any, exactly, between, Literal, Positive, Negative, Clause, Goal, Book, goal_of}
use Rattle.definitions.specs.Desk.{desk}
use Rattle.papers.specs.Model.{clauses_of}

-- Plain, as a test.

module _ {A : Type 0} where
  -- each one of a list passes
  abbrev pub each_passes : (A → Bool) → List A → Bool
  each_passes test [] = true
  each_passes test (a ∷ l) = test a && each_passes test l

abbrev pub wants_any : Want → Bool
wants_any any = true
wants_any (exactly variant) = false
wants_any (between least most) = false

abbrev pub plain_literal : Literal → Bool
plain_literal (Positive goal want outsized) = wants_any want && not outsized
plain_literal (Negative goal outsized) = not outsized

abbrev pub plain_clause : Clause → Bool
plain_clause c = eqb c.variant 0 && (not c.cannot_prove && (not c.outsized && each_passes plain_literal c.literals))

abbrev pub plain_goal : Goal → Bool
plain_goal g = not g.coinductive && (not g.floundered && each_passes plain_clause g.clauses)

abbrev pub is_plain : Book → Bool
is_plain book = each_passes plain_goal book

-- The least levels. All goals begin at 0; in a pass each goal is raised to what its clauses ask for by the levels before the pass. After
-- as many passes as there are goals, one more changes nothing, or else every one does (proofs/Levels).

-- a goal's level in a list of levels
abbrev pub level_in : List ℕ → (goal : ℕ) → ℕ
level_in ls goal = get_or ls goal 0

abbrev pub larger : ℕ → ℕ → ℕ
larger a b = elim (ltb a b) [ true ↦ b | false ↦ a ]

-- what a literal asks of its clause's goal: no lower a level than the goal that it names, a "not" a higher one
abbrev pub literal_asks : List ℕ → Literal → ℕ
literal_asks ls (Positive goal want outsized) = level_in ls goal
literal_asks ls (Negative goal outsized) = suc (level_in ls goal)

abbrev pub literals_ask : List ℕ → List Literal → ℕ
literals_ask ls [] = 0
literals_ask ls (l ∷ rest) = larger (literal_asks ls l) (literals_ask ls rest)

abbrev pub clauses_ask : List ℕ → List Clause → ℕ
clauses_ask ls [] = 0
clauses_ask ls (c ∷ cs) = larger (literals_ask ls c.literals) (clauses_ask ls cs)

abbrev pub pass : Book → List ℕ → List ℕ
pass book ls = map (λ (g : Goal). clauses_ask ls g.clauses) book

abbrev pub passes : (n : ℕ) → Book → List ℕ
passes zero book = map (λ (g : Goal). 0) book
passes (suc n) book = pass book (passes n book)

-- levels that a pass doesn't change
abbrev pub settled : Book → List ℕ → Option (List ℕ)
settled book ls = elim (same (pass book ls) ls) [ true ↦ some ls | false ↦ none ]

abbrev pub levels : Book → Option (List ℕ)
levels book = settled book (passes (length book) book)

-- The check: the desk's numbers, then 37, then 38.

abbrev pub levels_or_38 : Option (List ℕ) → Refusable (List ℕ)
levels_or_38 none = refused 38
levels_or_38 (some ls) = accepted ls

abbrev pub plain_levels : Book → Refusable (List ℕ)
plain_levels book = elim (is_plain book) [ false ↦ refused 37 | true ↦ levels_or_38 (levels book) ]

abbrev pub levels_at_desk : Refusable Book → Refusable (List ℕ)
levels_at_desk (refused n) = refused n
levels_at_desk (accepted book) = plain_levels book

abbrev pub check_levels : List ℕ → Refusable (List ℕ)
check_levels bytes = levels_at_desk (desk bytes)

-- Why a book is not levelled: a cycle through "not".

abbrev pub is_not : Literal → ℕ
is_not (Positive goal want outsized) = 0
is_not (Negative goal outsized) = 1

-- a walk from goal to goal: each step is by a literal of a clause of the goal where it stands. The third number is how many are "not".
pub data Walk (book : Book) : (from to nots : ℕ) → Type 0 where
  stays : {g : ℕ} → Walk book g g 0
  goes :
      {g h n : ℕ} (c : Clause) (l : Literal) → Memᴰ c (clauses_of book g) → Memᴰ l c.literals →
      Walk book (goal_of l) h n →
      Walk book g h (is_not l + n)

-- the goal is on a cycle through "not"
abbrev pub OnNotCycle : Book → (goal : ℕ) → Type 0
OnNotCycle book goal = (n : ℕ) × Walk book goal goal (suc n)
