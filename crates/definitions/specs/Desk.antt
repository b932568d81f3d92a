-- The exam desk (change request 10): it reads a book as `read` does, and takes none in which a goal has the same clause twice. Two clauses
-- are the same by variant, flags and literals in their order, each literal by its command and operands: a want of 3 is not the range from
-- 3 to 3.
use Rattle.std.specs.Prelude.{ℕ, suc, ◌<◌, ◌≡◌, Bool, true, false, not, ◌&&◌, List, [], ◌∷◌, length, eqb}
use Rattle.std.proofs.Math.Option.{Option, none, some}
use Rattle.std.proofs.Math.ListN.{get_elem?}
use Rattle.definitions.specs.Refusal.{Refusable, refused, accepted, ◌refuses◌, unless}
use Rattle.definitions.specs.Lists.{push, position}
use Rattle.definitions.specs.Book.{Want, any, exactly, between, Literal, Positive, Negative, Clause, Goal, Book, read}
use Rattle.definitions.specs.Tables.{Forest}
use Rattle.definitions.specs.Forest.{make_of}

-- The same clause.

abbrev pub same_flag : Bool → Bool → Bool
same_flag true b = b
same_flag false b = not b

abbrev pub same_want : Want → Want → Bool
same_want any any = true
same_want (exactly v) (exactly w) = eqb v w
same_want (between l m) (between k n) = eqb l k && eqb m n
same_want any (exactly w) = false
same_want any (between k n) = false
same_want (exactly v) any = false
same_want (exactly v) (between k n) = false
same_want (between l m) any = false
same_want (between l m) (exactly w) = false

abbrev pub same_literal : Literal → Literal → Bool
same_literal (Positive g v o) (Positive h w p) = eqb g h && (same_want v w && same_flag o p)
same_literal (Negative g o) (Negative h p) = eqb g h && same_flag o p
same_literal (Positive g v o) (Negative h p) = false
same_literal (Negative g o) (Positive h w p) = false

abbrev pub same_literals : List Literal → List Literal → Bool
same_literals [] [] = true
same_literals (l ∷ ls) (m ∷ ms) = same_literal l m && same_literals ls ms
same_literals [] (m ∷ ms) = false
same_literals (l ∷ ls) [] = false

abbrev pub same_clause : Clause → Clause → Bool
same_clause c d =
    eqb c.variant d.variant
    && (same_flag c.cannot_prove d.cannot_prove
    && (same_flag c.outsized d.outsized
    && same_literals c.literals d.literals))

-- The test.

-- a clause that is the same as an earlier one of its goal: the two by their numbers among the goal's clauses
pub record Repeat : Type 0 where
  pub goal : ℕ
  pub clause : ℕ
  pub earlier : ℕ

-- the first such clause of a goal, of those that stand behind others
abbrev pub repeat_behind : (goal : ℕ) → (before after : List Clause) → Option Repeat
repeat_behind g before [] = none
repeat_behind g before (c ∷ after) = elim (position (same_clause c) before) [
  | some i ↦ some (record { goal = g; clause = length before; earlier = i })
  | none ↦ repeat_behind g (push before c) after
]

-- the first of the goals from g on
abbrev pub repeat_from : (g : ℕ) → List Goal → Option Repeat
repeat_from g [] = none
repeat_from g (h ∷ hs) = elim (repeat_behind g [] h.clauses) [ some r ↦ some r | none ↦ repeat_from (suc g) hs ]

abbrev pub first_repeat : Book → Option Repeat
first_repeat book = repeat_from 0 book

-- of what `read` gave: a book that it refuses has none
abbrev pub repeat_of : Refusable Book → Option Repeat
repeat_of r = elim r [ refused n ↦ none | accepted book ↦ first_repeat book ]

abbrev pub is_found : Option Repeat → Bool
is_found none = false
is_found (some r) = true

abbrev pub repeats : Book → Bool
repeats book = is_found (first_repeat book)

-- what `read` took, with 36 tested after all of its numbers
abbrev pub at_desk : Refusable Book → Refusable Book
at_desk (refused n) = refused n
at_desk (accepted book) =
    unless
    (repeats book refuses 36
    ∷ [])
    book

abbrev pub desk : List ℕ → Refusable Book
desk bytes = at_desk (read bytes)

abbrev pub make_at_desk : (bytes : List ℕ) → (clock_limit : ℕ) → Refusable Forest
make_at_desk bytes limit = make_of (desk bytes) limit

-- What is promised of it (proofs/Desk).

-- no two of them are the same
abbrev pub AllDiffer : List Clause → Type 0
AllDiffer cs = (i j : ℕ) (c d : Clause) → i < j → get_elem? cs i ≡ some c → get_elem? cs j ≡ some d → c ≡ d → ⊥

-- in no goal
abbrev pub NoRepeats : Book → Type 0
NoRepeats book = (g : ℕ) (h : Goal) → get_elem? book g ≡ some h → AllDiffer h.clauses

-- a clause of the list is the same as an earlier one
pub record RepeatIn (cs : List Clause) (r : Repeat) : Type 0 where
  pub same : Clause
  pub is_earlier : r.earlier < r.clause
  pub stands : get_elem? cs r.clause ≡ some same
  pub stood : get_elem? cs r.earlier ≡ some same

-- a repeat by its place in a book
pub record RepeatAt (book : Book) (r : Repeat) : Type 0 where
  pub own : Goal
  pub of_goal : get_elem? book r.goal ≡ some own
  pub twice : RepeatIn own.clauses r
