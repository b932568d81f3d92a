-- Where a book is not plain: the first place in book order, and what is not plain there, so that whoever wrote the paper can look it up. A
-- goal's flags come first, then its clauses; a clause's variant, its flags, then its literals; a literal's want or range, then its flag.
use Rattle.std.specs.Prelude.{ℕ, zero, suc, ◌≡◌, Bool, true, false, List, [], ◌∷◌, take}
use Rattle.std.proofs.Math.Option.{Option, none, some}
use Rattle.std.proofs.Math.ListN.{get_elem?}
use Rattle.definitions.specs.Refusal.{Refusable, refused, accepted}
use Rattle.definitions.specs.Book.{Want, any, exactly, between, Literal, Positive, Negative, Clause, Goal, Book}
use Rattle.definitions.specs.Desk.{desk}
use Rattle.papers.specs.Levels.{each_passes, plain_literal, plain_clause, plain_goal}

pub data Fault : Type 0 where
  a_flag : Fault
  a_variant : Fault
  a_want : Fault
  a_range : Fault

-- the goals of a book, the clauses of a goal and the literals of a clause are counted from 0
pub data Place : Type 0 where
  in_goal : (goal : ℕ) (fault : Fault) → Place
  in_clause : (goal clause : ℕ) (fault : Fault) → Place
  in_literal : (goal clause literal : ℕ) (fault : Fault) → Place

-- the first of two that is there
module _ {A : Type 0} where
  abbrev pub or_else : Option A → Option A → Option A
  or_else (some a) other = some a
  or_else none other = other

-- What is not plain.

abbrev pub flag_fault : Bool → Option Fault
flag_fault true = some a_flag
flag_fault false = none

abbrev pub want_fault : Want → Option Fault
want_fault any = none
want_fault (exactly variant) = some a_want
want_fault (between least most) = some a_range

abbrev pub literal_fault : Literal → Option Fault
literal_fault (Positive goal want outsized) = or_else (want_fault want) (flag_fault outsized)
literal_fault (Negative goal outsized) = flag_fault outsized

abbrev pub variant_fault : ℕ → Option Fault
variant_fault zero = none
variant_fault (suc v) = some a_variant

-- of a clause but for its literals
abbrev pub head_fault : Clause → Option Fault
head_fault c = or_else (variant_fault c.variant) (or_else (flag_fault c.cannot_prove) (flag_fault c.outsized))

-- of a goal but for its clauses
abbrev pub goal_fault : Goal → Option Fault
goal_fault g = or_else (flag_fault g.coinductive) (flag_fault g.floundered)

-- Where.

abbrev pub placed : (Fault → Place) → Option Fault → Option Place
placed at none = none
placed at (some fault) = some (at fault)

-- the first in a list, whose members are numbered from i on
module _ {A B : Type 0} where
  abbrev pub first_from : (place : ℕ → A → Option B) → (i : ℕ) → List A → Option B
  first_from place i [] = none
  first_from place i (a ∷ l) = or_else (place i a) (first_from place (suc i) l)

abbrev pub literal_place : (goal clause literal : ℕ) → Literal → Option Place
literal_place g k j l = placed (in_literal g k j) (literal_fault l)

abbrev pub clause_place : (goal clause : ℕ) → Clause → Option Place
clause_place g k c = or_else (placed (in_clause g k) (head_fault c)) (first_from (literal_place g k) 0 c.literals)

abbrev pub goal_place : (goal : ℕ) → Goal → Option Place
goal_place g h = or_else (placed (in_goal g) (goal_fault h)) (first_from (clause_place g) 0 h.clauses)

-- none, where the book is plain (proofs/NotPlain)
abbrev pub first_not_plain : Book → Option Place
first_not_plain book = first_from goal_place 0 book

-- of a paper: one that the desk refuses has none
abbrev pub place_at_desk : Refusable Book → Option Place
place_at_desk (refused n) = none
place_at_desk (accepted book) = first_not_plain book

abbrev pub not_plain_place : (bytes : List ℕ) → Option Place
not_plain_place bytes = place_at_desk (desk bytes)

-- In numbers, as functions hand it on. What is not plain: 1 a flag, 2 a variant, 3 a want, 4 a range; 0 stands for no place.

abbrev pub fault_of : ℕ → Option Fault
fault_of zero = none
fault_of (suc zero) = some a_flag
fault_of (suc (suc zero)) = some a_variant
fault_of (suc (suc (suc zero))) = some a_want
fault_of (suc (suc (suc (suc n)))) = some a_range

-- how deep it stands
abbrev pub place_in : (clause? literal? : Bool) → (goal clause literal : ℕ) → Fault → Place
place_in false l? g c l fault = in_goal g fault
place_in true false g c l fault = in_clause g c fault
place_in true true g c l fault = in_literal g c l fault

abbrev pub place_of : (what : ℕ) → (clause? literal? : Bool) → (goal clause literal : ℕ) → Option Place
place_of what c? l? g c l = placed (place_in c? l? g c l) (fault_of what)

-- What is promised of it (proofs/NotPlain).

-- the member n of a list: all before it pass
pub record FirstOf {A : Type 0} (test : A → Bool) (l : List A) (n : ℕ) (a : A) : Type 0 where
  pub stands : get_elem? l n ≡ some a
  pub pass_before : each_passes test (take n l) ≡ true

-- at the place that is not plain, and at none before it
abbrev pub FirstAt : Book → Place → Type 0
FirstAt book (in_goal g fault) = (h : Goal) × FirstOf plain_goal book g h × (goal_fault h ≡ some fault)
FirstAt book (in_clause g k fault) =
    (h : Goal) × (c : Clause) × FirstOf plain_goal book g h × (goal_fault h ≡ none)
    × FirstOf plain_clause h.clauses k c × (head_fault c ≡ some fault)
FirstAt book (in_literal g k j fault) =
    (h : Goal) × (c : Clause) × (l : Literal) × FirstOf plain_goal book g h × (goal_fault h ≡ none)
    × FirstOf plain_clause h.clauses k c × (head_fault c ≡ none)
    × FirstOf plain_literal c.literals j l × (literal_fault l ≡ some fault)
