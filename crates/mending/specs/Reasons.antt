-- The reasons of a book's clauses, by its arrays.
use Rattle.std.specs.Prelude.{ℕ, zero, suc, ◌*◌, ◌-◌, ◌≤◌, ◌<◌, ◌≡◌, Bool, true, false, List, [], ◌∷◌, get_or, set, ltb, Some, None}
use Rattle.std.specs.declared.option.Option as found
use Rattle.std.proofs.Math.Option.{Option, none, some}
use Rattle.laws.specs.Spans.{span}
use Rattle.definitions.specs.Desk.{same_clause}
use Rattle.papers.specs.Mend.{reasons_behind}
use Rattle.book.specs.declared.Book.{Book}
use Rattle.book.specs.View.{goal_viewed}
use Rattle.book.specs.Repeats.{Lent, clause_read}
use Rattle.mending.specs.declared.reasons.Reason.{Reason}
use Rattle.mending.specs.declared.reasons.Reason.TheVariants as why

-- the desk's number for a reason
abbrev pub number : Reason → ℕ
number why.NamesNoGoal = 6
number why.RepeatedClause = 36

-- every one of some numbers is below n
abbrev pub all_below : (n : ℕ) → List ℕ → Bool
all_below n [] = true
all_below n (g ∷ gs) = elim (ltb g n) [ true ↦ all_below n gs | false ↦ false ]

-- the goals that clause c names
abbrev pub goals_named : (lens goals : List ℕ) → (c : ℕ) → List ℕ
goals_named lens goals c = span (λ i. get_or goals i 0) (8 * c) (get_or lens c 0)

-- no clause has more than eight
abbrev pub FewLiterals : (lens : List ℕ) → Type 0
FewLiterals lens = (c : ℕ) → get_or lens c 0 ≤ 8

-- one of n places from s on passes
abbrev pub one_passes : (ℕ → Bool) → (s n : ℕ) → Bool
one_passes p s zero = false
one_passes p s (suc n) = elim (p s) [ true ↦ true | false ↦ one_passes p (suc s) n ]

-- the reason is that a literal names no goal
abbrev pub names_none : found.Option Reason → Bool
names_none (Some why.NamesNoGoal) = true
names_none (Some why.RepeatedClause) = false
names_none None = false

-- clause d does not go for that, and is the same as clause c
abbrev pub repeats_at : Lent → (reasons : List (found.Option Reason)) → (c d : ℕ) → Bool
repeats_at a reasons c d =
    elim (names_none (get_or reasons d None)) [ true ↦ false | false ↦ same_clause (clause_read a c) (clause_read a d) ]

abbrev pub repeats : Lent → (reasons : List (found.Option Reason)) → (first c : ℕ) → Bool
repeats a reasons first c = one_passes (repeats_at a reasons c) first (c - first)

abbrev pub chosen : (names repeats : Bool) → found.Option Reason
chosen true true = Some why.RepeatedClause
chosen true false = None
chosen false r = Some why.NamesNoGoal

-- the reason of clause c of a book with n goals, where those before it are known; the clauses of its goal begin at `first`
abbrev pub reason_by : Lent → (reasons : List (found.Option Reason)) → (n first c : ℕ) → found.Option Reason
reason_by a reasons n first c = chosen (all_below n (goals_named a.lens a.goals c)) (repeats a reasons first c)

-- of m clauses from c on
abbrev pub reasons_from : Lent → (n first c m : ℕ) → (reasons : List (found.Option Reason)) → List (found.Option Reason)
reasons_from a n first c zero reasons = reasons
reasons_from a n first c (suc m) reasons = reasons_from a n first (suc c) m (set reasons c (reason_by a reasons n first c))

-- a reason as the definitions have it
abbrev pub reason_seen : found.Option Reason → Option ℕ
reason_seen None = none
reason_seen (Some r) = some (number r)

abbrev pub reason_at : (reasons : List (found.Option Reason)) → (c : ℕ) → Option ℕ
reason_at reasons c = reason_seen (get_or reasons c None)

-- every clause of a book has its reason
pub record Reasoned (b : Book) (reasons : List (found.Option Reason)) : Type 0 where
  pub own : (g : ℕ) → g < b.goals
      → reasons_behind b.goals [] (goal_viewed b g).clauses
      ≡ span (reason_at reasons) (get_or b.goal_first g 0) (get_or b.goal_len g 0)
  pub others : (c : ℕ) → b.clauses ≤ c → get_or reasons c None ≡ None
