-- Which goals' yes can be printed (change request 2): those of the largest clean set (`Clean` of Derive), and of each other goal one that
-- spoils it. A goal spoils if it is coinductive or a clause of it has a "not"; whoever leads to such a goal is spoilt by it.
use Rattle.std.specs.Prelude.{ℕ, zero, suc, Bool, true, false, List, [], ◌∷◌, length}
use Rattle.std.proofs.Math.Option.{Option, none, some}
use Rattle.std.proofs.Math.ListN.{get_elem?}
use Rattle.definitions.specs.Refusal.{Refusable, refused, accepted}
use Rattle.definitions.specs.Book.{Literal, Positive, Negative, Clause, Goal, Book, goal_of}
use Rattle.definitions.specs.Desk.{desk}
use Rattle.papers.specs.NotPlain.{or_else, first_from}

-- What a goal spoils by: that it is coinductive, or else its first "not"; clauses of a goal and literals of a clause are counted from 0.

pub data Spoil : Type 0 where
  a_coinductive_goal : Spoil
  a_not : (clause literal : ℕ) → Spoil

abbrev pub spoil_by_flag : (coinductive : Bool) → Option Spoil
spoil_by_flag true = some a_coinductive_goal
spoil_by_flag false = none

abbrev pub not_in_literal : (clause literal : ℕ) → Literal → Option Spoil
not_in_literal k j (Positive goal want outsized) = none
not_in_literal k j (Negative goal outsized) = some (a_not k j)

abbrev pub not_in_clause : (clause : ℕ) → Clause → Option Spoil
not_in_clause k c = first_from (not_in_literal k) 0 c.literals

-- none, where the goal does not spoil
abbrev pub spoil : Goal → Option Spoil
spoil g = or_else (spoil_by_flag g.coinductive) (first_from not_in_clause 0 g.clauses)

-- By which goal each goal is spoilt. A goal that spoils is spoilt by itself; in a pass each goal that isn't spoilt yet is looked at: the
-- first of its literals, clause by clause, whose goal was spoilt before the pass tells by which. As many passes as there are goals are
-- enough (crate `derivable`, proofs/Spoilt).

abbrev pub spoiler_in : List (Option ℕ) → (goal : ℕ) → Option ℕ
spoiler_in ss goal = elim (get_elem? ss goal) [ none ↦ none | some o ↦ o ]

abbrev pub literals_spoilt : List (Option ℕ) → List Literal → Option ℕ
literals_spoilt ss [] = none
literals_spoilt ss (l ∷ ls) = or_else (spoiler_in ss (goal_of l)) (literals_spoilt ss ls)

abbrev pub clauses_spoilt : List (Option ℕ) → List Clause → Option ℕ
clauses_spoilt ss [] = none
clauses_spoilt ss (c ∷ cs) = or_else (literals_spoilt ss c.literals) (clauses_spoilt ss cs)

abbrev pub by_itself : (goal : ℕ) → Option Spoil → Option ℕ
by_itself g none = none
by_itself g (some s) = some g

-- the goals from g on, before the first pass
abbrev pub by_themselves : (g : ℕ) → List Goal → List (Option ℕ)
by_themselves g [] = []
by_themselves g (h ∷ hs) = by_itself g (spoil h) ∷ by_themselves (suc g) hs

-- the goals from g on; `ss` is what was known of all goals before the pass
abbrev pub pass_from : (ss : List (Option ℕ)) → (g : ℕ) → List Goal → List (Option ℕ)
pass_from ss g [] = []
pass_from ss g (h ∷ hs) = or_else (spoiler_in ss g) (clauses_spoilt ss h.clauses) ∷ pass_from ss (suc g) hs

abbrev pub spoilers_after : (passes : ℕ) → Book → List (Option ℕ)
spoilers_after zero book = by_themselves 0 book
spoilers_after (suc n) book = pass_from (spoilers_after n book) 0 book

abbrev pub spoilers : Book → List (Option ℕ)
spoilers book = spoilers_after (length book) book

-- Of a paper: refused by the desk's numbers, or by which goal each goal is spoilt.

abbrev pub spoilers_at_desk : Refusable Book → Refusable (List (Option ℕ))
spoilers_at_desk (refused n) = refused n
spoilers_at_desk (accepted book) = accepted (spoilers book)

abbrev pub check_spoilers : (bytes : List ℕ) → Refusable (List (Option ℕ))
check_spoilers bytes = spoilers_at_desk (desk bytes)
