-- A search that its limit cuts off puts the strand that it works on back into its table, and the next search goes on with it: by
-- computation, on the book whose goal 0 has the rule `0 :- 1` and whose goal 1 is a fact. At once the search takes four turns; cut off at
-- three, it leaves one to the next.
use Prim.Native.Nat.{ℕ}
use mathlib.Core.Path.{◌≡◌, refl}
use mathlib.Core.Bool.{false}
use mathlib.Core.List.{List, [], ◌∷◌, map}
use Rattle.definitions.specs.Refusal.{refused, accepted}
use Rattle.definitions.specs.Stop.{go}
use Rattle.definitions.specs.Book.{any, Literal, Positive, Clause, Goal, Book, write}
use Rattle.definitions.specs.Turn.{found, cut}
use Rattle.definitions.specs.Forest.{make}
use Rattle.definitions.specs.Calls.{opens, searches, Reply, table, searched, sitting, calls}

abbrev clause_of : List Literal → Clause
clause_of ls = record { variant = 0; cannot_prove = false; outsized = false; literals = ls }

abbrev goal_of_clause : Clause → Goal
goal_of_clause c = record { coinductive = false; floundered = false; clauses = c ∷ [] }

abbrev one_rule : Book
one_rule = goal_of_clause (clause_of (Positive 1 any false ∷ [])) ∷ goal_of_clause (clause_of []) ∷ []

-- what a search of so many turns and then one of a hundred reply
abbrev replies_of : (turns : ℕ) → List Reply
replies_of turns = elim (make (write one_rule) 1000000) [
  | refused n ↦ []
  | accepted f ↦ map (λ c. c.reply) (calls (sitting f) (opens 0 ∷ searches 0 0 turns ∷ searches 0 0 100 ∷ []))
]

pub cut_goes_on : replies_of 3
    ≡ table (go 0) ∷ searched cut 3 ∷ searched (found (record { variant = 0; ambiguous = false })) 1 ∷ []
cut_goes_on = refl
