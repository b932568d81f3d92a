-- The claim: what the calls of a list may say, and how many searches may end in QuantumExceeded.
use Prim.Native.Nat.{ℕ, ◌+◌, ◌≤◌, ◌<◌}
use mathlib.Core.Path.{◌≡◌}
use mathlib.Core.Bool.{false}
use mathlib.Core.List.{List, [], ◌∷◌, Memᴰ}
use lib.ListN.{length}
use Rattle.laws.proofs.Sums.{sum}
use Rattle.promises.proofs.Plain.Model.{Body, Book, In}
use Rattle.promises.proofs.Plain.Machine.{Limits, Outcome, found, no_more_left, again, cut, clock_ended, noted, refused}
use Rattle.promises.proofs.Plain.Machine.{negative_cycled, unselected, repeated, broken, Call, opens_goal, searches_goal, peeks_goal}
use Rattle.promises.proofs.Plain.Machine.{asks_any_future, initial, calls}

-- what the outcome of a search or peek for g at index i says
abbrev pub Reply : (ℕ → Type 0) → (g i : ℕ) → Outcome → Type 0
Reply I g i found = I g
Reply I g i no_more_left = i ≡ 0 → I g → ⊥
Reply I g i again = Unit {0}
Reply I g i cut = Unit {0}
Reply I g i clock_ended = Unit {0}
Reply I g i noted = ⊥
Reply I g i (refused n) = Unit {0}
Reply I g i negative_cycled = ⊥
Reply I g i unselected = ⊥
Reply I g i repeated = ⊥
Reply I g i broken = ⊥

-- the outcome of an open or an `any_future_answer`
abbrev pub Plainly : Outcome → Type 0
Plainly found = ⊥
Plainly no_more_left = ⊥
Plainly again = ⊥
Plainly cut = ⊥
Plainly clock_ended = ⊥
Plainly noted = Unit {0}
Plainly (refused n) = Unit {0}
Plainly negative_cycled = ⊥
Plainly unselected = ⊥
Plainly repeated = ⊥
Plainly broken = ⊥

abbrev pub Says : (ℕ → Type 0) → Call → Outcome → Type 0
Says I (opens_goal g) o = Plainly o
Says I (searches_goal g i n) o = Reply I g i o
Says I (peeks_goal g i r n) o = Reply I g i o
Says I (asks_any_future g i) o = Plainly o

-- every call of a list says what it should
abbrev pub AllSay : (ℕ → Type 0) → List (Call × Outcome × ℕ) → Type 0
AllSay I [] = Unit {0}
AllSay I (x ∷ xs) = Says I x.0 x.1 × AllSay I xs

abbrev pub agains : List (Call × Outcome × ℕ) → ℕ
agains [] = 0
agains (x ∷ xs) = x.2 + agains xs

-- every clause belongs to one of the book's goals
abbrev pub Inside : Book → ℕ → Type 0
Inside book n = (g : ℕ) (c : Body) → Memᴰ c (book g) → g < n

-- Demand 3 for the plain machine: of every list of calls on a forest just made,
-- each answer names a goal of the layered least model, each "no more solutions" at index 0 one that is not in it,
-- no stop but 21 comes, and at most goals + clauses searches end in QuantumExceeded.
abbrev pub Demand : Book → (ℕ → ℕ) → Limits → Type 0
Demand book level N = (cs : List Call) →
    AllSay (In book level) (calls N cs false (initial book))
    × (agains (calls N cs false (initial book)) ≤ N.goals + sum N.goals (λ g. length (book g)))
