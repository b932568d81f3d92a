-- Demand 1 of the code (document 01, "Refused by the input" and "Stopped by the state"): whoever calls, with whichever bytes, goal, index
-- or limit, in whichever way and order, gets one of the listed results.
use Rattle.std.specs.Prelude.{ℕ, zero, suc, ◌≤◌, List, [], ◌∷◌, ◌≡◌}
use Rattle.promises.specs.Total.{OneOf, open_numbers, search_numbers, future_numbers, StopNumber}
use Rattle.forest.specs.declared.Forest.{Forest}
use Rattle.forest.specs.declared.any_future_answer.Future.{Future}
use Rattle.forest.specs.declared.any_future_answer.Future.TheVariants as futures
use Rattle.forest.specs.declared.make.Making.{Making}
use Rattle.forest.specs.declared.make.Making.TheVariants as makings
use Rattle.forest.specs.declared.open.Opening.{Opening}
use Rattle.forest.specs.declared.open.Opening.TheVariants as openings
use Rattle.forest.specs.declared.searches.Outcome.{Outcome}
use Rattle.forest.specs.declared.searches.Outcome.TheVariants as outcomes
use Rattle.forest.specs.Sittings.{Told, opens, searches, peeks, asks_future, left}

-- MAKING, by the numbers of an entry
abbrev pub MadeListed : List ℕ → Making → Type 0
MadeListed numbers (makings.Refused n) = OneOf numbers n
MadeListed numbers makings.Made = Unit {0}

-- the mark of the forest that came out: the number of the refusal, or 0 for none
abbrev pub making_mark : Making → ℕ
making_mark (makings.Refused n) = n
making_mark makings.Made = 0

-- A CALL ON A FOREST THAT IS NOT MARKED: f is the one that it got, and g the one that it left; a refused call leaves the very same forest

abbrev pub OpeningListed : (f g : Forest) → Opening → Type 0
OpeningListed f g (openings.Refused n) = OneOf open_numbers n × (g ≡ f)
OpeningListed f g (openings.Table t) = Unit {0}
OpeningListed f g (openings.Stopped n) = n ≡ 22

abbrev pub OutcomeListed : (f g : Forest) → Outcome → Type 0
OutcomeListed f g (outcomes.Refused n) = OneOf search_numbers n × (g ≡ f)
OutcomeListed f g (outcomes.Found variant ambiguous) = Unit {0}
OutcomeListed f g outcomes.NoMoreSolutions = Unit {0}
OutcomeListed f g outcomes.Floundered = Unit {0}
OutcomeListed f g outcomes.QuantumExceeded = Unit {0}
OutcomeListed f g outcomes.NegativeCycle = Unit {0}
OutcomeListed f g outcomes.InvalidAnswer = Unit {0}
OutcomeListed f g outcomes.Cut = Unit {0}
OutcomeListed f g (outcomes.Stopped n) = StopNumber n

-- `any_future_answer` gets no forest to change (`left`), and is the same on a marked one
abbrev pub FutureTells : Future → Type 0
FutureTells (futures.Refused n) = OneOf future_numbers n
FutureTells (futures.Found any) = Unit {0}

-- the turns told are at most those asked for, a peek's those of its last search; and a peek never gives InvalidAnswer
abbrev pub UnmarkedListed : Forest → Told → Type 0
UnmarkedListed f (opens goal r) = OpeningListed f r.forest r.opening
UnmarkedListed f (searches table index limit r) = OutcomeListed f r.forest r.outcome × (r.turns ≤ limit)
UnmarkedListed f (peeks table index rounds limit r) =
    OutcomeListed f r.forest r.outcome × (r.outcome ≡ outcomes.InvalidAnswer → ⊥) × (r.turns ≤ limit)
UnmarkedListed f (asks_future table index variant r) = FutureTells r

-- A CALL ON A MARKED FOREST: an open, a search and a peek are refused with 20, after no turn, and leave the very same forest
abbrev pub MarkedListed : Forest → Told → Type 0
MarkedListed f (opens goal r) = (r.opening ≡ openings.Refused 20) × (r.forest ≡ f)
MarkedListed f (searches table index limit r) = (r.outcome ≡ outcomes.Refused 20) × (r.turns ≡ 0) × (r.forest ≡ f)
MarkedListed f (peeks table index rounds limit r) = (r.outcome ≡ outcomes.Refused 20) × (r.turns ≡ 0) × (r.forest ≡ f)
MarkedListed f (asks_future table index variant r) = FutureTells r

abbrev pub ToldListed : (mark : ℕ) → Forest → Told → Type 0
ToldListed zero f t = UnmarkedListed f t
ToldListed (suc mark) f t = MarkedListed f t

-- THE MARK after a call: the number by which it stopped, or else the mark before it

abbrev pub opening_mark : (before : ℕ) → Opening → ℕ
opening_mark before (openings.Refused n) = before
opening_mark before (openings.Table t) = before
opening_mark before (openings.Stopped n) = n

abbrev pub outcome_mark : (before : ℕ) → Outcome → ℕ
outcome_mark before (outcomes.Refused n) = before
outcome_mark before (outcomes.Found variant ambiguous) = before
outcome_mark before outcomes.NoMoreSolutions = before
outcome_mark before outcomes.Floundered = before
outcome_mark before outcomes.QuantumExceeded = before
outcome_mark before outcomes.NegativeCycle = before
outcome_mark before outcomes.InvalidAnswer = before
outcome_mark before outcomes.Cut = before
outcome_mark before (outcomes.Stopped n) = n

abbrev pub mark_after : (before : ℕ) → Told → ℕ
mark_after before (opens goal r) = opening_mark before r.opening
mark_after before (searches table index limit r) = outcome_mark before r.outcome
mark_after before (peeks table index rounds limit r) = outcome_mark before r.outcome
mark_after before (asks_future table index variant r) = before

-- EVERY CALL: each forest has the mark that the calls before left, and each call gives what that mark lets it give. So after a stop every
-- open, search and peek is refused with 20, whatever is called in between, and a refusal by 20 comes on no forest but a marked one.
abbrev pub AllListed : (mark : ℕ) → Forest → List Told → Type 0
AllListed mark f [] = f.mark ≡ mark
AllListed mark f (t ∷ ts) = (f.mark ≡ mark) × ToldListed mark f t × AllListed (mark_after mark t) (left f t) ts
