-- Demand 1 of the definitions (document 01, "Refused by the input" and "Stopped by the state"): which numbers a making and a call may give,
-- on any book, and which mark the forest has that a call leaves. Crate `theorems` says it of the code (`ResultsListed`).
use Rattle.std.specs.Prelude.{ℕ, zero, suc, ◌≤◌, Bool, false, List, [], ◌∷◌, ◌⊎◌, ◌≡◌}
use Rattle.definitions.specs.{TableIndex}
use Rattle.definitions.specs.Calls.{Call, opens, searches, peeks, asks_future, sitting, calls}
use Rattle.definitions.specs.Desk.{make_at_desk}
use Rattle.definitions.specs.Forest.{make, Opened, open_goal, search, is_invalid, Peeked, peek, any_future_answer}
use Rattle.definitions.specs.Lists.{Each}
use Rattle.definitions.specs.Refusal.{Refusable, refused, accepted}
use Rattle.definitions.specs.Stop.{Stops, stop, go}
use Rattle.definitions.specs.Tables.{Forest}
use Rattle.definitions.specs.Turn.{Ending, found, fail, cut, stopped, Searched}

-- one of these numbers
abbrev pub OneOf : List ℕ → ℕ → Type 0
OneOf [] n = ⊥
OneOf (m ∷ ms) n = (n ≡ m) ⊎ OneOf ms n

-- by which a book is refused; making has 13 besides, and the desk 36
abbrev pub book_numbers : List ℕ
book_numbers = 1 ∷ 2 ∷ 3 ∷ 4 ∷ 5 ∷ 6 ∷ 7 ∷ 8 ∷ 32 ∷ []

abbrev pub making_numbers : List ℕ
making_numbers = 13 ∷ book_numbers

abbrev pub desk_numbers : List ℕ
desk_numbers = 13 ∷ 36 ∷ book_numbers

-- by which an open is refused on a forest that is not marked, and a search and a peek
abbrev pub open_numbers : List ℕ
open_numbers = 9 ∷ []

abbrev pub search_numbers : List ℕ
search_numbers = 10 ∷ 11 ∷ 12 ∷ []

abbrev pub future_numbers : List ℕ
future_numbers = 10 ∷ []

-- by which a search or a peek stops
abbrev pub StopNumber : ℕ → Type 0
StopNumber n = (21 ≤ n) × (n ≤ 29)

abbrev pub MakingListed : List ℕ → Refusable Forest → Type 0
MakingListed numbers (refused n) = OneOf numbers n
MakingListed numbers (accepted f) = f.mark ≡ 0

-- A call on a forest with this mark is refused by one of these numbers, or with 20 where there is a mark.
abbrev pub RefusedBy : (mark : ℕ) → List ℕ → ℕ → Type 0
RefusedBy zero numbers n = OneOf numbers n
RefusedBy (suc mark) numbers n = n ≡ 20

-- What is not refused finds no mark, and leaves one only where it stops: the number of the stop.

abbrev pub TableListed : Stops TableIndex → (left : ℕ) → Type 0
TableListed (stop n) left = (n ≡ 22) × (left ≡ n)
TableListed (go t) left = left ≡ 0

abbrev pub OpenListed : (mark : ℕ) → Refusable Opened → Type 0
OpenListed mark (refused n) = RefusedBy mark open_numbers n
OpenListed mark (accepted r) = (mark ≡ 0) × TableListed r.table r.forest.mark

abbrev pub EndingListed : Ending → (left : ℕ) → Type 0
EndingListed (found a) left = left ≡ 0
EndingListed (fail e) left = left ≡ 0
EndingListed cut left = left ≡ 0
EndingListed (stopped n) left = StopNumber n × (left ≡ n)

-- the turns told are at most those that were allowed
abbrev pub SearchListed : (mark limit : ℕ) → Refusable Searched → Type 0
SearchListed mark limit (refused n) = RefusedBy mark search_numbers n
SearchListed mark limit (accepted r) = (mark ≡ 0) × (r.turns ≤ limit) × EndingListed r.ending r.forest.mark

-- a peek's turns are those of its last search, and it never ends in InvalidAnswer
abbrev pub PeekListed : (mark limit : ℕ) → Refusable Peeked → Type 0
PeekListed mark limit (refused n) = RefusedBy mark search_numbers n
PeekListed mark limit (accepted r) =
    (mark ≡ 0) × (r.turns ≤ limit) × EndingListed r.ending r.forest.mark × (is_invalid r.ending ≡ false)

-- on a marked forest too
abbrev pub FutureListed : Refusable Bool → Type 0
FutureListed (refused n) = OneOf future_numbers n
FutureListed (accepted any) = Unit {0}

abbrev pub CallListed : Forest → Call → Type 0
CallListed f (opens goal) = OpenListed f.mark (open_goal f goal)
CallListed f (searches t i limit) = SearchListed f.mark limit (search f t i limit)
CallListed f (peeks t i rounds limit) = PeekListed f.mark limit (peek f t i rounds limit)
CallListed f (asks_future t i v) = FutureListed (any_future_answer f t i v)

pub record Listed : Type 0 where
  pub making : (bytes : List ℕ) (clock_limit : ℕ) → MakingListed making_numbers (make bytes clock_limit)
  pub making_at_desk : (bytes : List ℕ) (clock_limit : ℕ) → MakingListed desk_numbers (make_at_desk bytes clock_limit)
  pub in_calls :
      (bytes : List ℕ) (clock_limit : ℕ) (f : Forest) → make bytes clock_limit ≡ accepted f →
      (cs : List Call) → Each (λ c. CallListed c.before.forest c.asked) (calls (sitting f) cs)
