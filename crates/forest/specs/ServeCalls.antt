-- What calls that are handed over as numbers say: a sitting of those calls, with its replies as numbers.
use Rattle.std.specs.Prelude.{ℕ, zero, suc, min, Bool, true, false, List, [], ◌∷◌, map, ◌≡◌, eqb}
use Rattle.definitions.specs.Calls as said
use Rattle.control.specs.declared.performed.Flow.TheVariants as flow
use Rattle.search.specs.declared.course.Ending.TheVariants as endings
use Rattle.search.specs.declared.course.Mode.TheVariants as modes
use Rattle.batch.specs.declared.calls.Call.{Call}
use Rattle.batch.specs.declared.calls.Reply.{Reply}
use Rattle.batch.specs.declared.calls.Said.TheVariants as saying
use Rattle.batch.specs.declared.calls.Serving.{Serving}
use Rattle.batch.specs.Calls.{call_at, reply, reply_put, found_word, future_word}
use Rattle.forest.specs.declared.Forest.{Forest}
use Rattle.forest.specs.declared.any_future_answer.Future.{Future}
use Rattle.forest.specs.declared.any_future_answer.Future.TheVariants as futures
use Rattle.forest.specs.declared.open.Opening.{Opening}
use Rattle.forest.specs.declared.open.Opening.TheVariants as openings
use Rattle.forest.specs.declared.searches.Outcome.{Outcome}
use Rattle.forest.specs.declared.searches.Outcome.TheVariants as outcomes
use Rattle.forest.specs.Sittings.{Told, opens, searches, peeks, asks_future, left, Sits, asked}
use Rattle.forest.specs.View.{Sound}

-- THE CALLS: what five numbers ask, by the first of them
abbrev pub means_by : (opening search peek : Bool) → Call → said.Call
means_by true search peek k = said.opens k.a
means_by false true peek k = said.searches k.a k.b k.c
means_by false false true k = said.peeks k.a k.b k.c k.d
means_by false false false k = said.asks_future k.a k.b k.c

abbrev pub call_means : Call → said.Call
call_means k = means_by (eqb k.kind 0) (eqb k.kind 1) (eqb k.kind 2) k

-- so many calls, from the one at this index on
abbrev pub all_asked : List ℕ → (at left : ℕ) → List said.Call
all_asked calls at zero = []
all_asked calls at (suc n) = call_means (call_at calls at) ∷ all_asked calls (suc at) n

-- THE REPLY of a call, as numbers
abbrev pub opening_numbers : Opening → Reply
opening_numbers (openings.Refused n) = reply 0 n 0 0 0
opening_numbers (openings.Table t) = reply 1 t 0 0 0
opening_numbers (openings.Stopped n) = reply 2 n 0 0 0

abbrev pub outcome_numbers : (index turns exceeded : ℕ) → Outcome → Reply
outcome_numbers i t e (outcomes.Refused n) = reply 0 n 0 0 0
outcome_numbers i t e (outcomes.Found variant ambiguous) = reply (found_word ambiguous) variant i t e
outcome_numbers i t e outcomes.NoMoreSolutions = reply 5 0 i t e
outcome_numbers i t e outcomes.Floundered = reply 6 0 i t e
outcome_numbers i t e outcomes.QuantumExceeded = reply 7 0 i t e
outcome_numbers i t e outcomes.NegativeCycle = reply 8 0 i t e
outcome_numbers i t e outcomes.InvalidAnswer = reply 9 0 i t e
outcome_numbers i t e outcomes.Cut = reply 10 0 i t e
outcome_numbers i t e (outcomes.Stopped n) = reply 2 n i t e

abbrev pub future_numbers : Future → Reply
future_numbers (futures.Refused n) = reply 0 n 0 0 0
future_numbers (futures.Found any) = reply (future_word any) 0 0 0 0

abbrev pub numbers : Told → Reply
numbers (opens goal r) = opening_numbers r.opening
numbers (searches table index limit r) = outcome_numbers 0 r.turns 0 r.outcome
numbers (peeks table index rounds limit r) = outcome_numbers r.index r.turns r.exceeded r.outcome
numbers (asks_future table index variant r) = future_numbers r

-- the replies of a sitting are written, from this index on
abbrev pub all_put : (at : ℕ) → List Told → List ℕ → List ℕ
all_put at [] l = l
all_put at (t ∷ ts) l = all_put (suc at) ts (reply_put at (numbers t) l)

-- the forest that a sitting leaves
abbrev pub all_left : Forest → List Told → Forest
all_left f [] = f
all_left f (t ∷ ts) = all_left (left f t) ts

-- THE CONTRACT, for a sound forest: the calls that were asked, at most 256, are a sitting on it; each reply is what its call gave; the
-- forest left is the sitting's, and sound.
pub record ServeCallsSays (f : Forest) (count : ℕ) (calls before : List ℕ) (r : Forest) (after : List ℕ) : Type 0 where
  pub told : List Told
  pub sits : Sits f told
  pub asks : map asked told ≡ all_asked calls 0 (min count 256)
  pub replies : after ≡ all_put 0 told before
  pub left : r ≡ all_left f told
  pub sound : Sound r

-- HOW THEY ARE SERVED: no call is at hand yet, and the course has the forest's numbers
abbrev pub first_serving : Forest → Serving
first_serving f = record {
  at = 0;
  busy = false;
  said = saying.Searched;
  asked = record { mode = modes.Search; table = 0; limit = 0; clock_limit = f.clock_limit };
  course = record {
    over = true;
    ending = endings.Cut;
    flow = flow.Continue;
    index = 0;
    more = 0;
    exceeded = 0;
    done = 0;
    mark = f.mark;
    count = f.stores.tables.count;
    depth = 0;
    clock = f.clock;
    used = f.stores.strands.places.top;
    answer_used = f.stores.answers.places.top;
  };
}
