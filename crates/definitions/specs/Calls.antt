-- A list of calls (document 01, (e)): each gets the sitting as the call before it left it, a refused one unchanged.
use Rattle.std.specs.Prelude.{ℕ, ◌-◌, Bool, List, [], ◌∷◌}
use Rattle.definitions.specs.{TableIndex}
use Rattle.definitions.specs.Refusal.{refused, accepted}
use Rattle.definitions.specs.Stop.{Stops}
use Rattle.definitions.specs.Tables.{Forest}
use Rattle.definitions.specs.Turn.{Ending}
use Rattle.definitions.specs.Forest.{open_goal, search, peek, SearchMade, peek_searches, most_passes, any_future_answer}

-- what a call gets and leaves
pub record Sitting : Type 0 where
  pub forest : Forest

-- on a forest just made
abbrev pub sitting : Forest → Sitting
sitting f = record { forest = f }

-- with another forest
abbrev pub with_forest : Sitting → Forest → Sitting
with_forest s f = record { forest = f }

pub data Call : Type 0 where
  opens : (goal : ℕ) → Call
  searches : (table index limit : ℕ) → Call
  peeks : (table index rounds limit : ℕ) → Call
  asks_future : (table index variant : ℕ) → Call

-- what a call says
pub data Reply : Type 0 where
  refusal : ℕ → Reply
  table : Stops TableIndex → Reply
  searched : Ending → (turns : ℕ) → Reply
  peeked : Ending → (index turns exceeded : ℕ) → Reply
  future : Bool → Reply

abbrev pub call : Sitting → Call → Reply × Sitting
call s (opens g) = elim (open_goal s.forest g) [
  | refused n ↦ (refusal n, s)
  | accepted r ↦ (table r.table, with_forest s r.forest)
]
call s (searches t i limit) = elim (search s.forest t i limit) [
  | refused n ↦ (refusal n, s)
  | accepted r ↦ (searched r.ending r.turns, with_forest s r.forest)
]
call s (peeks t i rounds limit) = elim (peek s.forest t i rounds limit) [
  | refused n ↦ (refusal n, s)
  | accepted r ↦ (peeked r.ending r.index r.turns r.exceeded, with_forest s r.forest)
]
call s (asks_future t i v) = elim (any_future_answer s.forest t i v) [ refused n ↦ (refusal n, s) | accepted b ↦ (future b, s) ]

-- the searches that a call makes: a search is its own, a peek makes those of its loop, and a call that is refused makes none
abbrev pub searches_made : Sitting → Call → List SearchMade
searches_made s (opens g) = []
searches_made s (searches t i limit) = elim (search s.forest t i limit) [
  | refused n ↦ []
  | accepted r ↦ record { index = i; result = r } ∷ []
]
searches_made s (peeks t i rounds limit) = elim (peek s.forest t i rounds limit) [
  | refused n ↦ []
  | accepted r ↦ peek_searches (most_passes rounds) (rounds - 1) limit t i s.forest
]
searches_made s (asks_future t i v) = []

-- the calls, each with the sitting that it got, its reply and the sitting that it left
pub record Called : Type 0 where
  pub asked : Call
  pub before : Sitting
  pub reply : Reply
  pub after : Sitting

abbrev pub calls : Sitting → List Call → List Called
calls s [] = []
calls s (c ∷ cs) = let r = call s c in record { asked = c; before = s; reply = r.0; after = r.1 } ∷ calls r.1 cs
