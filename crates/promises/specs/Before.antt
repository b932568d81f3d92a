-- Demand 3 as it was first stated: of calls that get and leave a forest and nothing else, with a row for each call and each reply, and no
-- allowance in the bound. It follows from `Demand3` of the definitions (proofs/Before).
use Rattle.std.specs.Prelude.{ℕ, ◌+◌, ◌-◌, ◌≤◌, ◌≡◌, Bool, true, false, ◌||◌, ◌⊎◌, List, [], ◌∷◌, length}
use Rattle.definitions.specs.Refusal.{refused, accepted}
use Rattle.definitions.specs.Book.{clause_count}
use Rattle.definitions.specs.Tables.{Forest}
use Rattle.definitions.specs.Forest.{make, open_goal, search, peek, SearchMade, peek_searches, most_passes, any_future_answer}
use Rattle.definitions.specs.Calls.{Call, opens, searches, peeks, asks_future, Reply, refusal, table, searched, peeked, future}
use Rattle.papers.specs.Model.{Plain, Levelled, In}
use Rattle.papers.specs.Claim.{OpenSays, MarkedSays, EndingSays, ReadOff, reply_stopped, exceeded_among}

abbrev pub call : Forest → Call → Reply × Forest
call f (opens g) = elim (open_goal f g) [ refused n ↦ (refusal n, f) | accepted r ↦ (table r.table, r.forest) ]
call f (searches t i limit) = elim (search f t i limit) [
  | refused n ↦ (refusal n, f)
  | accepted r ↦ (searched r.ending r.turns, r.forest)
]
call f (peeks t i rounds limit) = elim (peek f t i rounds limit) [
  | refused n ↦ (refusal n, f)
  | accepted r ↦ (peeked r.ending r.index r.turns r.exceeded, r.forest)
]
call f (asks_future t i v) = elim (any_future_answer f t i v) [ refused n ↦ (refusal n, f) | accepted b ↦ (future b, f) ]

-- the searches that a call makes: a search is its own, a peek makes those of its loop, and a call that is refused makes none
abbrev pub searches_made : Forest → Call → List SearchMade
searches_made f (opens g) = []
searches_made f (searches t i limit) = elim (search f t i limit) [ refused n ↦ [] | accepted r ↦ record { index = i; result = r } ∷ [] ]
searches_made f (peeks t i rounds limit) = elim (peek f t i rounds limit) [
  | refused n ↦ []
  | accepted r ↦ peek_searches (most_passes rounds) (rounds - 1) limit t i f
]
searches_made f (asks_future t i v) = []

-- the calls, each with the forest that it got, its reply and the forest that it left
pub record Called : Type 0 where
  pub asked : Call
  pub before : Forest
  pub reply : Reply
  pub forest : Forest

abbrev pub calls : Forest → List Call → List Called
calls f [] = []
calls f (c ∷ cs) = let r = call f c in record { asked = c; before = f; reply = r.0; forest = r.1 } ∷ calls r.1 cs

-- A refusal on a forest that no stop has marked: an open is refused by 9 alone, a search or a peek by 10, 11 or 12.

abbrev pub OpenRefused : (number : ℕ) → Type 0
OpenRefused n = n ≡ 9

abbrev pub SearchRefused : (number : ℕ) → Type 0
SearchRefused n = (n ≡ 10) ⊎ (n ≡ 11) ⊎ (n ≡ 12)

-- `I` are the goals that are in the model, and `clock_limit` is the limit given at making.
module _ (I : ℕ → Type 0) (clock_limit : ℕ) where
  -- What the reply of a call says, on a forest that no stop has marked; `made` are the searches that the call made. Of the reply of
  -- `any_future_answer` nothing is said.
  abbrev pub ReplySays : (made : List SearchMade) → Forest → Call → Reply → Type 0
  ReplySays made f (opens goal) (refusal n) = OpenRefused n
  ReplySays made f (opens goal) (table t) = OpenSays t
  ReplySays made f (opens goal) (searched e turns) = ⊥
  ReplySays made f (opens goal) (peeked e i turns k) = ⊥
  ReplySays made f (opens goal) (future b) = ⊥
  ReplySays made f (searches t i limit) (refusal n) = SearchRefused n
  ReplySays made f (searches t i limit) (table t') = ⊥
  ReplySays made f (searches t i limit) (searched e turns) = EndingSays I clock_limit f t i e
  ReplySays made f (searches t i limit) (peeked e i' turns k) = ⊥
  ReplySays made f (searches t i limit) (future b) = ⊥
  ReplySays made f (peeks t i rounds limit) (refusal n) = SearchRefused n
  ReplySays made f (peeks t i rounds limit) (table t') = ⊥
  ReplySays made f (peeks t i rounds limit) (searched e turns) = ⊥
  ReplySays made f (peeks t i rounds limit) (peeked e i' turns k) = EndingSays I clock_limit f t i' e × ReadOff made f e i' turns k
  ReplySays made f (peeks t i rounds limit) (future b) = ⊥
  ReplySays made f (asks_future t i v) r = Unit {0}

  -- one call, on a forest that is marked or not
  abbrev pub CallSays : (marked : Bool) → Called → Type 0
  CallSays true c = MarkedSays c.asked c.reply
  CallSays false c = ReplySays (searches_made c.before c.asked) c.forest c.asked c.reply

  -- every call of the list
  abbrev pub AllSay : (marked : Bool) → List Called → Type 0
  AllSay marked [] = Unit {0}
  AllSay marked (c ∷ cs) = CallSays marked c × AllSay (marked || reply_stopped c.reply) cs

-- the searches that ended in QuantumExceeded: each search in the list, and each that a peek made, whatever the peek then said
abbrev pub exceeded : List Called → ℕ
exceeded [] = 0
exceeded (c ∷ cs) = exceeded_among (searches_made c.before c.asked) + exceeded cs

-- Demand 3: for every byte string that makes a forest with this clock limit, every levelling of its book and every list of calls.
-- Goals and clauses are those in the book's bytes.
abbrev pub Demand3 : Type 0
Demand3 =
    (bytes : List ℕ) (clock_limit : ℕ) (f : Forest) → make bytes clock_limit ≡ accepted f →
    (level : ℕ → ℕ) → Plain f.book → Levelled f.book level →
    (cs : List Call) →
    AllSay (In f.book level) clock_limit false (calls f cs) × (exceeded (calls f cs) ≤ length f.book + clause_count f.book)
