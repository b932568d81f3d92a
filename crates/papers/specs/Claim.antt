-- Demand 3, as document 01 words it under (e): one claim about a whole list of calls on a forest just made from a plain levelled book.
use Rattle.std.specs.Prelude.{ℕ, ◌+◌, ◌≤◌, ◌≡◌, Bool, true, false, ◌||◌, ◌⊎◌, List, [], ◌∷◌, length}
use Rattle.std.proofs.Math.Option.{Option, none, some}
use Rattle.definitions.specs.{TableIndex}
use Rattle.definitions.specs.Refusal.{Refusable, accepted}
use Rattle.definitions.specs.Stop.{Stops, stop, go}
use Rattle.definitions.specs.Lists.{push}
use Rattle.definitions.specs.Book.{Book, clause_count}
use Rattle.definitions.specs.Tables.{Forest}
use Rattle.definitions.specs.Logic.{NoMoreSolutions, Floundered, QuantumExceeded, NegativeCycle, InvalidAnswer}
use Rattle.definitions.specs.Turn.{Ending, found, fail, cut, stopped}
use Rattle.definitions.specs.Forest.{make, Opened, open_goal, is_exceeded, SearchMade}
use Rattle.definitions.specs.Desk.{make_at_desk}
use Rattle.definitions.specs.Calls.{Call, opens, searches, peeks, asks_future, Reply, refusal, table, searched, peeked, future}
use Rattle.definitions.specs.Calls.{Sitting, sitting, searches_made, Called, calls}
use Rattle.papers.specs.Model.{Plain, Levelled, In}
use Rattle.papers.specs.Levels.{level_in, check_levels}

-- "An answer or 'no more solutions' of a search or peek names the goal whose open, right after that call, would give the same table."
abbrev pub Names : Forest → TableIndex → (goal : ℕ) → Type 0
Names f t goal = (r : Opened) × (open_goal f goal ≡ accepted r) × (r.table ≡ go t)

-- there is such a goal, and what is said of it is true of any
abbrev pub Named : Forest → TableIndex → (ℕ → Type 0) → Type 0
Named f t Is = ((goal : ℕ) × Names f t goal) × ((goal : ℕ) → Names f t goal → Is goal)

-- The searches that ended in QuantumExceeded.

abbrev pub one_if : Bool → ℕ
one_if true = 1
one_if false = 0

abbrev pub exceeded_among : List SearchMade → ℕ
exceeded_among [] = 0
exceeded_among (s ∷ ss) = one_if (is_exceeded s.result.ending) + exceeded_among ss

-- What a peek tells is read off the searches that it made: ending, turns and forest are the last one's and the index is the one that it
-- asked for; the count is how many of them ended in QuantumExceeded.
pub record ReadOff (made : List SearchMade) (f : Forest) (e : Ending) (i turns k : ℕ) : Type 0 where
  pub earlier : List SearchMade
  pub made_are : made ≡ push earlier (record { index = i; result = record { ending = e; turns = turns; forest = f } })
  pub count_is : k ≡ exceeded_among made

-- What a search or a peek is about, known before it is made: the table and the index that it asks for.
abbrev pub about : Sitting → Call → Option (TableIndex × ℕ)
about s (opens goal) = none
about s (searches t i limit) = some (t, i)
about s (peeks t i rounds limit) = some (t, i)
about s (asks_future t i v) = none

-- what is said of it; the ending of a search that nothing asked for would be wrong
abbrev pub AboutSays : Option (TableIndex × ℕ) → (TableIndex → ℕ → Type 0) → Type 0
AboutSays none Says = ⊥
AboutSays (some (t, i)) Says = Says t i

-- A refusal on a forest that no stop has marked: an open is refused by 9 alone, a search or a peek by 10, 11 or 12. Of one of
-- `any_future_answer` nothing is said.

abbrev pub SearchRefused : (number : ℕ) → Type 0
SearchRefused n = (n ≡ 10) ⊎ (n ≡ 11) ⊎ (n ≡ 12)

abbrev pub RefusedBy : Call → (number : ℕ) → Type 0
RefusedBy (opens goal) n = n ≡ 9
RefusedBy (searches t i limit) n = SearchRefused n
RefusedBy (peeks t i rounds limit) n = SearchRefused n
RefusedBy (asks_future t i v) n = Unit {0}

-- an open never stops
abbrev pub OpenSays : Stops TableIndex → Type 0
OpenSays (stop n) = ⊥
OpenSays (go t) = Unit {0}

-- After the stop every open, search and peek gets 20.
abbrev pub MarkedSays : Call → Reply → Type 0
MarkedSays (opens goal) r = r ≡ refusal 20
MarkedSays (searches t i limit) r = r ≡ refusal 20
MarkedSays (peeks t i rounds limit) r = r ≡ refusal 20
MarkedSays (asks_future t i v) r = Unit {0}

abbrev pub is_stopped : Ending → Bool
is_stopped (found a) = false
is_stopped (fail e) = false
is_stopped cut = false
is_stopped (stopped n) = true

abbrev pub table_stopped : Stops TableIndex → Bool
table_stopped (stop n) = true
table_stopped (go t) = false

abbrev pub reply_stopped : Reply → Bool
reply_stopped (refusal n) = false
reply_stopped (table t) = table_stopped t
reply_stopped (searched e turns) = is_stopped e
reply_stopped (peeked e i turns k) = is_stopped e
reply_stopped (future b) = false

-- `I` are the goals that are in the model, and `clock_limit` is the limit given at making.
module _ (I : ℕ → Type 0) (clock_limit : ℕ) where
  -- What the ending of a search or peek for table t says, at the index asked for, with a peek the one at which it ended; f is the forest
  -- that the call left. Every answer is in the model and unambiguous; every "no more solutions" at index 0 is not in it; nothing is
  -- floundered, cyclic or invalid; 21 is the only stop, and comes only with the clock at its limit.
  abbrev pub EndingSays : Forest → TableIndex → (index : ℕ) → Ending → Type 0
  EndingSays f t i (found a) = (a.ambiguous ≡ false) × Named f t I
  EndingSays f t i (fail NoMoreSolutions) = i ≡ 0 → Named f t (λ goal. I goal → ⊥)
  EndingSays f t i (fail Floundered) = ⊥
  EndingSays f t i (fail QuantumExceeded) = Unit {0}
  EndingSays f t i (fail NegativeCycle) = ⊥
  EndingSays f t i (fail InvalidAnswer) = ⊥
  EndingSays f t i cut = Unit {0}
  EndingSays f t i (stopped n) = (n ≡ 21) × (f.clock ≡ clock_limit)

  -- What a reply says, on a forest that no stop has marked: `Refuses` are the numbers by which the call is refused, `made` the searches
  -- that it made, `at` what it is about, and f the forest that it left. Of the reply of `any_future_answer` nothing is said.
  abbrev pub ReplySays :
      (Refuses : ℕ → Type 0) (made : List SearchMade) (at : Option (TableIndex × ℕ)) → Forest → Reply → Type 0
  ReplySays Refuses made at f (refusal n) = Refuses n
  ReplySays Refuses made at f (table t) = OpenSays t
  ReplySays Refuses made at f (searched e turns) = AboutSays at (λ t i. EndingSays f t i e)
  ReplySays Refuses made at f (peeked e i turns k) = AboutSays at (λ t asked. EndingSays f t i e) × ReadOff made f e i turns k
  ReplySays Refuses made at f (future b) = Unit {0}

  -- one call, on a forest that is marked or not
  abbrev pub CallSays : (marked : Bool) → Called → Type 0
  CallSays true c = MarkedSays c.asked c.reply
  CallSays false c =
      ReplySays (RefusedBy c.asked) (searches_made c.before c.asked) (about c.before c.asked) c.after.forest c.reply

  -- every call of the list
  abbrev pub AllSay : (marked : Bool) → List Called → Type 0
  AllSay marked [] = Unit {0}
  AllSay marked (c ∷ cs) = CallSays marked c × AllSay (marked || reply_stopped c.reply) cs

-- the searches that ended in QuantumExceeded: each search in the list, and each that a peek made, whatever the peek then said
abbrev pub exceeded : List Called → ℕ
exceeded [] = 0
exceeded (c ∷ cs) = exceeded_among (searches_made c.before c.asked) + exceeded cs

-- The allowance: how many more searches a reply lets end so. No reply grants any.
abbrev pub granted : Reply → ℕ
granted (refusal n) = 0
granted (table t) = 0
granted (searched e turns) = 0
granted (peeked e i turns k) = 0
granted (future b) = 0

abbrev pub all_granted : List Called → ℕ
all_granted [] = 0
all_granted (c ∷ cs) = granted c.reply + all_granted cs

-- A forest just made with this clock limit is as promised, by the levels of its book and for every list of calls. Goals and clauses are
-- those in the book's bytes.
abbrev pub AsPromised : Forest → (clock_limit : ℕ) → (level : ℕ → ℕ) → Type 0
AsPromised f clock_limit level =
    (cs : List Call) →
    AllSay (In f.book level) clock_limit false (calls (sitting f) cs)
    × (exceeded (calls (sitting f) cs) ≤ length f.book + clause_count f.book + all_granted (calls (sitting f) cs))

-- Demand 3 of a way in: for every byte string that makes a forest by it, and every levelling of its book.
abbrev pub Demand3Of : ((bytes : List ℕ) → (clock_limit : ℕ) → Refusable Forest) → Type 0
Demand3Of making =
    (bytes : List ℕ) (clock_limit : ℕ) (f : Forest) → making bytes clock_limit ≡ accepted f →
    (level : ℕ → ℕ) → Plain f.book → Levelled f.book level →
    AsPromised f clock_limit level

abbrev pub Demand3 : Type 0
Demand3 = Demand3Of make

-- through the desk
abbrev pub Demand3AtDesk : Type 0
Demand3AtDesk = Demand3Of make_at_desk

-- What the check of a paper says beforehand (change request 12): a forest that is made at the desk of a paper which it accepts is as
-- promised, by the levels that it gives.
abbrev pub AcceptedAsPromised : Type 0
AcceptedAsPromised =
    (bytes : List ℕ) (ls : List ℕ) → check_levels bytes ≡ accepted ls →
    (clock_limit : ℕ) (f : Forest) → make_at_desk bytes clock_limit ≡ accepted f →
    AsPromised f clock_limit (level_in ls)

-- The model: which levels of a plain book are taken doesn't matter.
abbrev pub OneModel : Type 0
OneModel =
    (book : Book) → Plain book → (k l : ℕ → ℕ) → Levelled book k → Levelled book l →
    (goal : ℕ) → (In book k goal → In book l goal) × (In book l goal → In book k goal)
