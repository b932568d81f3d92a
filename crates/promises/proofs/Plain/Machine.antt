-- The plain machine: chalk's control core on plain books, turn by turn. A table is its goal's number. A table not yet made holds
-- its fresh contents already, so that making it changes nothing but `made`.
use Prim.Native.Nat.{ℕ, zero, suc, ◌+◌, min}
use native.Mathlib.Decide.{dec_lt, dec_le, ℕ_discrete}
use mathlib.Core.Bool.{Bool, true, false}
use mathlib.Core.Option.{Option, none, some}
use mathlib.Core.List.{List, [], ◌∷◌, ◌++◌, map}
use lib.ListN.{length}
use Rattle.laws.proofs.Sums.{sum}
use Rattle.promises.proofs.Plain.Model.{Lit, pos, neg, Body, Book, literal_goal}

-- the book's number of goals, the clock's limit, and the number that stands for "no minimum"
pub record Limits : Type 0 where
  pub goals : ℕ
  pub limit : ℕ
  pub max : ℕ

pub record Strand : Type 0 where
  pub lits : Body
  pub chosen : Bool
  pub time : ℕ

pub record Entry : Type 0 where
  pub goal : ℕ
  pub clock : ℕ
  pub positive_min : ℕ
  pub negative_min : ℕ
  pub active : Option Strand

abbrev pub Queues : Type 0
Queues = ℕ → List Strand

pub record Forest : Type 0 where
  pub made : ℕ → Bool
  pub answered : ℕ → Bool
  pub first : ℕ → Bool
  pub queue : Queues
  pub clock : ℕ

module _ {A : Type 0} where
  abbrev pub pick : {P : Type 0} → Dec P → A → A → A
  pick (yes p) a b = a
  pick (no n) a b = b

  abbrev pub put : (ℕ → A) → ℕ → A → ℕ → A
  put f g a h = pick (ℕ_discrete g h) a (f h)

abbrev pub with_queue : Forest → Queues → Forest
with_queue f q = record { made = f.made; answered = f.answered; first = f.first; queue = q; clock = f.clock }

abbrev pub make : Forest → ℕ → Forest
make f g = record { made = put f.made g true; answered = f.answered; first = f.first; queue = f.queue; clock = f.clock }

abbrev pub entry_with : Entry → Option Strand → Entry
entry_with e a = record { goal = e.goal; clock = e.clock; positive_min = e.positive_min; negative_min = e.negative_min; active = a }

-- the entry gives its strand back to the queue, its minimums changed
abbrev pub with_mins : Entry → ℕ → ℕ → Entry
with_mins e p n = record { goal = e.goal; clock = e.clock; positive_min = p; negative_min = n; active = none }

abbrev pub append : Queues → ℕ → Strand → Queues
append q g s = put q g (q g ++ (s ∷ []))

-- the strand's first literal is done with
abbrev pub popped : ℕ → Body → Strand
popped c b = record { lits = b; chosen = false; time = c }

-- the strand in hand has its first literal selected
abbrev pub pursued : ℕ → Body → Strand
pursued c b = record { lits = b; chosen = true; time = c }

abbrev pub restore : Queues → ℕ → Option Strand → Queues
restore q g none = q
restore q g (some s) = append q g s

abbrev pub all_back : Queues → List Entry → Queues
all_back q [] = q
all_back q (e ∷ es) = all_back (restore q e.goal e.active) es

-- the first strand whose last pursued time is below the entry's clock; the others stand in order from behind it on
abbrev pub take_at : {P : Type 0} → Dec P → Strand → List Strand → Option (Strand × List Strand) → Option (Strand × List Strand)
take_at (yes p) x r o = some (x, r)
take_at (no n) x r o = o

abbrev pub take_from : ℕ → List Strand → List Strand → Option (Strand × List Strand)
take_from c pre [] = none
take_from c pre (x ∷ xs) = take_at (dec_lt x.time c) x (xs ++ pre) (take_from c (pre ++ (x ∷ [])) xs)

abbrev pub find_clock : ℕ → List Entry → Option ℕ
find_clock u [] = none
find_clock u (e ∷ es) = pick (ℕ_discrete e.goal u) (some e.clock) (find_clock u es)

abbrev pub awaited_goal : Bool → Body → Option ℕ
awaited_goal false b = none
awaited_goal true [] = none
awaited_goal true (l ∷ b) = some (literal_goal l)

abbrev pub clear_next : Option ℕ → (ℕ → Option Queues) → Option Queues
clear_next none k = none
clear_next (some u) k = k u

-- clearing: for each strand, take the queue of the table that it waits on, and clear that first. The number bounds the strands.
abbrev pub clear : ℕ → List Strand → Queues → Option Queues
clear zero [] q = some q
clear zero (s ∷ w) q = none
clear (suc n) [] q = some q
clear (suc n) (s ∷ w) q = clear_next (awaited_goal s.chosen s.lits) (λ u. clear n (q u ++ w) (put q u []))

pub data Outcome : Type 0 where
  found : Outcome
  no_more_left : Outcome
  again : Outcome
  cut : Outcome
  clock_ended : Outcome
  noted : Outcome
  refused : ℕ → Outcome
  negative_cycled : Outcome
  unselected : Outcome
  repeated : Outcome
  broken : Outcome

pub data Turn : Type 0 where
  turn_goes_on : Forest → Entry → List Entry → Turn
  stop : Outcome → Forest → Turn

module _ (N : Limits) where
  abbrev pub entry_pushed : ℕ → ℕ → Entry
  entry_pushed u c = record { goal = u; clock = c; positive_min = N.max; negative_min = N.max; active = none }

  abbrev pub tick : Forest → Forest
  tick f = record { made = f.made; answered = f.answered; first = f.first; queue = f.queue; clock = suc f.clock }

  abbrev pub ended : Outcome → Forest → List Entry → Turn
  ended o f es = stop o (with_queue f (all_back f.queue es))

  -- the strand has no literal left
  abbrev pub answering : Bool → Forest → Entry → List Entry → Turn
  answering true f e es = ended repeated f es
  answering false f e [] = stop found (record {
    made = f.made;
    answered = put f.answered e.goal true;
    first = f.first;
    queue = put f.queue e.goal [];
    clock = f.clock;
  })
  answering false f e (c ∷ es) = turn_goes_on (record {
    made = f.made;
    answered = put f.answered e.goal true;
    first = f.first;
    queue = put f.queue e.goal [];
    clock = f.clock;
  }) c es

  -- the selected literal's table is on the stack, with this clock
  abbrev pub parking : Lit → ℕ → Forest → Entry → List Entry → Strand → Turn
  parking (pos h) c f e es s = turn_goes_on (with_queue f (append f.queue e.goal s))
      (with_mins e (min e.positive_min c) e.negative_min) es
  parking (neg h) c f e es s = turn_goes_on (with_queue f (append f.queue e.goal s))
      (with_mins e (min e.positive_min e.clock) (min e.negative_min c)) es

  abbrev pub pushing : {P : Type 0} → Dec P → Forest → Forest → ℕ → Entry → List Entry → Strand → Turn
  pushing (yes p) before f u e es s = turn_goes_on (tick f) (entry_pushed u (suc f.clock)) (entry_with e (some s) ∷ es)
  pushing (no n) before f u e es s = stop clock_ended before

  abbrev pub unanswered : Option ℕ → Forest → Forest → Entry → List Entry → Lit → Body → Turn
  unanswered (some c) before f e es l b = parking l c f e es (pursued e.clock (l ∷ b))
  unanswered none before f e es l b = pushing (dec_lt f.clock N.limit) before f (literal_goal l) e es (pursued e.clock (l ∷ b))

  abbrev pub selected : Bool → Forest → Forest → Entry → List Entry → Lit → Body → Turn
  selected true before f e es (pos h) b = turn_goes_on f (entry_with e (some (popped e.clock b))) es
  selected true before f e es (neg h) b = ended again f es
  selected false before f e es l b = unanswered (find_clock (literal_goal l) (e ∷ es)) before f e es l b

  -- the strand with these literals is in hand
  abbrev pub pursue : Body → Forest → Forest → Entry → List Entry → Turn
  pursue [] before f e es = answering (f.answered e.goal) f e es
  pursue (l ∷ b) before f e es = selected (f.answered (literal_goal l)) before (make f (literal_goal l)) e es l b

  -- the table is done with, without an answer: what that means to the caller's strand
  abbrev pub empty_at : Body → Strand → Forest → Entry → List Entry → Turn
  empty_at [] s f c es = ended broken f es
  empty_at (pos h ∷ b) s f c es = ended again f es
  empty_at (neg h ∷ b) s f c es = turn_goes_on f (entry_with c (some (popped s.time b))) es

  abbrev pub empty : Option Strand → Forest → Entry → List Entry → Turn
  empty none f c es = ended broken f es
  empty (some s) f c es = empty_at s.lits s f c es

  abbrev pub emptied : Forest → List Entry → Turn
  emptied f [] = stop no_more_left f
  emptied f (c ∷ es) = empty c.active f c es

  abbrev pub cleared : Option Queues → Forest → List Entry → Turn
  cleared none f es = ended unselected f es
  cleared (some q) f es = ended again (with_queue f q) es

  abbrev pub clearing : {P : Type 0} → Dec P → Forest → Entry → List Entry → Turn
  clearing (yes p) f e es =
      cleared (clear (sum N.goals (λ g. length (f.queue g))) (f.queue e.goal) (put f.queue e.goal [])) f es
  clearing (no n) f e es = ended negative_cycled f es

  abbrev pub cycle_at : Body → Strand → Forest → Entry → Entry → List Entry → Turn
  cycle_at [] s f e c es = ended broken f es
  cycle_at (pos h ∷ b) s f e c es = turn_goes_on (with_queue f (append f.queue c.goal s))
      (with_mins c (min c.positive_min e.positive_min) (min c.negative_min e.negative_min)) es
  cycle_at (neg h ∷ b) s f e c es = turn_goes_on (with_queue f (append f.queue c.goal s))
      (with_mins c (min c.positive_min c.clock) (min c.negative_min (min e.positive_min e.negative_min))) es

  abbrev pub cycle : Option Strand → Forest → Entry → Entry → List Entry → Turn
  cycle none f e c es = ended broken f es
  cycle (some s) f e c es = cycle_at s.lits s f e c es

  abbrev pub part_of : Forest → Entry → List Entry → Turn
  part_of f e [] = stop broken f
  part_of f e (c ∷ es) = cycle c.active f e c es

  abbrev pub waiting : {P Q : Type 0} → Bool → Dec P → Dec Q → Forest → Entry → List Entry → Turn
  waiting true d d' f e es = ended again (record {
    made = f.made;
    answered = f.answered;
    first = put f.first e.goal false;
    queue = f.queue;
    clock = f.clock;
  }) es
  waiting false (yes p) (yes q) f e es = clearing (ℕ_discrete e.negative_min N.max) f e es
  waiting false (yes p) (no q) f e es = part_of f e es
  waiting false (no p) d' f e es = part_of f e es

  -- no strand can be taken
  abbrev pub idle : List Strand → Forest → Entry → List Entry → Turn
  idle [] f e es = emptied f es
  idle (x ∷ xs) f e es = waiting (f.first e.goal) (dec_le e.clock e.positive_min) (dec_le e.clock e.negative_min) f e es

  abbrev pub taking : Option (Strand × List Strand) → Forest → Entry → List Entry → Turn
  taking none f e es = idle (f.queue e.goal) f e es
  taking (some (s, r)) f e es =
      pursue s.lits (with_queue f (all_back f.queue (e ∷ es))) (with_queue f (put f.queue e.goal r)) (entry_with e (some s)) es

  abbrev pub turn_with : Option Strand → Forest → Entry → List Entry → Turn
  turn_with (some s) f e es = pursue s.lits (with_queue f (all_back f.queue (e ∷ es))) f e es
  turn_with none f e es = taking (take_from e.clock [] (f.queue e.goal)) f e es

  abbrev pub turn : Forest → Entry → List Entry → Turn
  turn f e es = turn_with e.active f e es

  abbrev pub follow : Turn → (Forest → Entry → List Entry → Outcome × Forest) → Outcome × Forest
  follow (stop o f) k = (o, f)
  follow (turn_goes_on f e es) k = k f e es

  abbrev pub run : ℕ → Forest → Entry → List Entry → Outcome × Forest
  run zero f e es = (cut, with_queue f (all_back f.queue (e ∷ es)))
  run (suc n) f e es = follow (turn f e es) (run n)

  abbrev pub begin : {P : Type 0} → Dec P → Forest → ℕ → ℕ → Outcome × Forest
  begin (yes p) f g n = run n (tick f) (entry_pushed g (suc f.clock)) []
  begin (no p) f g n = (clock_ended, f)

  -- a search for the table's answer of the given index; the Booleans: the table is made, and has its answer
  abbrev pub search_at : Bool → Bool → (index turns : ℕ) → Forest → ℕ → Outcome × Forest
  search_at false a i n f g = (refused 10, f)
  search_at true false zero zero f g = (refused 12, f)
  search_at true false zero (suc n) f g = begin (dec_lt f.clock N.limit) f g (suc n)
  search_at true false (suc i) n f g = (refused 11, f)
  search_at true true zero zero f g = (refused 12, f)
  search_at true true zero (suc n) f g = (found, f)
  search_at true true (suc zero) zero f g = (refused 12, f)
  search_at true true (suc zero) (suc n) f g = begin (dec_lt f.clock N.limit) f g (suc n)
  search_at true true (suc (suc i)) n f g = (refused 11, f)

  abbrev pub search : Forest → (goal index turns : ℕ) → Outcome × Forest
  search f g i n = search_at (f.made g) (f.answered g) i n f g

  -- a peek searches again after each QuantumExceeded, as long as there are rounds; told: the outcome, those that came, the forest
  abbrev pub peek_next : Outcome × Forest → (Forest → Outcome × ℕ × Forest) → Outcome × ℕ × Forest
  peek_next (found, f) k = (found, 0, f)
  peek_next (no_more_left, f) k = (no_more_left, 0, f)
  peek_next (again, f) k = ((k f).0, suc (k f).1, (k f).2)
  peek_next (cut, f) k = (cut, 0, f)
  peek_next (clock_ended, f) k = (clock_ended, 0, f)
  peek_next (noted, f) k = (noted, 0, f)
  peek_next (refused r, f) k = (refused r, 0, f)
  peek_next (negative_cycled, f) k = (negative_cycled, 0, f)
  peek_next (unselected, f) k = (unselected, 0, f)
  peek_next (repeated, f) k = (repeated, 0, f)
  peek_next (broken, f) k = (broken, 0, f)

  abbrev pub rounds : ℕ → (goal index turns : ℕ) → Forest → Outcome × ℕ × Forest
  rounds zero g i n f = (again, 0, f)
  rounds (suc r) g i n f = peek_next (search f g i n) (rounds r g i n)

  abbrev pub peek : (rounds goal index turns : ℕ) → Forest → Outcome × ℕ × Forest
  peek zero g i n f = refusal (search f g i 0)
    where
      refusal : Outcome × Forest → Outcome × ℕ × Forest
      refusal (o, f') = (o, 0, f')
  peek (suc r) g i n f = rounds (suc r) g i n f

pub data Call : Type 0 where
  opens_goal : (goal : ℕ) → Call
  searches_goal : (goal index turns : ℕ) → Call
  peeks_goal : (goal index rounds turns : ℕ) → Call
  asks_any_future : (goal index : ℕ) → Call

abbrev pub fresh : Body → Strand
fresh b = record { lits = b; chosen = false; time = 0 }

abbrev pub initial : Book → Forest
initial book = record { made = λ g. false; answered = λ g. false; first = λ g. true; queue = λ g. map fresh (book g); clock = 0 }

-- the outcomes that mark the forest
abbrev pub marks : Outcome → Bool
marks found = false
marks no_more_left = false
marks again = false
marks cut = false
marks clock_ended = true
marks noted = false
marks (refused n) = false
marks negative_cycled = false
marks unselected = true
marks repeated = true
marks broken = true

abbrev pub marked : Bool → Outcome → Bool
marked true o = true
marked false o = marks o

-- the searches that ended in QuantumExceeded
abbrev pub counts : Outcome → ℕ
counts found = 0
counts no_more_left = 0
counts again = 1
counts cut = 0
counts clock_ended = 0
counts noted = 0
counts (refused n) = 0
counts negative_cycled = 0
counts unselected = 0
counts repeated = 0
counts broken = 0

abbrev pub counted : Outcome × Forest → Outcome × ℕ × Forest
counted (o, f) = (o, counts o, f)

module _ (N : Limits) where
  abbrev pub opening : {P : Type 0} → Dec P → ℕ → Forest → Outcome × ℕ × Forest
  opening (yes p) g f = (noted, 0, make f g)
  opening (no n) g f = (refused 9, 0, f)

  -- the reply of `any_future_answer` isn't modelled: it changes nothing
  abbrev pub call_on : Bool → Call → Forest → Outcome × ℕ × Forest
  call_on true (opens_goal g) f = (refused 20, 0, f)
  call_on true (searches_goal g i n) f = (refused 20, 0, f)
  call_on true (peeks_goal g i r n) f = (refused 20, 0, f)
  call_on true (asks_any_future g i) f = (noted, 0, f)
  call_on false (opens_goal g) f = opening (dec_lt g N.goals) g f
  call_on false (searches_goal g i n) f = counted (search N f g i n)
  call_on false (peeks_goal g i r n) f = peek N r g i n f
  call_on false (asks_any_future g i) f = (noted, 0, f)

  -- the calls of a list, one after the other, each with its outcome and the number of its searches that ended in QuantumExceeded;
  -- the Boolean says that the forest is marked
  abbrev pub calls : List Call → Bool → Forest → List (Call × Outcome × ℕ)
  calls [] m f = []
  calls (c ∷ cs) m f = (c, (call_on m c f).0, (call_on m c f).1) ∷ calls cs (marked m (call_on m c f).0) (call_on m c f).2
