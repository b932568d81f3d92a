-- Demand 3 of the code, from that of the definitions: what is said of their list of calls is what is said of the sitting.
use Prim.Native.Nat.{ℕ, ◌+◌, ◌≤◌}
use native.Mathlib.Omega.{arith}
use mathlib.Core.Bool.{Bool, true, false, ◌||◌}
use mathlib.Core.List.{List, [], ◌∷◌, map}
use mathlib.Core.Logic.{inl, inr}
use mathlib.Core.Option.{none, some}
use mathlib.Core.Path.{◌≡◌, refl, sym, ap, subst, ◌∙◌}
use lib.Dec.{eqb, leb}
use lib.ListN.{length}
use Rattle.definitions.specs.{MAX}
use Rattle.definitions.specs.Book as books
use Rattle.definitions.specs.Book.{clause_count}
use Rattle.definitions.specs.Calls as said
use Rattle.papers.specs.Claim as claim
use Rattle.definitions.specs.Forest as forests
use Rattle.definitions.specs.Logic as logic
use Rattle.papers.specs.Model.{Plain, Levelled, In}
use Rattle.definitions.specs.Refusal.{Refusable, refused, accepted, ◌refuses◌, unless}
use Rattle.definitions.specs.Stop.{go}
use Rattle.definitions.specs.Tables as tables
use Rattle.definitions.specs.Turn as turns
use Rattle.definitions.proofs.Desk.{made_as_read}
use Rattle.definitions.proofs.Refusal.{same_accepted, not_accepted, all_pass}
use Rattle.asserts.proofs.Safe.{stop_go, same_go}
use Rattle.promises.proofs.Demand as promised
use Rattle.promises.proofs.Before.{nothing_granted}
use Rattle.forest.specs.declared.Forest.{Forest}
use Rattle.forest.specs.declared.any_future_answer.Future.{Future}
use Rattle.forest.specs.declared.any_future_answer.Future.TheVariants as futures
use Rattle.forest.specs.declared.make.Made.{Made}
use Rattle.forest.specs.declared.make.Making.{Making}
use Rattle.forest.specs.declared.make.Making.TheVariants as makings
use Rattle.forest.specs.declared.open.Opened.{Opened}
use Rattle.forest.specs.declared.open.Opening.{Opening}
use Rattle.forest.specs.declared.open.Opening.TheVariants as openings
use Rattle.forest.specs.declared.searches.Outcome.{Outcome}
use Rattle.forest.specs.declared.searches.Outcome.TheVariants as outcomes
use Rattle.forest.specs.declared.searches.Peeked.{Peeked}
use Rattle.forest.specs.Make.{MakeSays, MakeAtDeskSays, made_by, made_means}
use Rattle.forest.specs.Open.{OpenSays, opened_by}
use Rattle.forest.specs.Searches.{PeekSays, reply_by}
use Rattle.forest.specs.View.{view, Sound}
use Rattle.forest.specs.Sittings.{Told, opens, searches, peeks, asks_future, left, Gives, Sits, asked}
use Rattle.forest.proofs.Serving.{left_sound}
use Rattle.theorems.specs.Replies.{opening_reply, outcome_reply, future_reply, reply, at, told_call, told_calls}
use Rattle.theorems.specs.Right.{NamesGoal, NamedGoal, MarkedTells, is_stopped, opening_stopped, stops, OpeningSays, OutcomeSays}
use Rattle.theorems.specs.Right.{UnmarkedSays, TellSays, AllTell, exceeded_by, exceeded_in, exceeded}
use Rattle.theorems.specs.Promises.{AnswersRight}
use Rattle.theorems.specs.Right.{EntrySays}
use Rattle.theorems.proofs.Calls.{sits_calls}
use Rattle.theorems.proofs.Steps.{tell_so}

-- A GOAL THAT IS NAMED. An open of the definitions that gives a table is one of the code that gives it, and the other way round.

opening_is : (G : tables.Forest) (t : ℕ) (o : Opening) (r : forests.Opened) → opened_by o G ≡ accepted r → r.table ≡ go t
    → o ≡ openings.Table t
opening_is G t (openings.Refused n) r e k = absurd (not_accepted e)
opening_is G t (openings.Table u) r e k =
    ap openings.Table (same_go (ap (λ (z : forests.Opened). z.table) (same_accepted e) ∙ k))
opening_is G t (openings.Stopped n) r e k = stop_go (ap (λ (z : forests.Opened). z.table) (same_accepted e) ∙ k)

module _ (f : Forest) (s : Sound f) (t : ℕ) where
  names_told : (goal : ℕ) → claim.Names (view f) t goal → NamesGoal f t goal
  names_told goal n r o = opening_is (view r.forest) t r.opening n.0 (o.says s ∙ n.1) n.2

  names_said : (goal : ℕ) (r : Opened) → OpenSays f goal r → r.opening ≡ openings.Table t → claim.Names (view f) t goal
  names_said goal r o e = (
    record { table = go t; forest = view r.forest },
    sym (o.says s) ∙ ap (λ (z : Opening). opened_by z (view r.forest)) e,
    refl,
  )

  pub named_told : (Is : ℕ → Type 0) → claim.Named (view f) t Is → NamedGoal f t Is
  named_told Is n = (
    (n.0.0, names_told n.0.0 n.0.1),
    λ goal r o e. n.1 goal (names_said goal r o e),
  )

-- the searches that the definitions' call makes
abbrev made_in : Forest → Told → List forests.SearchMade
made_in f t = said.searches_made (at f) (asked t)

-- WHAT A REPLY SAYS, on a forest that no stop has marked

module _ (I : ℕ → Type 0) (limit : ℕ) where
  opening_told : (made : List forests.SearchMade) (G : tables.Forest) (goal : ℕ) (o : Opening)
      → claim.ReplySays I limit (claim.RefusedBy (said.opens goal)) made none G (opening_reply o) → OpeningSays I limit o
  opening_told made G goal (openings.Refused n) x = x
  opening_told made G goal (openings.Table t) x = tt
  opening_told made G goal (openings.Stopped n) x = x

  search_told : (made : List forests.SearchMade) (f : Forest) → Sound f → (t i turns : ℕ) (o : Outcome)
      → claim.ReplySays I limit claim.SearchRefused made (some (t, i)) (view f) (outcome_reply o (λ e. said.searched e turns))
      → OutcomeSays I limit f t i o
  search_told made f s t i turns (outcomes.Refused n) x = x
  search_told made f s t i turns (outcomes.Found variant ambiguous) x = (x.0, named_told f s t I x.1)
  search_told made f s t i turns outcomes.NoMoreSolutions x = λ z. named_told f s t (λ goal. I goal → ⊥) (x z)
  search_told made f s t i turns outcomes.Floundered x = x
  search_told made f s t i turns outcomes.QuantumExceeded x = tt
  search_told made f s t i turns outcomes.NegativeCycle x = x
  search_told made f s t i turns outcomes.InvalidAnswer x = x
  search_told made f s t i turns outcomes.Cut x = tt
  search_told made f s t i turns (outcomes.Stopped n) x = x

  peek_told : (made : List forests.SearchMade) (f : Forest) → Sound f → (t i index turns k : ℕ) (o : Outcome)
      → claim.ReplySays I limit claim.SearchRefused made (some (t, i)) (view f) (outcome_reply o (λ e. said.peeked e index turns k))
      → OutcomeSays I limit f t index o
  peek_told made f s t i index turns k (outcomes.Refused n) x = x
  peek_told made f s t i index turns k (outcomes.Found variant ambiguous) x = (x.0.0, named_told f s t I x.0.1)
  peek_told made f s t i index turns k outcomes.NoMoreSolutions x =
      λ z. named_told f s t (λ goal. I goal → ⊥) (x.0 z)
  peek_told made f s t i index turns k outcomes.Floundered x = x.0
  peek_told made f s t i index turns k outcomes.QuantumExceeded x = tt
  peek_told made f s t i index turns k outcomes.NegativeCycle x = x.0
  peek_told made f s t i index turns k outcomes.InvalidAnswer x = x.0
  peek_told made f s t i index turns k outcomes.Cut x = tt
  peek_told made f s t i index turns k (outcomes.Stopped n) x = x.0

  unmarked_told : (f : Forest) (t : Told) → Sound (left f t) → claim.CallSays I limit false (told_call f t) → UnmarkedSays I limit t
  unmarked_told f (opens goal r) s x =
      opening_told (made_in f (opens goal r)) (view r.forest) goal r.opening x
  unmarked_told f (searches table index most r) s x =
      search_told (made_in f (searches table index most r)) r.forest s table index r.turns r.outcome x
  unmarked_told f (peeks table index rounds most r) s x =
      peek_told (made_in f (peeks table index rounds most r)) r.forest s table index r.index r.turns r.exceeded r.outcome x
  unmarked_told f (asks_future table index variant r) s x = tt

-- AND ON A MARKED ONE: a reply that is the refusal with 20 is read off an outcome that is it

abbrev number_of : said.Reply → ℕ
number_of (said.refusal n) = n
number_of (said.table t) = 0
number_of (said.searched e turns) = 0
number_of (said.peeked e i turns k) = 0
number_of (said.future b) = 0

not_20 : {A : Type 0} → ◌≡◌ {A = ℕ} 0 20 → A
not_20 e = absurd (omega (arith, e))

opening_20 : (o : Opening) → opening_reply o ≡ said.refusal 20 → o ≡ openings.Refused 20
opening_20 (openings.Refused n) e = ap openings.Refused (ap number_of e)
opening_20 (openings.Table t) e = not_20 (ap number_of e)
opening_20 (openings.Stopped n) e = not_20 (ap number_of e)

module _ (with : turns.Ending → said.Reply) (none : (e : turns.Ending) → number_of (with e) ≡ 0) where
  ended_20 : {A : Type 0} → (e : turns.Ending) → with e ≡ said.refusal 20 → A
  ended_20 e x = not_20 (sym (none e) ∙ ap number_of x)

  outcome_20 : (o : Outcome) → outcome_reply o with ≡ said.refusal 20 → o ≡ outcomes.Refused 20
  outcome_20 (outcomes.Refused n) e = ap outcomes.Refused (ap number_of e)
  outcome_20 (outcomes.Found variant ambiguous) e = ended_20 (turns.found (record { variant = variant; ambiguous = ambiguous })) e
  outcome_20 outcomes.NoMoreSolutions e = ended_20 (turns.fail logic.NoMoreSolutions) e
  outcome_20 outcomes.Floundered e = ended_20 (turns.fail logic.Floundered) e
  outcome_20 outcomes.QuantumExceeded e = ended_20 (turns.fail logic.QuantumExceeded) e
  outcome_20 outcomes.NegativeCycle e = ended_20 (turns.fail logic.NegativeCycle) e
  outcome_20 outcomes.InvalidAnswer e = ended_20 (turns.fail logic.InvalidAnswer) e
  outcome_20 outcomes.Cut e = ended_20 turns.cut e
  outcome_20 (outcomes.Stopped n) e = ended_20 (turns.stopped n) e

marked_told : (t : Told) → claim.MarkedSays (asked t) (reply t) → MarkedTells t
marked_told (opens goal r) x = opening_20 r.opening x
marked_told (searches table index most r) x = outcome_20 (λ e. said.searched e r.turns) (λ e. refl) r.outcome x
marked_told (peeks table index rounds most r) x =
    outcome_20 (λ e. said.peeked e r.index r.turns r.exceeded) (λ e. refl) r.outcome x
marked_told (asks_future table index variant r) x = tt

-- WHAT STOPS is what stops there

opening_stops : (o : Opening) → claim.reply_stopped (opening_reply o) ≡ opening_stopped o
opening_stops (openings.Refused n) = refl
opening_stops (openings.Table t) = refl
opening_stops (openings.Stopped n) = refl

module _ (with : turns.Ending → said.Reply) (same : (e : turns.Ending) → claim.reply_stopped (with e) ≡ claim.is_stopped e) where
  outcome_stops : (o : Outcome) → claim.reply_stopped (outcome_reply o with) ≡ is_stopped o
  outcome_stops (outcomes.Refused n) = refl
  outcome_stops (outcomes.Found variant ambiguous) = same (turns.found (record { variant = variant; ambiguous = ambiguous }))
  outcome_stops outcomes.NoMoreSolutions = same (turns.fail logic.NoMoreSolutions)
  outcome_stops outcomes.Floundered = same (turns.fail logic.Floundered)
  outcome_stops outcomes.QuantumExceeded = same (turns.fail logic.QuantumExceeded)
  outcome_stops outcomes.NegativeCycle = same (turns.fail logic.NegativeCycle)
  outcome_stops outcomes.InvalidAnswer = same (turns.fail logic.InvalidAnswer)
  outcome_stops outcomes.Cut = same turns.cut
  outcome_stops (outcomes.Stopped n) = same (turns.stopped n)

future_stops : (r : Future) → claim.reply_stopped (future_reply r) ≡ false
future_stops (futures.Refused n) = refl
future_stops (futures.Found any) = refl

stops_told : (t : Told) → claim.reply_stopped (reply t) ≡ stops t
stops_told (opens goal r) = opening_stops r.opening
stops_told (searches table index most r) = outcome_stops (λ e. said.searched e r.turns) (λ e. refl) r.outcome
stops_told (peeks table index rounds most r) =
    outcome_stops (λ e. said.peeked e r.index r.turns r.exceeded) (λ e. refl) r.outcome
stops_told (asks_future table index variant r) = future_stops r

-- THE SEARCHES THAT ENDED IN QuantumExceeded

abbrev of_search : (index : ℕ) → Refusable turns.Searched → List forests.SearchMade
of_search i o = elim o [ refused n ↦ [] | accepted r ↦ record { index = i; result = r } ∷ [] ]

search_count : (i turns : ℕ) (G : tables.Forest) (o : Outcome)
    → claim.exceeded_among (of_search i (reply_by o (λ e. record { ending = e; turns = turns; forest = G }))) ≡ exceeded_by o
search_count i turns G (outcomes.Refused n) = refl
search_count i turns G (outcomes.Found variant ambiguous) = refl
search_count i turns G outcomes.NoMoreSolutions = refl
search_count i turns G outcomes.Floundered = refl
search_count i turns G outcomes.QuantumExceeded = refl
search_count i turns G outcomes.NegativeCycle = refl
search_count i turns G outcomes.InvalidAnswer = refl
search_count i turns G outcomes.Cut = refl
search_count i turns G (outcomes.Stopped n) = refl

at_most : {a b : ℕ} → b ≡ a → a ≤ b
at_most {a} {b} e = omega (arith, e)

none_at_most : {a : ℕ} (b : ℕ) → a ≡ 0 → a ≤ b
none_at_most {a} b e = omega (arith, e)

refused_count : (f : Forest) (table index rounds most : ℕ) (r : Peeked) → PeekSays f table index rounds most r
    → (n : ℕ) → r.outcome ≡ outcomes.Refused n → r.exceeded ≡ 0
refused_count f table index rounds most r g n e = ap (λ (z : Peeked). z.exceeded) (g.unchanged n e)

-- a peek that was not refused counts those that it made; one that was has none to count
peek_count : (I : ℕ → Type 0) (limit : ℕ) (made : List forests.SearchMade) (G : tables.Forest) (t i index turns k : ℕ) (o : Outcome)
    → ((n : ℕ) → o ≡ outcomes.Refused n → k ≡ 0)
    → claim.ReplySays I limit claim.SearchRefused made (some (t, i)) G (outcome_reply o (λ e. said.peeked e index turns k))
    → k ≤ claim.exceeded_among made
peek_count I limit made G t i index turns k (outcomes.Refused n) z x = none_at_most (claim.exceeded_among made) (z n refl)
peek_count I limit made G t i index turns k (outcomes.Found variant ambiguous) z x = at_most (sym x.1.count_is)
peek_count I limit made G t i index turns k outcomes.NoMoreSolutions z x = at_most (sym x.1.count_is)
peek_count I limit made G t i index turns k outcomes.Floundered z x = at_most (sym x.1.count_is)
peek_count I limit made G t i index turns k outcomes.QuantumExceeded z x = at_most (sym x.1.count_is)
peek_count I limit made G t i index turns k outcomes.NegativeCycle z x = at_most (sym x.1.count_is)
peek_count I limit made G t i index turns k outcomes.InvalidAnswer z x = at_most (sym x.1.count_is)
peek_count I limit made G t i index turns k outcomes.Cut z x = at_most (sym x.1.count_is)
peek_count I limit made G t i index turns k (outcomes.Stopped n) z x = at_most (sym x.1.count_is)

-- ONE CALL, and then all of them
module _ (I : ℕ → Type 0) (limit : ℕ) where
  told : (marked : Bool) (f : Forest) (t : Told) → Sound (left f t) → claim.CallSays I limit marked (told_call f t)
      → TellSays I limit marked t
  told true f t s x = marked_told t x
  told false f t s x = unmarked_told I limit f t s x

  peek_counted : (marked : Bool) (f : Forest) (table index rounds most : ℕ) (r : Peeked) → PeekSays f table index rounds most r
      → claim.CallSays I limit marked (told_call f (peeks table index rounds most r))
      → r.exceeded ≤ claim.exceeded_among (made_in f (peeks table index rounds most r))
  peek_counted true f table index rounds most r g x =
      none_at_most (claim.exceeded_among (made_in f (peeks table index rounds most r)))
      (refused_count f table index rounds most r g 20 (marked_told (peeks table index rounds most r) x))
  peek_counted false f table index rounds most r g x =
      peek_count I limit (made_in f (peeks table index rounds most r)) (view r.forest) table index r.index r.turns r.exceeded
      r.outcome (refused_count f table index rounds most r g) x

  counted : (marked : Bool) (f : Forest) (t : Told) → Sound f → Gives f t → claim.CallSays I limit marked (told_call f t)
      → exceeded_in t ≤ claim.exceeded_among (made_in f t)
  counted marked f (opens goal r) s g x = omega arith
  counted marked f (searches table index most r) s g x =
      at_most (ap (λ (o : Refusable turns.Searched). claim.exceeded_among (of_search index o)) (sym (g.says s))
      ∙ search_count index r.turns (view r.forest) r.outcome)
  counted marked f (peeks table index rounds most r) s g x = peek_counted marked f table index rounds most r g x
  counted marked f (asks_future table index variant r) s g x = omega arith

  sum_at_most : (a b c d : ℕ) → a ≤ b → c ≤ d → a + c ≤ b + d
  sum_at_most a b c d p q = omega (arith, p, q)

  all_told : (ts : List Told) (marked : Bool) (f : Forest) → Sound f → Sits f ts → claim.AllSay I limit marked (told_calls f ts)
      → AllTell I limit marked ts × (exceeded ts ≤ claim.exceeded (told_calls f ts))
  all_told [] marked f s g x = (tt, omega arith)
  all_told (t ∷ ts) marked f s g x =
      let s'' = left_sound f t s g.0 in
      let rest = all_told ts (marked || stops t) (left f t) s'' g.1
      (subst (λ (b : Bool). claim.AllSay I limit (marked || b) (told_calls (left f t) ts)) (stops_told t) x.1) in (
        (told marked f t s'' x.0, rest.0),
        sum_at_most (exceeded_in t) (claim.exceeded_among (made_in f t)) (exceeded ts) (claim.exceeded (told_calls (left f t) ts))
            (counted marked f t s g.0 x.0) rest.1,
      )

-- THE FOREST THAT WAS MADE has the book that was read

abbrev making_from : (limit : ℕ) → Refusable books.Book → Refusable tables.Forest
making_from limit o = elim o [
  | refused n ↦ refused n
  | accepted book ↦ unless ((eqb limit 0 || leb MAX limit) refuses 13 ∷ [])
      (record { book = book; clock_limit = limit; mark = 0; tables = []; clock = 0 })
]

pub made_book : (bytes : List ℕ) (limit : ℕ) (F : tables.Forest) (book : books.Book) → forests.make bytes limit ≡ accepted F
    → books.read bytes ≡ accepted book → F.book ≡ book
made_book bytes limit F book e k =
    sym (ap (λ (z : tables.Forest). z.book) (all_pass ((eqb limit 0 || leb MAX limit) refuses 13 ∷ [])
    (record { book = book; clock_limit = limit; mark = 0; tables = []; clock = 0 }) F (sym (ap (making_from limit) k) ∙ e)).1)

pub is_made : (bytes : List ℕ) (limit : ℕ) (m : Made) → MakeSays bytes limit m → m.making ≡ makings.Made
    → forests.make bytes limit ≡ accepted (view m.forest)
is_made bytes limit m says e = sym says.says ∙ ap (λ (z : Making). made_by z (view m.forest)) e

-- what the definitions promise, at that book
abbrev Promised : (level : ℕ → ℕ) (limit : ℕ) (book : books.Book) → List said.Called → Type 0
Promised level limit book told =
    claim.AllSay (In book level) limit false told
    × (claim.exceeded told ≤ length book + clause_count book + claim.all_granted told)

promise : (bytes : List ℕ) (limit : ℕ) (F : tables.Forest) → forests.make bytes limit ≡ accepted F
    → (book : books.Book) → books.read bytes ≡ accepted book → (level : ℕ → ℕ) → Plain book → Levelled book level
    → (cs : List said.Call) (told : List said.Called) → said.calls (said.sitting F) cs ≡ told → Promised level limit book told
promise bytes limit F e book k level plain levelled cs told same =
    subst (λ (z : List said.Called). Promised level limit book z) same
    (subst (λ (b : books.Book). Plain b → Levelled b level → Promised level limit b (said.calls (said.sitting F) cs))
    (made_book bytes limit F book e k) (λ p l. promised.demand_3 bytes limit F e level p l cs) plain levelled)

within : (a b c d : ℕ) → a ≤ b → b ≤ c + d → d ≡ 0 → a ≤ c
within a b c d p q r = omega (arith, p, q, r)

-- what is said of a sitting, at that book
abbrev pub Promise : (level : ℕ → ℕ) (limit : ℕ) (book : books.Book) → List Told → Type 0
Promise level limit book ts =
    AllTell (In book level) limit false ts × (exceeded ts ≤ length book + clause_count book)

-- by `make`
pub sitting_tells : (bytes : List ℕ) (limit : ℕ) (m : Made) → MakeSays bytes limit m → m.making ≡ makings.Made
    → (book : books.Book) → books.read bytes ≡ accepted book → (level : ℕ → ℕ) → Plain book → Levelled book level
    → (ts : List Told) → Sits m.forest ts → Promise level limit book ts
sitting_tells bytes limit m says e book k level plain levelled ts g =
    let s = says.sound in
    let told-as = told_calls m.forest ts in
    let x = promise bytes limit (view m.forest) (is_made bytes limit m says e) book k level plain levelled (map asked ts) told-as
    (sits_calls ts m.forest s g) in
    let y = all_told (In book level) limit ts false m.forest s g x.0 in (
      y.0,
      within (exceeded ts) (claim.exceeded told-as) (length book + clause_count book) (claim.all_granted told-as) y.1 x.1
          (nothing_granted told-as),
    )

-- Through the desk: a forest that is made there is the one that `make` makes.

as_made : (bytes : List ℕ) (limit : ℕ) (m : Made) → MakeAtDeskSays bytes limit m → m.making ≡ makings.Made → MakeSays bytes limit m
as_made bytes limit m says e =
    let is : made_means m ≡ accepted (view m.forest) = ap (λ (z : Making). made_by z (view m.forest)) e in
    record {
      says = is ∙ sym (made_as_read bytes limit (view m.forest) (sym says.says ∙ is));
      sound = says.sound;
      marked = says.marked;
    }

pub either_made : (bytes : List ℕ) (limit : ℕ) (m : Made) → EntrySays bytes limit m → m.making ≡ makings.Made
    → MakeSays bytes limit m
either_made bytes limit m (inl says) e = says
either_made bytes limit m (inr says) e = as_made bytes limit m says e

pub entry_sound : (bytes : List ℕ) (limit : ℕ) (m : Made) → EntrySays bytes limit m → Sound m.forest
entry_sound bytes limit m (inl says) = says.sound
entry_sound bytes limit m (inr says) = says.sound

-- BY ANY STEPS
pub steps_right : AnswersRight
steps_right bytes limit m says e book k level plain levelled ss runs =
    let made = either_made bytes limit m says e in
    tell_so (Promise level limit book) ss m.forest (entry_sound bytes limit m says) runs
    (sitting_tells bytes limit m made e book k level plain levelled)
