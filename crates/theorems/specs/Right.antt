-- Demand 3 of the code (document 01, (e)): what is claimed of each call on a forest that was made from a plain levelled book, in the code's
-- own results, whichever way they are made (`Steps`). A goal is named through `open`: whatever that gives for it on the forest that the
-- call left. `Promises` has the claim itself.
use Rattle.std.specs.Prelude.{ℕ, ◌+◌, ◌≤◌, Bool, true, false, ◌||◌, ◌⊎◌, List, [], ◌∷◌, ◌≡◌, length}
use Rattle.definitions.specs.Book as books
use Rattle.definitions.specs.Book.{clause_count}
use Rattle.definitions.specs.Refusal.{accepted}
use Rattle.papers.specs.Model.{Plain, Levelled, In}
use Rattle.forest.specs.declared.Forest.{Forest}
use Rattle.forest.specs.declared.make.Made.{Made}
use Rattle.forest.specs.declared.make.Making.TheVariants as makings
use Rattle.forest.specs.declared.open.Opened.{Opened}
use Rattle.forest.specs.declared.open.Opening.{Opening}
use Rattle.forest.specs.declared.open.Opening.TheVariants as openings
use Rattle.forest.specs.declared.searches.Outcome.{Outcome}
use Rattle.forest.specs.declared.searches.Outcome.TheVariants as outcomes
use Rattle.forest.specs.Make.{MakeSays, MakeAtDeskSays}
use Rattle.forest.specs.Open.{OpenSays}
use Rattle.forest.specs.Sittings.{Told, opens, searches, peeks, asks_future}
use Rattle.theorems.specs.Steps.{Step, Runs, TellSo}

-- an open of this goal gives this table, whatever else it gives (crate `forest`: `open` gives a result with this contract for every forest)
abbrev pub NamesGoal : Forest → (table goal : ℕ) → Type 0
NamesGoal f t goal = (r : Opened) → OpenSays f goal r → r.opening ≡ openings.Table t

-- there is such a goal, and what is said of it is true of any for which an open gives the table
abbrev pub NamedGoal : Forest → (table : ℕ) → (ℕ → Type 0) → Type 0
NamedGoal f t Is =
    ((goal : ℕ) × NamesGoal f t goal)
    × ((goal : ℕ) (r : Opened) → OpenSays f goal r → r.opening ≡ openings.Table t → Is goal)

-- After a stop every open, search and peek gets 20.
abbrev pub MarkedTells : Told → Type 0
MarkedTells (opens goal r) = r.opening ≡ openings.Refused 20
MarkedTells (searches table index limit r) = r.outcome ≡ outcomes.Refused 20
MarkedTells (peeks table index rounds limit r) = r.outcome ≡ outcomes.Refused 20
MarkedTells (asks_future table index variant r) = Unit {0}

abbrev pub is_stopped : Outcome → Bool
is_stopped (outcomes.Refused n) = false
is_stopped (outcomes.Found variant ambiguous) = false
is_stopped outcomes.NoMoreSolutions = false
is_stopped outcomes.Floundered = false
is_stopped outcomes.QuantumExceeded = false
is_stopped outcomes.NegativeCycle = false
is_stopped outcomes.InvalidAnswer = false
is_stopped outcomes.Cut = false
is_stopped (outcomes.Stopped n) = true

abbrev pub opening_stopped : Opening → Bool
opening_stopped (openings.Refused n) = false
opening_stopped (openings.Table t) = false
opening_stopped (openings.Stopped n) = true

abbrev pub stops : Told → Bool
stops (opens goal r) = opening_stopped r.opening
stops (searches table index limit r) = is_stopped r.outcome
stops (peeks table index rounds limit r) = is_stopped r.outcome
stops (asks_future table index variant r) = false

-- `I` are the goals that are in the model, and `clock_limit` is the limit given at making.
module _ (I : ℕ → Type 0) (clock_limit : ℕ) where
  -- an open is refused by 9 alone, and never stops
  abbrev pub OpeningSays : Opening → Type 0
  OpeningSays (openings.Refused n) = n ≡ 9
  OpeningSays (openings.Table t) = Unit {0}
  OpeningSays (openings.Stopped n) = ⊥

  -- a search or peek of table t, at the index asked for, with a peek the one at which it ended; f is the forest that it left. Every answer
  -- is in the model and unambiguous; every "no more solutions" at index 0 is not in it; nothing is floundered, cyclic or invalid; 21 is the
  -- only stop, and comes only with the clock at its limit.
  abbrev pub OutcomeSays : Forest → (table index : ℕ) → Outcome → Type 0
  OutcomeSays f t i (outcomes.Refused n) = (n ≡ 10) ⊎ (n ≡ 11) ⊎ (n ≡ 12)
  OutcomeSays f t i (outcomes.Found variant ambiguous) = (ambiguous ≡ false) × NamedGoal f t I
  OutcomeSays f t i outcomes.NoMoreSolutions = i ≡ 0 → NamedGoal f t (λ goal. I goal → ⊥)
  OutcomeSays f t i outcomes.Floundered = ⊥
  OutcomeSays f t i outcomes.QuantumExceeded = Unit {0}
  OutcomeSays f t i outcomes.NegativeCycle = ⊥
  OutcomeSays f t i outcomes.InvalidAnswer = ⊥
  OutcomeSays f t i outcomes.Cut = Unit {0}
  OutcomeSays f t i (outcomes.Stopped n) = (n ≡ 21) × (f.clock ≡ clock_limit)

  -- what a call gave, on a forest that no stop has marked; of `any_future_answer` nothing is said
  abbrev pub UnmarkedSays : Told → Type 0
  UnmarkedSays (opens goal r) = OpeningSays r.opening
  UnmarkedSays (searches table index limit r) = OutcomeSays r.forest table index r.outcome
  UnmarkedSays (peeks table index rounds limit r) = OutcomeSays r.forest table r.index r.outcome
  UnmarkedSays (asks_future table index variant r) = Unit {0}

  abbrev pub TellSays : (marked : Bool) → Told → Type 0
  TellSays true t = MarkedTells t
  TellSays false t = UnmarkedSays t

  -- every call of the sitting
  abbrev pub AllTell : (marked : Bool) → List Told → Type 0
  AllTell marked [] = Unit {0}
  AllTell marked (t ∷ ts) = TellSays marked t × AllTell (marked || stops t) ts

-- The searches that ended in QuantumExceeded: each search of the sitting, and those that a peek counted.
abbrev pub exceeded_by : Outcome → ℕ
exceeded_by (outcomes.Refused n) = 0
exceeded_by (outcomes.Found variant ambiguous) = 0
exceeded_by outcomes.NoMoreSolutions = 0
exceeded_by outcomes.Floundered = 0
exceeded_by outcomes.QuantumExceeded = 1
exceeded_by outcomes.NegativeCycle = 0
exceeded_by outcomes.InvalidAnswer = 0
exceeded_by outcomes.Cut = 0
exceeded_by (outcomes.Stopped n) = 0

abbrev pub exceeded_in : Told → ℕ
exceeded_in (opens goal r) = 0
exceeded_in (searches table index limit r) = exceeded_by r.outcome
exceeded_in (peeks table index rounds limit r) = r.exceeded
exceeded_in (asks_future table index variant r) = 0

abbrev pub exceeded : List Told → ℕ
exceeded [] = 0
exceeded (t ∷ ts) = exceeded_in t + exceeded ts

-- The allowance: how many more searches a result lets end so. None grants any.
abbrev pub granted : Told → ℕ
granted (opens goal r) = 0
granted (searches table index limit r) = 0
granted (peeks table index rounds limit r) = 0
granted (asks_future table index variant r) = 0

abbrev pub all_granted : List Told → ℕ
all_granted [] = 0
all_granted (t ∷ ts) = granted t + all_granted ts

-- what an entry may have given: `make` or `make_at_desk`
abbrev pub EntrySays : (bytes : List ℕ) → (clock_limit : ℕ) → Made → Type 0
EntrySays bytes limit m = MakeSays bytes limit m ⊎ MakeAtDeskSays bytes limit m

-- NO ASSERT: what stops has a number of document 01, and a peek never gives InvalidAnswer
abbrev pub TellsNoAssert : Told → Type 0
TellsNoAssert (opens goal r) = r.opening ≡ openings.Stopped 0 → ⊥
TellsNoAssert (searches table index limit r) = r.outcome ≡ outcomes.Stopped 0 → ⊥
TellsNoAssert (peeks table index rounds limit r) = (r.outcome ≡ outcomes.Stopped 0 → ⊥) × (r.outcome ≡ outcomes.InvalidAnswer → ⊥)
TellsNoAssert (asks_future table index variant r) = Unit {0}

abbrev pub AllTellNoAssert : List Told → Type 0
AllTellNoAssert [] = Unit {0}
AllTellNoAssert (t ∷ ts) = TellsNoAssert t × AllTellNoAssert ts

-- DEMAND 3 OF THE CODE with an allowance in the bound (`Promises` says it without): for every byte string and clock limit for which a
-- forest was made, through either entry, every levelling of its book and every sequence of steps
abbrev pub Demand3 : Type 0
Demand3 =
    (bytes : List ℕ) (clock_limit : ℕ) (m : Made) → EntrySays bytes clock_limit m → m.making ≡ makings.Made →
    (book : books.Book) → books.read bytes ≡ accepted book → (level : ℕ → ℕ) → Plain book → Levelled book level →
    (ss : List Step) → Runs m.forest ss →
    TellSo m.forest ss (λ ts.
    AllTell (In book level) clock_limit false ts × (exceeded ts ≤ length book + clause_count book + all_granted ts))
