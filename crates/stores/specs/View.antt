-- What the stores mean: the tables and the stack of the definitions that they hold.
use Rattle.std.specs.Prelude.{ℕ, zero, suc, Bool, true, false, List, [], ◌∷◌, map, get_or, eqb}
use Rattle.std.proofs.Math.Option.{Option, none, some}
use Rattle.definitions.specs as said
use Rattle.definitions.specs.Strand as held
use Rattle.definitions.specs.Table as table
use Rattle.definitions.specs.Tables as forest
use Rattle.definitions.specs.Stack as stack
use Rattle.laws.specs.Spans.{span}
use Rattle.sizes.specs.Limits.{most_places}
use Rattle.strands.specs.declared.Strand.{Strand}
use Rattle.strands.specs.declared.Answer.{Answer}
use Rattle.strands.specs.declared.Selected.TheVariants.{Nothing}
use Rattle.strands.specs.View.{seen, answer}
use Rattle.stores.specs.declared.queue.Strands.{Strands}
use Rattle.stores.specs.declared.table.Answers.{Answers}
use Rattle.stores.specs.declared.tables.Tables.{Tables}
use Rattle.stores.specs.declared.stack.Stack.{Stack}
use Rattle.stores.specs.Numbers.{waits_fresh, flag}
use Rattle.stores.specs.Places.{ring}

-- what is read past a store's end
abbrev pub unread_strand : Strand
unread_strand = record {
  variant = 0;
  outsized = false;
  ambiguous = false;
  answer_time = 0;
  literal_count = 0;
  floundered_count = 0;
  delayed_count = 0;
  literals = [];
  floundered = [];
  floundered_time = [];
  delayed = [];
  selected = Nothing;
}

abbrev pub unread_answer : Answer
unread_answer = record { variant = 0; ambiguous = false; delayed_count = 0; delayed = [] }

abbrev pub answer_at : Answers → ℕ → said.Answer
answer_at a p = answer (get_or a.answers p unread_answer)

abbrev pub mode : ℕ → said.AnswerMode
mode n = elim (flag n) [ true ↦ said.Complete | false ↦ said.Ambiguous ]

-- A place is FRESH where `waits` says so: nobody has taken it since its table was made, no strand was written there, and `wants` has
-- the number of the clause whose first strand it stands for. What the array of strands has there doesn't count.
abbrev pub is_fresh : Strands → ℕ → Bool
is_fresh s p = eqb (get_or s.waits p 0) waits_fresh

-- the first strands of the clauses, by a clause's number in the book: whoever has the book gives them
abbrev pub FirstStrands : Type 0
FirstStrands = ℕ → held.Strand

abbrev pub strand_by : (unwritten : Bool) → (time : ℕ) → (first : held.Strand) → Strand → held.Strand
strand_by true time first x = held.with_pursued first time
strand_by false time first x = seen time x

module _ (fresh : FirstStrands) where
  -- the strand at a place, with the last pursued time that stands beside it
  abbrev pub strand_at : Strands → ℕ → held.Strand
  strand_at s p = strand_by (is_fresh s p) (get_or s.time p 0) (fresh (get_or s.wants p 0)) (get_or s.strands p unread_strand)

  abbrev pub held_table : Tables → Strands → Answers → ℕ → table.Table
  held_table ts s a t = record {
    table_goal = get_or ts.goal t 0;
    coinductive_goal = flag (get_or ts.coinductive t 0);
    floundered = flag (get_or ts.floundered t 0);
    answers = map (answer_at a) (ring a.places t);
    strands = map (strand_at s) (ring s.places t);
    answer_mode = mode (get_or ts.complete t 0);
  }

  -- THE VIEW of the tables
  abbrev pub tables : Tables → Strands → Answers → forest.Tables
  tables ts s a = span (held_table ts s a) 0 ts.count

  -- an active strand by its place
  abbrev pub active_strand_at : Strands → ℕ → Option held.Strand
  active_strand_at s p = elim (eqb p most_places) [ true ↦ none | false ↦ some (strand_at s p) ]

  abbrev pub entry_at : Stack → Strands → ℕ → stack.StackEntry
  entry_at k s i = record {
    table = get_or k.table i 0;
    clock = get_or k.clock i 0;
    cyclic_minimums = record { positive = get_or k.positive i 0; negative = get_or k.negative i 0 };
    active_strand = active_strand_at s (get_or k.active i 0);
  }

  -- n entries, the topmost first
  abbrev pub entries : Stack → Strands → ℕ → stack.Stack
  entries k s zero = []
  entries k s (suc n) = entry_at k s n ∷ entries k s n

  -- THE VIEW of the stack
  abbrev pub entered : Stack → Strands → stack.Stack
  entered k s = entries k s k.depth

-- the places that the entries hold
abbrev pub active_places : List ℕ → ℕ → List ℕ
active_places active zero = []
active_places active (suc n) = elim (eqb (get_or active n 0) most_places) [
  | true ↦ active_places active n
  | false ↦ get_or active n 0
      ∷ active_places active n
]
