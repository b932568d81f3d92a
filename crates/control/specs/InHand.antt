-- Stores while a turn is done: what is lent of them, and when they are sound with places in hand.
use Rattle.std.specs.Prelude.{ℕ, ◌<◌, List, ◌∷◌, ◌++◌, get_or}
use Rattle.definitions.specs.Logic as logic
use Rattle.definitions.specs.Logic.{SolveState, continue, return_ok, return_err}
use Rattle.definitions.specs.Stop.{Stops, stop, go}
use Rattle.stores.specs.declared.queue.Strands.{Strands}
use Rattle.stores.specs.declared.stack.Stack.{Stack}
use Rattle.stores.specs.declared.table.Answers.{Answers}
use Rattle.stores.specs.declared.tables.Tables.{Tables}
use Rattle.stores.specs.Sound.{SoundTables, SoundStrands, SoundAnswers, SoundStack}
use Rattle.stores.specs.View.{entry_at, entries}
use Rattle.control.specs.declared.performed.Flow.{Flow}
use Rattle.control.specs.declared.performed.Flow.TheVariants as flow
use Rattle.control.specs.PerformStrand.{Lent, lent_of}
use Rattle.control.specs.Stores.{Stores, first_strands, forest, held_places}

-- THE STORES by what is lent of them
abbrev pub lent : Stores → Lent
lent z = lent_of z.tables z.strands z.answers z.stack z.clock

abbrev pub with_lent : Lent → Stores → Stores
with_lent w z = record {
  book = z.book;
  tables = w.tables;
  strands = w.strands;
  answers = w.answers;
  stack = w.stack;
  clock_limit = z.clock_limit;
  mark = z.mark;
  clock = w.clock;
}

abbrev pub with_tables : Tables → Stores → Stores
with_tables ts z = with_lent (lent_of ts z.strands z.answers z.stack z.clock) z

abbrev pub with_strands : Strands → Stores → Stores
with_strands s z = with_lent (lent_of z.tables s z.answers z.stack z.clock) z

abbrev pub with_answers : Answers → Stores → Stores
with_answers a z = with_lent (lent_of z.tables z.strands a z.stack z.clock) z

abbrev pub with_stack : Stack → Stores → Stores
with_stack k z = with_lent (lent_of z.tables z.strands z.answers k z.clock) z

-- SOUND, with these places in hand: they are in nobody's ring and in no entry
pub record Sounds (hand : List ℕ) (z : Stores) : Type 0 where
  pub tables : SoundTables z.tables
  pub strands : SoundStrands (first_strands z.book) z.strands z.tables.count (hand ++ held_places z)
  pub answers : SoundAnswers z.answers z.tables.count
  pub stack : SoundStack z.stack
  pub made : (i : ℕ) → i < z.stack.depth → get_or z.stack.table i 0 < z.tables.count

-- the state with n entries below the top
abbrev pub state_above : (n : ℕ) → Stores → SolveState
state_above n z = record {
  forest = forest z;
  stack = entry_at (first_strands z.book) z.stack z.strands n ∷ entries (first_strands z.book) z.stack z.strands n;
}

-- HOW A TURN ENDS, over the state that it leaves
abbrev pub flows : Flow → SolveState → Stops logic.Flow
flows flow.Continue s = go (continue s)
flows flow.ReturnOk s = go (return_ok s)
flows flow.NoMoreSolutions s = go (return_err logic.NoMoreSolutions s)
flows flow.QuantumExceeded s = go (return_err logic.QuantumExceeded s)
flows flow.NegativeCycle s = go (return_err logic.NegativeCycle s)
flows (flow.Stop n) s = stop n
