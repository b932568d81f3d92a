-- A search by value: the stores that it holds, one turn of it, and the search put back.
use Rattle.std.specs.Prelude.{ℕ, Bool, true, false, eqb}
use Rattle.definitions.specs.{TimeStamp}
use Rattle.small_steps.specs.Steps.{Standing}
use Rattle.control.specs.declared.performed.Flow.{Flow}
use Rattle.control.specs.declared.performed.Flow.TheVariants as flow
use Rattle.control.specs.TurnWrites.{turn_done, turned, backed}
use Rattle.control.specs.Stores.{Stores, state}
use Rattle.search.specs.declared.solve_state.Search.{Search}
use Rattle.search.specs.declared.solve_state.Turned.{Turned}
use Rattle.search.specs.RootAnswer.{one_more}

-- WHAT IT HOLDS
abbrev pub stores_in : Search → Stores
stores_in s = record {
  book = s.book;
  tables = s.stores.tables;
  strands = s.stores.strands;
  answers = s.stores.answers;
  stack = s.stack;
  clock_limit = s.clock_limit;
  mark = s.mark;
  clock = s.clock;
}

-- the search as the definitions have it between two turns, begun at this clock
abbrev pub standing_in : (first : TimeStamp) → Search → Standing
standing_in first s = record {
  state = state (stores_in s);
  table = s.table;
  index = s.index;
  limit = s.limit;
  done = s.done;
  first = first;
}

-- the search with what a turn writes of these stores; the book, the clock's limit and the mark stay
abbrev pub with_stores : Stores → (done : ℕ) → Search → Search
with_stores z done s = record {
  book = s.book;
  stores = record { tables = z.tables; strands = z.strands; answers = z.answers };
  clock_limit = s.clock_limit;
  mark = s.mark;
  clock = z.clock;
  stack = z.stack;
  table = s.table;
  index = s.index;
  limit = s.limit;
  done = done;
}

-- ONE TURN: a turn that stops leaves the search as it was, and with nothing on the stack it stops with 0, as `top` of the definitions does
abbrev pub is_stop : Flow → Bool
is_stop flow.Continue = false
is_stop flow.ReturnOk = false
is_stop flow.NoMoreSolutions = false
is_stop flow.QuantumExceeded = false
is_stop flow.NegativeCycle = false
is_stop (flow.Stop n) = true

abbrev pub left_by : (stops : Bool) → Search → Search
left_by true s = s
left_by false s = with_stores (turned (stores_in s)) (one_more s.done) s

abbrev pub turn_so : Flow → Search → Turned
turn_so f s = record { flow = f; search = left_by (is_stop f) s }

abbrev pub turn_by : (empty : Bool) → Search → Turned
turn_by true s = turn_so (flow.Stop 0) s
turn_by false s = turn_so (turn_done (stores_in s)).flow s

abbrev pub turn_of : Search → Turned
turn_of s = turn_by (eqb s.stack.depth 0) s

-- THE SEARCH PUT BACK
abbrev pub cut_of : Search → Search
cut_of s = with_stores (backed (stores_in s)) s.done s
