-- slg.rs and slg/resolvent.rs, in book terms: which literal is next, the strand of a clause, and an answer taken into a strand.
use Rattle.std.specs.Prelude.{ℕ, ◌+◌, ◌-◌, true, false, List, [], ◌++◌, length, ltb}
use Rattle.std.proofs.Math.Option.{Option, none, some}
use Rattle.definitions.specs.{ExClause, Answer}
use Rattle.definitions.specs.Book.{Literal, Clause}
use Rattle.definitions.specs.Fitting.{answer_fits}
use Rattle.definitions.specs.Stop.{Stops, stop, go, ◌>>◌, stop_if}
use Rattle.definitions.specs.Strand.{with_delayed}

-- `next_subgoal_index`: the last literal is chosen
abbrev pub next_subgoal_index : ExClause → ℕ
next_subgoal_index x = length x.subgoals - 1

-- `resolvent_clause`
abbrev pub resolvent_clause : Clause → ExClause
resolvent_clause c = record {
  subst = record { variant = c.variant; outsized = c.outsized };
  ambiguous = c.cannot_prove;
  subgoals = c.literals;
  delayed_subgoals = [];
  answer_time = 0;
  floundered_subgoals = [];
}

-- the most delayed goals that a strand holds
abbrev pub most_delayed : ℕ
most_delayed = 8

-- 24 is the ninth delayed goal, repeats and the table's own included
abbrev pub delay : List ℕ → ExClause → Stops ExClause
delay goals x = do
  stop_if (ltb most_delayed (length x.delayed_subgoals + length goals)) 24
  go (with_delayed x (x.delayed_subgoals ++ goals))

-- `apply_answer_subst`: none is NoSolution. The strand keeps its own variant and takes the answer's delayed goals.
abbrev pub apply_answer_subst : Literal → Answer → ExClause → Stops (Option ExClause)
apply_answer_subst l a x = elim (answer_fits l a.variant) [
  | false ↦ go none
  | true ↦ elim (delay a.delayed_subgoals x) [ stop n ↦ stop n | go x' ↦ go (some x') ]
]
