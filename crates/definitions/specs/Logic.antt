-- logic.rs, first half: making tables, choosing a literal, unwinding, and taking an answer into a strand. Names and order of
-- statements are the Rust's; callees stand first. `stop 0` stands for the asserts and unwraps that are never met.
use Rattle.std.specs.Prelude.{ℕ, zero, suc, ◌+◌, ◌*◌, Bool, true, false, not, ◌&&◌, ◌||◌, [], ◌∷◌, map, length, ltb}
use Rattle.std.proofs.Math.Option.{Option, none, some}
use Rattle.std.proofs.Math.ListN.{get_elem?}
use Rattle.sizes.specs.Limits.{most_strands}
use Rattle.definitions.specs.{TableIndex, FlounderedSubgoal, ExClause, Answer, is_complete}
use Rattle.definitions.specs.Book.{Literal, Positive, Negative, Clause, Book, goal_of}
use Rattle.definitions.specs.Fitting.{gets_table, is_trivial}
use Rattle.definitions.specs.Stop.{Stops, stop, go, ◌>>=◌, ◌>>◌, stop_if, unwrap}
use Rattle.definitions.specs.Lists.{push, is_empty, remove, swap_remove}
use Rattle.definitions.specs.Strand.{SelectedSubgoal, Strand, with_ex_clause, with_selected}
use Rattle.definitions.specs.Strand.{with_subgoals, with_ambiguous, with_answer_time, with_floundered}
use Rattle.definitions.specs.Table.{Table, new, with_strands, enqueue_strand, mark_floundered}
use Rattle.definitions.specs.Tables.{insert_table, index_of, Forest, with_tables, table_at, change_table, queued}
use Rattle.definitions.specs.Stack.{Stack, with_active, top, change_top, active}
use Rattle.definitions.specs.Slg.{next_subgoal_index, resolvent_clause, apply_answer_subst}

-- `RootSearchFail`
pub data RootSearchFail : Type 0 where
  NoMoreSolutions : RootSearchFail
  Floundered : RootSearchFail
  QuantumExceeded : RootSearchFail
  NegativeCycle : RootSearchFail
  InvalidAnswer : RootSearchFail

-- `SubGoalSelection`
pub data SubGoalSelection : Type 0 where
  Selected : SubGoalSelection
  NotSelected : SubGoalSelection

-- `SolveState`
pub record SolveState : Type 0 where
  pub forest : Forest
  pub stack : Stack

abbrev pub with_forest : SolveState → Forest → SolveState
with_forest s f = record { forest = f; stack = s.stack }

-- What a turn comes to: the loop goes on, or `ensure_root_answer` returns Ok or Err.
pub data Flow : Type 0 where
  continue : SolveState → Flow
  return_ok : SolveState → Flow
  return_err : RootSearchFail → SolveState → Flow

-- Tables for goals.

abbrev pub initial_strand : Clause → Strand
initial_strand c = record { ex_clause = resolvent_clause c; selected_subgoal = none; last_pursued_time = 0 }

-- `build_table`: a floundered goal's table has no strands, though the goal has clauses
abbrev pub build_table : Book → (goal : ℕ) → Stops Table
build_table book goal = do
  g ← unwrap (get_elem? book goal)
  let table = new goal g.coinductive
  elim g.floundered [
    | true ↦ go (mark_floundered table)
    | false ↦ go (with_strands table (map initial_strand g.clauses))
  ]

-- `get_or_create_table_for_ucanonical_goal`. `others` are the live strands that are in no queue: 22 is tested when the table is built.
abbrev pub get_or_create_table_for_ucanonical_goal : (others : ℕ) → Forest → (goal : ℕ) → Stops (TableIndex × Forest)
get_or_create_table_for_ucanonical_goal others f goal = elim (index_of goal f.tables) [
  | some table ↦ go (table, f)
  | none ↦ do
    table ← build_table f.book goal
    let grown = with_tables f (insert_table table f.tables)
    stop_if (ltb most_strands (others + queued grown)) 22
    go (length f.tables, grown)
]

-- `get_or_create_table_for_subgoal`
abbrev pub get_or_create_table_for_subgoal : (others : ℕ) → Forest → Literal → Stops (Option TableIndex × Forest)
get_or_create_table_for_subgoal others f literal = elim (gets_table literal) [
  | false ↦ go (none, f)
  | true ↦ do
    found ← get_or_create_table_for_ucanonical_goal others f (goal_of literal)
    go (some found.0, found.1)
]

-- Choosing a literal.

-- `flounder_subgoal`
abbrev pub flounder_subgoal : ExClause → (subgoal_index : ℕ) → Stops ExClause
flounder_subgoal x i = do
  literal ← unwrap (get_elem? x.subgoals i)
  let floundered : FlounderedSubgoal = record { floundered_literal = literal; floundered_time = x.answer_time }
  go (with_floundered x (remove x.subgoals i) (push x.floundered_subgoals floundered))

-- The loop of `reconsider_floundered_subgoals`, at index i - 1 and down to 0. Each pass finds its literal, on any clause (`NeverAsserts` of
-- crate asserts): where none is found the Rust would panic.
abbrev pub reconsider_from : ℕ → ExClause → ExClause
reconsider_from zero x = x
reconsider_from (suc i) x = elim (get_elem? x.floundered_subgoals i) [
  | none ↦ reconsider_from i x
  | some f ↦ elim (ltb f.floundered_time x.answer_time) [
    | true ↦ reconsider_from i (with_floundered x (push x.subgoals f.floundered_literal) (swap_remove x.floundered_subgoals i))
    | false ↦ reconsider_from i x
  ]
]

-- `reconsider_floundered_subgoals`: a floundered literal returns only if its time is below the strand's answer time
abbrev pub reconsider_floundered_subgoals : ExClause → ExClause
reconsider_floundered_subgoals x = reconsider_from (length x.floundered_subgoals) x

-- `propagate_floundered_subgoal`: whether the strand flounders, and the strand
abbrev pub propagate_floundered_subgoal : Strand → SelectedSubgoal → Stops (Bool × Strand)
propagate_floundered_subgoal s selected = do
  let rest = with_selected s none
  literal ← unwrap (get_elem? rest.ex_clause.subgoals selected.subgoal_index)
  elim literal [
    | Positive goal want outsized ↦ do
      x ← flounder_subgoal rest.ex_clause selected.subgoal_index
      go (false, with_ex_clause rest x)
    | Negative goal outsized ↦ go (true, rest)
  ]

-- What `select_subgoal` leaves: the choice, the strand, and the forest, which may have new tables.
pub record Selection : Type 0 where
  pub selection : SubGoalSelection
  pub strand : Strand
  pub forest : Forest

abbrev pub selecting : SubGoalSelection → Strand → Forest → Selection
selecting c s f = record { selection = c; strand = s; forest = f }

-- The two loops of `select_subgoal` as one: a pass with nothing selected is one of the inner `while`, a pass with something selected is
-- what follows the `while` in the outer `loop`. The Rust leaves the `while` exactly when something is selected, and its `continue`s lead to
-- the test of the `while` again, so that the field tells where it stands.
-- The first number bounds the passes. In one call a literal is floundered at most once, since one that is has the strand's answer time
-- and does not return; that takes two passes at most, one that selects it and one that flounders it. One pass more brings literals back,
-- and one ends the choice. So twice the literals and floundered ones, and two, are enough; `select_subgoal` gives two more.
abbrev pub select_from : ℕ → (others : ℕ) → Forest → Strand → Stops Selection
select_from zero others f s = stop 0
select_from (suc passes) others f s = elim s.selected_subgoal [
  | some selected ↦ do
    table ← table_at f selected.subgoal_table
    elim table.floundered [
      | false ↦ go (selecting Selected s f)
      | true ↦ do
        propagated ← propagate_floundered_subgoal s selected
        elim propagated.0 [ true ↦ go (selecting NotSelected propagated.1 f) | false ↦ select_from passes others f propagated.1 ]
    ]
  | none ↦ elim (is_empty s.ex_clause.subgoals) [
    | true ↦ elim (is_empty s.ex_clause.floundered_subgoals) [
      | true ↦ go (selecting NotSelected s f)
      | false ↦
          let x = reconsider_floundered_subgoals s.ex_clause in
          elim (is_empty x.subgoals) [
            | true ↦ do
              stop_if (is_empty x.floundered_subgoals) 0
              go (selecting NotSelected (with_ex_clause s (with_ambiguous x true)) f)
            | false ↦ select_from passes others f (with_ex_clause s x)
          ]
    ]
    | false ↦ do
      let i = next_subgoal_index s.ex_clause
      literal ← unwrap (get_elem? s.ex_clause.subgoals i)
      found ← get_or_create_table_for_subgoal others f literal
      elim found.0 [
        | some table ↦ do
          let selected : SelectedSubgoal = record { subgoal_index = i; subgoal_table = table; answer_index = 0 }
          select_from passes others found.1 (with_selected s (some selected))
        | none ↦ do
          x ← flounder_subgoal s.ex_clause i
          select_from passes others f (with_ex_clause s x)
      ]
  ]
]

-- `select_subgoal`, of the strand in hand
abbrev pub select_subgoal : SolveState → Strand → Stops Selection
select_subgoal s strand =
    let literals = length strand.ex_clause.subgoals + length strand.ex_clause.floundered_subgoals in
    select_from (2 * literals + 4) (active s.stack + 1) s.forest strand

-- Unwinding.

-- the loop of `unwind_stack`: the callers' strands go back to their tables, at the end of the queue
abbrev pub unwind_callers : Forest → Stack → Stops Forest
unwind_callers f [] = go f
unwind_callers f (c ∷ es) = do
  s ← unwrap c.active_strand
  f' ← change_table f c.table (enqueue_strand s)
  unwind_callers f' es

-- `unwind_stack`
abbrev pub unwind_stack : SolveState → Stops SolveState
unwind_stack s = elim s.stack [
  | [] ↦ go s
  | e ∷ es ↦ unwind_callers s.forest es >>= λ f. go (record { forest = f; stack = [] })
]

-- `Drop` of SolveState: the top's active strand goes back, then the callers'
abbrev pub drop_state : SolveState → Stops Forest
drop_state s = elim s.stack [
  | [] ↦ go s.forest
  | e ∷ es ↦ elim e.active_strand [
    | none ↦ unwind_callers s.forest es
    | some strand ↦ change_table s.forest e.table (enqueue_strand strand) >>= λ f. unwind_callers f es
  ]
]

-- a search that gives up: the stack is unwound, and `ensure_root_answer` returns the failure
abbrev pub unwound : RootSearchFail → SolveState → Stops Flow
unwound e s = unwind_stack s >>= λ u. go (return_err e u)

abbrev pub enqueue_at_top : SolveState → Strand → Stops SolveState
enqueue_at_top s strand = do
  e ← top s.stack
  f ← change_table s.forest e.table (enqueue_strand strand)
  go (with_forest s f)

abbrev pub activate : SolveState → Strand → Stops SolveState
activate s strand = do
  es ← change_top s.stack (λ e. with_active e (some strand))
  go (record { forest = s.forest; stack = es })

-- An answer for the selected subgoal.

-- What merging leaves: the strand to go on with, which has the answer in it or its literal floundered, or a search that is given up.
pub data Merge : Type 0 where
  merged : Strand → SolveState → Merge
  failed : SolveState → Merge

-- the copy of the strand for the next answer. It keeps the last pursued time, so that this stack entry won't take it again.
abbrev pub next_answer_strand : Strand → SelectedSubgoal → Strand
next_answer_strand s selected = with_selected s (some (record {
  subgoal_index = selected.subgoal_index;
  subgoal_table = selected.subgoal_table;
  answer_index = suc selected.answer_index;
}))

-- 22 is tested when the copy is queued; the strand in hand counts
abbrev pub enqueue_next_answer : SolveState → Strand → SelectedSubgoal → Literal → Answer → Stops SolveState
enqueue_next_answer s strand selected (Negative goal outsized) a = go s
enqueue_next_answer s strand selected (Positive goal want outsized) a = elim (is_trivial a.variant) [
  | true ↦ go s
  | false ↦ do
    s'' ← enqueue_at_top s (next_answer_strand strand selected)
    stop_if (ltb most_strands (queued s''.forest + active s''.stack + 1)) 22
    go s''
]

-- a strand and a search that are given up
abbrev pub no_solution : SolveState → Stops Merge
no_solution s = unwind_stack s >>= λ u. go (failed u)

-- the answer is taken into the strand, whose literal is removed. Answer time rises on positive literals alone.
abbrev pub merge_into : SolveState → Strand → Literal → Answer → Stops Merge
merge_into s strand (Positive goal want outsized) a = do
  applied ← apply_answer_subst (Positive goal want outsized) a strand.ex_clause
  elim applied [
    | none ↦ no_solution s
    | some x ↦ do
      let marked = with_ambiguous x (x.ambiguous || a.ambiguous)
      go (merged (with_ex_clause strand (with_answer_time marked (suc x.answer_time))) s)
  ]
merge_into s strand (Negative goal outsized) a = do
  stop_if (not (is_empty a.delayed_subgoals)) 27
  elim a.ambiguous [
    | false ↦ no_solution s
    | true ↦ go (merged (with_ex_clause strand (with_ambiguous strand.ex_clause true)) s)
  ]

-- `merge_answer_into_strand`
abbrev pub merge_answer_into_strand : SolveState → Strand → SelectedSubgoal → Answer → Stops Merge
merge_answer_into_strand s strand selected a = do
  e ← top s.stack
  table ← table_at s.forest e.table
  elim (is_complete table.answer_mode && a.ambiguous) [
    | true ↦ do
      x ← flounder_subgoal strand.ex_clause selected.subgoal_index
      go (merged (with_ex_clause (with_selected strand none) x) s)
    | false ↦ do
      literal ← unwrap (get_elem? strand.ex_clause.subgoals selected.subgoal_index)
      s'' ← enqueue_next_answer s strand selected literal a
      let x = strand.ex_clause
      let x' = with_subgoals x (remove x.subgoals selected.subgoal_index)
      merge_into s'' (with_ex_clause (with_selected strand none) x') literal a
  ]
