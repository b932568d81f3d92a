-- Deciding what a turn does, by reading alone: every stop of a turn is here, 21 to 29, and no assert. A read that always finds
-- something has a default. Tables that are to be made on the way are read as if they were made.
use Rattle.std.specs.Prelude.{ℕ, zero, suc, ◌+◌, ◌*◌, ◌-◌, Bool, true, false, not, ◌&&◌, ◌||◌, List, [], ◌∷◌, map, length, eqb, leb, ltb}
use Rattle.std.proofs.Math.Option.{Option, none, some}
use Rattle.std.proofs.Math.ListN.{get_elem?}
use Rattle.definitions.specs.{TableIndex, TimeStamp, MAX, ExClause, Answer, is_complete}
use Rattle.definitions.specs.Book.{any, Literal, Positive, Negative, goal_of}
use Rattle.definitions.specs.Fitting.{gets_table, is_trivial, is_outsized}
use Rattle.definitions.specs.Stop.{Stops, stop, go, ◌>>=◌, ◌>>◌, stop_if}
use Rattle.definitions.specs.Lists.{is_empty, push, remove, position, any_passes}
use Rattle.definitions.specs.Strand.{SelectedSubgoal, Strand, with_ex_clause, with_selected, with_pursued, with_subgoals, with_ambiguous}
use Rattle.definitions.specs.Strand.{with_answer_time, with_floundered}
use Rattle.sizes.specs.Limits.{most_strands, most_answers}
use Rattle.definitions.specs.Table.{Table, new, equal_answer, answer, next_answer_index}
use Rattle.definitions.specs.Tables.{Forest, index_of, queued, held}
use Rattle.definitions.specs.Stack.{StackEntry, Stack, is_active, top_of_stack_from, active}
use Rattle.definitions.specs.Slg.{next_subgoal_index, delay, apply_answer_subst}
use Rattle.definitions.specs.Logic.{SubGoalSelection, Selected, NotSelected, SolveState, reconsider_floundered_subgoals}
use Rattle.definitions.specs.Logic.{next_answer_strand}
use Rattle.definitions.specs.Turn.{other_than, eligible}
use Rattle.small_steps.specs.Acts.{Origin, was_active, was_queued, Deed, goes_on, gives_up, cycles, pushes, requeues, flounders}
use Rattle.small_steps.specs.Acts.{answers}
use Rattle.small_steps.specs.Acts.{Act, takes, finishes, caller_failed, caller_proved, changes_mode, negative_cycle, clears}
use Rattle.small_steps.specs.Acts.{part_of_cycle}
use Rattle.small_steps.specs.Acts.{built, with_made}

-- Reading.

abbrev pub or : {A : Type 0} → A → Option A → A
or d none = d
or d (some a) = a

abbrev pub no_literal : Literal
no_literal = Positive 0 any false

abbrev pub no_table : Table
no_table = new 0 false

abbrev pub no_selected : SelectedSubgoal
no_selected = record { subgoal_index = 0; subgoal_table = 0; answer_index = 0 }

abbrev pub no_strand : Strand
no_strand = record {
  ex_clause = record {
    subst = record { variant = 0; outsized = false };
    ambiguous =
        false;
    subgoals = [];
    delayed_subgoals = [];
    answer_time = 0;
    floundered_subgoals = [];
  };
  selected_subgoal = none;
  last_pursued_time =
      0;
}

abbrev pub literal_at : ExClause → ℕ → Literal
literal_at x i = or no_literal (get_elem? x.subgoals i)

abbrev pub table_of : Forest → TableIndex → Table
table_of f i = or no_table (get_elem? f.tables i)

-- Choosing a literal.

-- the live strands, queued or active or in hand, and the goals that tables are to be made for
pub record View : Type 0 where
  pub live : ℕ
  pub made : List ℕ

-- `get_or_create_table_for_subgoal`
abbrev pub decide_table : Forest → View → Literal → Stops (Option TableIndex × View)
decide_table f v literal = elim (gets_table literal) [
  | false ↦ go (none, v)
  | true ↦
      let g = with_made f v.made in
      elim (index_of (goal_of literal) g.tables) [
        | some table ↦ go (some table, v)
        | none ↦
            let live = v.live + length (built g.book (goal_of literal)).strands in
            stop_if (ltb most_strands live) 22 >> go (some (length g.tables), record { live = live; made = goal_of literal ∷ v.made })
      ]
]

-- `flounder_subgoal`
abbrev pub with_literal_floundered : ExClause → ℕ → ExClause
with_literal_floundered x i = with_floundered x (remove x.subgoals i)
    (push x.floundered_subgoals (record { floundered_literal = literal_at x i; floundered_time = x.answer_time }))

-- `propagate_floundered_subgoal`
abbrev pub propagated : Strand → SelectedSubgoal → Bool × Strand
propagated s selected = elim (literal_at s.ex_clause selected.subgoal_index) [
  | Positive goal want outsized ↦ (
    false,
    with_ex_clause (with_selected s none)
        (with_literal_floundered s.ex_clause selected.subgoal_index),
  )
  | Negative goal outsized ↦ (true, with_selected s none)
]

pub record Picked : Type 0 where
  pub selection : SubGoalSelection
  pub strand : Strand
  pub view : View

abbrev pub picking : SubGoalSelection → Strand → View → Picked
picking c s v = record { selection = c; strand = s; view = v }

-- `select_subgoal`, a pass at a time
abbrev pub decide_from : ℕ → Forest → View → Strand → Stops Picked
decide_from zero f v s = go (picking NotSelected s v)
decide_from (suc passes) f v s = elim s.selected_subgoal [
  | some selected ↦ elim (table_of (with_made f v.made) selected.subgoal_table).floundered [
    | false ↦ go (picking Selected s v)
    | true ↦ elim (propagated s selected).0 [
      | true ↦ go (picking NotSelected (propagated s selected).1 v)
      | false ↦ decide_from passes f v (propagated s selected).1
    ]
  ]
  | none ↦ elim (is_empty s.ex_clause.subgoals) [
    | true ↦ elim (is_empty s.ex_clause.floundered_subgoals) [
      | true ↦ go (picking NotSelected s v)
      | false ↦
          let x = reconsider_floundered_subgoals s.ex_clause in
          elim (is_empty x.subgoals) [
            | true ↦ go (picking NotSelected (with_ex_clause s (with_ambiguous x true)) v)
            | false ↦ decide_from passes f v (with_ex_clause s x)
          ]
    ]
    | false ↦ do
      let i = next_subgoal_index s.ex_clause
      found ← decide_table f v (literal_at s.ex_clause i)
      elim found.0 [
        | some table ↦ decide_from passes f found.1
            (with_selected s (some (record { subgoal_index = i; subgoal_table = table; answer_index = 0 })))
        | none ↦ decide_from passes f v (with_ex_clause s (with_literal_floundered s.ex_clause i))
      ]
  ]
]

abbrev pub decide_subgoal : Forest → View → Strand → Stops Picked
decide_subgoal f v strand = decide_from (2 * (length strand.ex_clause.subgoals + length strand.ex_clause.floundered_subgoals) + 4)
    f v strand

-- An answer for the selected subgoal.

abbrev pub decide_copy : (live : ℕ) → Strand → SelectedSubgoal → Literal → Answer → Stops (Option Strand)
decide_copy live strand selected (Negative goal outsized) a = go none
decide_copy live strand selected (Positive goal want outsized) a = elim (is_trivial a.variant) [
  | true ↦ go none
  | false ↦ stop_if (ltb most_strands (suc live)) 22 >> go (some (next_answer_strand strand selected))
]

abbrev pub decide_into : (copy : Option Strand) → Strand → Literal → Answer → Stops Deed
decide_into copy strand (Positive goal want outsized) a = do
  applied ← apply_answer_subst (Positive goal want outsized) a strand.ex_clause
  elim applied [
    | none ↦ go (gives_up copy)
    | some x ↦ go (goes_on copy (with_ex_clause strand
        (with_answer_time (with_ambiguous x (x.ambiguous || a.ambiguous)) (suc x.answer_time))))
  ]
decide_into copy strand (Negative goal outsized) a = do
  stop_if (not (is_empty a.delayed_subgoals)) 27
  elim a.ambiguous [
    | false ↦ go (gives_up copy)
    | true ↦ go (goes_on copy (with_ex_clause strand (with_ambiguous strand.ex_clause true)))
  ]

-- `merge_answer_into_strand`, over the top's table
abbrev pub decide_merge : (live : ℕ) → Strand → SelectedSubgoal → Answer → Table → Stops Deed
decide_merge live strand selected a table = elim (is_complete table.answer_mode && a.ambiguous) [
  | true ↦ go (goes_on none (with_ex_clause (with_selected strand none)
      (with_literal_floundered strand.ex_clause selected.subgoal_index)))
  | false ↦ do
    let x = strand.ex_clause
    let literal = literal_at x selected.subgoal_index
    copy ← decide_copy live strand selected literal a
    decide_into copy (with_ex_clause (with_selected strand none) (with_subgoals x (remove x.subgoals selected.subgoal_index)))
        literal a
]

-- Cycles.

-- `on_coinductive_subgoal`
abbrev pub decide_coinductive : Strand → SelectedSubgoal → Literal → Stops Deed
decide_coinductive strand selected (Positive goal want outsized) = do
  x ← delay (goal ∷ []) (with_subgoals strand.ex_clause (remove strand.ex_clause.subgoals selected.subgoal_index))
  go (goes_on none (with_ex_clause (with_selected strand none) x))
decide_coinductive strand selected (Negative goal outsized) = stop 28

-- `top_of_stack_is_coinductive_from`
abbrev pub all_coinductive : Forest → Stack → Bool
all_coinductive f [] = true
all_coinductive f (e ∷ es) = (table_of f e.table).coinductive_goal && all_coinductive f es

abbrev pub decide_cycle : Forest → Stack → Strand → SelectedSubgoal → (depth : ℕ) → Stops Deed
decide_cycle f es strand selected depth = elim (all_coinductive f (top_of_stack_from depth es)) [
  | true ↦ decide_coinductive strand selected (literal_at strand.ex_clause selected.subgoal_index)
  | false ↦ go (cycles strand (literal_at strand.ex_clause selected.subgoal_index)
      (record { positive = or 0 (get_elem? (map (λ e. e.clock) es) depth); negative = MAX }))
]

-- `on_subgoal_selected`, over the selected table
abbrev pub decide_awaiting : (live : ℕ) → Forest → StackEntry → Stack → Strand → SelectedSubgoal → Table → Stops Deed
decide_awaiting live f e es strand selected table = elim (answer table selected.answer_index) [
  | some a ↦ decide_merge live strand selected a (table_of f e.table)
  | none ↦ elim (is_active selected.subgoal_table (e ∷ es)) [
    | some depth ↦ decide_cycle f (e ∷ es) strand selected depth
    | none ↦ stop_if (leb f.clock_limit f.clock) 21 >> go (pushes strand selected.subgoal_table)
  ]
]

abbrev pub decide_selected : (live : ℕ) → Forest → StackEntry → Stack → Strand → Stops Deed
decide_selected live f e es strand = let selected = or no_selected
    strand.selected_subgoal in decide_awaiting live f e es strand selected (table_of f selected.subgoal_table)

-- Answers.

-- `pursue_answer`
abbrev pub decide_answer : (held : ℕ) → Strand → Table → Stops Deed
decide_answer held strand table = do
  let x = strand.ex_clause
  stop_if (not (is_empty x.subgoals)) 25
  elim (is_outsized x.subst) [
    | true ↦ go flounders
    | false ↦
        let a : Answer = record {
          variant = x.subst.variant;
          delayed_subgoals = other_than table.table_goal
              x.delayed_subgoals;
          ambiguous = x.ambiguous;
        } in
        elim (equal_answer a table.answers) [
          | some was ↦ stop_if (was.ambiguous && not a.ambiguous) 26 >> go (gives_up none)
          | none ↦ stop_if (leb most_answers held) 23 >> go (answers a (not x.ambiguous && is_trivial x.subst.variant))
        ]
  ]

-- `on_no_remaining_subgoals`, over the top's table
abbrev pub decide_no_remaining : (held : ℕ) → Strand → Table → Stops Deed
decide_no_remaining held strand table = elim (is_complete table.answer_mode && strand.ex_clause.ambiguous) [
  | true ↦ go (requeues strand)
  | false ↦ decide_answer held strand table
]

-- No strand left.

-- `clear_strands_after_cycle`: which tables lose their queues, the last one first. A table that has lost its queue has no strands.
abbrev pub strands_left : (gone : List TableIndex) → TableIndex → Table → List Strand
strands_left gone i table = elim (any_passes (eqb i) gone) [ true ↦ [] | false ↦ table.strands ]

abbrev pub decide_each : Forest → (clear : List Strand → List TableIndex → Stops (List TableIndex)) → List Strand → List TableIndex
    → Stops (List TableIndex)
decide_each f clear [] gone = go gone
decide_each f clear (s ∷ ss) gone = elim s.selected_subgoal [
  | none ↦ stop 29
  | some selected ↦ do
    gone' ← clear (strands_left gone selected.subgoal_table (table_of f selected.subgoal_table)) (selected.subgoal_table ∷ gone)
    decide_each f clear ss gone'
]

abbrev pub decide_clear : Forest → ℕ → List Strand → List TableIndex → Stops (List TableIndex)
decide_clear f zero strands gone = go gone
decide_clear f (suc depth) strands gone = decide_each f (λ ss g. decide_clear f depth ss g) strands gone

-- the caller's strand, its selected subgoal and that literal
abbrev pub caller_strand : StackEntry → Strand
caller_strand c = or no_strand c.active_strand

abbrev pub selected_of : Strand → SelectedSubgoal
selected_of strand = or no_selected strand.selected_subgoal

abbrev pub selected_literal : Strand → Literal
selected_literal strand = literal_at strand.ex_clause (selected_of strand).subgoal_index

abbrev pub decide_failed : Strand → Literal → Act
decide_failed strand (Positive goal want outsized) = caller_failed
decide_failed strand (Negative goal outsized) = let x = strand.ex_clause in caller_proved
    (with_ex_clause (with_selected strand none) (with_subgoals x (remove x.subgoals (selected_of strand).subgoal_index)))

abbrev pub decide_no_strands : Stack → Act
decide_no_strands [] = finishes
decide_no_strands (e ∷ []) = finishes
decide_no_strands (e ∷ c ∷ es) = decide_failed (caller_strand c) (selected_literal (caller_strand c))

abbrev pub decide_part_of_cycle : Stack → Act
decide_part_of_cycle [] = finishes
decide_part_of_cycle (e ∷ []) = finishes
decide_part_of_cycle (e ∷ c ∷ es) = part_of_cycle (caller_strand c) (selected_literal (caller_strand c))

-- `on_no_strands_left`
abbrev pub decide_idle : SolveState → StackEntry → Table → Stops Act
decide_idle s e table = elim (is_empty table.strands) [
  | true ↦ go (decide_no_strands s.stack)
  | false ↦ elim (is_complete table.answer_mode) [
    | true ↦ go changes_mode
    | false ↦ elim (leb e.clock e.cyclic_minimums.positive && leb e.clock e.cyclic_minimums.negative) [
      | true ↦ elim (ltb e.cyclic_minimums.negative MAX) [
        | true ↦ go negative_cycle
        | false ↦ decide_clear s.forest (suc (queued s.forest - length table.strands)) table.strands
            (e.table ∷ []) >>= λ gone. go (clears gone)
      ]
      | false ↦ go (decide_part_of_cycle s.stack)
    ]
  ]
]

-- The turn.

-- the active strand, or else the first one of the queue that may be taken
abbrev pub decide_strand : StackEntry → Table → Option (Strand × Origin)
decide_strand e table = elim e.active_strand [
  | some strand ↦ some (strand, was_active)
  | none ↦ elim (position (eligible e.clock table.answer_mode) table.strands) [
    | none ↦ none
    | some first ↦ some (or no_strand (get_elem? table.strands first), was_queued first)
  ]
]

abbrev pub decide_deed : (held : ℕ) → Forest → StackEntry → Stack → Picked → Stops Deed
decide_deed held f e es picked =
    let g = with_made f picked.view.made in
    elim picked.selection [
      | Selected ↦ decide_selected picked.view.live g e es picked.strand
      | NotSelected ↦ decide_no_remaining held picked.strand (table_of g e.table)
    ]

abbrev pub decide_on : Forest → StackEntry → Stack → Stops Act
decide_on f e es = elim (decide_strand e (table_of f e.table)) [
  | none ↦ decide_idle (record { forest = f; stack = e ∷ es }) e (table_of f e.table)
  | some taken ↦ do
    picked ← decide_subgoal f (record { live = queued f + active (e ∷ es); made = [] }) (with_pursued taken.0 e.clock)
    deed ← decide_deed (held f) f e es picked
    go (takes taken.1 picked.view.made deed)
]

abbrev pub decide : SolveState → Stops Act
decide s = elim s.stack [ [] ↦ go finishes | e ∷ es ↦ decide_on s.forest e es ]
