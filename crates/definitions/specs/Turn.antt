-- logic.rs, second half: cycles, answers, the turn and the search. A turn is one pass of the loop in `ensure_root_answer`.
use Rattle.std.specs.Prelude.{ℕ, zero, suc, Bool, true, false, not, ◌&&◌, List, [], ◌∷◌, map, eqb, leb, ltb}
use Rattle.std.proofs.Math.Option.{Option, none, some}
use Rattle.std.proofs.Math.ListN.{get_elem?}
use Rattle.definitions.specs.{TableIndex, TimeStamp, MAX, Answer, CompleteAnswer, AnswerMode, Ambiguous, is_complete}
use Rattle.definitions.specs.{Minimums, minimums_MAX, take_minimums, minimum_of_pos_and_neg}
use Rattle.definitions.specs.Book.{any, Literal, Positive, Negative}
use Rattle.definitions.specs.Fitting.{is_trivial, is_outsized}
use Rattle.definitions.specs.Stop.{Stops, stop, go, ◌>>=◌, ◌>>◌, stop_if, unwrap}
use Rattle.definitions.specs.Lists.{is_empty, remove}
use Rattle.definitions.specs.Strand.{SelectedSubgoal, Strand, with_ex_clause, with_selected, with_pursued, with_subgoals}
use Rattle.definitions.specs.Table.{Table, with_mode, enqueue_strand, take_strands, dequeue_next_strand_that, mark_floundered}
use Rattle.definitions.specs.Table.{push_answer, answer, next_answer_index}
use Rattle.definitions.specs.Tables.{Forest, with_mark, table_at, change_table, increment_clock, queued, held}
use Rattle.definitions.specs.Stack.{StackEntry, Stack, with_active, with_minimums, is_active, top_of_stack_from, top, change_top}
use Rattle.definitions.specs.Stack.{push_entry, no_caller, caller, pop_and_take_caller_strand, pop_and_borrow_caller_strand}
use Rattle.definitions.specs.Slg.{delay}
use Rattle.definitions.specs.Logic.{RootSearchFail, NoMoreSolutions, Floundered, QuantumExceeded, NegativeCycle, InvalidAnswer}
use Rattle.definitions.specs.Logic.{Selected, NotSelected, SolveState, with_forest, Flow, continue, return_ok, return_err}
use Rattle.definitions.specs.Logic.{select_subgoal, drop_state, unwound, enqueue_at_top, activate}
use Rattle.definitions.specs.Logic.{merged, failed, merge_answer_into_strand}

-- Cycles.

-- `on_coinductive_subgoal`: the subgoal is delayed; 28 through a "not"
abbrev pub on_coinductive_subgoal : SolveState → Strand → SelectedSubgoal → Stops Flow
on_coinductive_subgoal s strand selected = do
  literal ← unwrap (get_elem? strand.ex_clause.subgoals selected.subgoal_index)
  elim literal [
    | Positive goal want outsized ↦ do
      e ← top s.stack
      table ← table_at s.forest e.table
      subgoal_table ← table_at s.forest selected.subgoal_table
      stop_if (not (table.coinductive_goal && subgoal_table.coinductive_goal)) 0
      x ← delay (goal ∷ []) (with_subgoals strand.ex_clause (remove strand.ex_clause.subgoals selected.subgoal_index))
      s'' ← activate s (with_ex_clause (with_selected strand none) x)
      go (continue s'')
    | Negative goal outsized ↦ stop 28
  ]

-- what a cycle with these minimums, met through the literal, means to an entry
abbrev pub cycle_minimums : Literal → Minimums → StackEntry → StackEntry
cycle_minimums (Positive goal want outsized) m e = with_minimums e (take_minimums e.cyclic_minimums m)
cycle_minimums (Negative goal outsized) m e =
    with_minimums e (take_minimums e.cyclic_minimums (record { positive = e.clock; negative = minimum_of_pos_and_neg m }))

-- `on_positive_cycle`: the strand goes back to its table
abbrev pub on_positive_cycle : SolveState → Strand → SelectedSubgoal → Minimums → Stops Flow
on_positive_cycle s strand selected m = do
  literal ← unwrap (get_elem? strand.ex_clause.subgoals selected.subgoal_index)
  es ← change_top s.stack (cycle_minimums literal m)
  s'' ← enqueue_at_top (record { forest = s.forest; stack = es }) strand
  go (continue s'')

-- `top_of_stack_is_coinductive_from`
abbrev pub coinductive_entries : Forest → Stack → Stops Bool
coinductive_entries f [] = go true
coinductive_entries f (e ∷ es) = do
  table ← table_at f e.table
  others ← coinductive_entries f es
  go (table.coinductive_goal && others)

abbrev pub top_of_stack_is_coinductive_from : SolveState → (depth : ℕ) → Stops Bool
top_of_stack_is_coinductive_from s depth = coinductive_entries s.forest (top_of_stack_from depth s.stack)

-- a table that stands on the stack already, at that depth
abbrev pub on_cycle : SolveState → Strand → SelectedSubgoal → (depth : ℕ) → Stops Flow
on_cycle s strand selected depth = do
  entry ← unwrap (get_elem? s.stack depth)
  coinductive ← top_of_stack_is_coinductive_from s depth
  elim coinductive [
    | true ↦ on_coinductive_subgoal s strand selected
    | false ↦ on_positive_cycle s strand selected (record { positive = entry.clock; negative = MAX })
  ]

-- `on_subgoal_selected`
abbrev pub on_subgoal_selected : SolveState → Strand → Stops Flow
on_subgoal_selected s strand = do
  selected ← unwrap strand.selected_subgoal
  table ← table_at s.forest selected.subgoal_table
  stop_if table.floundered 0
  elim (answer table selected.answer_index) [
    | some a ↦ do
      merge ← merge_answer_into_strand s strand selected a
      elim merge [
        | failed s'' ↦ go (return_err QuantumExceeded s'')
        | merged strand' s'' ↦ activate s'' strand' >>= λ s'''. go (continue s''')
      ]
    | none ↦ do
      stop_if (not (eqb (next_answer_index table) selected.answer_index)) 0
      elim (is_active selected.subgoal_table s.stack) [
        | some depth ↦ on_cycle s strand selected depth
        | none ↦ do
          s'' ← activate s strand
          f ← increment_clock s''.forest
          go (continue (record { forest = f; stack = push_entry selected.subgoal_table minimums_MAX f.clock s''.stack }))
      ]
  ]

-- Answers.

-- a delayed goal equal to the table's own is dropped
abbrev pub other_than : ℕ → List ℕ → List ℕ
other_than goal [] = []
other_than goal (d ∷ ds) = elim (eqb d goal) [ true ↦ other_than goal ds | false ↦ d ∷ other_than goal ds ]

-- `pursue_answer`: the index of a new answer. 25 where a "not" over a floundered table led here. An unambiguous, trivial answer
-- empties the queue.
abbrev pub pursue_answer : Forest → TableIndex → Strand → Stops (Option ℕ × Forest)
pursue_answer f t strand = do
  let x = strand.ex_clause
  stop_if (not (is_empty x.subgoals)) 25
  stop_if (not (is_empty x.floundered_subgoals) && not x.ambiguous) 0
  elim (is_outsized x.subst) [
    | true ↦ change_table f t mark_floundered >>= λ f'. go (none, f')
    | false ↦ do
      table ← table_at f t
      let a : Answer = record {
        variant = x.subst.variant;
        delayed_subgoals = other_than table.table_goal x.delayed_subgoals;
        ambiguous = x.ambiguous;
      }
      let is_trivial_answer = is_trivial x.subst.variant
      pushed ← push_answer (held f) a table
      elim pushed.0 [
        | none ↦ go (none, f)
        | some index ↦ do
          let table' : Table = elim (not x.ambiguous && is_trivial_answer) [ true ↦ take_strands pushed.1 | false ↦ pushed.1 ]
          f' ← change_table f t (λ _. table')
          go (some index, f')
      ]
  ]

-- `create_refinement_strand`: the delayed goals are its literals
abbrev pub create_refinement_strand : Answer → Option Strand
create_refinement_strand a = elim (is_empty a.delayed_subgoals) [
  | true ↦ none
  | false ↦ some (record {
    ex_clause = record {
      subst = record { variant = a.variant; outsized = false };
      ambiguous = a.ambiguous;
      subgoals = map (λ g. Positive g any false) a.delayed_subgoals;
      delayed_subgoals = [];
      answer_time = 0;
      floundered_subgoals = [];
    };
    selected_subgoal = none;
    last_pursued_time = 0;
  })
]

-- the table on top has a new answer: its caller goes on, or it was the root. Only a root answer makes a refinement strand.
abbrev pub on_answer : SolveState → TableIndex → (index : ℕ) → Stops Flow
on_answer s t index = do
  popped ← pop_and_take_caller_strand s.stack
  elim popped [
    | caller strand es ↦ activate (record { forest = s.forest; stack = es }) strand >>= λ s''. go (continue s'')
    | no_caller ↦ do
      table ← table_at s.forest t
      a ← unwrap (answer table index)
      elim (create_refinement_strand a) [
        | none ↦ go (return_ok (record { forest = s.forest; stack = [] }))
        | some strand ↦ change_table s.forest t (enqueue_strand strand) >>= λ f. go (return_ok (record { forest = f; stack = [] }))
      ]
  ]

-- `on_no_remaining_subgoals`
abbrev pub on_no_remaining_subgoals : SolveState → Strand → Stops Flow
on_no_remaining_subgoals s strand = do
  e ← top s.stack
  table ← table_at s.forest e.table
  elim (is_complete table.answer_mode && strand.ex_clause.ambiguous) [
    | true ↦ enqueue_at_top s strand >>= λ s''. go (return_err QuantumExceeded s'')
    | false ↦ do
      pursued ← pursue_answer s.forest e.table strand
      elim pursued.0 [
        | some index ↦ on_answer (with_forest s pursued.1) e.table index
        | none ↦ unwound QuantumExceeded (with_forest s pursued.1)
      ]
  ]

-- No strand left.

-- the loop of `clear_strands_after_cycle`; `clear` is the recursive call. 29 where nothing is selected.
abbrev pub clear_each : (clear : List Strand → Forest → Stops Forest) → List Strand → Forest → Stops Forest
clear_each clear [] f = go f
clear_each clear (s ∷ ss) f = elim s.selected_subgoal [
  | none ↦ stop 29
  | some selected ↦ do
    table ← table_at f selected.subgoal_table
    f' ← change_table f selected.subgoal_table take_strands
    f'' ← clear table.strands f'
    clear_each clear ss f''
]

-- `clear_strands_after_cycle`: takes the queue of the table that each strand waits on, and clears that. The number bounds how deep
-- calls go: each that finds a strand has taken it from a queue, so that one more than the strands queued is enough.
abbrev pub clear_strands_after_cycle : ℕ → List Strand → Forest → Stops Forest
clear_strands_after_cycle zero strands f = stop_if (not (is_empty strands)) 0 >> go f
clear_strands_after_cycle (suc depth) strands f = clear_each (λ ss g. clear_strands_after_cycle depth ss g) strands f

-- all strands of the table on top have failed: what that means to the caller's strand
abbrev pub on_no_strands : SolveState → Stops Flow
on_no_strands s = do
  popped ← pop_and_borrow_caller_strand s.stack
  elim popped [
    | no_caller ↦ go (return_err NoMoreSolutions (record { forest = s.forest; stack = [] }))
    | caller strand es ↦ do
      selected ← unwrap strand.selected_subgoal
      literal ← unwrap (get_elem? strand.ex_clause.subgoals selected.subgoal_index)
      elim literal [
        | Positive goal want outsized ↦ do
          es' ← change_top es (λ e. with_active e none)
          unwound QuantumExceeded (record { forest = s.forest; stack = es' })
        | Negative goal outsized ↦ do
          let x = strand.ex_clause
          let x' = with_subgoals x (remove x.subgoals selected.subgoal_index)
          s'' ← activate (record { forest = s.forest; stack = es }) (with_ex_clause (with_selected strand none) x')
          go (continue s'')
      ]
  ]

-- every strand of the table on top has met a cycle that ends at the table itself
abbrev pub on_own_cycle : SolveState → StackEntry → Table → Stops Flow
on_own_cycle s e table = elim (ltb e.cyclic_minimums.negative MAX) [
  | true ↦ unwound NegativeCycle s
  | false ↦ do
    f ← change_table s.forest e.table take_strands
    f' ← clear_strands_after_cycle (suc (queued f)) table.strands f
    unwound QuantumExceeded (with_forest s f')
]

-- the table on top is part of a cycle that ends further down: its caller's strand goes back to the queue
abbrev pub on_part_of_cycle : SolveState → StackEntry → Stops Flow
on_part_of_cycle s e = do
  popped ← pop_and_borrow_caller_strand s.stack
  elim popped [
    | no_caller ↦ stop 0
    | caller strand es ↦ do
      selected ← unwrap strand.selected_subgoal
      literal ← unwrap (get_elem? strand.ex_clause.subgoals selected.subgoal_index)
      es' ← change_top es (λ c. with_active (cycle_minimums literal e.cyclic_minimums c) none)
      s'' ← enqueue_at_top (record { forest = s.forest; stack = es' }) strand
      go (continue s'')
  ]

-- `on_no_strands_left`
abbrev pub on_no_strands_left : SolveState → Stops Flow
on_no_strands_left s = do
  e ← top s.stack
  table ← table_at s.forest e.table
  elim (is_empty table.strands) [
    | true ↦ on_no_strands s
    | false ↦ elim (is_complete table.answer_mode) [
      | true ↦ change_table s.forest e.table (λ t. with_mode t Ambiguous) >>= λ f. go (return_err QuantumExceeded (with_forest s f))
      | false ↦ elim (leb e.clock e.cyclic_minimums.positive && leb e.clock e.cyclic_minimums.negative) [
        | true ↦ on_own_cycle s e table
        | false ↦ on_part_of_cycle s e
      ]
    ]
  ]

-- The turn.

-- the strand may be taken by this entry, in this mode of its table
abbrev pub eligible : TimeStamp → AnswerMode → Strand → Bool
eligible clock mode s = ltb s.last_pursued_time clock && not (is_complete mode && s.ex_clause.ambiguous)

-- the active strand, or else the first one of the queue that may be taken
abbrev pub next_strand : SolveState → StackEntry → Table → Stops (Option (Strand × SolveState))
next_strand s e table = elim e.active_strand [
  | some strand ↦ change_top s.stack (λ e'. with_active e' none) >>= λ es. go (some (strand, record { forest = s.forest; stack = es }))
  | none ↦ elim (dequeue_next_strand_that (eligible e.clock table.answer_mode) table) [
    | none ↦ go none
    | some taken ↦ change_table s.forest e.table (λ _. taken.1) >>= λ f. go (some (taken.0, with_forest s f))
  ]
]

-- the loop body of `ensure_root_answer`
abbrev pub turn : SolveState → Stops Flow
turn s = do
  e ← top s.stack
  table ← table_at s.forest e.table
  next ← next_strand s e table
  elim next [
    | none ↦ on_no_strands_left s
    | some taken ↦ do
      chosen ← select_subgoal taken.1 (with_pursued taken.0 e.clock)
      let s'' = with_forest taken.1 chosen.forest
      elim chosen.selection [
        | Selected ↦ on_subgoal_selected s'' chosen.strand
        | NotSelected ↦ on_no_remaining_subgoals s'' chosen.strand
      ]
  ]

-- The search.

-- How a search ends: Ok or Err of `root_answer`, or, added here, a cut or a stop by its number.
pub data Ending : Type 0 where
  found : CompleteAnswer → Ending
  fail : RootSearchFail → Ending
  cut : Ending
  stopped : ℕ → Ending

-- the ending, the turns done, and the forest left
pub record Searched : Type 0 where
  pub ending : Ending
  pub turns : ℕ
  pub forest : Forest

-- the search is over: what is on the stack is put back as `Drop` does
abbrev pub put_back : Ending → (turns : ℕ) → SolveState → Searched
put_back ending turns s = elim (drop_state s) [
  | stop n ↦ record { ending = stopped n; turns = turns; forest = s.forest }
  | go f ↦ record { ending = ending; turns = turns; forest = f }
]

-- the answer that `root_answer` gives: one with delayed goals is invalid
abbrev pub stored_answer : Forest → TableIndex → (index : ℕ) → Ending
stored_answer f t i = elim (table_at f t >>= λ table. unwrap (answer table i)) [
  | stop n ↦ stopped n
  | go a ↦ elim (is_empty a.delayed_subgoals) [
    | true ↦ found (record { variant = a.variant; ambiguous = a.ambiguous })
    | false ↦ fail InvalidAnswer
  ]
]

-- the Ok arm of `root_answer`: its assert that the stack is empty, then the stored answer
abbrev pub ok_ending : SolveState → TableIndex → (index : ℕ) → Ending
ok_ending s t i = elim (is_empty s.stack) [ true ↦ stored_answer s.forest t i | false ↦ stopped 0 ]

-- The loop of `ensure_root_answer` for at most `limit` turns, of which `done` went before. After that many without a result the
-- search is cut. A stop undoes its turn, puts the search back and marks the forest; the turn that it undoes isn't counted.
abbrev pub search_turns : (limit done : ℕ) → TableIndex → (index : ℕ) → SolveState → Searched
search_turns zero done t i s = put_back cut done s
search_turns (suc limit) done t i s = elim (turn s) [
  | stop n ↦ put_back (stopped n) done (with_forest s (with_mark s.forest n))
  | go flow ↦ elim flow [
    | continue s'' ↦ search_turns limit (suc done) t i s''
    | return_ok s'' ↦ put_back (ok_ending s'' t i) (suc done) s''
    | return_err e s'' ↦ put_back (fail e) (suc done) s''
  ]
]

-- the first push; at the clock's limit nothing but the mark changes
abbrev pub begin : (limit : ℕ) → TableIndex → (index : ℕ) → Forest → Searched
begin limit t i f = elim (increment_clock f) [
  | stop n ↦ record { ending = stopped n; turns = 0; forest = with_mark f n }
  | go f' ↦ search_turns limit 0 t i (record { forest = f'; stack = push_entry t minimums_MAX f'.clock [] })
]

-- `ensure_root_answer` and `root_answer`: floundered is tested before the stored answer; neither uses a turn or the clock
abbrev pub root_answer : (limit : ℕ) → TableIndex → (index : ℕ) → Forest → Searched
root_answer limit t i f = elim (table_at f t) [
  | stop n ↦ record { ending = stopped n; turns = 0; forest = f }
  | go table ↦ elim table.floundered [
    | true ↦ record { ending = fail Floundered; turns = 0; forest = f }
    | false ↦ elim (answer table i) [
      | some a ↦ record { ending = ok_ending (record { forest = f; stack = [] }) t i; turns = 0; forest = f }
      | none ↦ elim (eqb (next_answer_index table) i) [
        | true ↦ begin limit t i f
        | false ↦ record { ending = stopped 0; turns = 0; forest = f }
      ]
    ]
  ]
]
