-- logic.rs, second half: so it is with a turn, in any state.
use Prim.Native.Nat.{ℕ, zero, suc}
use mathlib.Core.Bool.{not, ◌&&◌}
use mathlib.Core.Option.{Option, none, some}
use mathlib.Core.List.{List, [], ◌∷◌}
use mathlib.Core.Path.{refl}
use lib.Dec.{eqb, leb, ltb}
use lib.ListN.{get_elem?}
use Rattle.definitions.specs.{TableIndex, MAX, Answer, Minimums, Ambiguous, is_complete}
use Rattle.definitions.specs.Fitting.{is_outsized}
use Rattle.definitions.specs.Lists.{is_empty, remove}
use Rattle.definitions.specs.Stack.{StackEntry, Stack, Popped, no_caller, caller, with_active, top_of_stack_from, is_active}
use Rattle.definitions.specs.Stop.{Stops, go, ◌>>=◌}
use Rattle.definitions.specs.Strand.{SelectedSubgoal, Strand, with_ex_clause, with_selected, with_pursued, with_subgoals}
use Rattle.sizes.specs.Limits.{most_answers}
use Rattle.definitions.specs.Table.{Table, equal_answer, push_answer, answer, next_answer_index, take_strands, enqueue_strand}
use Rattle.definitions.specs.Table.{mark_floundered, with_mode, dequeue_next_strand_that}
use Rattle.definitions.specs.Tables.{Forest, increment_clock, held, queued}
use Rattle.definitions.specs.Logic.{SolveState, with_forest, continue, return_err, activate, Merge, merged, failed}
use Rattle.definitions.specs.Logic.{SubGoalSelection, Selected, NotSelected}
use Rattle.definitions.specs.Logic.{QuantumExceeded, NegativeCycle, select_subgoal}
use Rattle.definitions.specs.Turn.{on_coinductive_subgoal, cycle_minimums, on_positive_cycle, coinductive_entries, on_cycle}
use Rattle.definitions.specs.Turn.{on_subgoal_selected, pursue_answer, create_refinement_strand, on_answer, on_no_remaining_subgoals}
use Rattle.definitions.specs.Turn.{clear_each, clear_strands_after_cycle, on_no_strands, on_own_cycle, on_part_of_cycle, on_no_strands_left}
use Rattle.definitions.specs.Turn.{eligible, next_strand, turn}
use Rattle.promises.proofs.Listed.Walk.{Comes, stops, goes, Any, then, guard, either, by_literal, given, Marked, StateMarked}
use Rattle.promises.proofs.Listed.Walk.{unwrap_comes, table_comes, top_comes, change_top_comes, change_comes, take_caller_comes}
use Rattle.promises.proofs.Listed.Walk.{borrow_caller_comes}
use Rattle.promises.proofs.Listed.Logic.{Number, asserts, FlowMarked, MergeMarked, delay_comes, select_comes, unwound_comes}
use Rattle.promises.proofs.Listed.Logic.{enqueue_comes, activate_comes, merge_comes}

push_comes : (held : ℕ) (a : Answer) (t : Table) → Comes Number Any (push_answer held a t)
push_comes held a t = guard t.floundered _ asserts (given (equal_answer a t.answers)
    (guard (leb most_answers held) _ refl (goes tt))
    (λ was. guard (was.ambiguous && not a.ambiguous) _ refl (goes tt)))

entries_come : (f : Forest) (es : Stack) → Comes Number Any (coinductive_entries f es)
entries_come f [] = goes tt
entries_come f (e ∷ es) = then (table_comes asserts f e.table) (λ t _. then (entries_come f es) (λ b _. goes tt))

module _ {N : ℕ → Type 0} {B : Type 0} {Q : B → Type 0} where
  by_popped : (p : Popped) {x : Stops B} {y : Strand → Stack → Stops B} → Comes N Q x → ((s : Strand) (es : Stack) → Comes N Q (y s es))
      → Comes N Q (elim p [ no_caller ↦ x | caller s es ↦ y s es ])
  by_popped no_caller h k = h
  by_popped (caller s es) h k = k s es

abbrev Taken : ℕ → Option (Strand × SolveState) → Type 0
Taken m none = Unit {0}
Taken m (some r) = StateMarked m r.1

module _ {m : ℕ} where
  pub clock_comes : (f : Forest) → Marked m f → Comes Number (Marked m) (increment_clock f)
  clock_comes f e = guard (leb f.clock_limit f.clock) _ refl (goes e)

  -- Cycles.

  coinductive_comes : (s : SolveState) (strand : Strand) (selected : SelectedSubgoal) → StateMarked m s
      → Comes Number (FlowMarked m) (on_coinductive_subgoal s strand selected)
  coinductive_comes s strand selected e =
      then (unwrap_comes asserts (get_elem? strand.ex_clause.subgoals selected.subgoal_index)) (λ l _.
      by_literal l
      (λ goal want outsized. then (top_comes asserts s.stack) (λ t _.
      then (table_comes asserts s.forest t.table) (λ own _.
      then (table_comes asserts s.forest selected.subgoal_table) (λ other _.
      guard (not (own.coinductive_goal && other.coinductive_goal)) _ asserts
      (then (delay_comes (goal ∷ [])
      (with_subgoals strand.ex_clause (remove strand.ex_clause.subgoals selected.subgoal_index))) (λ x _.
      then (activate_comes s (with_ex_clause (with_selected strand none) x) e) (λ s'' h. goes h)))))))
      (λ goal outsized. stops refl))

  positive_comes : (s : SolveState) (strand : Strand) (selected : SelectedSubgoal) (c : Minimums) → StateMarked m s
      → Comes Number (FlowMarked m) (on_positive_cycle s strand selected c)
  positive_comes s strand selected c e =
      then (unwrap_comes asserts (get_elem? strand.ex_clause.subgoals selected.subgoal_index)) (λ l _.
      then (change_top_comes asserts s.stack (cycle_minimums l c)) (λ es _.
      then (enqueue_comes (record { forest = s.forest; stack = es }) strand e) (λ s'' h. goes h)))

  cycle_comes : (s : SolveState) (strand : Strand) (selected : SelectedSubgoal) (depth : ℕ) → StateMarked m s
      → Comes Number (FlowMarked m) (on_cycle s strand selected depth)
  cycle_comes s strand selected depth e = then (unwrap_comes asserts (get_elem? s.stack depth)) (λ entry _.
      then (entries_come s.forest (top_of_stack_from depth s.stack)) (λ b _. either b
      (coinductive_comes s strand selected e)
      (positive_comes s strand selected (record { positive = entry.clock; negative = MAX }) e)))

  merged_comes : (r : Merge) → MergeMarked m r → Comes Number (FlowMarked m) (elim r [
    | failed s ↦ go (return_err QuantumExceeded s)
    | merged strand s ↦ activate s strand >>= λ s''. go (continue s'')
  ])
  merged_comes (failed s) e = goes e
  merged_comes (merged strand s) e = then (activate_comes s strand e) (λ s'' h. goes h)

  selected_comes : (s : SolveState) (strand : Strand) → StateMarked m s → Comes Number (FlowMarked m) (on_subgoal_selected s strand)
  selected_comes s strand e = then (unwrap_comes asserts strand.selected_subgoal) (λ selected _.
      then (table_comes asserts s.forest selected.subgoal_table) (λ table _.
      guard table.floundered _ asserts
      (given (answer table selected.answer_index)
      (guard (not (eqb (next_answer_index table) selected.answer_index)) _ asserts
      (given (is_active selected.subgoal_table s.stack)
      (then (activate_comes s strand e) (λ s'' h. then (clock_comes s''.forest h) (λ f k. goes k)))
      (λ depth. cycle_comes s strand selected depth e)))
      (λ a. then (merge_comes s strand selected a e) (λ r h. merged_comes r h)))))

  -- Answers.

  pursue_comes : (f : Forest) (t : TableIndex) (strand : Strand) → Marked m f
      → Comes Number (λ r. Marked m r.1) (pursue_answer f t strand)
  pursue_comes f t strand e =
      let x = strand.ex_clause in
      guard (not (is_empty x.subgoals)) _ refl
      (guard (not (is_empty x.floundered_subgoals) && not x.ambiguous) _ asserts
      (either (is_outsized x.subst)
      (then (change_comes asserts f t mark_floundered e) (λ f' h. goes h))
      (then (table_comes asserts f t) (λ table _.
      then (push_comes (held f) _ table) (λ pushed _. given pushed.0
      (goes e)
      (λ i. then (change_comes asserts f t _ e) (λ f' h. goes h)))))))

  answer_comes : (s : SolveState) (t : TableIndex) (i : ℕ) → StateMarked m s → Comes Number (FlowMarked m) (on_answer s t i)
  answer_comes s t i e = then (take_caller_comes asserts s.stack) (λ p _. by_popped p
      (then (table_comes asserts s.forest t) (λ table _.
      then (unwrap_comes asserts (answer table i)) (λ a _.
      given (create_refinement_strand a) (goes e)
      (λ strand. then (change_comes asserts s.forest t (enqueue_strand strand) e) (λ f h. goes h)))))
      (λ strand es. then (activate_comes (record { forest = s.forest; stack = es }) strand e) (λ s'' h. goes h)))

  remaining_comes : (s : SolveState) (strand : Strand) → StateMarked m s → Comes Number (FlowMarked m) (on_no_remaining_subgoals s strand)
  remaining_comes s strand e = then (top_comes asserts s.stack) (λ t _.
      then (table_comes asserts s.forest t.table) (λ table _.
      either (is_complete table.answer_mode && strand.ex_clause.ambiguous)
      (then (enqueue_comes s strand e) (λ s'' h. goes h))
      (then (pursue_comes s.forest t.table strand e) (λ r h. given r.0
      (unwound_comes QuantumExceeded (with_forest s r.1) h)
      (λ i. answer_comes (with_forest s r.1) t.table i h)))))

  -- No strand left.

  each_comes : (clear : List Strand → Forest → Stops Forest)
      → ((ss : List Strand) (f : Forest) → Marked m f → Comes Number (Marked m) (clear ss f))
      → (ss : List Strand) (f : Forest) → Marked m f → Comes Number (Marked m) (clear_each clear ss f)
  each_comes clear c [] f e = goes e
  each_comes clear c (s ∷ ss) f e = given s.selected_subgoal (stops refl) (λ selected.
      then (table_comes asserts f selected.subgoal_table) (λ table _.
      then (change_comes asserts f selected.subgoal_table take_strands e) (λ f' h.
      then (c table.strands f' h) (λ f'' k. each_comes clear c ss f'' k))))

  clear_comes : (depth : ℕ) (ss : List Strand) (f : Forest) → Marked m f → Comes Number (Marked m) (clear_strands_after_cycle depth ss f)
  clear_comes zero ss f e = guard (not (is_empty ss)) _ asserts (goes e)
  clear_comes (suc depth) ss f e = each_comes (λ us g. clear_strands_after_cycle depth us g) (λ us g h. clear_comes depth us g h) ss f e

  none_comes : (s : SolveState) → StateMarked m s → Comes Number (FlowMarked m) (on_no_strands s)
  none_comes s e = then (borrow_caller_comes asserts s.stack) (λ p _. by_popped p (goes e) (λ strand es.
      then (unwrap_comes asserts strand.selected_subgoal) (λ selected _.
      then (unwrap_comes asserts (get_elem? strand.ex_clause.subgoals selected.subgoal_index)) (λ l _.
      by_literal l
      (λ goal want outsized. then (change_top_comes asserts es (λ c. with_active c none)) (λ es' _.
      unwound_comes QuantumExceeded (record { forest = s.forest; stack = es' }) e))
      (λ goal outsized. then (activate_comes (record { forest = s.forest; stack = es }) _ e) (λ s'' h. goes h))))))

  own_cycle_comes : (s : SolveState) (t : StackEntry) (table : Table) → StateMarked m s
      → Comes Number (FlowMarked m) (on_own_cycle s t table)
  own_cycle_comes s t table e = either (ltb t.cyclic_minimums.negative MAX)
      (unwound_comes NegativeCycle s e)
      (then (change_comes asserts s.forest t.table take_strands e) (λ f h.
      then (clear_comes (suc (queued f)) table.strands f h) (λ f' k. unwound_comes QuantumExceeded (with_forest s f') k)))

  part_comes : (s : SolveState) (t : StackEntry) → StateMarked m s → Comes Number (FlowMarked m) (on_part_of_cycle s t)
  part_comes s t e = then (borrow_caller_comes asserts s.stack) (λ p _. by_popped p (stops asserts) (λ strand es.
      then (unwrap_comes asserts strand.selected_subgoal) (λ selected _.
      then (unwrap_comes asserts (get_elem? strand.ex_clause.subgoals selected.subgoal_index)) (λ l _.
      then (change_top_comes asserts es _) (λ es' _.
      then (enqueue_comes (record { forest = s.forest; stack = es' }) strand e) (λ s'' h. goes h))))))

  idle_comes : (s : SolveState) → StateMarked m s → Comes Number (FlowMarked m) (on_no_strands_left s)
  idle_comes s e = then (top_comes asserts s.stack) (λ t _.
      then (table_comes asserts s.forest t.table) (λ table _.
      either (is_empty table.strands)
      (none_comes s e)
      (either (is_complete table.answer_mode)
      (then (change_comes asserts s.forest t.table (λ u. with_mode u Ambiguous) e) (λ f h. goes h))
      (either (leb t.clock t.cyclic_minimums.positive && leb t.clock t.cyclic_minimums.negative)
      (own_cycle_comes s t table e)
      (part_comes s t e)))))

  -- The turn.

  taken_comes : (s : SolveState) (t : StackEntry) (table : Table) → StateMarked m s
      → Comes Number (Taken m) (next_strand s t table)
  taken_comes s t table e = given t.active_strand
      (given (dequeue_next_strand_that (eligible t.clock table.answer_mode) table) (goes tt)
      (λ taken. then (change_comes asserts s.forest t.table (λ _. taken.1) e) (λ f h. goes h)))
      (λ strand. then (change_top_comes asserts s.stack (λ c. with_active c none)) (λ es _. goes e))

  chosen_comes : (c : SubGoalSelection) (s : SolveState) (strand : Strand) → StateMarked m s
      → Comes Number (FlowMarked m) (elim c [ Selected ↦ on_subgoal_selected s strand | NotSelected ↦ on_no_remaining_subgoals s strand ])
  chosen_comes Selected s strand e = selected_comes s strand e
  chosen_comes NotSelected s strand e = remaining_comes s strand e

  next_comes : (s : SolveState) (t : StackEntry) (o : Option (Strand × SolveState)) → StateMarked m s → Taken m o
      → Comes Number (FlowMarked m) (elim o [
        | none ↦ on_no_strands_left s
        | some taken ↦ select_subgoal taken.1 (with_pursued taken.0 t.clock) >>= λ chosen. elim chosen.selection [
          | Selected ↦ on_subgoal_selected (with_forest taken.1 chosen.forest) chosen.strand
          | NotSelected ↦ on_no_remaining_subgoals (with_forest taken.1 chosen.forest) chosen.strand
        ]
      ])
  next_comes s t none e h = idle_comes s e
  next_comes s t (some taken) e h = then (select_comes taken.1 (with_pursued taken.0 t.clock) h)
      (λ c k. chosen_comes c.selection (with_forest taken.1 c.forest) c.strand k)

  pub turn_comes : (s : SolveState) → StateMarked m s → Comes Number (FlowMarked m) (turn s)
  turn_comes s e = then (top_comes asserts s.stack) (λ t _.
      then (table_comes asserts s.forest t.table) (λ table _.
      then (taken_comes s t table e) (λ o h. next_comes s t o e h)))
