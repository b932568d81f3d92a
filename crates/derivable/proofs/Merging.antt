-- A selected subgoal: an answer taken into the strand, a cycle, or a table pushed.
use Prim.Native.Nat.{ℕ, suc, ◌+◌}
use mathlib.Core.Path.{◌≡◌, refl, sym, ap, subst, ◌∙◌}
use mathlib.Core.Bool.{Bool, true, false, not, ◌&&◌, ◌||◌, true≢false}
use mathlib.Core.Option.{Option, none, some}
use mathlib.Core.List.{List, [], ◌∷◌, ◌++◌}
use lib.ListN.{length, get_elem?}
use lib.Dec.{eqb, ltb}
use Rattle.definitions.specs.{MAX, ExClause, Answer, Minimums, minimums_MAX, is_complete}
use Rattle.definitions.specs.Book.{Literal, Positive, Negative, Book}
use Rattle.definitions.specs.Fitting.{answer_fits, is_trivial}
use Rattle.definitions.specs.Stop.{Stops, stop, go, ◌>>=◌, ◌>>◌, stop_if}
use Rattle.definitions.specs.Lists.{is_empty}
use Rattle.definitions.specs.Strand.{SelectedSubgoal, Strand, with_ex_clause, with_selected, with_ambiguous}
use Rattle.definitions.specs.Strand.{with_answer_time, with_delayed}
use Rattle.definitions.specs.Table.{answer, next_answer_index}
use Rattle.definitions.specs.Tables.{Forest, table_at, increment_clock, queued}
use Rattle.definitions.specs.Stack.{StackEntry, Stack, is_active, active}
use Rattle.definitions.specs.Stack.{push_entry}
use Rattle.definitions.specs.Slg.{most_delayed, delay}
use Rattle.definitions.specs.Logic.{QuantumExceeded, SolveState}
use Rattle.sizes.specs.Limits.{most_strands}
use Rattle.definitions.specs.Logic.{continue, return_err, activate}
use Rattle.definitions.specs.Logic.{Merge, merged, failed, next_answer_strand, enqueue_next_answer, no_solution, merge_into}
use Rattle.definitions.specs.Logic.{merge_answer_into_strand}
use Rattle.definitions.specs.Turn.{on_coinductive_subgoal, cycle_minimums, on_positive_cycle}
use Rattle.definitions.specs.Turn.{top_of_stack_is_coinductive_from, on_cycle, on_subgoal_selected}
use Rattle.laws.specs.All.{All, more}
use Rattle.laws.proofs.All.{all_at}
use Rattle.derivable.proofs.Fine.{Fine, stops, goes, after, passing, guard, by_bool, by_option, unwrapping}
use Rattle.derivable.proofs.Kept.{without, merged_with, Closed, KeptForest, KeptEntry}
use Rattle.derivable.proofs.Kept.{KeptState, table_goal_at, same_goal, enqueues}
use Rattle.derivable.proofs.Choosing.{flounders_at, unwinds_stack}
use Rattle.derivable.proofs.States.{Flows, onward, goes_on, enqueues_top, activates, minimums_kept, same_entry, ticks}

module _ {book : Book} {P : List ℕ → ℕ → Strand → Type 0} {Q : ℕ → Answer → Type 0} (closed : Closed book P Q) where
  module _ (gs : List ℕ) (m : ℕ) where
    abbrev Kept : SolveState → Type 0
    Kept s = KeptState book P Q gs m s

    abbrev KeptF : Forest → Type 0
    KeptF f = KeptForest book P Q gs m f

    abbrev Entry : StackEntry → Type 0
    Entry e = KeptEntry book P Q gs e

    -- An answer for the selected subgoal.

    module _ (f : Forest) (e : StackEntry) (es : Stack) (k : KeptF f) (x : Entry e) (xs : All Entry es) (strand : Strand)
        (p : P gs x.goal strand) (selected : SelectedSubgoal) (is : strand.selected_subgoal ≡ some selected) where
      abbrev state : SolveState
      state = record { forest = f; stack = e ∷ es }

      -- what merging leaves
      abbrev Merges : Merge → Type 0
      Merges (merged strand' s) = (f' : Forest) × (s ≡ record { forest = f'; stack = e ∷ es }) × KeptF f' × P gs x.goal strand'
      Merges (failed s) = Kept s

      enqueues_next : (l : Literal) (a : Answer)
          → Fine (λ s. (f' : Forest) × (s ≡ record { forest = f'; stack = e ∷ es }) × KeptF f')
          (enqueue_next_answer state strand selected l a)
      enqueues_next (Negative goal outsized) a = goes (f, refl, k)
      enqueues_next (Positive goal want outsized) a = by_bool (is_trivial a.variant)
          (λ b. goes (f, refl, k))
          (λ b. after (after (enqueues k e.table x.goal x.is_made (next_answer_strand strand selected)
          (closed.next_answer strand selected is p)) (λ f' q. goes (f', refl, q)))
          (λ s'' q. guard (ltb most_strands (queued s''.forest + active s''.stack + 1)) 22 (λ c. goes q)))

      gives : (f' : Forest) → KeptF f' → Fine Merges (no_solution (record { forest = f'; stack = e ∷ es }))
      gives f' q = after (unwinds_stack closed (record { forest = f'; stack = e ∷ es })
          (record { kept_forest = q; kept_stack = more x xs })) (λ u y. goes y)

      -- the answer is applied, if it fits
      abbrev Applied : Bool → Answer → Option ExClause → Type 0
      Applied fits a none = Unit {0}
      Applied fits a (some x') =
          (fits ≡ true) × (x' ≡ with_delayed (without strand selected).ex_clause
          (strand.ex_clause.delayed_subgoals ++ a.delayed_subgoals))

      delays_to : (a : Answer) (rest : ExClause)
          → Fine (λ x'. x' ≡ with_delayed rest (rest.delayed_subgoals ++ a.delayed_subgoals)) (delay a.delayed_subgoals rest)
      delays_to a rest = guard (ltb most_delayed (length rest.delayed_subgoals + length a.delayed_subgoals)) 24 (λ c. goes refl)

      applies : (fits : Bool) (a : Answer) → Fine (Applied fits a) (elim fits [
        | false ↦ go none
        | true ↦ elim (delay a.delayed_subgoals (without strand selected).ex_clause) [ stop n ↦ stop n | go x' ↦ go (some x') ]
      ])
      applies false a = goes tt
      applies true a = passing (delays_to a (without strand selected).ex_clause) (λ x' z. goes {a = some x'} (refl, z))

      by_applied : (f' : Forest) → KeptF f' → (fits : Bool) (a : Answer) (o : Option ExClause) → Applied fits a o
          → (fits ≡ true → P gs x.goal (merged_with a (without strand selected)))
          → Fine Merges (elim o [
            | none ↦ no_solution (record { forest = f'; stack = e ∷ es })
            | some x' ↦ go (merged (with_ex_clause (without strand selected) (with_answer_time
                (with_ambiguous x' (x'.ambiguous || a.ambiguous)) (suc x'.answer_time))) (record { forest = f'; stack = e ∷ es }))
          ])
      by_applied f' q fits a none z h = gives f' q
      by_applied f' q fits a (some x') z h =
          let new = with_ex_clause (without strand selected) (with_answer_time
          (with_ambiguous x' (x'.ambiguous || a.ambiguous)) (suc x'.answer_time)) in
          goes {a = merged new (record { forest = f'; stack = e ∷ es })} (
            f',
            refl,
            q,
            subst (λ (w : ExClause). P gs x.goal (with_ex_clause (without strand selected)
                (with_answer_time (with_ambiguous w (w.ambiguous || a.ambiguous)) (suc w.answer_time)))) (sym z.1) (h z.0),
          )

      takes_in : (f' : Forest) → KeptF f' → (h : ℕ) (l : Literal) (a : Answer)
          → get_elem? strand.ex_clause.subgoals selected.subgoal_index ≡ some l → get_elem? gs selected.subgoal_table ≡ some h
          → Q h a → Fine Merges (merge_into (record { forest = f'; stack = e ∷ es }) (without strand selected) l a)
      takes_in f' q h (Positive goal want outsized) a here at y =
          after (applies (answer_fits (Positive goal want outsized) a.variant) a)
          (λ o z. by_applied f' q (answer_fits (Positive goal want outsized) a.variant) a o z
          (λ c. closed.takes strand selected h goal want outsized a is here at y c p))
      takes_in f' q h (Negative goal outsized) a here at y =
          guard (not (is_empty a.delayed_subgoals)) 27 (λ b. by_bool a.ambiguous
          (λ c. goes {a = merged (with_ex_clause (without strand selected) (with_ambiguous (without strand selected).ex_clause true))
          (record { forest = f'; stack = e ∷ es })} (f', refl, q, closed.not_ambiguous strand selected goal outsized is here p))
          (λ c. gives f' q))

      merges : (h : ℕ) (a : Answer) → get_elem? gs selected.subgoal_table ≡ some h → Q h a
          → Fine Merges (merge_answer_into_strand state strand selected a)
      merges h a at y = unwrapping (get_elem? f.tables e.table) (λ t q. by_bool (is_complete t.answer_mode && a.ambiguous)
          (λ b. after (flounders_at closed (with_selected strand none) selected.subgoal_index refl (closed.unselected strand p))
          (λ x' z. goes {a = merged (with_ex_clause (with_selected strand none) x') state} (f, refl, k, z)))
          (λ b. unwrapping (get_elem? strand.ex_clause.subgoals selected.subgoal_index) (λ l here.
          after (enqueues_next l a) (λ s'' z.
          subst (λ (w : SolveState). Fine Merges (merge_into w (without strand selected) l a)) (sym z.1)
          (takes_in z.0 z.2 h l a here at y)))))

      -- Cycles.

      delays_one : (goal : ℕ) (rest : ExClause)
          → Fine (λ x'. x' ≡ with_delayed rest (rest.delayed_subgoals ++ (goal ∷ []))) (delay (goal ∷ []) rest)
      delays_one goal rest = guard (ltb most_delayed (length rest.delayed_subgoals + 1)) 24 (λ c. goes refl)

      coinducts : (l : Literal) → get_elem? strand.ex_clause.subgoals selected.subgoal_index ≡ some l → Fine (Flows closed gs m)
          (elim l [
            | Positive goal want outsized ↦ table_at f e.table >>= λ table. table_at f selected.subgoal_table >>= λ subgoal_table.
                stop_if (not (table.coinductive_goal && subgoal_table.coinductive_goal)) 0 >> (delay (goal ∷ [])
                (without strand selected).ex_clause
                >>= λ x'. activate state (with_ex_clause (without strand selected) x') >>= λ s''. go (continue s''))
            | Negative goal outsized ↦ stop 28
          ])
      coinducts (Positive goal want outsized) here = unwrapping (get_elem? f.tables e.table) (λ t q.
          unwrapping (get_elem? f.tables selected.subgoal_table) (λ u r.
          guard (not (t.coinductive_goal && u.coinductive_goal)) 0 (λ b.
          let own = (all_at e.table k.kept_tables q).as_goal (first_of t.coinductive_goal u.coinductive_goal b) in
          let same = same_goal k e.table t q x.goal x.is_made in
          after (delays_one goal (without strand selected).ex_clause) (λ x' z.
          after (activates closed gs m f e es k x xs (with_ex_clause (without strand selected) x')
          (subst (λ (w : ExClause). P gs x.goal (with_ex_clause (without strand selected) w)) (sym z)
          (closed.delays own.0 (ap (get_elem? book) same ∙ own.1) own.2 strand selected goal want outsized is here p)))
          (λ s'' y. goes_on closed gs m s'' y)))))
        where
          first_of : (a b : Bool) → not (a && b) ≡ false → a ≡ true
          first_of true b e = refl
          first_of false b e = absurd (true≢false e)
      coinducts (Negative goal outsized) here = stops

      cycles : (depth : ℕ) → Fine (Flows closed gs m) (on_cycle state strand selected depth)
      cycles depth = unwrapping (get_elem? (e ∷ es) depth) (λ entry q. any_test (top_of_stack_is_coinductive_from state depth) entry)
        where
          any_test : (r : Stops Bool) (entry : StackEntry) → Fine (Flows closed gs m) (r >>= λ coinductive. elim coinductive [
            | true ↦ on_coinductive_subgoal state strand selected
            | false ↦ on_positive_cycle state strand selected (record { positive = entry.clock; negative = MAX })
          ])
          any_test (stop n) entry = stops
          any_test (go true) entry = unwrapping (get_elem? strand.ex_clause.subgoals selected.subgoal_index)
              (λ l here. coinducts l here)
          any_test (go false) entry = unwrapping (get_elem? strand.ex_clause.subgoals selected.subgoal_index) (λ l here.
              let low : Minimums = record { positive = entry.clock; negative = MAX } in
              after (enqueues_top closed gs m f (cycle_minimums l low e) es k (minimums_kept closed gs m l low e x) xs strand
              (same_entry closed gs m l low e x p))
              (λ s'' y. goes_on closed gs m s'' y))

    -- the table that the strand waits on is pushed
    pushes : (s : SolveState) → Kept s → (t g : ℕ) → get_elem? gs t ≡ some g
        → Fine (Flows closed gs m) (increment_clock s.forest >>= λ f. go
        (continue (record { forest = f; stack = push_entry t minimums_MAX f.clock s.stack })))
    pushes s k t g q = after (ticks closed gs m s.forest k.kept_forest) (λ f x. goes_on closed gs m
        (record { forest = f; stack = push_entry t minimums_MAX f.clock s.stack })
        (record { kept_forest = x; kept_stack = more (record { goal = g; is_made = q; kept_active = tt }) k.kept_stack }))

    by_merge : (f : Forest) (e : StackEntry) (es : Stack) (k : KeptF f) (x : Entry e) (xs : All Entry es) (strand : Strand)
        (p : P gs x.goal strand) (selected : SelectedSubgoal) (is : strand.selected_subgoal ≡ some selected) (r : Merge)
        → Merges f e es k x xs strand p selected is r → Fine (Flows closed gs m) (elim r [
          | failed s'' ↦ go (return_err QuantumExceeded s'')
          | merged strand' s'' ↦ activate s'' strand' >>= λ s'''. go (continue s''')
        ])
    by_merge f e es k x xs strand p selected is (failed s) y = goes {a = return_err QuantumExceeded s} (onward closed gs m y)
    by_merge f e es k x xs strand p selected is (merged strand' s) y =
        subst (λ (z : SolveState). Fine (Flows closed gs m) (activate z strand' >>= λ s'''. go (continue s'''))) (sym y.1)
        (after (activates closed gs m y.0 e es y.2 x xs strand' y.3) (λ s''' z. goes_on closed gs m s''' z))

    pub selected_kept : (f : Forest) (e : StackEntry) (es : Stack) (k : KeptF f) (x : Entry e) (xs : All Entry es) (strand : Strand)
        (p : P gs x.goal strand) → Fine (Flows closed gs m) (on_subgoal_selected (record { forest = f; stack = e ∷ es }) strand)
    selected_kept f e es k x xs strand p = unwrapping strand.selected_subgoal (λ selected is.
        unwrapping (get_elem? f.tables selected.subgoal_table) (λ t q.
        let at = table_goal_at k selected.subgoal_table t q in
        guard t.floundered 0 (λ b. by_option (answer t selected.answer_index)
        (λ none_yet. guard (not (eqb (next_answer_index t) selected.answer_index)) 0 (λ c.
        by_option (is_active selected.subgoal_table (e ∷ es))
        (λ d. after (activates closed gs m f e es k x xs strand p) (λ s'' y. pushes s'' y selected.subgoal_table t.table_goal at))
        (λ depth d. cycles f e es k x xs strand p selected is depth)))
        (λ a here. after (merges f e es k x xs strand p selected is t.table_goal a at
        (all_at selected.answer_index (all_at selected.subgoal_table k.kept_tables q).kept_answers here))
        (λ r y. by_merge f e es k x xs strand p selected is r y)))))
