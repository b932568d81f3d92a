-- No strand left, the strand in hand, and the turn: each keeps what is kept.
use Prim.Native.Nat.{ℕ, zero, suc}
use mathlib.Core.Path.{◌≡◌, refl, sym, ap, subst, ◌∙◌}
use mathlib.Core.Bool.{Bool, not, ◌&&◌}
use mathlib.Core.Option.{Option, none, some}
use mathlib.Core.List.{List, [], ◌∷◌}
use lib.ListN.{get_elem?}
use lib.Dec.{leb, ltb}
use Rattle.definitions.specs.{MAX, Answer, Ambiguous, is_complete}
use Rattle.definitions.specs.Book.{Literal, Positive, Negative, Book}
use Rattle.definitions.specs.Stop.{Stops, stop, go, ◌>>=◌, ◌>>◌, unwrap}
use Rattle.definitions.specs.Lists.{is_empty, position, rotate_left}
use Rattle.definitions.specs.Strand.{SelectedSubgoal, Strand, with_pursued}
use Rattle.definitions.specs.Table.{Table, pop_front, with_strands, with_mode, take_strands, dequeue_next_strand_that}
use Rattle.definitions.specs.Tables.{Forest, change_table, queued}
use Rattle.definitions.specs.Stack.{StackEntry, Stack, with_active, change_top}
use Rattle.definitions.specs.Stack.{Popped, no_caller, caller}
use Rattle.definitions.specs.Logic.{NoMoreSolutions, QuantumExceeded, NegativeCycle, Selected, NotSelected, SolveState}
use Rattle.definitions.specs.Logic.{with_forest, continue, return_err, unwound, enqueue_at_top, activate}
use Rattle.definitions.specs.Logic.{SubGoalSelection, Selection, select_subgoal}
use Rattle.definitions.specs.Turn.{cycle_minimums}
use Rattle.definitions.specs.Turn.{on_subgoal_selected}
use Rattle.definitions.specs.Turn.{on_no_remaining_subgoals, clear_each, clear_strands_after_cycle, on_no_strands, on_own_cycle}
use Rattle.definitions.specs.Turn.{on_part_of_cycle, on_no_strands_left, eligible, next_strand, turn}
use Rattle.definitions.proofs.Lists.{all_rotate}
use Rattle.laws.proofs.Options.{same_some}
use Rattle.laws.specs.All.{All, end, more}
use Rattle.laws.proofs.All.{all_at, all_map}
use Rattle.derivable.proofs.Fine.{Fine, stops, goes, after, guard, by_bool, by_option, unwrapping}
use Rattle.derivable.proofs.Kept.{without, Closed, KeptTable, KeptForest, KeptEntry}
use Rattle.derivable.proofs.Kept.{KeptState, same_goal, changes}
use Rattle.derivable.proofs.Choosing.{Chosen, entry_more, active_kept, selects_kept}
use Rattle.derivable.proofs.States.{Flows, flows_after, onward, goes_on, gives_up, enqueues_top, activates}
use Rattle.derivable.proofs.States.{minimums_kept, same_entry}
use Rattle.derivable.proofs.Merging.{selected_kept}
use Rattle.derivable.proofs.Answers.{Pops, pops-borrowing, no_remaining}

module _ {book : Book} {P : List ℕ → ℕ → Strand → Type 0} {Q : ℕ → Answer → Type 0} (closed : Closed book P Q) where
  module _ (gs : List ℕ) (m : ℕ) where
    abbrev Kept : SolveState → Type 0
    Kept s = KeptState book P Q gs m s

    abbrev KeptF : Forest → Type 0
    KeptF f = KeptForest book P Q gs m f

    abbrev Entry : StackEntry → Type 0
    Entry e = KeptEntry book P Q gs e

    taken : (f : Forest) → KeptF f → (i : ℕ) → Fine KeptF (change_table f i take_strands)
    taken f k i = changes k i take_strands (λ t e x.
        (refl, record { kept_strands = end; kept_answers = x.kept_answers; as_goal = x.as_goal }))

    clears_each : (clear : List Strand → Forest → Stops Forest) → ((ss : List Strand) (f : Forest) → KeptF f → Fine KeptF (clear ss f))
        → (ss : List Strand) (f : Forest) → KeptF f → Fine KeptF (clear_each clear ss f)
    clears_each clear h [] f k = goes k
    clears_each clear h (s ∷ ss) f k = by_option s.selected_subgoal
        (λ b. stops)
        (λ selected b. unwrapping (get_elem? f.tables selected.subgoal_table) (λ t q.
        after (taken f k selected.subgoal_table) (λ f' x. after (h t.strands f' x) (λ f'' y. clears_each clear h ss f'' y))))

    clears : (depth : ℕ) (ss : List Strand) (f : Forest) → KeptF f → Fine KeptF (clear_strands_after_cycle depth ss f)
    clears zero ss f k = guard (not (is_empty ss)) 0 (λ b. goes k)
    clears (suc depth) ss f k = clears_each (λ rs g. clear_strands_after_cycle depth rs g) (λ rs g x. clears depth rs g x) ss f k

    -- the caller's strand, with its literal
    no_strands : (s : SolveState) → Kept s → Fine (Flows closed gs m) (on_no_strands s)
    no_strands s k = after (pops-borrowing closed gs m s.stack k.kept_stack) by_popped
      where
        by_literal : (strand : Strand) (e : StackEntry) (rest : Stack) (x : Entry e) → All Entry rest → P gs x.goal strand
            → (selected : SelectedSubgoal) → strand.selected_subgoal ≡ some selected → (l : Literal)
            → get_elem? strand.ex_clause.subgoals selected.subgoal_index ≡ some l → Fine (Flows closed gs m) (elim l [
              | Positive goal want outsized ↦ unwound QuantumExceeded (record { forest = s.forest; stack = with_active e none ∷ rest })
              | Negative goal outsized ↦ activate (record { forest = s.forest; stack = e ∷ rest }) (without strand selected)
                  >>= λ s''. go (continue s'')
            ])
        by_literal strand e rest x xs p selected is (Positive goal want outsized) here =
            gives_up closed gs m QuantumExceeded (record { forest = s.forest; stack = with_active e none ∷ rest }) (record {
              kept_forest = k.kept_forest;
              kept_stack = more (record { goal = x.goal; is_made = x.is_made; kept_active = tt }) xs;
            })
        by_literal strand e rest x xs p selected is (Negative goal outsized) here =
            after (activates closed gs m s.forest e rest k.kept_forest x xs (without strand selected)
            (closed.not_there strand selected goal outsized is here p)) (λ s'' y. goes_on closed gs m s'' y)

        by_popped : (r : Popped) → Pops closed gs m r → Fine (Flows closed gs m) (elim r [
          | no_caller ↦ go (return_err NoMoreSolutions (record { forest = s.forest; stack = [] }))
          | caller strand es ↦ unwrap strand.selected_subgoal >>= λ selected.
              unwrap (get_elem? strand.ex_clause.subgoals selected.subgoal_index) >>= λ literal. elim literal [
                | Positive goal want outsized ↦ change_top es (λ e. with_active e none) >>= λ es'. unwound QuantumExceeded
                    (record { forest = s.forest; stack = es' })
                | Negative goal outsized ↦ activate (record { forest = s.forest; stack = es }) (without strand selected)
                    >>= λ s''. go (continue s'')
              ]
        ])
        by_popped no_caller x = goes {a = return_err NoMoreSolutions (record { forest = s.forest; stack = [] })}
            (onward closed gs m (record { kept_forest = k.kept_forest; kept_stack = end }))
        by_popped (caller strand es) x = subst (λ (z : Stack). Fine (Flows closed gs m) (unwrap strand.selected_subgoal >>= λ selected.
            unwrap (get_elem? strand.ex_clause.subgoals selected.subgoal_index) >>= λ literal. elim literal [
              | Positive goal want outsized ↦ change_top z (λ e. with_active e none) >>= λ es'. unwound QuantumExceeded
                  (record { forest = s.forest; stack = es' })
              | Negative goal outsized ↦ activate (record { forest = s.forest; stack = z }) (without strand selected)
                  >>= λ s''. go (continue s'')
            ])) (sym x.2)
            (unwrapping strand.selected_subgoal (λ selected is.
            unwrapping (get_elem? strand.ex_clause.subgoals selected.subgoal_index) (λ l here.
            by_literal strand x.0 x.1 x.3 x.4 x.5 selected is l here)))

    own_cycle : (f : Forest) (e : StackEntry) (es : Stack) → KeptF f → All Entry (e ∷ es) → (t : Table)
        → Fine (Flows closed gs m) (on_own_cycle (record { forest = f; stack = e ∷ es }) e t)
    own_cycle f e es k xs t = by_bool (ltb e.cyclic_minimums.negative MAX)
        (λ b. gives_up closed gs m NegativeCycle (record { forest = f; stack = e ∷ es }) (record { kept_forest = k; kept_stack = xs }))
        (λ b. after (taken f k e.table) (λ f' x. after (clears (suc (queued f')) t.strands f' x)
        (λ f'' y. gives_up closed gs m QuantumExceeded (record { forest = f''; stack = e ∷ es })
        (record { kept_forest = y; kept_stack = xs }))))

    part_of_cycle : (s : SolveState) → Kept s → (e : StackEntry) → Fine (Flows closed gs m) (on_part_of_cycle s e)
    part_of_cycle s k e = after (pops-borrowing closed gs m s.stack k.kept_stack) by_popped
      where
        by_popped : (r : Popped) → Pops closed gs m r → Fine (Flows closed gs m) (elim r [
          | no_caller ↦ stop 0
          | caller strand es ↦ unwrap strand.selected_subgoal >>= λ selected.
              unwrap (get_elem? strand.ex_clause.subgoals selected.subgoal_index) >>= λ literal.
              change_top es (λ c. with_active (cycle_minimums literal e.cyclic_minimums c) none) >>= λ es'.
              enqueue_at_top (record { forest = s.forest; stack = es' }) strand >>= λ s''. go (continue s'')
        ])
        by_popped no_caller x = stops
        by_popped (caller strand es) x = subst (λ (z : Stack). Fine (Flows closed gs m) (unwrap strand.selected_subgoal >>= λ selected.
            unwrap (get_elem? strand.ex_clause.subgoals selected.subgoal_index) >>= λ literal.
            change_top z (λ c. with_active (cycle_minimums literal e.cyclic_minimums c) none) >>= λ es'.
            enqueue_at_top (record { forest = s.forest; stack = es' }) strand >>= λ s''. go (continue s''))) (sym x.2)
            (unwrapping strand.selected_subgoal (λ selected is.
            unwrapping (get_elem? strand.ex_clause.subgoals selected.subgoal_index) (λ l here.
            let low = minimums_kept closed gs m l e.cyclic_minimums x.0 x.3 in
            after (enqueues_top closed gs m s.forest (with_active (cycle_minimums l e.cyclic_minimums x.0) none) x.1
            k.kept_forest
            (record { goal = low.goal; is_made = low.is_made; kept_active = tt }) x.4 strand
            (same_entry closed gs m l e.cyclic_minimums x.0 x.3 x.5))
            (λ s'' y. goes_on closed gs m s'' y))))

    none_left : (f : Forest) (e : StackEntry) (es : Stack) → KeptF f → All Entry (e ∷ es)
        → Fine (Flows closed gs m) (on_no_strands_left (record { forest = f; stack = e ∷ es }))
    none_left f e es k xs = unwrapping (get_elem? f.tables e.table) (λ t q. by_bool (is_empty t.strands)
        (λ b. no_strands (record { forest = f; stack = e ∷ es }) (record { kept_forest = k; kept_stack = xs }))
        (λ b. by_bool (is_complete t.answer_mode)
        (λ c. after (changes k e.table (λ u. with_mode u Ambiguous)
        (λ u h y. (refl, record { kept_strands = y.kept_strands; kept_answers = y.kept_answers; as_goal = y.as_goal })))
        (λ f' y. goes {a = return_err QuantumExceeded (record { forest = f'; stack = e ∷ es })}
        (onward closed gs m (record { kept_forest = y; kept_stack = xs }))))
        (λ c. by_bool (leb e.clock e.cyclic_minimums.positive && leb e.clock e.cyclic_minimums.negative)
        (λ d. own_cycle f e es k xs t)
        (λ d. part_of_cycle (record { forest = f; stack = e ∷ es }) (record { kept_forest = k; kept_stack = xs }) e))))

    -- The strand in hand.

    -- what is taken from a queue, and what is left
    abbrev Dequeued : Table → Option (Strand × Table) → Type 0
    Dequeued t none = Unit {0}
    Dequeued t (some r) = P gs t.table_goal r.0 × (r.1.table_goal ≡ t.table_goal) × KeptTable book P Q gs r.1

    dequeues : (test : Strand → Bool) (t : Table) → KeptTable book P Q gs t → Dequeued t (dequeue_next_strand_that test t)
    dequeues test t x = by_place (position test t.strands)
      where
        front : (ss : List Strand) → All (P gs t.table_goal) ss
            → Dequeued t (elim ss [ [] ↦ none | s ∷ rest ↦ some (s, with_strands t rest) ])
        front [] y = tt
        front (s ∷ ss) (more y ys) = (y, refl, record { kept_strands = ys; kept_answers = x.kept_answers; as_goal = x.as_goal })

        by_place : (o : Option ℕ) → Dequeued t (elim o [
          | none ↦ none
          | some first ↦ pop_front (with_strands t (rotate_left t.strands first))
        ])
        by_place none = tt
        by_place (some i) = front (rotate_left t.strands i) (all_rotate i x.kept_strands)

    -- the strand, and the state that it was taken from
    abbrev pub Next : (e : StackEntry) (x : Entry e) (es : Stack) → Option (Strand × SolveState) → Type 0
    Next e x es none = Unit {0}
    Next e x es (some r) = P gs x.goal r.0 × (f : Forest) × (r.1 ≡ record { forest = f; stack = with_active e none ∷ es }) × KeptF f

    pub takes_next : (f : Forest) (e : StackEntry) (es : Stack) → KeptF f → (x : Entry e) → (t : Table) → get_elem? f.tables
        e.table ≡ some t
        → Fine (Next e x es) (next_strand (record { forest = f; stack = e ∷ es }) e t)
    takes_next f e es k x t q = by_active e.active_strand refl
      where
        by_dequeued : (o : Option (Strand × Table)) → Dequeued t o → e.active_strand ≡ none → Fine (Next e x es) (elim o [
          | none ↦ go none
          | some taken ↦ change_table f e.table (λ _. taken.1) >>= λ f'. go (some (taken.0, record { forest = f'; stack = e ∷ es }))
        ])
        by_dequeued none y b = goes {a = none} tt
        by_dequeued (some r) y b =
            let same = same_goal k e.table t q x.goal x.is_made in
            after (changes k e.table (λ _. r.1) (λ u h z. (y.1 ∙ ap (λ (w : Table). w.table_goal) (same_some (sym q ∙ h)), y.2)))
            (λ f' z. goes {a = some (r.0, record { forest = f'; stack = e ∷ es })} (
              subst (λ (w : ℕ). P gs w r.0) (sym same) y.0,
              f',
              ap (λ (w : Option Strand). record {
                forest = f';
                stack = record {
                  table = e.table;
                  clock = e.clock;
                  cyclic_minimums = e.cyclic_minimums;
                  active_strand = w;
                } ∷ es;
              }) b,
              z,
            ))

        by_active : (o : Option Strand) → e.active_strand ≡ o → Fine (Next e x es) (elim o [
          | some strand ↦ go (some (strand, record { forest = f; stack = with_active e none ∷ es }))
          | none ↦ elim (dequeue_next_strand_that (eligible e.clock t.answer_mode) t) [
            | none ↦ go none
            | some taken ↦ change_table f e.table (λ _. taken.1) >>= λ f'. go (some (taken.0, record { forest = f'; stack = e ∷ es }))
          ]
        ])
        by_active none b = by_dequeued (dequeue_next_strand_that (eligible e.clock t.answer_mode) t)
            (dequeues (eligible e.clock t.answer_mode) t (all_at e.table k.kept_tables q)) b
        by_active (some strand) b = goes {a = some (strand, record { forest = f; stack = with_active e none ∷ es })}
            (active_kept closed e x strand b, f, refl, k)

  -- THE TURN

  module _ (gs : List ℕ) (m : ℕ) (f : Forest) (e : StackEntry) (es : Stack) (k : KeptForest book P Q gs m f) (x : KeptEntry book P Q gs e)
      (xs : All (KeptEntry book P Q gs) es) where
    by_choice : (c : Selection) → Chosen closed gs m x.goal c → (s : SubGoalSelection) → Fine (Flows closed gs m) (elim s [
      | Selected ↦ on_subgoal_selected (record { forest = c.forest; stack = with_active e none ∷ es }) c.strand
      | NotSelected ↦ on_no_remaining_subgoals (record { forest = c.forest; stack = with_active e none ∷ es }) c.strand
    ])
    by_choice c y Selected = flows_after closed y.within
        (selected_kept closed y.goals m c.forest (with_active e none) es y.kept
        (record { goal = x.goal; is_made = y.within e.table x.goal x.is_made; kept_active = tt })
        (all_map (entry_more closed y.within) xs) c.strand y.kept_strand)
    by_choice c y NotSelected = flows_after closed y.within
        (no_remaining closed y.goals m c.forest (with_active e none) es y.kept
        (record { goal = x.goal; is_made = y.within e.table x.goal x.is_made; kept_active = tt })
        (all_map (entry_more closed y.within) xs) c.strand y.kept_strand)

    by_next : (o : Option (Strand × SolveState)) → Next gs m e x es o → Fine (Flows closed gs m) (elim o [
      | none ↦ on_no_strands_left (record { forest = f; stack = e ∷ es })
      | some taken ↦ select_subgoal taken.1 (with_pursued taken.0 e.clock) >>= λ chosen. elim chosen.selection [
        | Selected ↦ on_subgoal_selected (with_forest taken.1 chosen.forest) chosen.strand
        | NotSelected ↦ on_no_remaining_subgoals (with_forest taken.1 chosen.forest) chosen.strand
      ]
    ])
    by_next none y = none_left gs m f e es k (more x xs)
    by_next (some taken) y = subst (λ (z : SolveState). Fine (Flows closed gs m) (select_subgoal z (with_pursued taken.0
        e.clock) >>= λ chosen.
        elim chosen.selection [
          | Selected ↦ on_subgoal_selected (with_forest z chosen.forest) chosen.strand
          | NotSelected ↦ on_no_remaining_subgoals (with_forest z chosen.forest) chosen.strand
        ])) (sym y.2)
        (after (selects_kept closed (record { forest = y.1; stack = with_active e none ∷ es }) (with_pursued taken.0 e.clock) y.3
        (closed.pursued taken.0 e.clock y.0))
        (λ c z. by_choice c z c.selection))

  pub turn_kept : (gs : List ℕ) (m : ℕ) (s : SolveState) → KeptState book P Q gs m s → Fine (Flows closed gs m) (turn s)
  turn_kept gs m s k = by_stack s.stack k.kept_stack
    where
      by_stack : (es : Stack) → All (KeptEntry book P Q gs) es → Fine (Flows closed gs m) (turn (record { forest = s.forest; stack = es }))
      by_stack [] x = stops
      by_stack (e ∷ es) (more x xs) = unwrapping (get_elem? s.forest.tables e.table) (λ t q.
          after (takes_next gs m s.forest e es k.kept_forest x t q)
          (λ o y. by_next gs m s.forest e es k.kept_forest x xs o y))
