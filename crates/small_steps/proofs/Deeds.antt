-- A strand in hand: what `on_subgoal_selected` comes to is what is decided about it, and done. The turn works on the forest f; what is
-- decided is read off g, which has the same heads.
use Prim.Native.Nat.{ℕ, zero, suc, ◌+◌}
use native.Mathlib.Omega.{arith}
use mathlib.Core.Path.{◌≡◌, refl, sym, ap, subst, ◌∙◌}
use mathlib.Core.Bool.{Bool, true, false, not, ◌&&◌, ◌||◌}
use mathlib.Core.Option.{Option, none, some}
use mathlib.Core.List.{List, [], ◌∷◌, map}
use lib.ListN.{length, get_elem?, set}
use lib.Dec.{eqb, leb, ltb}
use Rattle.definitions.specs.{ExClause, MAX, Answer, Minimums, is_complete}
use Rattle.definitions.specs.Book.{Literal, Positive, Negative}
use Rattle.definitions.specs.Fitting.{is_trivial}
use Rattle.definitions.specs.Stop.{Stops, stop, go, ◌>>=◌, ◌>>◌, stop_if, unwrap}
use Rattle.definitions.specs.Lists.{is_empty, remove}
use Rattle.definitions.specs.Strand.{SelectedSubgoal, Strand, with_ex_clause, with_selected, with_subgoals, with_ambiguous}
use Rattle.definitions.specs.Strand.{with_answer_time}
use Rattle.definitions.specs.Table.{Table, answer, next_answer_index}
use Rattle.definitions.specs.Tables.{Forest, table_at, queued}
use Rattle.definitions.specs.Stack.{StackEntry, Stack, is_active, top_of_stack_from, active}
use Rattle.definitions.specs.Slg.{delay, apply_answer_subst}
use Rattle.sizes.specs.Limits.{most_strands}
use Rattle.definitions.specs.Logic.{QuantumExceeded, SolveState, Flow, continue, return_err, activate, enqueue_at_top}
use Rattle.definitions.specs.Logic.{flounder_subgoal, Merge, merged, failed, next_answer_strand, enqueue_next_answer, no_solution}
use Rattle.definitions.specs.Logic.{merge_into, merge_answer_into_strand}
use Rattle.definitions.specs.Turn.{on_coinductive_subgoal, cycle_minimums, on_positive_cycle, coinductive_entries, on_cycle}
use Rattle.definitions.specs.Turn.{on_subgoal_selected}
use Rattle.asserts.proofs.Keeping.{queued_enqueue}
use Rattle.asserts.proofs.States.{state}
use Rattle.small_steps.specs.Acts.{Deed, goes_on, gives_up, cycles, perform_deed, copied, queued_at_top}
use Rattle.small_steps.specs.Decide.{or, no_literal, no_table, no_selected, literal_at, table_of, with_literal_floundered}
use Rattle.small_steps.specs.Decide.{decide_copy}
use Rattle.small_steps.specs.Decide.{decide_into, decide_merge, decide_coinductive, all_coinductive, decide_cycle, decide_awaiting}
use Rattle.small_steps.specs.Decide.{decide_selected}
use Rattle.small_steps.proofs.Matches.{Matches, asserts, both_stop, both_go, Goes, asserting, going, goes_after, goes_unwrap, after}
use Rattle.small_steps.proofs.Matches.{then}
use Rattle.small_steps.proofs.Matches.{after_same, sure, on_unwrap, by_option, guard, assert, by_bool}
use Rattle.small_steps.proofs.Writing.{changes, changed_is, enqueues, unwinds, heads, same_head, after_table}

-- the flow is what the deed does to the state
abbrev pub Does : SolveState → Flow → Deed → Type 0
Does s flow deed = flow ≡ perform_deed deed s

pub flounders_literal : (x : ExClause) (i : ℕ) → Goes (with_literal_floundered x i) (flounder_subgoal x i)
flounders_literal x i = goes_after _ (goes_unwrap (get_elem? x.subgoals i) no_literal) going

module _ (f g : Forest) (same : heads f ≡ heads g) (e : StackEntry) (es : Stack) where
  abbrev s : SolveState
  s = state f e es

  -- Merging.

  abbrev after_merge : Merge → Stops Flow
  after_merge m = elim m [
    | failed s'' ↦ go (return_err QuantumExceeded s'')
    | merged strand' s'' ↦ activate s'' strand' >>= λ s'''. go (continue s''')
  ]

  abbrev Merges : Merge → Deed → Type 0
  Merges m deed = Matches (Does s) (after_merge m) (go deed)

  no_merge : (copy : Option Strand) → Matches Merges (no_solution (copied copy s)) (go (gives_up copy))
  no_merge none = sure _ (unwinds f e es) (both_go (both_go refl))
  no_merge (some c) = sure _ (unwinds (queued_at_top c s).forest e es) (both_go (both_go refl))

  merges : (copy : Option Strand) (strand : Strand) → Merges (merged strand (copied copy s)) (goes_on copy strand)
  merges none strand = both_go refl
  merges (some c) strand = both_go refl

  into : (copy : Option Strand) (strand : Strand) (l : Literal) (a : Answer)
      → Matches Merges (merge_into (copied copy s) strand l a) (decide_into copy strand l a)
  into copy strand (Positive goal want outsized) a = after_same (apply_answer_subst (Positive goal want outsized) a strand.ex_clause)
      (λ o. by_option {o = o} refl
      (λ k. no_merge copy)
      (λ x k. both_go (merges copy (with_ex_clause strand
      (with_answer_time (with_ambiguous x (x.ambiguous || a.ambiguous)) (suc x.answer_time))))))
  into copy strand (Negative goal outsized) a = guard {b = not (is_empty a.delayed_subgoals)} refl 27 (by_bool {b = a.ambiguous} refl
      (both_go (merges copy (with_ex_clause strand (with_ambiguous strand.ex_clause true))))
      (no_merge copy))

  -- 22: the copy is one live strand more
  copies : (t : Table) → get_elem? f.tables e.table ≡ some t
      → (strand : Strand) (selected : SelectedSubgoal) (l : Literal) (a : Answer)
      → Matches (λ s'' copy. s'' ≡ copied copy s) (enqueue_next_answer s strand selected l a)
      (decide_copy (active (e ∷ es) + 1 + queued f) strand selected l a)
  copies t k strand selected (Negative goal outsized) a = both_go refl
  copies t k strand selected (Positive goal want outsized) a = by_bool {b = is_trivial a.variant} refl
      (both_go refl)
      (sure _ (enqueues f e es (next_answer_strand strand selected))
      (guard (ap (ltb most_strands) (counts (next_answer_strand strand selected))) 22 (both_go refl)))
    where
      counts : (c : Strand) → queued (queued_at_top c s).forest + active (e ∷ es) + 1 ≡ suc (active (e ∷ es) + 1 + queued f)
      counts c = let n = queued_enqueue f e.table t c k in let q : queued (queued_at_top c s).forest ≡ suc (queued f) =
          rw k n in omega arith

  merge : (strand : Strand) (selected : SelectedSubgoal) (a : Answer)
      → Matches Merges (merge_answer_into_strand s strand selected a)
      (decide_merge (active (e ∷ es) + 1 + queued f) strand selected a (table_of g e.table))
  merge strand selected a = after_table f g same e.table (decide_merge (active (e ∷ es) + 1 + queued f) strand selected a)
      (λ t ss k. by_bool {b = is_complete t.answer_mode && a.ambiguous} refl
      (sure _ (flounders_literal strand.ex_clause selected.subgoal_index)
      (both_go (merges none (with_ex_clause (with_selected strand none)
      (with_literal_floundered strand.ex_clause selected.subgoal_index)))))
      (on_unwrap (get_elem? strand.ex_clause.subgoals selected.subgoal_index) no_literal _ (λ q.
      let l = literal_at strand.ex_clause selected.subgoal_index in
      after (copies t k strand selected l a) (λ s'' copy as-copied.
      let rest = with_ex_clause (with_selected strand none)
      (with_subgoals strand.ex_clause (remove strand.ex_clause.subgoals selected.subgoal_index)) in
      subst (λ z. Matches Merges (merge_into z rest l a) (decide_into copy rest l a)) (sym as-copied) (into copy rest l a)))))

  -- Cycles.

  coinductive : (strand : Strand) (selected : SelectedSubgoal)
      → Matches (Does s) (on_coinductive_subgoal s strand selected)
      (decide_coinductive strand selected (literal_at strand.ex_clause selected.subgoal_index))
  coinductive strand selected = on_unwrap (get_elem? strand.ex_clause.subgoals selected.subgoal_index) no_literal _
      (λ q. by_literal (literal_at strand.ex_clause selected.subgoal_index))
    where
      by_literal : (l : Literal) → Matches (Does s) (elim l [
        | Positive goal want outsized ↦ table_at f e.table >>= λ table. table_at f
            selected.subgoal_table >>= λ subgoal_table. stop_if (not (table.coinductive_goal && subgoal_table.coinductive_goal)) 0 >>
            (delay (goal ∷ []) (with_subgoals strand.ex_clause (remove strand.ex_clause.subgoals selected.subgoal_index)) >>=
            λ x'. activate s (with_ex_clause (with_selected strand none) x') >>= λ s''. go (continue s''))
        | Negative goal outsized ↦ stop 28
      ]) (decide_coinductive strand selected l)
      by_literal (Positive goal want outsized) = on_unwrap (get_elem? f.tables e.table) no_table _
          (λ k. on_unwrap (get_elem? f.tables selected.subgoal_table) no_table _
          (λ k'. assert (not ((table_of f e.table).coinductive_goal && (table_of f selected.subgoal_table).coinductive_goal))
          (after_same (delay (goal ∷ []) (with_subgoals strand.ex_clause
          (remove strand.ex_clause.subgoals selected.subgoal_index))) (λ x'. both_go refl))))
      by_literal (Negative goal outsized) = both_stop

  entries : (cs : Stack) → Goes (all_coinductive g cs) (coinductive_entries f cs)
  entries [] = going
  entries (c ∷ cs) = goes_after _ (goes_unwrap (get_elem? f.tables c.table) no_table)
      (goes_after _ (entries cs) (subst (λ z. Goes (z && all_coinductive g cs)
      (go ((table_of f c.table).coinductive_goal && all_coinductive g cs)))
      (ap (λ t. t.coinductive_goal) (same_head f g same c.table)) going))

  positive_cycle : (strand : Strand) (selected : SelectedSubgoal) (m : Minimums)
      → Matches (Does s) (on_positive_cycle s strand selected m)
      (go (cycles strand (literal_at strand.ex_clause selected.subgoal_index) m))
  positive_cycle strand selected m = on_unwrap (get_elem? strand.ex_clause.subgoals selected.subgoal_index) no_literal _
      (λ q. by_literal (literal_at strand.ex_clause selected.subgoal_index))
    where
      by_literal : (l : Literal) → Matches (Does s) (enqueue_at_top (state f (cycle_minimums l m e) es) strand >>= λ s''. go (continue s''))
          (go (cycles strand l m))
      by_literal (Positive goal want outsized) = sure _ (enqueues f (cycle_minimums (Positive goal want outsized) m e) es strand)
          (both_go refl)
      by_literal (Negative goal outsized) = sure _ (enqueues f (cycle_minimums (Negative goal outsized) m e) es strand) (both_go refl)

  cycle : (strand : Strand) (selected : SelectedSubgoal) (depth : ℕ)
      → Matches (Does s) (on_cycle s strand selected depth) (decide_cycle g (e ∷ es) strand selected depth)
  cycle strand selected depth = at (e ∷ es) depth _
      (λ entry clock. sure _ (entries (top_of_stack_from depth (e ∷ es)))
      (by_bool {b = all_coinductive g (top_of_stack_from depth (e ∷ es))} refl
      (coinductive strand selected)
      (subst (λ c. Matches (Does s) (on_positive_cycle s strand selected (record { positive = entry.clock; negative = MAX }))
      (go (cycles strand (literal_at strand.ex_clause selected.subgoal_index) (record { positive = c; negative = MAX })))) clock
      (positive_cycle strand selected (record { positive = entry.clock; negative = MAX })))))
    where
      at : {C D : Type 0} {Q : C → D → Type 0} (cs : Stack) (i : ℕ) (k : StackEntry → Stops C) {d : Stops D}
          → ((c : StackEntry) → c.clock ≡ or 0 (get_elem? (map (λ x. x.clock) cs) i) → Matches Q (k c) d)
          → Matches Q (unwrap (get_elem? cs i) >>= k) d
      at [] i k h = asserts
      at (c ∷ cs) zero k h = h c refl
      at (c ∷ cs) (suc i) k h = at cs i k h

  -- `on_subgoal_selected`
  pub on_selected : (strand : Strand) → Matches (Does s) (on_subgoal_selected s strand)
      (decide_selected (active (e ∷ es) + 1 + queued f) g e es strand)
  on_selected strand = on_unwrap strand.selected_subgoal no_selected _ (λ q.
      let selected = or no_selected strand.selected_subgoal in
      after_table f g same selected.subgoal_table (decide_awaiting (active (e ∷ es) + 1 + queued f) g e es strand selected)
      (λ t ss k. assert t.floundered (by_option {o = answer t selected.answer_index} refl
      (λ n. assert (not (eqb (next_answer_index t) selected.answer_index))
      (by_option {o = is_active selected.subgoal_table (e ∷ es)} refl
      (λ off. then (guard (ap (λ h. leb h.clock_limit h.clock) same) 21 (both_go (both_go refl))))
      (λ depth on. cycle strand selected depth)))
      (λ a here. then (merge strand selected a)))))
