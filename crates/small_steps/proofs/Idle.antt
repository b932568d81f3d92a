-- No strand left to take: what `on_no_strands_left` comes to is what is decided, and done.
use Prim.Native.Nat.{suc, ◌-◌}
use native.Mathlib.Omega.{arith}
use mathlib.Core.Path.{◌≡◌, refl, sym, ap, subst}
use mathlib.Core.Bool.{true, false, ◌&&◌}
use mathlib.Core.Option.{Option, none, some}
use mathlib.Core.List.{[], ◌∷◌}
use lib.ListN.{length, get_elem?}
use lib.Dec.{leb, ltb}
use Rattle.definitions.specs.{MAX, Ambiguous, is_complete}
use Rattle.definitions.specs.Book.{Literal, Positive, Negative}
use Rattle.definitions.specs.Stop.{Stops, go, ◌>>=◌, unwrap}
use Rattle.definitions.specs.Lists.{is_empty, remove}
use Rattle.definitions.specs.Strand.{Strand, with_ex_clause, with_selected, with_subgoals}
use Rattle.definitions.specs.Table.{Table, with_mode, take_strands}
use Rattle.definitions.specs.Tables.{Forest, queued}
use Rattle.definitions.specs.Stack.{StackEntry, Stack, with_active, caller}
use Rattle.definitions.specs.Logic.{QuantumExceeded, NegativeCycle, SolveState, Flow, continue, unwound, activate, enqueue_at_top}
use Rattle.definitions.specs.Turn.{cycle_minimums, clear_strands_after_cycle, on_no_strands, on_own_cycle, on_part_of_cycle}
use Rattle.definitions.specs.Turn.{on_no_strands_left}
use Rattle.laws.proofs.Totals.{total_set}
use Rattle.asserts.proofs.Keeping.{table_is}
use Rattle.asserts.proofs.States.{state}
use Rattle.small_steps.specs.Acts.{Act, caller_failed, negative_cycle, clears, part_of_cycle, perform, changed, emptied}
use Rattle.small_steps.specs.Decide.{no_literal, no_selected, no_strand, or, selected_of, selected_literal, decide_clear}
use Rattle.small_steps.specs.Decide.{decide_failed}
use Rattle.small_steps.specs.Decide.{decide_no_strands, decide_part_of_cycle, decide_idle}
use Rattle.small_steps.proofs.Matches.{Matches, asserts, both_go, Goes, asserting, going, after, sure, on_unwrap, by_bool}
use Rattle.small_steps.proofs.Writing.{changes, changed_is, enqueues, unwinds_up}
use Rattle.small_steps.proofs.Clearing.{clears_strands}

-- the flow is what the act does to the state
abbrev pub Acts : SolveState → Flow → Act → Type 0
Acts s flow act = flow ≡ perform act s

acts : (s : SolveState) {x : Stops Flow} (act : Act) → Goes (perform act s) x → Matches (Acts s) x (go act)
acts s act asserting = asserts
acts s act going = both_go refl

module _ (f : Forest) (e : StackEntry) where
  module _ (c : StackEntry) (es : Stack) where
    failed : (strand : Strand) (l : Literal) → Matches (Acts (state f e (c ∷ es))) (elim l [
      | Positive goal want outsized ↦ unwound QuantumExceeded (state f (with_active c none) es)
      | Negative goal outsized ↦ activate (state f c es)
          (with_ex_clause (with_selected strand none)
          (with_subgoals strand.ex_clause (remove strand.ex_clause.subgoals (selected_of strand).subgoal_index))) >>= λ s''. go
          (continue s'')
    ]) (go (decide_failed strand l))
    failed strand (Positive goal want outsized) = acts (state f e (c ∷ es)) caller_failed
        (unwinds_up QuantumExceeded f (with_active c none) es)
    failed strand (Negative goal outsized) = both_go refl

    part : (strand : Strand) (l : Literal) → Matches (Acts (state f e (c ∷ es)))
        (enqueue_at_top (state f (with_active (cycle_minimums l e.cyclic_minimums c) none) es) strand >>= λ s''. go (continue s''))
        (go (part_of_cycle strand l))
    part strand (Positive goal want outsized) = sure _
        (enqueues f (with_active (cycle_minimums (Positive goal want outsized) e.cyclic_minimums c) none) es strand) (both_go refl)
    part strand (Negative goal outsized) = sure _
        (enqueues f (with_active (cycle_minimums (Negative goal outsized) e.cyclic_minimums c) none) es strand) (both_go refl)

  pop : (o : Option Strand) (cs : Stack) → Goes (caller (or no_strand o) cs) (unwrap o >>= λ x. go (caller x cs))
  pop none cs = asserting
  pop (some x) cs = going

  no_strands : (es : Stack) → Matches (Acts (state f e es)) (on_no_strands (state f e es)) (go (decide_no_strands (e ∷ es)))
  no_strands [] = both_go refl
  no_strands (c ∷ es) =
      let strand = or no_strand c.active_strand in
      sure _ (pop c.active_strand (c ∷ es)) (on_unwrap strand.selected_subgoal no_selected _
      (λ q. on_unwrap (get_elem? strand.ex_clause.subgoals (selected_of strand).subgoal_index) no_literal _
      (λ q'. failed c es strand (selected_literal strand))))

  parts : (es : Stack) → Matches (Acts (state f e es)) (on_part_of_cycle (state f e es) e) (go (decide_part_of_cycle (e ∷ es)))
  parts [] = asserts
  parts (c ∷ es) =
      let strand = or no_strand c.active_strand in
      sure _ (pop c.active_strand (c ∷ es)) (on_unwrap strand.selected_subgoal no_selected _
      (λ q. on_unwrap (get_elem? strand.ex_clause.subgoals (selected_of strand).subgoal_index) no_literal _
      (λ q'. part c es strand (selected_literal strand))))

  module _ (es : Stack) (t : Table) (k : get_elem? f.tables e.table ≡ some t) where
    own_cycle : Matches (Acts (state f e es)) (on_own_cycle (state f e es) e t) (elim (ltb e.cyclic_minimums.negative MAX) [
      | true ↦ go negative_cycle
      | false ↦ decide_clear f (suc (queued f - length t.strands)) t.strands (e.table ∷ []) >>= λ gone. go (clears gone)
    ])
    own_cycle = by_bool {b = ltb e.cyclic_minimums.negative MAX} refl
        (acts (state f e es) negative_cycle (unwinds_up NegativeCycle f e es))
        (sure _ (changes f e.table take_strands)
        (subst (λ n. Matches (Acts (state f e es))
        (clear_strands_after_cycle (suc n) t.strands (changed f e.table take_strands) >>= λ f'. unwound QuantumExceeded
        (state f' e es)) (decide_clear f (suc (queued f - length t.strands)) t.strands (e.table ∷ []) >>= λ gone. go
        (clears gone))) (sym counts)
        (after (clears_strands f (suc (queued f - length t.strands)) t.strands (e.table ∷ []))
        (λ g gone x. subst (λ z. Matches (Acts (state f e es)) (unwound QuantumExceeded (state z e es)) (go (clears gone))) (sym x)
        (acts (state f e es) (clears gone) (unwinds_up QuantumExceeded (emptied gone f) e es))))))
      where
        counts : queued (changed f e.table take_strands) ≡ queued f - length t.strands
        counts = let x = total_set (λ u. length u.strands) f.tables e.table t (take_strands t) k in let y = ap queued
            (changed_is f e.table t take_strands k) in omega arith

    -- `on_no_strands_left`
    pub none_left : Matches (Acts (state f e es)) (on_no_strands_left (state f e es)) (decide_idle (state f e es) e t)
    none_left = sure _ (subst (λ z. Goes t z) (sym (table_is f e.table t k)) going) (by_bool {b = is_empty t.strands} refl
        (no_strands es)
        (by_bool {b = is_complete t.answer_mode} refl
        (sure _ (changes f e.table (λ u. with_mode u Ambiguous)) (both_go refl))
        (by_bool {b = leb e.clock e.cyclic_minimums.positive && leb e.clock e.cyclic_minimums.negative} refl
        own_cycle
        (parts es))))
