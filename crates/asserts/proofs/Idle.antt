-- No strand is left to take: the table has failed, changes its mode, or is part of a cycle. The root never is part of one that ends
-- further down.
use Prim.Native.Nat.{ℕ, suc, ◌+◌, ◌<◌}
use native.Mathlib.Omega.{arith}
use borrow.Author.Tests.{le-leb}
use mathlib.Core.Path.{◌≡◌, refl, sym, ap, subst, ◌∙◌}
use mathlib.Core.Bool.{true, false, ◌&&◌, true≢false, and-eq-true_iff}
use mathlib.Core.Option.{Option, none, some}
use mathlib.Core.List.{[], ◌∷◌}
use lib.ListN.{length, get_elem?, set}
use lib.Dec.{leb, ltb}
use Rattle.definitions.specs.{MAX, Ambiguous, is_complete}
use Rattle.definitions.specs.Book.{Literal, Positive, Negative}
use Rattle.definitions.specs.Stop.{go, ◌>>=◌, unwrap}
use Rattle.definitions.specs.Lists.{is_empty, remove}
use Rattle.definitions.specs.Strand.{Strand, with_ex_clause, with_selected, with_subgoals}
use Rattle.definitions.specs.Table.{with_mode, take_strands}
use Rattle.definitions.specs.Tables.{Tables, Forest, with_tables, queued}
use Rattle.definitions.specs.Stack.{StackEntry, Stack, with_active, caller, active, active_count}
use Rattle.definitions.specs.Logic.{NoMoreSolutions, QuantumExceeded, NegativeCycle, continue, return_err, activate, unwound}
use Rattle.definitions.specs.Logic.{enqueue_at_top}
use Rattle.definitions.specs.Turn.{cycle_minimums, on_no_strands, on_own_cycle, on_part_of_cycle, on_no_strands_left}
use Rattle.laws.proofs.Lists.{at_place}
use Rattle.laws.specs.All.{end}
use Rattle.laws.proofs.All.{all_map}
use Rattle.laws.proofs.Totals.{total_set}
use Rattle.asserts.proofs.Safe.{Safe, goes, after, known, by_bool, unwraps}
use Rattle.asserts.specs.Sound.{Awaits, Selects, Calls, Active, SoundStack}
use Rattle.asserts.proofs.Keeping.{grows_above, strand_grows, kept_trans, set_kept, strands_kept, table_is, change_is}
use Rattle.asserts.proofs.Keeping.{table_sound}
use Rattle.asserts.proofs.Unwinding.{Flows, searching_ended}
use Rattle.asserts.proofs.States.{state, with_queued, enqueue_is, stack_kept, takes_back, activates, continues, unwinds_up}
use Rattle.asserts.proofs.States.{leaves}
use Rattle.asserts.proofs.Merging.{remove_sound}
use Rattle.asserts.proofs.Cycles.{with_cycle}
use Rattle.asserts.proofs.Clearing.{clears}

-- the caller's literal
record Literally {n : ℕ} {ts : Tables} {awaited : ℕ} {o : Option Strand} (c : Calls n ts awaited o) : Type 0 where
  under : c.selected.subgoal_index < length c.strand.ex_clause.subgoals
  the_literal : Literal
  there : get_elem? c.strand.ex_clause.subgoals c.selected.subgoal_index ≡ some the_literal

literally : {n : ℕ} {ts : Tables} {awaited : ℕ} {o : Option Strand} (c : Calls n ts awaited o) → Literally c
literally {n} {ts} c =
    let w : Awaits ts (length c.strand.ex_clause.subgoals) c.selected =
    subst (Selects ts (length c.strand.ex_clause.subgoals)) c.is_selected c.sound.1 in
    let l = at_place c.strand.ex_clause.subgoals c.selected.subgoal_index w.at_literal in
    record { under = w.at_literal; the_literal = l.0; there = l.1 }

module _ (n root index first : ℕ) where
  -- the caller on top, with its strand in hand
  under : (f : Forest) (e c : StackEntry) (es : Stack) → SoundStack n root index first f (e ∷ c ∷ es)
      → SoundStack n root index first f (with_active c none ∷ es)
  under f e c es x = let s = x.0 in (
    record {
      forest = s.forest;
      begun = s.begun;
      rooted = s.rooted;
      standing = s.below.0;
      below = s.below.2;
      off = s.below.3;
    },
    tt,
    (let o = x.2 in omega arith),
  )

  under_free : (f : Forest) (e c : StackEntry) (es : Stack) → SoundStack n root index first f (e ∷ c ∷ es)
      → queued f + active (with_active c none ∷ es) < 256
  under_free f e c es x = let o = x.2 in let one : active_count c.active_strand ≡ 1 = ap active_count x.0.below.1.is_active in
      omega arith

  no_strands : (f : Forest) (e : StackEntry) (es : Stack) → SoundStack n root index first f (e ∷ es)
      → Safe (Flows n root index first) (on_no_strands (state f e es))
  no_strands f e [] x = goes {a = return_err NoMoreSolutions (record { forest = f; stack = [] })}
      (refl, (searching_ended x.0, goes (searching_ended x.0)))
  no_strands f e (c ∷ es) x =
      let calls = x.0.below.1 in
      let l = literally calls in
      known _ (borrowed c.active_strand calls.strand calls.is_active)
      (known _ (unwraps calls.strand.selected_subgoal calls.selected calls.is_selected)
      (known _ (unwraps (get_elem? calls.strand.ex_clause.subgoals calls.selected.subgoal_index) l.the_literal l.there)
      (by_literal l.the_literal)))
    where
      borrowed : (o : Option Strand) (strand : Strand) → o ≡ some strand
          → (unwrap o >>= λ s. go (caller s (c ∷ es))) ≡ go (caller strand (c ∷ es))
      borrowed o strand q = rw q

      by_literal : (l : Literal) → Safe (Flows n root index first) (elim l [
        | Positive goal want outsized ↦ unwound QuantumExceeded (state f (with_active c none) es)
        | Negative goal outsized ↦ activate (state f c es)
            (with_ex_clause (with_selected x.0.below.1.strand none)
            (with_subgoals x.0.below.1.strand.ex_clause
            (remove x.0.below.1.strand.ex_clause.subgoals x.0.below.1.selected.subgoal_index))) >>= λ s''. go
            (continue s'')
      ])
      by_literal (Positive goal want outsized) = unwinds_up n root index first QuantumExceeded refl (state f (with_active c none) es)
          (under f e c es x)
      by_literal (Negative goal outsized) =
          let calls = x.0.below.1 in
          let new = with_ex_clause (with_selected calls.strand none)
          (with_subgoals calls.strand.ex_clause (remove calls.strand.ex_clause.subgoals calls.selected.subgoal_index)) in
          continues n root index first (activates n root index first (state f (with_active c none) es) new (under f e c es x)
          (under_free f e c es x) (
            remove_sound calls.strand.ex_clause calls.selected.subgoal_index (literally calls).under
                calls.sound.0,
            tt,
          ))

  own_cycle : (f : Forest) (e : StackEntry) (es : Stack) (x : SoundStack n root index first f (e ∷ es))
      → Safe (Flows n root index first) (on_own_cycle (state f e es) e x.0.standing.own)
  own_cycle f e es x = by_bool (ltb e.cyclic_minimums.negative MAX)
      (λ b. unwinds_up n root index first NegativeCycle refl (state f e es) x)
      (λ b.
      let own = x.0.standing.own in
      let k = x.0.standing.is_made in
      let f' = with_tables f (set f.tables e.table (take_strands own)) in
      let c = strands_kept x.0.forest e.table k [] (λ q. refl) (let o = x.0.forest.few_strands in omega arith) end in
      known _ (change_is f e.table own take_strands k)
      (after (clears n (suc (queued f')) own.strands f'
      (all_map (strand_grows {n = n} (grows_above c.grows)) (table_sound x.0.forest e.table k).sound_strands) c.sound
      (omega arith)) (λ f'' d.
      unwinds_up n root index first QuantumExceeded refl (state f'' e es)
      (stack_kept n root index first f f'' e es x (kept_trans c d.kept)
      (let o = d.fewer in let p = total_set (λ u. length u.strands) f.tables e.table own (take_strands own) k in
      let q = x.2 in omega arith)))))

  part_of_cycle : (f : Forest) (e : StackEntry) (es : Stack) (x : SoundStack n root index first f (e ∷ es))
      → (leb e.clock e.cyclic_minimums.positive && leb e.clock e.cyclic_minimums.negative) ≡ false
      → Safe (Flows n root index first) (on_part_of_cycle (state f e es) e)
  part_of_cycle f e [] x b =
      let same = x.0.below.1 in
      let p = x.0.standing.positive_late in
      let q = x.0.standing.negative_late in
      let m = e.cyclic_minimums in
      let late = (and-eq-true_iff (leb e.clock m.positive) (leb e.clock m.negative)).1
      (le-leb e.clock m.positive (omega arith), le-leb e.clock m.negative (omega arith)) in
      absurd (true≢false (sym late ∙ b))
  part_of_cycle f e (c ∷ es) x b =
      let calls = x.0.below.1 in
      let l = literally calls in
      known _ (borrowed c.active_strand calls.strand calls.is_active)
      (known _ (unwraps calls.strand.selected_subgoal calls.selected calls.is_selected)
      (known _ (unwraps (get_elem? calls.strand.ex_clause.subgoals calls.selected.subgoal_index) l.the_literal l.there)
      (on l.the_literal)))
    where
      borrowed : (o : Option Strand) (strand : Strand) → o ≡ some strand
          → (unwrap o >>= λ s. go (caller s (c ∷ es))) ≡ go (caller strand (c ∷ es))
      borrowed o strand q = rw q

      on : (l : Literal) → Safe (Flows n root index first)
          (enqueue_at_top (state f (with_active (cycle_minimums l e.cyclic_minimums c) none) es) x.0.below.1.strand >>= λ s''. go
          (continue s''))
      on l =
          let calls = x.0.below.1 in
          let p : SoundStack n root index first f (c ∷ es) =
          ((under f e c es x).0, subst (Active n f.tables) (sym calls.is_active) calls.sound, (let o = x.2 in omega arith)) in
          let y = with_cycle n root index first f c es p l e.cyclic_minimums x.0.standing.positive_late
          x.0.standing.negative_late in
          let c' = with_active (cycle_minimums l e.cyclic_minimums c) none in
          let z : SoundStack n root index first f (c' ∷ es) = (y.0, tt, (let o = under_free f e c es x in omega arith)) in
          let own = z.0.standing.own in
          let k = takes_back n root index first f c' es calls.strand z (under_free f e c es x) calls.sound in
          known _ (enqueue_is f c' es calls.strand own z.0.standing.is_made)
          (goes {a = continue (state (with_queued f c'.table own calls.strand) c' es)} k)

  pub no_strands_left : (f : Forest) (e : StackEntry) (es : Stack) → SoundStack n root index first f (e ∷ es)
      → Safe (Flows n root index first) (on_no_strands_left (state f e es))
  no_strands_left f e es x =
      let own = x.0.standing.own in
      let k = x.0.standing.is_made in
      let t = table_sound x.0.forest e.table k in
      let few = x.0.forest.few_answers in
      known _ (table_is f e.table own k)
      (by_bool (is_empty own.strands)
      (λ b. no_strands f e es x)
      (λ b. by_bool (is_complete own.answer_mode)
      (λ c.
      let f' = with_tables f (set f.tables e.table (with_mode own Ambiguous)) in
      let kept = set_kept x.0.forest e.table k (with_mode own Ambiguous) (refl, refl)
      (record { same_floundered = refl; more_answers = omega arith })
      (record {
        goal_named = t.goal_named;
        sound_strands = t.sound_strands;
        sound_answers = t.sound_answers;
        floundered_empty = t.floundered_empty;
      }) (omega arith) (let o = x.0.forest.few_strands in omega arith) in
      known _ (change_is f e.table own (λ t. with_mode t Ambiguous) k)
      (goes {a = return_err QuantumExceeded (state f' e es)} (
        refl,
        leaves n root index first f' e es (stack_kept n root index first f f' e es x kept
            (let o = x.2 in let p = total_set (λ u. length u.strands) f.tables e.table own (with_mode own Ambiguous) k in
            omega arith)),
      )))
      (λ c. by_bool (leb e.clock e.cyclic_minimums.positive && leb e.clock e.cyclic_minimums.negative)
      (λ d. own_cycle f e es x)
      (λ d. part_of_cycle f e es x d))))
