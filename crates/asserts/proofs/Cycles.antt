-- A selected literal whose table is not floundered: it has the answer, stands on the stack already, or is pushed.
use Prim.Native.Nat.{ℕ, suc, ◌+◌, ◌≤◌, ◌<◌}
use native.Mathlib.Omega.{arith}
use borrow.Author.Tests.{eq-eqb}
use mathlib.Core.Path.{◌≡◌, refl, sym, subst, ◌∙◌}
use mathlib.Core.Bool.{Bool, true, false, not, ◌&&◌, true≢false, and-eq-true_iff}
use mathlib.Core.Logic.{inl, inr}
use mathlib.Core.Option.{Option, none, some}
use mathlib.Core.List.{[], ◌∷◌}
use lib.ListN.{length, get_elem?, take}
use lib.Dec.{T, eqb, eqb→eq}
use Rattle.definitions.specs.{MAX, Minimums, minimums_MAX}
use Rattle.definitions.specs.Book.{Literal, Positive, Negative}
use Rattle.definitions.specs.Stop.{stop, go, ◌>>=◌, ◌>>◌, stop_if}
use Rattle.definitions.specs.Lists.{remove}
use Rattle.definitions.specs.Strand.{SelectedSubgoal, Strand, with_ex_clause, with_selected, with_subgoals}
use Rattle.definitions.specs.Table.{Table, answer, next_answer_index}
use Rattle.definitions.specs.Tables.{Tables, Forest, queued, table_at, increment_clock}
use Rattle.definitions.specs.Stack.{StackEntry, Stack, with_active, is_active, push_entry, active}
use Rattle.definitions.specs.Slg.{delay}
use Rattle.definitions.specs.Logic.{SolveState, QuantumExceeded, continue, return_err, Merge, merged, failed, activate}
use Rattle.definitions.specs.Turn.{on_coinductive_subgoal, cycle_minimums, on_positive_cycle, coinductive_entries, on_cycle}
use Rattle.definitions.specs.Turn.{on_subgoal_selected}
use Rattle.laws.proofs.Lists.{at_place, at_take, no_place}
use Rattle.laws.proofs.Options.{no_such, same_some}
use Rattle.laws.specs.All.{All, end, more}
use Rattle.laws.proofs.All.{all_first, all_rest, all_take, all_at}
use Rattle.asserts.proofs.Safe.{Safe, stops, goes, after, known, asserted, by_bool, by_option}
use Rattle.asserts.proofs.Safe.{unwraps}
use Rattle.asserts.specs.Sound.{Off, Named, Reached, Awaits, Selects, SoundStrand, Standing, Below, SoundStack, SoundState}
use Rattle.asserts.proofs.Keeping.{grows_above, strand_grows, ticks, table_is, table_sound, searching_kept}
use Rattle.asserts.proofs.Choosing.{Ready}
use Rattle.asserts.proofs.Unwinding.{Flows}
use Rattle.asserts.proofs.States.{state, with_queued, enqueue_is, takes_back, activates, continues}
use Rattle.asserts.proofs.Merging.{delays, remove_sound, Merges, merges}

-- The stack's entries.

abbrev Stands : (ts : Tables) (first : ℕ) → StackEntry → Type 0
Stands ts first e = Standing ts first e.table e.clock e.cyclic_minimums

below_stands : (n : ℕ) (ts : Tables) (root first table clock : ℕ) (es : Stack) → Below n ts root first table clock es
    → All (Stands ts first) es
below_stands n ts root first table clock [] x = end
below_stands n ts root first table clock (e ∷ es) x = more x.0 (below_stands n ts root first e.table e.clock es x.2)

-- the entry that is found on the stack
found_active : (t : ℕ) (es : Stack) (depth : ℕ) → is_active t es ≡ some depth
    → (e : StackEntry) × (get_elem? es depth ≡ some e) × (e.table ≡ t)
found_active t [] depth k = absurd (no_such k)
found_active t (e ∷ es) depth k = at (found_active t es) (is_active t es) refl depth k
  where
    here : (b : Bool) → eqb e.table t ≡ b → (depth : ℕ) → elim b [ true ↦ some 0 | false ↦ none ] ≡ some depth
        → (x : StackEntry) × (get_elem? (e ∷ es) depth ≡ some x) × (x.table ≡ t)
    here true q depth k = (e, subst (λ z. get_elem? (e ∷ es) z ≡ some e) (same_some k) refl, eqb→eq e.table t (subst T (sym q) tt))
    here false q depth k = absurd (no_such k)

    at : ((depth : ℕ) → is_active t es ≡ some depth → (x : StackEntry) × (get_elem? es depth ≡ some x) × (x.table ≡ t)) → (o : Option ℕ)
        → is_active t es ≡ o → (depth : ℕ)
        → elim o [ some d ↦ some (suc d) | none ↦ elim (eqb e.table t) [ true ↦ some 0 | false ↦ none ] ] ≡ some depth
        → (x : StackEntry) × (get_elem? (e ∷ es) depth ≡ some x) × (x.table ≡ t)
    at h none q depth k = here (eqb e.table t) refl depth k
    at h (some d) q depth k = let r = h d q in (r.0, subst (λ z. get_elem? (e ∷ es) z ≡ some r.0) (same_some k) r.1, r.2)

-- a table that is not found on the stack
not_active : (t : ℕ) (es : Stack) → is_active t es ≡ none → Off t es
not_active t [] k = end
not_active t (e ∷ es) k = at (is_active t es) refl k (not_active t es)
  where
    here : (b : Bool) → eqb e.table t ≡ b → ◌≡◌ {A = Option ℕ} (elim b [ true ↦ some 0 | false ↦ none ]) none → e.table ≡ t → ⊥
    here true q k c = absurd (no_such (sym k))
    here false q k c = absurd (true≢false (sym (eq-eqb e.table t c) ∙ q))

    at : (o : Option ℕ) → is_active t es ≡ o → ◌≡◌ {A = Option ℕ}
        (elim o [ some d ↦ some (suc d) | none ↦ elim (eqb e.table t) [ true ↦ some 0 | false ↦ none ] ]) none
        → (is_active t es ≡ none → Off t es) → Off t (e ∷ es)
    at none q k h = more (here (eqb e.table t) refl k) (h q)
    at (some d) q k h = absurd (no_such (sym k))

-- the state with a table pushed, over the strand that waits for it
abbrev pushed : Forest → StackEntry → Stack → Strand → SelectedSubgoal → SolveState
pushed f e es strand selected = record {
  forest = f;
  stack = push_entry selected.subgoal_table minimums_MAX f.clock (with_active e (some strand) ∷ es);
}

abbrev Coinductive : Tables → StackEntry → Type 0
Coinductive ts e = (t : Table) → get_elem? ts e.table ≡ some t → t.coinductive_goal ≡ true

entries : {first : ℕ} (f : Forest) (es : Stack) → All (Stands f.tables first) es
    → Safe (λ b. b ≡ true → All (Coinductive f.tables) es) (coinductive_entries f es)
entries f [] x = goes (λ e. end)
entries f (e ∷ es) x =
    let own = (all_first x).own in
    let k = (all_first x).is_made in
    known _ (table_is f e.table own k)
    (after (entries f es (all_rest x)) (λ others y. goes
    (λ b. let r = (and-eq-true_iff own.coinductive_goal others).0 b in
    more (λ t q. subst (λ z. z.coinductive_goal ≡ true) (same_some (sym k ∙ q)) r.0) (y r.1))))

module _ (n root index first : ℕ) where
  -- an entry with other minimums
  pub with_cycle : (f : Forest) (e : StackEntry) (es : Stack) → SoundStack n root index first f (e ∷ es) → (l : Literal) (m : Minimums)
      → first ≤ m.positive → first ≤ m.negative → SoundStack n root index first f (cycle_minimums l m e ∷ es)
  with_cycle f e es x (Positive goal want outsized) m p q =
      let s = x.0 in
      let a = s.standing.positive_late in
      let b = s.standing.negative_late in (
        record {
          forest = s.forest;
          begun = s.begun;
          rooted = s.rooted;
          below = s.below;
          off = s.off;
          standing = record {
            own = s.standing.own;
            is_made = s.standing.is_made;
            unfloundered = s.standing.unfloundered;
            clock_late = s.standing.clock_late;
            positive_late = omega arith;
            negative_late = omega arith;
          };
        },
        x.1,
        x.2,
      )
  with_cycle f e es x (Negative goal outsized) m p q =
      let s = x.0 in
      let a = s.standing.positive_late in
      let b = s.standing.negative_late in
      let c = s.standing.clock_late in (
        record {
          forest = s.forest;
          begun = s.begun;
          rooted = s.rooted;
          below = s.below;
          off = s.off;
          standing = record {
            own = s.standing.own;
            is_made = s.standing.is_made;
            unfloundered = s.standing.unfloundered;
            clock_late = s.standing.clock_late;
            positive_late = omega arith;
            negative_late = omega arith;
          };
        },
        x.1,
        x.2,
      )

  module _ (f : Forest) (e : StackEntry) (es : Stack) (x : SoundStack n root index first f (e ∷ es))
      (free : queued f + active (e ∷ es) < 256) (strand : Strand) (y : SoundStrand n f.tables strand) (selected : SelectedSubgoal)
      (w : Awaits f.tables (length strand.ex_clause.subgoals) selected) where
    the_literal : (l : Literal) × (get_elem? strand.ex_clause.subgoals selected.subgoal_index ≡ some l)
    the_literal = at_place strand.ex_clause.subgoals selected.subgoal_index w.at_literal

    coinductive : x.0.standing.own.coinductive_goal ≡ true → w.table.coinductive_goal ≡ true
        → Safe (Flows n root index first) (on_coinductive_subgoal (state f e es) strand selected)
    coinductive p q =
        let l = the_literal in
        known _ (unwraps (get_elem? strand.ex_clause.subgoals selected.subgoal_index) l.0 l.1)
        (by_literal l.0 (all_at selected.subgoal_index y.0.subgoals_named l.1))
      where
        by_literal : (l : Literal) → Named n l → Safe (Flows n root index first) (elim l [
          | Positive goal want outsized ↦ table_at f e.table >>= λ table. table_at f selected.subgoal_table >>= λ subgoal_table.
              stop_if (not (table.coinductive_goal && subgoal_table.coinductive_goal))
              0 >> (delay (goal ∷ []) (with_subgoals strand.ex_clause (remove strand.ex_clause.subgoals selected.subgoal_index))
              >>= λ x. activate (state f e es) (with_ex_clause (with_selected strand none) x) >>= λ s''. go (continue s''))
          | Negative goal outsized ↦ stop 28
        ])
        by_literal (Positive goal want outsized) lt =
            known _ (table_is f e.table x.0.standing.own x.0.standing.is_made)
            (known _ (table_is f selected.subgoal_table w.table w.is_made)
            (asserted (not (x.0.standing.own.coinductive_goal && w.table.coinductive_goal)) 0 (rw (p, q))
            (after (delays (goal ∷ []) (with_subgoals strand.ex_clause (remove strand.ex_clause.subgoals selected.subgoal_index))
            (more lt end) (remove_sound strand.ex_clause selected.subgoal_index w.at_literal y.0)) (λ x' z.
            continues n root index first (activates n root index first (state f e es) (with_ex_clause (with_selected strand none) x') x free
            (z.0, tt))))))
        by_literal (Negative goal outsized) lt = stops tt

    positive_cycle : (m : Minimums) → first ≤ m.positive → first ≤ m.negative
        → Safe (Flows n root index first) (on_positive_cycle (state f e es) strand selected m)
    positive_cycle m p q =
        let l = the_literal in
        let e' = cycle_minimums l.0 m e in
        let x' = with_cycle f e es x l.0 m p q in
        let own = x'.0.standing.own in
        let k = takes_back n root index first f e' es strand x' (as_free l.0 m) y in
        known _ (unwraps (get_elem? strand.ex_clause.subgoals selected.subgoal_index) l.0 l.1)
        (known _ (enqueue_is f e' es strand own x'.0.standing.is_made)
        (goes {a = continue (state (with_queued f e'.table own strand) e' es)} k))
      where
        as_free : (l : Literal) (m : Minimums) → queued f + active (cycle_minimums l m e ∷ es) < 256
        as_free (Positive goal want outsized) m = free
        as_free (Negative goal outsized) m = free

    stands : All (Stands f.tables first) (e ∷ es)
    stands = more x.0.standing (below_stands n f.tables root first e.table e.clock es x.0.below)

    max_late : first ≤ MAX
    max_late = let a = x.0.begun in let b = x.0.forest.clock_within in let c = x.0.forest.limit_within in omega arith

    cycle : (depth : ℕ) → is_active selected.subgoal_table (e ∷ es) ≡ some depth
        → Safe (Flows n root index first) (on_cycle (state f e es) strand selected depth)
    cycle depth k =
        let r = found_active selected.subgoal_table (e ∷ es) depth k in
        known _ (unwraps (get_elem? (e ∷ es) depth) r.0 r.1)
        (after (entries f (take (suc depth) (e ∷ es)) (all_take (suc depth) stands)) (λ b z. by_bool b
        (λ q. let all = z q in coinductive
        (all_first all x.0.standing.own x.0.standing.is_made)
        (all_at depth all (at_take (e ∷ es) depth r.0 r.1) w.table
        (subst (λ j. get_elem? f.tables j ≡ some w.table) (sym r.2) w.is_made)))
        (λ q. positive_cycle (record { positive = r.0.clock; negative = MAX }) (all_at depth stands r.1).clock_late max_late)))

    -- the table is pushed
    pushes : is_active selected.subgoal_table (e ∷ es) ≡ none → strand.selected_subgoal ≡ some selected → w.table.floundered ≡ false
        → Safe (Flows n root index first) (increment_clock f >>= λ f'. go (continue (pushed f' e es strand selected)))
    pushes inactive k u = after (ticks x.0.forest) (λ f' d.
        let c = d.0 in
        let same = d.1 in
        let s = searching_kept x.0 c in
        let t = c.grows.grown selected.subgoal_table w.table w.is_made in
        let z : SoundState n root index first (pushed f' e es strand selected) = (
          record {
            forest = s.forest;
            begun = s.begun;
            rooted = s.rooted;
            standing = record {
              own = t.after;
              is_made = t.is_made;
              unfloundered = t.related.same_floundered ∙ u;
              clock_late = s.begun;
              positive_late = max_late;
              negative_late = max_late;
            };
            below = (
              s.standing,
              record {
                strand = strand;
                is_active = refl;
                sound = strand_grows (grows_above c.grows) strand y;
                selected = selected;
                is_selected = k;
                waits_for = refl;
              },
              s.below,
              s.off,
            );
            off = let o = not_active selected.subgoal_table (e ∷ es) inactive in more (all_first o) (all_rest o);
          },
          tt,
          (omega arith),
        ) in
        goes {a = continue (pushed f' e es strand selected)} z)

  -- what merging leaves
  merged_case : (m : Merge) → Merges n root index first m → Safe (Flows n root index first) (elim m [
    | failed s'' ↦ go (return_err QuantumExceeded s'')
    | merged strand' s'' ↦ activate s'' strand' >>= λ s'''. go (continue s''')
  ])
  merged_case (merged strand s) z = continues n root index first (activates n root index first s strand z.0 z.2 z.1)
  merged_case (failed s) z = goes {a = return_err QuantumExceeded s} (refl, z)

  not_floundered : (t : Table) (k : ℕ) → t.floundered ≡ false → Reached t k → k ≤ length t.answers
  not_floundered t k u (inl e) = absurd (true≢false (sym e ∙ u))
  not_floundered t k u (inr o) = o

  pub on_selected : (f : Forest) (e : StackEntry) (es : Stack) → SoundStack n root index first f (e ∷ es) → queued f + active (e ∷ es) < 256
      → (strand : Strand) → SoundStrand n f.tables strand → Ready f strand
      → Safe (Flows n root index first) (on_subgoal_selected (state f e es) strand)
  on_selected f e es x free strand y r =
      let selected = r.selected in
      let a : Awaits f.tables (length strand.ex_clause.subgoals) selected =
      subst (Selects f.tables (length strand.ex_clause.subgoals)) r.is_selected y.1 in
      let w : Awaits f.tables (length strand.ex_clause.subgoals) selected = record {
        at_literal = a.at_literal;
        is_last = a.is_last;
        table = r.own;
        is_made = r.is_made;
        reached = subst (λ t. Reached t selected.answer_index) (same_some (sym a.is_made ∙ r.is_made)) a.reached;
      } in
      let at_most = not_floundered r.own selected.answer_index r.unfloundered w.reached in
      known _ (unwraps strand.selected_subgoal selected r.is_selected)
      (known _ (table_is f selected.subgoal_table r.own r.is_made)
      (asserted r.own.floundered 0 r.unfloundered
      (by_option (answer r.own selected.answer_index)
      (λ q.
      let at_least_lem = no_place r.own.answers selected.answer_index q in
      asserted (not (eqb (next_answer_index r.own) selected.answer_index)) 0
      (rw (eq-eqb (length r.own.answers) selected.answer_index (omega arith)))
      (by_option (is_active selected.subgoal_table (e ∷ es))
      (λ k. pushes f e es x free strand y selected w k r.is_selected r.unfloundered)
      (λ depth k. cycle f e es x free strand y selected w depth k)))
      (λ ans q. after (merges n root index first f e es x free strand y.0 selected w ans q
      (all_at selected.answer_index (table_sound x.0.forest selected.subgoal_table r.is_made).sound_answers q))
      merged_case))))
