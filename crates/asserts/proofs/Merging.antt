-- An answer taken into a strand: the literal is there, and the strand stays sound.
use Prim.Native.Nat.{ℕ, suc, ◌+◌, ◌<◌}
use native.Mathlib.Omega.{arith}
use borrow.Author.Tests.{leb-false}
use mathlib.Core.Path.{◌≡◌, refl, sym, subst}
use mathlib.Core.Bool.{true, not, ◌&&◌, ◌||◌}
use mathlib.Core.Logic.{inr}
use mathlib.Core.Option.{Option, none, some}
use mathlib.Core.List.{List, ◌∷◌}
use lib.ListN.{length-append, length, get_elem?}
use lib.Dec.{ltb}
use Rattle.definitions.specs.{ExClause, Answer, is_complete}
use Rattle.definitions.specs.Book.{Literal, Positive, Negative}
use Rattle.definitions.specs.Fitting.{answer_fits, is_trivial}
use Rattle.definitions.specs.Stop.{go}
use Rattle.definitions.specs.Lists.{is_empty, remove}
use Rattle.definitions.specs.Strand.{SelectedSubgoal, Strand, with_ex_clause, with_selected, with_subgoals, with_ambiguous}
use Rattle.definitions.specs.Strand.{with_answer_time}
use Rattle.definitions.specs.Tables.{Forest, queued}
use Rattle.definitions.specs.Stack.{StackEntry, Stack, active}
use Rattle.definitions.specs.Slg.{delay, apply_answer_subst}
use Rattle.definitions.specs.Logic.{SolveState, Merge, merged, failed, next_answer_strand, enqueue_next_answer, no_solution, merge_into}
use Rattle.definitions.specs.Logic.{merge_answer_into_strand}
use Rattle.definitions.proofs.Lists.{all_remove, length_remove}
use Rattle.laws.proofs.Lists.{at_place, place_under}
use Rattle.laws.proofs.All.{all_append}
use Rattle.asserts.proofs.Safe.{Safe, goes, after, known, guard, by_bool, passing, unwraps}
use Rattle.asserts.specs.Sound.{Goals, size, SoundAnswer, Awaits, Selects, SoundClause, SoundStrand, SoundStack}
use Rattle.asserts.specs.Sound.{SoundState}
use Rattle.asserts.proofs.Keeping.{table_is}
use Rattle.asserts.proofs.Returning.{flounders}
use Rattle.asserts.proofs.Unwinding.{Left}
use Rattle.asserts.proofs.States.{state, with_queued, enqueue_is, takes_back, gives_up}

pub delays : {n : ℕ} (goals : List ℕ) (x : ExClause) → Goals n goals → SoundClause n x
    → Safe (λ x'. SoundClause n x' × (size x' ≡ size x)) (delay goals x)
delays goals x g s = guard (ltb 8 (length x.delayed_subgoals + length goals)) 24 tt (λ b. goes (
  record {
    subgoals_named = s.subgoals_named;
    floundered_named = s.floundered_named;
    delayed_named = all_append s.delayed_named g;
    few_literals = s.few_literals;
    few_delayed =
        let o = leb-false 9 (length x.delayed_subgoals + length goals) b in
        let p = length-append x.delayed_subgoals goals in
        omega arith;
  },
  refl,
))

abbrev Applied : (n k : ℕ) → Option ExClause → Type 0
Applied n k none = Unit {0}
Applied n k (some x) = SoundClause n x × (size x ≡ k)

applies : {n : ℕ} (l : Literal) (a : Answer) (x : ExClause) → SoundAnswer n a → SoundClause n x
    → Safe (Applied n (size x)) (apply_answer_subst l a x)
applies l a x g s = by_bool (answer_fits l a.variant)
    (λ e. passing (delays a.delayed_subgoals x g.0 s) (λ x' y. goes y))
    (λ e. goes tt)

-- a clause without one of its literals
pub remove_sound : {n : ℕ} (x : ExClause) (i : ℕ) → i < length x.subgoals → SoundClause n x
    → SoundClause n (with_subgoals x (remove x.subgoals i))
remove_sound x i lt s = record {
  subgoals_named = all_remove i s.subgoals_named;
  floundered_named = s.floundered_named;
  delayed_named = s.delayed_named;
  few_literals = let o = s.few_literals in let p = length_remove x.subgoals i lt in omega arith;
  few_delayed = s.few_delayed;
}

module _ (n root index first : ℕ) where
  -- what merging leaves
  abbrev pub Merges : Merge → Type 0
  Merges (merged strand s) = SoundState n root index first s × SoundStrand n s.forest.tables
      strand × (queued s.forest + active s.stack < 256)
  Merges (failed s) = Left n root index s

  gives : (s : SolveState) → SoundState n root index first s → Safe Merges (no_solution s)
  gives s x = after (gives_up n root index first s x) (λ u y. goes y)

  goes_on : (s : SolveState) → SoundState n root index first s → queued s.forest + active s.stack < 256 → (strand : Strand)
      → SoundClause n strand.ex_clause → strand.selected_subgoal ≡ none → Safe Merges (go (merged strand s))
  goes_on s x free strand y e = goes {a = merged strand s}
      (x, (y, subst (Selects s.forest.tables (length strand.ex_clause.subgoals)) (sym e) tt), free)

  applied_case : (s : SolveState) → SoundState n root index first s → queued s.forest + active s.stack < 256 → (strand : Strand)
      → strand.selected_subgoal ≡ none → (a : Answer) (k : ℕ) → k < 8 → (o : Option ExClause) → Applied n k o → Safe Merges (elim o [
        | none ↦ no_solution s
        | some x ↦ go (merged (with_ex_clause strand (with_answer_time (with_ambiguous x (x.ambiguous || a.ambiguous))
            (suc x.answer_time))) s)
      ])
  applied_case s x free strand e a k lt none y = gives s x
  applied_case s x free strand e a k lt (some x') y =
      goes_on s x free (with_ex_clause strand (with_answer_time (with_ambiguous x' (x'.ambiguous || a.ambiguous))
      (suc x'.answer_time))) (record {
        subgoals_named = y.0.subgoals_named;
        floundered_named = y.0.floundered_named;
        delayed_named = y.0.delayed_named;
        few_literals = let o = y.1 in omega arith;
        few_delayed = y.0.few_delayed;
      }) e

  merges_into : (s : SolveState) → SoundState n root index first s → queued s.forest + active s.stack < 256 → (strand : Strand)
      → SoundClause n strand.ex_clause → size strand.ex_clause < 8 → strand.selected_subgoal ≡ none → (l : Literal) (a : Answer)
      → SoundAnswer n a → Safe Merges (merge_into s strand l a)
  merges_into s x free strand y lt e (Positive goal want outsized) a g =
      after (applies (Positive goal want outsized) a strand.ex_clause g y)
      (λ o z. applied_case s x free strand e a (size strand.ex_clause) lt o z)
  merges_into s x free strand y lt e (Negative goal outsized) a g =
      guard (not (is_empty a.delayed_subgoals)) 27 tt (λ b. by_bool a.ambiguous
      (λ q. goes_on s x free (with_ex_clause strand (with_ambiguous strand.ex_clause true)) (record {
        subgoals_named = y.subgoals_named;
        floundered_named = y.floundered_named;
        delayed_named = y.delayed_named;
        few_literals = y.few_literals;
        few_delayed = y.few_delayed;
      }) e)
      (λ q. gives s x))

  module _ (f : Forest) (e : StackEntry) (es : Stack) (x : SoundStack n root index first f (e ∷ es))
      (free : queued f + active (e ∷ es) < 256) (strand : Strand) (y : SoundClause n strand.ex_clause) (selected : SelectedSubgoal)
      (w : Awaits f.tables (length strand.ex_clause.subgoals) selected) (a : Answer)
      (here : get_elem? w.table.answers selected.answer_index ≡ some a) (g : SoundAnswer n a) where
    enqueues_next : (l : Literal) → Safe (λ s. SoundState n root index first s × (queued s.forest + active s.stack < 256))
        (enqueue_next_answer (state f e es) strand selected l a)
    enqueues_next (Negative goal outsized) = goes {a = state f e es} (x, free)
    enqueues_next (Positive goal want outsized) = by_bool (is_trivial a.variant)
        (λ b. goes {a = state f e es} (x, free))
        (λ b.
        let next = next_answer_strand strand selected in
        let under = place_under w.table.answers selected.answer_index a here in
        let f' = with_queued f e.table x.0.standing.own next in
        let k = takes_back n root index first f e es next x free (
          y,
          record {
            at_literal = w.at_literal;
            is_last = w.is_last;
            table = w.table;
            is_made = w.is_made;
            reached = inr (omega arith);
          },
        ) in
        known _ (enqueue_is f e es next x.0.standing.own x.0.standing.is_made)
        (guard (ltb 256 (queued f' + active (e ∷ es) + 1)) 22 tt
        (λ b. let o = leb-false 257 (queued f' + active (e ∷ es) + 1) b in goes {a = state f' e es} (k, (omega arith)))))

    pub merges : Safe Merges (merge_answer_into_strand (state f e es) strand selected a)
    merges =
        known _ (table_is f e.table x.0.standing.own x.0.standing.is_made)
        (by_bool (is_complete x.0.standing.own.answer_mode && a.ambiguous)
        (λ b. after (flounders y selected.subgoal_index w.at_literal)
        (λ x' z. goes {a = merged (with_ex_clause (with_selected strand none) x') (state f e es)} (x, (z.clause, tt), free)))
        (λ b.
        let l = at_place strand.ex_clause.subgoals selected.subgoal_index w.at_literal in
        known _ (unwraps (get_elem? strand.ex_clause.subgoals selected.subgoal_index) l.0 l.1)
        (after (enqueues_next l.0) (λ s'' x''. merges_into s'' x''.0 x''.1
        (with_ex_clause (with_selected strand none)
        (with_subgoals strand.ex_clause (remove strand.ex_clause.subgoals selected.subgoal_index)))
        (remove_sound strand.ex_clause selected.subgoal_index w.at_literal y)
        (let o = y.few_literals in let p = length_remove strand.ex_clause.subgoals selected.subgoal_index w.at_literal in
        omega arith) refl l.0 a g))))
