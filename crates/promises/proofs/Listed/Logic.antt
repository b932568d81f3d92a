-- logic.rs, first half: its stops have the numbers of document 01, or are asserts, and the mark stays.
use Prim.Native.Nat.{ℕ, zero, suc, ◌+◌, ◌*◌}
use mathlib.Core.Bool.{Bool, true, not, ◌&&◌, ◌||◌}
use mathlib.Core.List.{List, [], ◌∷◌}
use mathlib.Core.Logic.{inl, inr}
use mathlib.Core.Path.{◌≡◌, refl}
use lib.Dec.{eqb, leb, ltb}
use lib.ListN.{length, get_elem?}
use Rattle.definitions.specs.{ExClause, Answer, is_complete}
use Rattle.definitions.specs.Book.{Book, Literal, Positive, Negative, goal_of}
use Rattle.definitions.specs.Fitting.{gets_table, is_trivial, answer_fits}
use Rattle.definitions.specs.Lists.{is_empty}
use Rattle.definitions.specs.Slg.{next_subgoal_index, most_delayed, delay, apply_answer_subst}
use Rattle.definitions.specs.Stack.{active}
use Rattle.definitions.specs.Strand.{SelectedSubgoal, Strand}
use Rattle.definitions.specs.Table.{enqueue_strand}
use Rattle.definitions.specs.Tables.{Forest, with_tables, insert_table, index_of, queued}
use Rattle.sizes.specs.Limits.{most_strands}
use Rattle.definitions.specs.Logic.{SolveState, RootSearchFail, Flow, continue, return_ok, return_err, Selection, Merge}
use Rattle.definitions.specs.Logic.{merged, failed}
use Rattle.definitions.specs.Logic.{build_table, get_or_create_table_for_ucanonical_goal, get_or_create_table_for_subgoal}
use Rattle.definitions.specs.Logic.{flounder_subgoal, reconsider_floundered_subgoals, propagate_floundered_subgoal, select_from}
use Rattle.definitions.specs.Logic.{select_subgoal}
use Rattle.definitions.specs.Logic.{unwound, enqueue_at_top, activate, next_answer_strand, enqueue_next_answer, no_solution, merge_into}
use Rattle.definitions.specs.Logic.{merge_answer_into_strand}
use Rattle.laws.proofs.Bools.{and_then}
use Rattle.promises.proofs.Listed.Walk.{Comes, stops, goes, Any, then, passed, guard, either, by_literal, given, Marked, StateMarked}
use Rattle.promises.specs.Total.{OneOf}
use Rattle.promises.proofs.Listed.Walk.{is_one_of, one_of, more}
use Rattle.promises.proofs.Listed.Walk.{unwrap_comes, table_comes, top_comes, change_top_comes, change_comes, unwind_comes}

-- 21 to 29, or an assert
abbrev pub is_number : ℕ → Bool
is_number n = eqb n 0 || and_then (leb 21 n) (leb n 29)

abbrev pub Number : ℕ → Type 0
Number n = is_number n ≡ true

pub asserts : Number 0
asserts = refl

-- what is left of it has this mark

abbrev pub FlowMarked : ℕ → Flow → Type 0
FlowMarked m (continue s) = StateMarked m s
FlowMarked m (return_ok s) = StateMarked m s
FlowMarked m (return_err e s) = StateMarked m s

abbrev pub MergeMarked : ℕ → Merge → Type 0
MergeMarked m (merged strand s) = StateMarked m s
MergeMarked m (failed s) = StateMarked m s

-- Tables for goals: 22 alone, or an assert.

abbrev pub OpenNumber : ℕ → Type 0
OpenNumber n = is_one_of (0 ∷ 22 ∷ []) n ≡ true

open_number : (n : ℕ) → OpenNumber n → Number n
open_number n h = on (one_of (0 ∷ 22 ∷ []) n h)
  where
    on : OneOf (0 ∷ 22 ∷ []) n → Number n
    on (inl e) = rw e
    on (inr (inl e)) = rw e
    on (inr (inr z)) = absurd z

build_comes : (book : Book) (goal : ℕ) → Comes OpenNumber Any (build_table book goal)
build_comes book goal = then (unwrap_comes refl (get_elem? book goal)) (λ g _. either g.floundered (goes tt) (goes tt))

pub goal_comes : {m : ℕ} (others : ℕ) (f : Forest) (goal : ℕ) → Marked m f
    → Comes OpenNumber (λ r. Marked m r.1) (get_or_create_table_for_ucanonical_goal others f goal)
goal_comes others f goal e = given (index_of goal f.tables)
    (then (build_comes f.book goal) (λ t _.
    guard (ltb most_strands (others + queued (with_tables f (insert_table t f.tables)))) _ refl (goes e)))
    (λ t. goes e)

-- Choosing a literal.

flounder_comes : (x : ExClause) (i : ℕ) → Comes Number Any (flounder_subgoal x i)
flounder_comes x i = then (unwrap_comes asserts (get_elem? x.subgoals i)) (λ l _. goes tt)

propagate_comes : (s : Strand) (selected : SelectedSubgoal) → Comes Number Any (propagate_floundered_subgoal s selected)
propagate_comes s selected = then (unwrap_comes asserts (get_elem? s.ex_clause.subgoals selected.subgoal_index)) (λ l _.
    by_literal l
    (λ goal want outsized. then (flounder_comes s.ex_clause selected.subgoal_index) (λ x _. goes tt))
    (λ goal outsized. goes tt))

-- Delayed goals.

pub delay_comes : (goals : List ℕ) (x : ExClause) → Comes Number Any (delay goals x)
delay_comes goals x = guard (ltb most_delayed (length x.delayed_subgoals + length goals)) _ refl (goes tt)

apply_comes : (l : Literal) (a : Answer) (x : ExClause) → Comes Number Any (apply_answer_subst l a x)
apply_comes l a x = either (answer_fits l a.variant) (passed (delay_comes a.delayed_subgoals x) (λ x' _. goes tt)) (goes tt)

module _ {m : ℕ} where
  subgoal_comes : (others : ℕ) (f : Forest) (l : Literal) → Marked m f
      → Comes Number (λ r. Marked m r.1) (get_or_create_table_for_subgoal others f l)
  subgoal_comes others f l e = either (gets_table l) (then (more open_number (goal_comes others f (goal_of l) e)) (λ r h. goes h)) (goes e)

  from_comes : (passes others : ℕ) (f : Forest) (s : Strand) → Marked m f
      → Comes Number (λ (c : Selection). Marked m c.forest) (select_from passes others f s)
  from_comes zero others f s e = stops asserts
  from_comes (suc passes) others f s e = given s.selected_subgoal
      (either (is_empty s.ex_clause.subgoals)
      (either (is_empty s.ex_clause.floundered_subgoals)
      (goes e)
      (either (is_empty (reconsider_floundered_subgoals s.ex_clause).subgoals)
      (guard (is_empty (reconsider_floundered_subgoals s.ex_clause).floundered_subgoals) _ asserts (goes e))
      (from_comes passes others f _ e)))
      (then (unwrap_comes asserts (get_elem? s.ex_clause.subgoals (next_subgoal_index s.ex_clause))) (λ l _.
      then (subgoal_comes others f l e) (λ r h.
      given r.0
      (then (flounder_comes s.ex_clause (next_subgoal_index s.ex_clause)) (λ x _. from_comes passes others f _ e))
      (λ t. from_comes passes others r.1 _ h)))))
      (λ selected. then (table_comes asserts f selected.subgoal_table) (λ t _. either t.floundered
      (then (propagate_comes s selected) (λ p _. either p.0 (goes e) (from_comes passes others f p.1 e)))
      (goes e)))

  pub select_comes : (s : SolveState) (strand : Strand) → StateMarked m s
      → Comes Number (λ (c : Selection). Marked m c.forest) (select_subgoal s strand)
  select_comes s strand e =
      from_comes (2 * (length strand.ex_clause.subgoals + length strand.ex_clause.floundered_subgoals) + 4) (active s.stack + 1)
      s.forest strand e

  -- Unwinding.

  pub unwound_comes : (r : RootSearchFail) (s : SolveState) → StateMarked m s → Comes Number (FlowMarked m) (unwound r s)
  unwound_comes r s e = then (unwind_comes asserts s e) (λ u h. goes h)

  pub enqueue_comes : (s : SolveState) (strand : Strand) → StateMarked m s → Comes Number (StateMarked m) (enqueue_at_top s strand)
  enqueue_comes s strand e = then (top_comes asserts s.stack) (λ t _.
      then (change_comes asserts s.forest t.table (enqueue_strand strand) e) (λ f h. goes h))

  pub activate_comes : (s : SolveState) (strand : Strand) → StateMarked m s → Comes Number (StateMarked m) (activate s strand)
  activate_comes s strand e = then (change_top_comes asserts s.stack _) (λ es _. goes e)

  -- An answer for the selected subgoal.

  next_comes : (s : SolveState) (strand : Strand) (selected : SelectedSubgoal) (l : Literal) (a : Answer) → StateMarked m s
      → Comes Number (StateMarked m) (enqueue_next_answer s strand selected l a)
  next_comes s strand selected (Negative goal outsized) a e = goes e
  next_comes s strand selected (Positive goal want outsized) a e = either (is_trivial a.variant) (goes e)
      (then (enqueue_comes s (next_answer_strand strand selected) e) (λ s'' h.
      guard (ltb most_strands (queued s''.forest + active s''.stack + 1)) _ refl (goes h)))

  none_comes : (s : SolveState) → StateMarked m s → Comes Number (MergeMarked m) (no_solution s)
  none_comes s e = then (unwind_comes asserts s e) (λ u h. goes h)

  into_comes : (s : SolveState) (strand : Strand) (l : Literal) (a : Answer) → StateMarked m s
      → Comes Number (MergeMarked m) (merge_into s strand l a)
  into_comes s strand (Positive goal want outsized) a e =
      then (apply_comes (Positive goal want outsized) a strand.ex_clause) (λ o _. given o (none_comes s e) (λ x. goes e))
  into_comes s strand (Negative goal outsized) a e =
      guard (not (is_empty a.delayed_subgoals)) _ refl (either a.ambiguous (goes e) (none_comes s e))

  pub merge_comes : (s : SolveState) (strand : Strand) (selected : SelectedSubgoal) (a : Answer) → StateMarked m s
      → Comes Number (MergeMarked m) (merge_answer_into_strand s strand selected a)
  merge_comes s strand selected a e = then (top_comes asserts s.stack) (λ t _.
      then (table_comes asserts s.forest t.table) (λ table _.
      either (is_complete table.answer_mode && a.ambiguous)
      (then (flounder_comes strand.ex_clause selected.subgoal_index) (λ x _. goes e))
      (then (unwrap_comes asserts (get_elem? strand.ex_clause.subgoals selected.subgoal_index)) (λ l _.
      then (next_comes s strand selected l a e) (λ s'' h. into_comes s'' _ l a h)))))
