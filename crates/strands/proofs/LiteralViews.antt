-- The models on a strand's literals: what they mean, that nothing but the clause changes, and that soundness is kept.
use Prim.Native.Nat.{ℕ, suc, ◌-◌, ◌<◌, min}
use native.Mathlib.Numerals.{add-one}
use native.Mathlib.Omega.{arith}
use mathlib.Core.Bool.{Bool, true, false}
use mathlib.Core.List.{List}
use mathlib.Core.Path.{◌≡◌, refl, ap, ap₂, ◌∙◌}
use lib.Dec.{eqb, ltb}
use lib.ListN.{length, get_or, get_elem?}
use borrow.Author.Tests.{ltb-true, ltb-false, eqb-false}
use Rattle.definitions.specs.{TimeStamp}
use Rattle.definitions.specs.Book as books
use Rattle.definitions.specs.Strand as held
use Rattle.strands.specs.declared.Strand.{Strand}
use Rattle.strands.specs.Fields.{no_literal}
use Rattle.strands.specs.Literals.{literal_of, found_by, subgoal_at, without_last, last_removed, answered_by, answered}
use Rattle.strands.specs.View.{Sound, seen, clause, Kept}
use Rattle.strands.proofs.LiteralCases.{found_at, found_past, removed, answered_last}

module _ (s : Strand) (long : length s.literals ≡ 8) where
  found_by_view : (i : ℕ) (b : Bool) → ltb i (min s.literal_count 8) ≡ b
      → literal_of (found_by b (get_or s.literals i no_literal)) ≡ get_elem? (clause s).subgoals i
  found_by_view i true e = found_at s long i (ltb-true i (min s.literal_count 8) e)
  found_by_view i false e = found_past s long i (ltb-false i (min s.literal_count 8) e)

  pub subgoal_at_view : (i : ℕ) → literal_of (subgoal_at s i) ≡ get_elem? (clause s).subgoals i
  subgoal_at_view i = found_by_view i (ltb i (min s.literal_count 8)) refl

  pub last_removed_view : (time : TimeStamp) → seen time (last_removed s) ≡ held.with_ex_clause (seen time s) (without_last (clause s))
  last_removed_view time =
      ap (λ (ls : List books.Literal). held.with_ex_clause (seen time s) (held.with_subgoals (clause s) ls))
      (removed s long (min s.literal_count 8 - 1) refl)

pub last_removed_sound : (s : Strand) → Sound s → Sound (last_removed s)
last_removed_sound s o = record {
  literals_long = o.literals_long;
  floundered_long = o.floundered_long;
  times_long = o.times_long;
  delayed_long = o.delayed_long;
  few_literals = omega (arith, o.few_literals);
  few_delayed = o.few_delayed;
}

-- The last literal has an answer.

pub answered_view : (time : TimeStamp) (s : Strand) → Sound s → 0 < s.literal_count
    → seen time (answered s)
    ≡ held.with_ex_clause (seen time s) (held.with_answer_time (without_last (clause s)) (suc s.answer_time))
answered_view time s o some_left =
    let few = o.few_literals in
    ap (seen time) (answered_last s (λ z. omega arith) (omega arith) (λ z. omega arith))
    ∙ ap₂ (λ (ls : List books.Literal) (t : ℕ). held.with_ex_clause (seen time s)
    (held.with_answer_time (held.with_subgoals (clause s) ls) t))
    (removed s o.literals_long (s.literal_count - 1) (omega arith)) (add-one s.answer_time)

answered_by_kept : (s : Strand) (none_left too_many at_end : Bool) → Kept s (answered_by none_left too_many at_end s)
answered_by_kept s true too_many at_end = refl
answered_by_kept s false true at_end = refl
answered_by_kept s false false true = refl
answered_by_kept s false false false = refl

pub answered_kept : (s : Strand) → Kept s (answered s)
answered_kept s = answered_by_kept s (eqb s.literal_count 0) (ltb 8 s.literal_count) (eqb s.answer_time 255)

-- a literal less makes room for a time more
answered_by_sound : (s : Strand) (none_left too_many at_end : Bool) → eqb s.literal_count 0 ≡ none_left → Sound s
    → Sound (answered_by none_left too_many at_end s)
answered_by_sound s true too_many at_end e o = o
answered_by_sound s false true at_end e o = o
answered_by_sound s false false true e o = o
answered_by_sound s false false false e o = record {
  literals_long = o.literals_long;
  floundered_long = o.floundered_long;
  times_long = o.times_long;
  delayed_long = o.delayed_long;
  few_literals = omega (arith, o.few_literals, eqb-false s.literal_count 0 e);
  few_delayed = o.few_delayed;
}

pub answered_sound : (s : Strand) → Sound s → Sound (answered s)
answered_sound s o = answered_by_sound s (eqb s.literal_count 0) (ltb 8 s.literal_count) (eqb s.answer_time 255) refl o
