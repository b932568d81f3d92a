-- Delaying goals means the definitions' `delay`; where it is over the strand is as it was, nothing but the clause changes, and soundness
-- is kept.
use Prim.Native.Nat.{ℕ, ◌+◌, ◌≤◌, ◌<◌}
use native.Mathlib.Omega.{arith}
use mathlib.Core.Bool.{Bool, true, false}
use mathlib.Core.List.{List, ◌++◌}
use mathlib.Core.Path.{◌≡◌, refl, sym, ap, ◌∙◌}
use lib.Dec.{ltb}
use lib.ListN.{length}
use lib.Seq.{length-sets}
use borrow.Author.Tests.{lt-ltb, le-ltb, ltb-true, ltb-false}
use Rattle.std.specs.Prelude.{None}
use Rattle.definitions.specs as said
use Rattle.definitions.specs.Slg.{delay}
use Rattle.definitions.specs.Stop.{Stops, stop, go, ◌>>◌, stop_if}
use Rattle.definitions.specs.Strand.{with_delayed}
use Rattle.laws.proofs.Takes.{take_min, length_take_min, take_sets}
use Rattle.strands.specs.declared.Strand.{Strand}
use Rattle.strands.specs.Delaying.{delayed, strand_or, held, delay_by, delay_goals}
use Rattle.strands.specs.View.{Sound, clause, Kept}

-- The definition at each answer of its test.

abbrev by_test : List ℕ → said.ExClause → Bool → Stops said.ExClause
by_test goals x b = stop_if b 24 >> go (with_delayed x (x.delayed_subgoals ++ goals))

over : (goals : List ℕ) (x : said.ExClause) → 8 < length x.delayed_subgoals + length goals → delay goals x ≡ stop 24
over goals x h = ap (by_test goals x) (lt-ltb _ _ h)

room : (goals : List ℕ) (x : said.ExClause) → length x.delayed_subgoals + length goals ≤ 8
    → delay goals x ≡ go (with_delayed x (x.delayed_subgoals ++ goals))
room goals x h = ap (by_test goals x) (le-ltb _ _ h)

module _ (goals : List ℕ) (s : Strand) where
  module _ (long : length s.delayed ≡ 8) where
    count_is : length (clause s).delayed_subgoals ≡ held s
    count_is = length_take_min 8 s.delayed_count (held s) s.delayed long refl

    delay_by_view : (b : Bool) → ltb 8 (held s + length goals) ≡ b → delayed (delay_by b goals s) ≡ delay goals (clause s)
    delay_by_view true e =
        let many = ltb-true 8 (held s + length goals) e in
        sym (over goals (clause s) (omega (arith, count_is)))
    delay_by_view false e =
        let few = ltb-false 8 (held s + length goals) e in
        ap (λ (ds : List ℕ). go (with_delayed (clause s) ds))
        (take_sets goals s.delayed (held s) (held s + length goals) (omega arith) refl
        ∙ ap (λ (ds : List ℕ). ds ++ goals) (take_min 8 s.delayed_count (held s) s.delayed long refl))
        ∙ sym (room goals (clause s) (omega (arith, count_is)))

    pub delay_view : delayed (delay_goals goals s) ≡ delay goals (clause s)
    delay_view = delay_by_view (ltb 8 (held s + length goals)) refl

  -- what is over leaves the strand as it was
  pub delay_as_it_was : delay_goals goals s ≡ None → strand_or s (delay_goals goals s) ≡ s
  delay_as_it_was e = ap (strand_or s) e

  delay_by_kept : (b : Bool) → Kept s (strand_or s (delay_by b goals s))
  delay_by_kept true = refl
  delay_by_kept false = refl

  pub delay_kept : Kept s (strand_or s (delay_goals goals s))
  delay_kept = delay_by_kept (ltb 8 (held s + length goals))

  delay_by_sound : (b : Bool) → ltb 8 (held s + length goals) ≡ b → Sound s → Sound (strand_or s (delay_by b goals s))
  delay_by_sound true e o = o
  delay_by_sound false e o = record {
    literals_long = o.literals_long;
    floundered_long = o.floundered_long;
    times_long = o.times_long;
    delayed_long = length-sets s.delayed (held s) goals ∙ o.delayed_long;
    few_literals = o.few_literals;
    few_delayed = ltb-false 8 (held s + length goals) e;
  }

  pub delay_sound : Sound s → Sound (strand_or s (delay_goals goals s))
  delay_sound o = delay_by_sound (ltb 8 (held s + length goals)) refl o
