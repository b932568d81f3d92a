-- What the definitions' asserts say of floundering and reconsidering, of the models: how many literals are left, and how many would
-- return.
use Prim.Native.Nat.{ℕ, ◌<◌}
use native.Mathlib.Omega.{arith}
use mathlib.Core.Path.{sym, subst}
use lib.ListN.{length}
use Rattle.definitions.specs.{ExClause}
use Rattle.definitions.specs.Slg.{next_subgoal_index}
use Rattle.definitions.specs.Stop.{Stops, go}
use Rattle.asserts.proofs.Safe.{Safe, goes}
use Rattle.asserts.specs.Sound.{SoundClause}
use Rattle.asserts.proofs.Returning.{Floundered, flounders, Returned, returns}
use Rattle.strands.specs.declared.Strand.{Strand}
use Rattle.strands.specs.Floundering.{flounder, reconsider}
use Rattle.strands.specs.View.{Sound, clause}
use Rattle.strands.proofs.FlounderViews.{flounder_view, reconsider_view}
use Rattle.strands.proofs.LiteralCases.{count_is}

-- what a safe step goes on with
gone : {A : Type 0} {P : A → Type 0} {a : A} → Safe P (go a) → P a
gone (goes p) = p

-- Floundering.
module _ (s : Strand) (o : Sound s) (some_left : 0 < length (clause s).subgoals) where
  pub counted : 0 < s.literal_count
  counted = let n = count_is s o.literals_long in omega arith

  pub flounder_keeps : {n : ℕ} → SoundClause n (clause s) → Floundered n (clause s) (clause (flounder s))
  flounder_keeps {n} x =
      gone (subst (λ (r : Stops ExClause). Safe (Floundered n (clause s)) r) (flounder_view s o counted)
      (flounders x (next_subgoal_index (clause s)) (omega arith)))

-- Reconsidering.
pub reconsider_keeps : {n : ℕ} (s : Strand) → Sound s → SoundClause n (clause s) → Returned n (clause s) (clause (reconsider s))
reconsider_keeps {n} s o x = subst (λ (y : ExClause). Returned n (clause s) y) (sym (reconsider_view s o)) (returns (clause s) x)
