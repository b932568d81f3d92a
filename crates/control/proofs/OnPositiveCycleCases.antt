-- The functions of on_positive_cycle.rt at their tests' answers. From the definitions of minimums, and what the stack's writes leave.
use Prim.Native.Nat.{ℕ, ◌-◌, ◌≤◌}
use mathlib.Core.Path.{◌≡◌, sym, ap, subst, ◌∙◌}
use mathlib.Core.Bool.{Bool, true, false}
use mathlib.Core.List.{List}
use lib.ListN.{get_or, set}
use Rattle.definitions.specs.{TimeStamp, Minimums, take_minimums, minimum_of_pos_and_neg}
use Rattle.stores.proofs.StackCases.{top_some}
use Rattle.control.specs.OnPositiveCycle.{minimums_at, cycle_by, top_cycled, Minimized}

-- `cycle_minimums`
module _ (not : Bool) (was m r : Minimums) (clock : TimeStamp) where
  pub through_not : not ≡ true → (least : TimeStamp) → least ≡ minimum_of_pos_and_neg m → r ≡ take_minimums was (minimums_at clock least)
      → r ≡ cycle_by not was m clock
  through_not e least el er =
      er ∙ ap (λ (n : TimeStamp). take_minimums was (minimums_at clock n)) el ∙ sym (ap (λ (b : Bool). cycle_by b was m clock) e)

  pub through_positive : not ≡ false → r ≡ take_minimums was m → r ≡ cycle_by not was m clock
  through_positive e er = er ∙ sym (ap (λ (b : Bool). cycle_by b was m clock) e)

-- `take_cycle`
module _ (not : Bool) (m : Minimums) (clock positive negative : List ℕ) (depth : ℕ) where
  pub cycle_taken : (depth ≡ 0 → ⊥) → depth ≤ 64 → (was r : Minimums)
      → was ≡ minimums_at (get_or positive (depth - 1) 0) (get_or negative (depth - 1) 0) → r ≡ cycle_by not was m (get_or clock (depth - 1) 0)
      → Minimized (top_cycled not m clock positive negative depth) depth positive negative
      (set positive (depth - 1) r.positive) (set negative (depth - 1) r.negative)
  cycle_taken n k was r ew er =
      let e : r ≡ top_cycled not m clock positive negative depth =
      er ∙ ap (λ (w : Minimums). cycle_by not w m (get_or clock (depth - 1) 0)) ew in (
        ap (λ (x : Minimums). set positive (depth - 1) x.positive) e
            ∙ top_some depth positive n k (top_cycled not m clock positive negative depth).positive,
        ap (λ (x : Minimums). set negative (depth - 1) x.negative) e
            ∙ top_some depth negative n k (top_cycled not m clock positive negative depth).negative,
      )

  -- the same cycle
  pub cycle_same : (m' : Minimums) → m ≡ m' → (positive' negative' : List ℕ)
      → Minimized (top_cycled not m clock positive negative depth) depth positive negative positive' negative'
      → Minimized (top_cycled not m' clock positive negative depth) depth positive negative positive' negative'
  cycle_same m' e positive' negative' h =
      subst (λ (x : Minimums). Minimized (top_cycled not x clock positive negative depth) depth positive negative positive' negative') e h
