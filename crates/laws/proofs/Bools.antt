-- Tests that come together, and a number tested for zero.
use Prim.Native.Nat.{ℕ, zero, suc, ◌<◌}
use native.Mathlib.Omega.{arith}
use mathlib.Core.Path.{◌≡◌, refl}
use mathlib.Core.Bool.{Bool, true, false, not, ◌||◌, true≢false, false≢true}
use lib.Dec.{eqb}

-- one test after another: the second is asked where the first is passed
abbrev pub and_then : Bool → Bool → Bool
and_then a b = elim a [ true ↦ b | false ↦ false ]

pub and_then_true : (a : Bool) → and_then a true ≡ a
and_then_true true = refl
and_then_true false = refl

pub and_then_assoc : (a b c : Bool) → and_then (and_then a b) c ≡ and_then a (and_then b c)
and_then_assoc true b c = refl
and_then_assoc false b c = refl

pub and_then_swap : (a b c : Bool) → and_then (and_then a b) c ≡ and_then (and_then a c) b
and_then_swap true true true = refl
and_then_swap true true false = refl
and_then_swap true false true = refl
and_then_swap true false false = refl
and_then_swap false b c = refl

pub both_true : (a b : Bool) → and_then a b ≡ true → (a ≡ true) × (b ≡ true)
both_true true b e = (refl, e)
both_true false b e = absurd (false≢true e)

pub both_false : (a b : Bool) → (a || b) ≡ false → (a ≡ false) × (b ≡ false)
both_false true b e = absurd (true≢false e)
both_false false b e = (refl, e)

pub was_true : (b : Bool) → not b ≡ false → b ≡ true
was_true true e = refl
was_true false e = absurd (true≢false e)

pub was_false : (b : Bool) → not b ≡ true → b ≡ false
was_false true e = absurd (false≢true e)
was_false false e = refl

-- what holds at each end of a test
module _ {B : Type 0} (P : B → Type 0) where
  pub case_bool : (b : Bool) {x y : B} → (b ≡ true → P x) → (b ≡ false → P y) → P (elim b [ true ↦ x | false ↦ y ])
  case_bool true h k = h refl
  case_bool false h k = k refl

pub not_zero : (n : ℕ) → eqb n 0 ≡ false → 0 < n
not_zero zero e = absurd (true≢false e)
not_zero (suc n) e = omega arith
