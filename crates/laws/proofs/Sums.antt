-- Sums over the numbers below n.
use Prim.Native.Nat.{ℕ, zero, suc, ◌+◌, ◌≤◌, ◌<◌}
use native.Mathlib.Omega.{arith}
use native.Mathlib.Decide.{ℕ_discrete}
use mathlib.Core.Path.{◌≡◌, refl, subst}

abbrev pub sum : ℕ → (ℕ → ℕ) → ℕ
sum zero f = 0
sum (suc n) f = f n + sum n f

pub sum_zeros : (n : ℕ) → sum n (λ u. 0) ≡ 0
sum_zeros zero = refl
sum_zeros (suc n) = let x = sum_zeros n in omega arith

pub sum_ones : (n : ℕ) → sum n (λ u. 1) ≡ n
sum_ones zero = refl
sum_ones (suc n) = let x = sum_ones n in omega arith

pub sum_add : (n : ℕ) (f g : ℕ → ℕ) → sum n (λ u. f u + g u) ≡ sum n f + sum n g
sum_add zero f g = refl
sum_add (suc n) f g = let x = sum_add n f g in omega arith

-- from below
pub sum_shift : (n : ℕ) (f : ℕ → ℕ) → sum (suc n) f ≡ f 0 + sum n (λ u. f (suc u))
sum_shift zero f = refl
sum_shift (suc n) f = let x = sum_shift n f in omega arith

pub sum_mono : (n : ℕ) (f f' : ℕ → ℕ) → ((g : ℕ) → f' g ≤ f g) → sum n f' ≤ sum n f
sum_mono zero f f' h = omega arith
sum_mono (suc n) f f' h = let a = h n in let b = sum_mono n f f' h in omega arith

-- one falls by j and none rises
pub sum_drop : (n : ℕ) (f f' : ℕ → ℕ) (u j : ℕ) → ((g : ℕ) → f' g ≤ f g) → u < n → f' u + j ≤ f u → sum n f' + j ≤ sum n f
sum_drop zero f f' u j h lt o = absurd (omega arith)
sum_drop (suc n) f f' u j h lt o = go (ℕ_discrete u n) (sum_drop n f f' u j h)
  where
    go : Dec (u ≡ n) → (u < n → f' u + j ≤ f u → sum n f' + j ≤ sum n f) → f' n + sum n f' + j ≤ f n + sum n f
    go (yes p) r = let a = sum_mono n f f' h in let b : f' n + j ≤ f n = subst (λ v. f' v + j ≤ f v) p o in omega arith
    go (no p) r = let a = r (omega arith) o in let b = h n in omega arith
