-- The functions of numbers.rt at their tests' answers, one more where there is room, and the laws of the two loops: the first index that
-- passes a test, and whether a range passes it. From the definitions alone.
use Prim.Native.Nat.{ℕ, suc, ◌+◌, ◌-◌, ◌≤◌, ◌<◌}
use native.Mathlib.Omega.{arith}
use native.Mathlib.Numerals.{add-one}
use mathlib.Core.Path.{◌≡◌, refl, sym, ap, ◌∙◌}
use mathlib.Core.Bool.{Bool, true, false, ◌&&◌}
use mathlib.Core.List.{List}
use lib.ListN.{get_or, set}
use borrow.Author.Tests.{lt-ltb, le-ltb}
use Rattle.stores.specs.Numbers.{flag, flag_number, set_if, add_if, count_after, written_at, first_at, all_from, flag_at}

-- one more, and a write, where there is room
pub depth_full : (d : ℕ) → 64 ≤ d → d ≡ count_after d
depth_full d h = sym (ap (λ (b : Bool). add_if b d) (le-ltb d 64 h))

pub depth_more : (d : ℕ) → d < 64 → d + 1 ≡ count_after d
depth_more d h = sym (ap (λ (b : Bool). add_if b d) (lt-ltb d 64 h))

pub written_full : (d : ℕ) → 64 ≤ d → (x : ℕ) (l : List ℕ) → l ≡ written_at d x l
written_full d h x l = sym (ap (λ (b : Bool). set_if b d x l) (le-ltb d 64 h))

pub written_more : (d : ℕ) → d < 64 → (x : ℕ) (l : List ℕ) → set l d x ≡ written_at d x l
written_more d h x l = sym (ap (λ (b : Bool). set_if b d x l) (lt-ltb d 64 h))

pub flag_of : (b : Bool) → flag (flag_number b) ≡ b
flag_of true = refl
flag_of false = refl

-- `flag_at`
pub flag_far : (t : ℕ) (l : List ℕ) → 64 ≤ t → false ≡ flag_at t l
flag_far t l h = ap (λ (b : Bool). b && flag (get_or l t 0)) (sym (le-ltb t 64 h))

pub flag_near : (t : ℕ) (l : List ℕ) → t < 64 → flag (get_or l t 0) ≡ flag_at t l
flag_near t l h = ap (λ (b : Bool). b && flag (get_or l t 0)) (sym (lt-ltb t 64 h))

-- THE LOOPS, at index i of m
module _ (test : ℕ → Bool) (m i : ℕ) where
  left : i < m → m - i ≡ suc (m - (i + 1))
  left h = omega arith

  pub first_here : i < m → test i ≡ true → first_at test i (m - i) ≡ i
  first_here h e = ap (first_at test i) (left h) ∙ ap (λ (b : Bool). elim b [ true ↦ i | false ↦ first_at test (suc i) (m - (i + 1)) ]) e

  pub first_next : i < m → test i ≡ false → first_at test i (m - i) ≡ first_at test (i + 1) (m - (i + 1))
  first_next h e =
      ap (first_at test i) (left h) ∙ ap (λ (b : Bool). elim b [ true ↦ i | false ↦ first_at test (suc i) (m - (i + 1)) ]) e
      ∙ ap (λ (k : ℕ). first_at test k (m - (i + 1))) (sym (add-one i))

  pub first_over : m ≤ i → first_at test i (m - i) ≡ i
  first_over h = let e : m - i ≡ 0 = omega arith in ap (first_at test i) e

  pub all_here : i < m → test i ≡ false → all_from test i (m - i) ≡ false
  all_here h e = ap (all_from test i) (left h) ∙ ap (λ (b : Bool). b && all_from test (suc i) (m - (i + 1))) e

  pub all_next : i < m → test i ≡ true → all_from test i (m - i) ≡ all_from test (i + 1) (m - (i + 1))
  all_next h e =
      ap (all_from test i) (left h) ∙ ap (λ (b : Bool). b && all_from test (suc i) (m - (i + 1))) e
      ∙ ap (λ (k : ℕ). all_from test k (m - (i + 1))) (sym (add-one i))

  pub all_over : m ≤ i → all_from test i (m - i) ≡ true
  all_over h = let e : m - i ≡ 0 = omega arith in ap (all_from test i) e
