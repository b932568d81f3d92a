-- The ways out of the functions of floundering.rt, by the tests of the code, and the turns of its loop.
use Prim.Native.Nat.{ℕ, suc, ◌-◌, ◌≤◌, ◌<◌}
use native.Mathlib.Omega.{arith}
use mathlib.Core.Path.{◌≡◌, ap}
use borrow.Author.Tests.{lt-ltb, le-ltb, le-leb, lt-leb, eq-eqb, ne_eqb}
use Rattle.strands.specs.declared.Strand.{Strand}
use Rattle.strands.specs.Floundering.{set_aside, flounder, time_at, taken_back, reconsider_at, reconsider_down}

module _ (s : Strand) where
  pub flounder_none : s.literal_count ≡ 0 → flounder s ≡ s
  flounder_none p = rw (eq-eqb s.literal_count 0 p)

  pub flounder_many : (s.literal_count ≡ 0 → ⊥) → 8 < s.literal_count → flounder s ≡ s
  flounder_many p q = rw (ne_eqb s.literal_count 0 p, lt-ltb 8 s.literal_count q)

  pub flounder_full : (s.literal_count ≡ 0 → ⊥) → s.literal_count ≤ 8 → 8 ≤ s.floundered_count → flounder s ≡ s
  flounder_full p q r = rw (ne_eqb s.literal_count 0 p, le-ltb 8 s.literal_count q, le-leb 8 s.floundered_count r)

  pub flounder_last : (s.literal_count ≡ 0 → ⊥) → s.literal_count ≤ 8 → s.floundered_count < 8 → flounder s ≡ set_aside s
  flounder_last p q r = rw (ne_eqb s.literal_count 0 p, le-ltb 8 s.literal_count q, lt-leb 8 s.floundered_count r)

module _ (i : ℕ) (s : Strand) where
  pub reconsider_many : 8 < s.floundered_count → reconsider_at i s ≡ s
  reconsider_many p = rw (lt-ltb 8 s.floundered_count p)

  pub reconsider_past : s.floundered_count ≤ 8 → s.floundered_count ≤ i → reconsider_at i s ≡ s
  reconsider_past p q = rw (le-ltb 8 s.floundered_count p, le-leb s.floundered_count i q)

  pub reconsider_late : s.floundered_count ≤ 8 → i < s.floundered_count → s.answer_time ≤ time_at i s
      → reconsider_at i s ≡ s
  reconsider_late p q r = rw (
    le-ltb 8 s.floundered_count p,
    lt-leb s.floundered_count i q,
    le-leb s.answer_time (time_at i s) r,
  )

  pub reconsider_full : s.floundered_count ≤ 8 → i < s.floundered_count → time_at i s < s.answer_time
      → 8 ≤ s.literal_count → reconsider_at i s ≡ s
  reconsider_full p q r t = rw (
    le-ltb 8 s.floundered_count p,
    lt-leb s.floundered_count i q,
    lt-leb s.answer_time (time_at i s) r,
    le-leb 8 s.literal_count t,
  )

  pub reconsider_back : s.floundered_count ≤ 8 → i < s.floundered_count → time_at i s < s.answer_time
      → s.literal_count < 8 → reconsider_at i s ≡ taken_back i s
  reconsider_back p q r t = rw (
    le-ltb 8 s.floundered_count p,
    lt-leb s.floundered_count i q,
    lt-leb s.answer_time (time_at i s) r,
    lt-leb 8 s.literal_count t,
  )

-- The loop of `reconsider_floundered_subgoals` with `left` turns to do: one more, and none.
pub reconsider_turn : (left : ℕ) (s : Strand) → 0 < left → reconsider_down (left - 1) (reconsider_at (left - 1) s) ≡ reconsider_down left s
reconsider_turn left s some_left =
    let e : suc (left - 1) ≡ left = omega arith in
    ap (λ (k : ℕ). reconsider_down k s) e

pub reconsider_ended : (left : ℕ) (s : Strand) → left ≤ 0 → s ≡ reconsider_down left s
reconsider_ended left s none_left =
    let e : 0 ≡ left = omega arith in
    ap (λ (k : ℕ). reconsider_down k s) e
