-- The search among numbers: where the first one that passes a test stands, when one more is looked at, and in a list that is a span. From
-- the definition of `first_at`.
use Prim.Native.Nat.{ℕ, zero, suc, ◌+◌, ◌-◌, ◌≤◌, ◌<◌}
use native.Mathlib.Omega.{arith}
use mathlib.Core.Path.{◌≡◌, refl, sym, ap, ◌∙◌}
use mathlib.Core.Bool.{Bool, true, false}
use mathlib.Core.Option.{Option, some}
use lib.Dec.{ltb}
use borrow.Author.Tests.{lt-ltb, le-ltb, ltb-false}
use Rattle.std.specs.Option.{unwrap_or}
use Rattle.definitions.specs.Lists.{position}
use Rattle.laws.specs.Spans.{span}
use Rattle.stores.specs.Numbers.{first_at, found_if, found_below}
use Rattle.stores.proofs.ListsSpans.{first_if, later}

abbrev pub choose : Bool → (m n : ℕ) → ℕ
choose b m n = elim b as (λ (c : Bool). ℕ) [ true ↦ m | false ↦ n ]

-- THE FIRST, where one more is looked at
module _ (test : ℕ → Bool) where
  pub first_bound : (i n : ℕ) → (i ≤ first_at test i n) × (first_at test i n ≤ i + n)
  first_bound i zero = (omega arith, omega arith)
  first_bound i (suc n) = at (test i) (first_bound (suc i) n)
    where
      at : (b : Bool) → (suc i ≤ first_at test (suc i) n) × (first_at test (suc i) n ≤ suc i + n)
          → (i ≤ choose b i (first_at test (suc i) n)) × (choose b i (first_at test (suc i) n) ≤ i + suc n)
      at true h = (omega arith, omega arith)
      at false h = (omega arith, omega arith)

  -- as a number: n where none passes
  pub first_or : (n : ℕ) → unwrap_or (found_below n (first_at test 0 n)) n ≡ first_at test 0 n
  first_or n = by (ltb (first_at test 0 n) n) refl
    where
      by : (b : Bool) → ltb (first_at test 0 n) n ≡ b → unwrap_or (found_if b (first_at test 0 n)) n ≡ first_at test 0 n
      by true e = refl
      by false e = omega (arith, ltb-false (first_at test 0 n) n e, (first_bound 0 n).1)

  -- it stands among the first n, or is looked for at n
  pub first_more : (i n : ℕ) → (first_at test i n < i + n → first_at test i (suc n) ≡ first_at test i n)
      × (first_at test i n ≡ i + n → first_at test i (suc n) ≡ choose (test (i + n)) (i + n) (suc (i + n)))
  first_more i zero = (
    λ h. absurd (omega arith),
    λ h. let e : i ≡ i + 0 = omega arith in ap (λ (j : ℕ). choose (test j) j (suc j)) e,
  )
  first_more i (suc n) = at (test i) refl (first_more (suc i) n)
    where
      at : (b : Bool) → test i ≡ b
          → (first_at test (suc i) n < suc i + n → first_at test (suc i) (suc n) ≡ first_at test (suc i) n)
          × (first_at test (suc i) n ≡ suc i + n → first_at test (suc i) (suc n) ≡ choose (test (suc i + n)) (suc i + n) (suc (suc i + n)))
          → (choose b i (first_at test (suc i) n) < i + suc n
          → choose b i (first_at test (suc i) (suc n)) ≡ choose b i (first_at test (suc i) n))
          × (choose b i (first_at test (suc i) n) ≡ i + suc n
          → choose b i (first_at test (suc i) (suc n)) ≡ choose (test (i + suc n)) (i + suc n) (suc (i + suc n)))
      at true e more = (λ h. refl, λ h. absurd (omega arith))
      at false e more =
          let s : suc i + n ≡ i + suc n = omega arith in
          (λ h. more.0 (omega arith), λ h. more.1 (omega arith) ∙ ap (λ (j : ℕ). choose (test j) j (suc j)) s)

-- the search in a list that is a span
module _ {A : Type 0} (f : ℕ → A) (test : A → Bool) where
  pub position_from : (i n : ℕ) → position test (span f i n) ≡ first_if (ltb (first_at (λ j. test (f j)) i n) (i + n))
      (first_at (λ j. test (f j)) i n - i)
  position_from i zero = sym (ap (λ (b : Bool). first_if b (i - i)) (le-ltb i (i + 0) (omega arith)))
  position_from i (suc n) = at (test (f i)) (position_from (suc i) n)
    where
      at : (b : Bool) → position test (span f (suc i) n) ≡ first_if (ltb (first_at (λ j. test (f j)) (suc i) n) (suc i + n))
          (first_at (λ j. test (f j)) (suc i) n - suc i)
          → ◌≡◌ {A = Option ℕ} (elim b [ true ↦ some 0 | false ↦ later (position test (span f (suc i) n)) ])
          (first_if (ltb (choose b i (first_at (λ j. test (f j)) (suc i) n)) (i + suc n))
          (choose b i (first_at (λ j. test (f j)) (suc i) n) - i))
      at true e = let z : 0 ≡ i - i = omega arith in ap some z
          ∙ sym (ap (λ (b : Bool). first_if b (i - i)) (lt-ltb i (i + suc n) (omega arith)))
      at false e =
          let s : suc i + n ≡ i + suc n = omega arith in
          let l : suc i ≤ first_at (λ j. test (f j)) (suc i) n = (first_bound (λ j. test (f j)) (suc i) n).0 in
          ap later e ∙ ap (λ (m : ℕ). later (first_if (ltb (first_at (λ j. test (f j)) (suc i) n) m)
          (first_at (λ j. test (f j)) (suc i) n - suc i))) s
          ∙ shift (ltb (first_at (λ j. test (f j)) (suc i) n) (i + suc n)) (first_at (λ j. test (f j)) (suc i) n) l
        where
          shift : (b : Bool) (r : ℕ) → suc i ≤ r → later (first_if b (r - suc i)) ≡ first_if b (r - i)
          shift true r h = let e : suc (r - suc i) ≡ r - i = omega arith in ap some e
          shift false r h = refl
