-- Laws of `span`: f at n places from s on.
use Prim.Native.Nat.{ℕ, zero, suc, ◌+◌, ◌-◌, ◌≤◌, ◌<◌}
use native.Mathlib.Omega.{arith}
use mathlib.Core.Path.{◌≡◌, refl, sym, ap, ap₂, subst, ◌∙◌}
use mathlib.Core.List.{List, [], ◌∷◌, ◌++◌, map}
use lib.ListN.{length, take, get_or}
use Rattle.laws.specs.Spans.{span}
use Rattle.laws.specs.All.{All}
use Rattle.laws.proofs.All.{all_first, all_rest}

module _ {A : Type 0} where
  pub length_span : (f : ℕ → A) (s n : ℕ) → length (span f s n) ≡ n
  length_span f s zero = refl
  length_span f s (suc n) = ap suc (length_span f (suc s) n)

  pub span_snoc : (f : ℕ → A) (s n : ℕ) → span f s (suc n) ≡ span f s n ++ (f (s + n) ∷ [])
  span_snoc f s zero =
      let e : s ≡ s + 0 = omega arith in
      ap (λ (i : ℕ). f i ∷ []) e
  span_snoc f s (suc n) =
      let e : suc s + n ≡ s + suc n = omega arith in
      ap (λ (l : List A). f s ∷ l) (span_snoc f (suc s) n ∙ ap (λ (i : ℕ). span f (suc s) n ++ (f i ∷ [])) e)

  -- m places, and then n more
  pub span_append : (f : ℕ → A) (s m n : ℕ) → span f s (m + n) ≡ span f s m ++ span f (s + m) n
  span_append f s zero n =
      let z : s + 0 ≡ s = omega arith in
      let w : 0 + n ≡ n = omega arith in
      ap₂ (λ (a k : ℕ). span f a k) (sym z) w
  span_append f s (suc m) n =
      let z : suc s + m ≡ s + suc m = omega arith in
      let w : suc m + n ≡ suc (m + n) = omega arith in
      ap (span f s) w
      ∙ ap (λ (l : List A). f s ∷ l) (span_append f (suc s) m n ∙ ap (λ (a : ℕ). span f (suc s) m ++ span f a n) z)

  pub span_ext : (f h : ℕ → A) (s n : ℕ) → ((i : ℕ) → s ≤ i → i < s + n → f i ≡ h i) → span f s n ≡ span h s n
  span_ext f h s zero e = refl
  span_ext f h s (suc n) e =
      ap (λ (x : A). x ∷ span f (suc s) n) (e s (omega arith) (omega arith))
      ∙ ap (λ (l : List A). h s ∷ l) (span_ext f h (suc s) n (λ i x y. e i (omega arith) (omega arith)))

  pub get_or_span : (f : ℕ → A) (s n i : ℕ) (d : A) → i < n → get_or (span f s n) i d ≡ f (s + i)
  get_or_span f s zero i d h = absurd (omega arith)
  get_or_span f s (suc n) zero d h =
      let e : s ≡ s + 0 = omega arith in
      ap f e
  get_or_span f s (suc n) (suc i) d h =
      let e : suc s + i ≡ s + suc i = omega arith in
      get_or_span f (suc s) n i d (omega arith) ∙ ap f e

  pub take_span : (f : ℕ → A) (s m n : ℕ) → n ≤ m → take n (span f s m) ≡ span f s n
  take_span f s zero zero h = refl
  take_span f s (suc m) zero h = refl
  take_span f s zero (suc n) h = absurd (omega arith)
  take_span f s (suc m) (suc n) h = ap (λ (l : List A). f s ∷ l) (take_span f (suc s) m n (omega arith))

  -- what is left of n places when k are done, the next of them at i
  pub span_left : (f : ℕ → A) (i n k : ℕ) → k < n → span f i (n - k) ≡ f i ∷ span f (i + 1) (n - (k + 1))
  span_left f i n k h =
      let e : n - k ≡ suc (n - (k + 1)) = omega arith in
      let j : suc i ≡ i + 1 = omega arith in
      ap (span f i) e ∙ ap (λ (m : ℕ). f i ∷ span f m (n - (k + 1))) j

  pub span_done : (f : ℕ → A) (i n k : ℕ) → n ≤ k → span f i (n - k) ≡ []
  span_done f i n k h = let e : n - k ≡ 0 = omega arith in ap (span f i) e

  -- two spans that agree place by place
  pub span_moved : (f g : ℕ → A) (s r n : ℕ) → ((j : ℕ) → j < n → f (s + j) ≡ g (r + j)) → span f s n ≡ span g r n
  span_moved f g s r zero e = refl
  span_moved f g s r (suc n) e =
      let p : s + 0 ≡ s = omega arith in
      let q : r + 0 ≡ r = omega arith in
      ap₂ (λ (x : A) (l : List A). x ∷ l) (ap f (sym p) ∙ e 0 (omega arith) ∙ ap g q)
      (span_moved f g (suc s) (suc r) n
      (λ j h.
      let i : suc s + j ≡ s + suc j = omega arith in
      let k : r + suc j ≡ suc r + j = omega arith in
      ap f i ∙ e (suc j) (omega arith) ∙ ap g k))

  pub all_span : {P : A → Type 0} (f : ℕ → A) (s n j : ℕ) → All P (span f s n) → j < n → P (f (s + j))
  all_span f s zero j a h = absurd (omega arith)
  all_span {P} f s (suc n) zero a h = let p : s ≡ s + 0 = omega arith in subst (λ (i : ℕ). P (f i)) p (all_first a)
  all_span {P} f s (suc n) (suc j) a h =
      let p : suc s + j ≡ s + suc j = omega arith in
      subst (λ (i : ℕ). P (f i)) p (all_span f (suc s) n j (all_rest a) (omega arith))

module _ {A B : Type 0} (h : A → B) where
  pub map_span : (g : ℕ → A) (s n : ℕ) → map h (span g s n) ≡ span (λ i. h (g i)) s n
  map_span g s zero = refl
  map_span g s (suc n) = ap (λ (l : List B). h (g s) ∷ l) (map_span g (suc s) n)
