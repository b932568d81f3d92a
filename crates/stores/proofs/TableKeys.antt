-- The key of a delayed list: lists of goals of a book have the same key only where they are the same, and a key of eight goals fits. From
-- the definition of `key_of`.
use Prim.Native.Nat.{ℕ, zero, suc, ◌+◌, ◌*◌, ◌-◌, ◌%◌, ◌≤◌, ◌<◌, min}
use native.Mathlib.Omega.{arith}
use native.Mathlib.Nat.{mod-lt, mod-eq_of_lt}
use mathlib.Core.Path.{◌≡◌, refl, sym, ap, ap₂, ◌∙◌}
use mathlib.Core.Bool.{Bool, true, false, ◌&&◌}
use mathlib.Core.List.{List, [], ◌∷◌}
use lib.ListN.{length, take, drop, get_or, length-take, length-drop}
use lib.Seq.{drop-cons, get_or-take, take_all}
use lib.Dec.{eqb, ltb}
use borrow.Author.Tests.{eq-eqb, ne_eqb, eqb-true, eqb-false, ltb-true, ltb-false}
use Rattle.definitions.specs.Lists.{same}
use Rattle.laws.specs.All.{All}
use Rattle.laws.proofs.All.{all_first, all_rest}
use Rattle.stores.specs.Table.{key_of}

digit_small : (g : ℕ) → g % 127 + 1 < 128
digit_small g = omega (arith, mod-lt g {m = 127} (omega arith))

-- no list but the empty one has key 0, and a key tells the first goal and the rest
pub same_key : (l m : List ℕ) → All (λ g. g < 64) l → All (λ g. g < 64) m → same l m ≡ eqb (key_of l) (key_of m)
same_key [] [] a b = refl
same_key [] (y ∷ m) a b = sym (ne_eqb 0 (key_of (y ∷ m)) (λ e. omega arith))
same_key (x ∷ l) [] a b = sym (ne_eqb (key_of (x ∷ l)) 0 (λ e. omega arith))
same_key (x ∷ l) (y ∷ m) a b = first (eqb x y) refl (same_key l m (all_rest a) (all_rest b))
  where
    rest : (c : Bool) → eqb (key_of l) (key_of m) ≡ c → x ≡ y → c ≡ eqb (key_of (x ∷ l)) (key_of (y ∷ m))
    rest true e d = sym (eq-eqb (key_of (x ∷ l)) (key_of (y ∷ m))
        (ap₂ (λ (k g : ℕ). k * 128 + (g % 127 + 1)) (eqb-true (key_of l) (key_of m) e) d))
    rest false e d = sym (ne_eqb (key_of (x ∷ l)) (key_of (y ∷ m))
        (λ i. eqb-false (key_of l) (key_of m) e (omega (arith, ap (λ (g : ℕ). g % 127) d))))

    first : (c : Bool) → eqb x y ≡ c → same l m ≡ eqb (key_of l) (key_of m) → c && same l m ≡ eqb (key_of (x ∷ l)) (key_of (y ∷ m))
    first true e more = more ∙ rest (eqb (key_of l) (key_of m)) refl (eqb-true x y e)
    first false e more = sym (ne_eqb (key_of (x ∷ l)) (key_of (y ∷ m)) (λ i. eqb-false x y e (digits i)))
      where
        digits : key_of (x ∷ l) ≡ key_of (y ∷ m) → x ≡ y
        digits i =
            let ex : x % 127 ≡ x = mod-eq_of_lt (omega (arith, all_first a)) in
            let ey : y % 127 ≡ y = mod-eq_of_lt (omega (arith, all_first b)) in
            omega (arith, all_first a, all_first b)

-- what keys of n goals are below
abbrev bound : ℕ → ℕ
bound zero = 1
bound (suc n) = bound n * 128

key_below : (n : ℕ) (l : List ℕ) → length l ≤ n → key_of l < bound n
key_below zero [] h = omega arith
key_below zero (g ∷ l) h = absurd (omega arith)
key_below (suc n) [] h = omega (arith, key_below n [] (omega arith))
key_below (suc n) (g ∷ l) h = omega (arith, key_below n l (omega arith), digit_small g)

-- THE LOOP of `key_of`, from the last goal to the first
module _ (goals : List ℕ) (n : ℕ) (fits : n ≤ length goals) where
  pub key_start : 0 ≡ key_of (drop n (take n goals))
  key_start = ap key_of (sym (nothing (drop n (take n goals)) (omega (arith, length-drop n (take n goals), length-take n goals))))
    where
      nothing : (l : List ℕ) → length l ≡ 0 → l ≡ []
      nothing [] e = refl
      nothing (x ∷ l) e = absurd (omega arith)

  module _ (i k : ℕ) (more : 0 < i) (within : i ≤ n) (is : k ≡ key_of (drop i (take n goals))) where
    pub key_step : (d : ℕ) → d ≡ get_or goals (i - 1) 0 % 127 + 1 → k * 128 + d ≡ key_of (drop (i - 1) (take n goals))
    key_step d e =
        let s : suc (i - 1) ≡ i = omega arith in
        let c : drop (i - 1) (take n goals) ≡ get_or goals (i - 1) 0 ∷ drop i (take n goals) =
        drop-cons (take n goals) (i - 1) 0 (omega (arith, length-take n goals))
        ∙ ap₂ (λ (g j : ℕ). g ∷ drop j (take n goals)) (get_or-take n goals (i - 1) 0 (omega arith)) s in
        ap₂ (λ (x y : ℕ). x * 128 + y) is e ∙ sym (ap key_of c)

    pub key_fits : n ≤ 8 → k < 562949953421312
    key_fits small = omega (arith, key_below 7 (drop i (take n goals)) (omega (arith, length-drop i (take n goals), length-take n goals)))

pub key_end : (goals : List ℕ) (count n : ℕ) → length goals ≡ 8 → n ≡ min count 8 → key_of (take n goals) ≡ key_of (take count goals)
key_end goals count n long e = go (ltb 8 count) refl
  where
    go : (b : Bool) → ltb 8 count ≡ b → key_of (take n goals) ≡ key_of (take count goals)
    go true f =
        let h : 8 < count = ltb-true 8 count f in
        ap key_of (take_all n goals (omega arith) ∙ sym (take_all count goals (omega arith)))
    go false f =
        let h : count ≤ 8 = ltb-false 8 count f in
        let d : n ≡ count = omega arith in
        ap (λ (m : ℕ). key_of (take m goals)) d
