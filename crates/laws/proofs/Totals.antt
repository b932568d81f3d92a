-- Sums over a list.
use Prim.Native.Nat.{ℕ, zero, suc, ◌+◌, ◌≤◌}
use native.Mathlib.Omega.{arith}
use mathlib.Core.Path.{◌≡◌, refl, sym, ap}
use mathlib.Core.Option.{none, some}
use mathlib.Core.List.{List, [], ◌∷◌, ◌++◌}
use lib.ListN.{length, get_elem?, take, set}
use Rattle.laws.proofs.Options.{no_such, same_some}

module _ {A : Type 0} where
  abbrev pub total : (A → ℕ) → List A → ℕ
  total f [] = 0
  total f (a ∷ l) = f a + total f l

  pub total_length : (l : List A) → total (λ a. 1) l ≡ length l
  total_length [] = refl
  total_length (a ∷ l) = let x = total_length l in omega arith

  pub total_append : (f : A → ℕ) (l m : List A) → total f (l ++ m) ≡ total f l + total f m
  total_append f [] m = omega arith
  total_append f (a ∷ l) m = let x = total_append f l m in omega arith

  pub total_one : (f : A → ℕ) (l : List A) (i : ℕ) (a : A) → get_elem? l i ≡ some a → f a ≤ total f l
  total_one f [] i a e = absurd (no_such e)
  total_one f (b ∷ l) zero a e = let k : f b ≡ f a = ap f (same_some e) in omega arith
  total_one f (b ∷ l) (suc i) a e = let x = total_one f l i a e in omega arith

  pub total_set : (f : A → ℕ) (xs : List A) (i : ℕ) (x y : A) → get_elem? xs i ≡ some x → total f (set xs i y) + f x ≡ total f xs + f y
  total_set f [] i x y e = absurd (no_such e)
  total_set f (a ∷ xs) zero x y e = let k : f a ≡ f x = ap f (same_some e) in omega arith
  total_set f (a ∷ xs) (suc i) x y e = let k = total_set f xs i x y e in omega arith

  pub total_take_suc : (f : A → ℕ) (l : List A) (i : ℕ) (a : A) → get_elem? l i ≡ some a
      → total f (take (suc i) l) ≡ total f (take i l) + f a
  total_take_suc f [] i a e = absurd (no_such e)
  total_take_suc f (b ∷ []) zero a e = let k : f b ≡ f a = ap f (same_some e) in omega arith
  total_take_suc f (b ∷ c ∷ l) zero a e = let k : f b ≡ f a = ap f (same_some e) in omega arith
  total_take_suc f (b ∷ l) (suc i) a e = let x = total_take_suc f l i a e in omega arith

  pub total_take_past : (f : A → ℕ) (l : List A) (i : ℕ) → get_elem? l i ≡ none → total f (take (suc i) l) ≡ total f (take i l)
  total_take_past f [] zero e = refl
  total_take_past f [] (suc i) e = refl
  total_take_past f (b ∷ l) zero e = absurd (no_such (sym e))
  total_take_past f (b ∷ l) (suc i) e = let x = total_take_past f l i e in omega arith

  -- sums of what is the same at each place
  pub total_ext : (f f' : A → ℕ) (l : List A) → ((i : ℕ) (a : A) → get_elem? l i ≡ some a → f' a ≡ f a) → total f' l ≡ total f l
  total_ext f f' [] e = refl
  total_ext f f' (a ∷ l) e = let x = e 0 a refl in let y = total_ext f f' l (λ i. e (suc i)) in omega arith
