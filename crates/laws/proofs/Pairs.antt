-- Two lists place by place: how long they are together, what stands at a place, and a place of both written.
use Prim.Native.Nat.{ℕ, zero, suc}
use native.Mathlib.Omega.{arith}
use mathlib.Core.List.{List, [], ◌∷◌}
use mathlib.Core.Path.{◌≡◌, refl, ap, ◌∙◌}
use lib.ListN.{length, get_or, set}
use Rattle.laws.specs.Pairs.{paired}

module _ {A B : Type 0} where
  pub length_paired : (n : ℕ) (xs : List A) (ys : List B) → length xs ≡ n → length ys ≡ n → length (paired xs ys) ≡ n
  length_paired n [] ys p q = p
  length_paired n (x ∷ xs) [] p q = absurd (omega arith)
  length_paired zero (x ∷ xs) (y ∷ ys) p q = absurd (omega arith)
  length_paired (suc n) (x ∷ xs) (y ∷ ys) p q = ap suc (length_paired n xs ys (omega arith) (omega arith))

  -- what stands at a place, in lists of one length
  pub paired_at : (xs : List A) (ys : List B) (i : ℕ) (a : A) (b : B) → length xs ≡ length ys
      → get_or (paired xs ys) i (a, b) ≡ (get_or xs i a, get_or ys i b)
  paired_at [] [] i a b e = refl
  paired_at [] (y ∷ ys) i a b e = absurd (omega arith)
  paired_at (x ∷ xs) [] i a b e = absurd (omega arith)
  paired_at (x ∷ xs) (y ∷ ys) zero a b e = refl
  paired_at (x ∷ xs) (y ∷ ys) (suc i) a b e = paired_at xs ys i a b (omega arith)

  -- a place of both written
  pub paired_set : (xs : List A) (ys : List B) (i : ℕ) (a : A) (b : B) → set (paired xs ys) i (a, b) ≡ paired (set xs i a) (set ys i b)
  paired_set [] ys i a b = refl
  paired_set (x ∷ xs) [] zero a b = refl
  paired_set (x ∷ xs) [] (suc i) a b = refl
  paired_set (x ∷ xs) (y ∷ ys) zero a b = refl
  paired_set (x ∷ xs) (y ∷ ys) (suc i) a b = ap (λ (l : List (A × B)). (x, y) ∷ l) (paired_set xs ys i a b)

  -- what stands at j written at i
  pub paired_moved : (xs : List A) (ys : List B) (i j : ℕ) (a : A) (b : B) → length xs ≡ length ys
      → set (paired xs ys) i (get_or (paired xs ys) j (a, b)) ≡ paired (set xs i (get_or xs j a)) (set ys i (get_or ys j b))
  paired_moved xs ys i j a b e =
      ap (set (paired xs ys) i) (paired_at xs ys j a b e) ∙ paired_set xs ys i (get_or xs j a) (get_or ys j b)
