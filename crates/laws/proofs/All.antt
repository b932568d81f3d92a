-- What holds of each one of a list (specs, `All`), and of each one after an operation on it.
use Prim.Native.Nat.{ℕ, zero, suc}
use mathlib.Core.Path.{◌≡◌, subst}
use mathlib.Core.Option.{some}
use mathlib.Core.List.{List, [], ◌∷◌, ◌++◌}
use lib.ListN.{get_elem?, set, take, drop}
use Rattle.laws.specs.All.{All, end, more}
use Rattle.laws.proofs.Options.{no_such, same_some}

module _ {A : Type 0} {P : A → Type 0} where
  pub all_first : {a : A} {l : List A} → All P (a ∷ l) → P a
  all_first (more p x) = p

  pub all_rest : {a : A} {l : List A} → All P (a ∷ l) → All P l
  all_rest (more p x) = x

  pub all_at : {l : List A} (i : ℕ) {a : A} → All P l → get_elem? l i ≡ some a → P a
  all_at i end e = absurd (no_such e)
  all_at zero (more p x) e = subst P (same_some e) p
  all_at (suc i) (more p x) e = all_at i x e

  pub all_append : {l m : List A} → All P l → All P m → All P (l ++ m)
  all_append end y = y
  all_append (more p x) y = more p (all_append x y)

  -- all but the last, and the last
  pub all_front : (l : List A) (a : A) → All P (l ++ (a ∷ [])) → All P l
  all_front [] a x = end
  all_front (b ∷ l) a (more p x) = more p (all_front l a x)

  pub all_last : (l : List A) (a : A) → All P (l ++ (a ∷ [])) → P a
  all_last [] a (more p x) = p
  all_last (b ∷ l) a (more p x) = all_last l a x

  pub all_take : (i : ℕ) {l : List A} → All P l → All P (take i l)
  all_take zero end = end
  all_take zero (more p x) = end
  all_take (suc i) end = end
  all_take (suc i) (more p x) = more p (all_take i x)

  pub all_drop : (i : ℕ) {l : List A} → All P l → All P (drop i l)
  all_drop zero end = end
  all_drop zero (more p x) = more p x
  all_drop (suc i) end = end
  all_drop (suc i) (more p x) = all_drop i x

  pub all_set : {l : List A} (i : ℕ) {a : A} → All P l → P a → All P (set l i a)
  all_set i end p = end
  all_set zero (more q x) p = more p x
  all_set (suc i) (more q x) p = more q (all_set i x p)

module _ {A : Type 0} {P Q : A → Type 0} where
  pub all_map : {l : List A} → ((a : A) → P a → Q a) → All P l → All Q l
  all_map f end = end
  all_map f (more {a = a} p x) = more (f a p) (all_map f x)
