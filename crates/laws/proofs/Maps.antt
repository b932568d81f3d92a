-- A list with a function at each one: its length, its places, its first ones, and a place written.
use Prim.Native.Nat.{ℕ, zero, suc, ◌≤◌, ◌<◌}
use native.Mathlib.Omega.{arith}
use mathlib.Core.Path.{◌≡◌, refl, sym, ap, ◌∙◌}
use mathlib.Core.Option.{none, some}
use mathlib.Core.List.{List, [], ◌∷◌, map}
use lib.ListN.{length, take, set, get_or, get_elem?, length-map}
use Rattle.laws.proofs.Options.{no_such, same_some}

-- how long an array of structs is: what owning it tells stands at the list's image
pub length_mapped : (X Y : Type 0) (f : X → Y) (l : List X) (n : ℕ) → length (map f l) ≡ n → length l ≡ n
length_mapped X Y f l n p = sym (length-map l f) ∙ p

module _ {A B : Type 0} (f : A → B) where
  pub map_take : (n : ℕ) (l : List A) → map f (take n l) ≡ take n (map f l)
  map_take zero l = refl
  map_take (suc n) [] = refl
  map_take (suc n) (a ∷ l) = ap (λ (r : List B). f a ∷ r) (map_take n l)

  pub map_set : (l : List A) (i : ℕ) (a : A) → map f (set l i a) ≡ set (map f l) i (f a)
  map_set [] i a = refl
  map_set (b ∷ l) zero a = refl
  map_set (b ∷ l) (suc i) a = ap (λ (r : List B). f b ∷ r) (map_set l i a)

  pub get_elem_map : (l : List A) (i : ℕ) (d : A) → i < length l → get_elem? (map f l) i ≡ some (f (get_or l i d))
  get_elem_map [] i d h = absurd (omega arith)
  get_elem_map (a ∷ l) zero d h = refl
  get_elem_map (a ∷ l) (suc i) d h = get_elem_map l i d (omega arith)

  pub get_elem_map_past : (l : List A) (i : ℕ) → length l ≤ i → get_elem? (map f l) i ≡ none
  get_elem_map_past [] i h = refl
  get_elem_map_past (a ∷ l) zero h = absurd (omega arith)
  get_elem_map_past (a ∷ l) (suc i) h = get_elem_map_past l i (omega arith)

  pub map_at : (l : List A) (i : ℕ) (a : A) → get_elem? l i ≡ some a → get_elem? (map f l) i ≡ some (f a)
  map_at [] i a e = absurd (no_such e)
  map_at (b ∷ l) zero a e = ap (λ (c : A). some (f c)) (same_some e)
  map_at (b ∷ l) (suc i) a e = map_at l i a e

  -- a place written with one of the same image
  pub map_set_alike : (l : List A) (i : ℕ) (a b : A) → get_elem? l i ≡ some a → f b ≡ f a → map f (set l i b) ≡ map f l
  map_set_alike [] i a b e q = refl
  map_set_alike (c ∷ l) zero a b e q = ap (λ (z : B). z ∷ map f l) (q ∙ ap f (sym (same_some e)))
  map_set_alike (c ∷ l) (suc i) a b e q = ap (λ (r : List B). f c ∷ r) (map_set_alike l i a b e q)

  -- what stands at a place comes from what stood there
  pub at_map : (l : List A) (i : ℕ) (b : B) → get_elem? (map f l) i ≡ some b → (a : A) × (get_elem? l i ≡ some a) × (f a ≡ b)
  at_map [] i b e = absurd (no_such e)
  at_map (a ∷ l) zero b e = (a, refl, same_some e)
  at_map (a ∷ l) (suc i) b e = at_map l i b e
