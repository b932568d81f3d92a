-- A view shows the first n of an array, each by its meaning: `map f (take n l)`. The laws say what reading, pushing and removing do to it,
-- where the array changes by `set` and the count by one.
use Prim.Native.Nat.{ℕ, zero, suc, ◌+◌, ◌-◌, ◌≤◌, ◌<◌, min}
use native.Mathlib.Nat.{min-eq_left}
use native.Mathlib.Omega.{arith}
use mathlib.Core.List.{List, [], ◌∷◌, ◌++◌, map, map-append, append_assoc}
use mathlib.Core.Option.{none, some}
use mathlib.Core.Path.{◌≡◌, refl, sym, ap, ◌∙◌}
use borrow.Rule.Slice.PartMut.{put_mid}
use lib.Dec.{eqb, eqb-suc-zero}
use lib.ListN.{length, take, drop, set, get_or, get_elem?, length-map, length-take}
use lib.Seq.{sets, take-take, take-set-lt, get_or-take}
use Rattle.std.proofs.lemmas.List.{drop-drop}
use Rattle.std.proofs.lemmas.List.Edits.{sets-eq}
use Rattle.definitions.specs.Lists.{push, remove, swap_remove, is_empty}
use Rattle.definitions.proofs.Lists.{remove_last, swap_remove_is}
use Rattle.laws.proofs.Lists.{past_end}
use Rattle.laws.proofs.Maps.{map_take, map_set, get_elem_map}
use Rattle.laws.proofs.Takes.{take_set_next}

module _ {A B : Type 0} (f : A → B) where
  pub length_view : (n : ℕ) (l : List A) → length (map f (take n l)) ≡ min n (length l)
  length_view n l = length-map (take n l) f ∙ length-take n l

  pub view_at : (n i : ℕ) (l : List A) (d : A) → i < min n (length l) → get_elem? (map f (take n l)) i ≡ some (f (get_or l i d))
  view_at n i l d h =
      let e : length (take n l) ≡ min n (length l) = length-take n l in
      get_elem_map f (take n l) i d (omega arith) ∙ ap (λ (a : A). some (f a)) (get_or-take n l i d (omega arith))

  pub view_past : (n i : ℕ) (l : List A) → min n (length l) ≤ i → get_elem? (map f (take n l)) i ≡ none
  view_past n i l h =
      let e : length (map f (take n l)) ≡ min n (length l) = length_view n l in
      past_end (map f (take n l)) i (omega arith)

  pub view_empty : (n : ℕ) (l : List A) → 0 < length l → eqb n 0 ≡ is_empty (map f (take n l))
  view_empty zero l h = refl
  view_empty (suc n) [] h = absurd (omega arith)
  view_empty (suc n) (a ∷ l) h = eqb-suc-zero n

  -- the first m of the first n
  view_front : (m n : ℕ) (l : List A) → m ≤ n → take m (map f (take n l)) ≡ map f (take m l)
  view_front m n l h = sym (map_take f m (take n l)) ∙ ap (λ (r : List A). map f r) (take-take m n l h)

  pub view_remove_last : (n : ℕ) (l : List A)
      → remove (map f (take n l)) (length (map f (take n l)) - 1) ≡ map f (take (min n (length l) - 1) l)
  view_remove_last n l =
      remove_last (map f (take n l))
      ∙ ap (λ (k : ℕ). take (k - 1) (map f (take n l))) (length_view n l)
      ∙ view_front (min n (length l) - 1) n l (omega arith)

  pub view_push : (n : ℕ) (l : List A) (a : A) → n < length l → push (map f (take n l)) (f a) ≡ map f (take (n + 1) (set l n a))
  view_push n l a h = sym (map-append f (take n l) (a ∷ [])) ∙ ap (λ (r : List A). map f r) (sym (take_set_next n l a h))

  -- `swap_remove`: the last one takes the place i
  pub view_swap_remove : (n i : ℕ) (l : List A) (d : A) → i < n → n ≤ length l
      → swap_remove (map f (take n l)) i ≡ map f (take (n - 1) (set l i (get_or l (n - 1) d)))
  view_swap_remove n i l d p h =
      let e : length (map f (take n l)) ≡ n = length_view n l ∙ min-eq_left h in
      let last : A = get_or l (n - 1) d in
      swap_remove_is (map f (take n l)) i (f last)
      (ap (λ (k : ℕ). get_elem? (map f (take n l)) (k - 1)) e ∙ view_at n (n - 1) l d (omega arith))
      ∙ ap (λ (k : ℕ). take (k - 1) (set (map f (take n l)) i (f last))) e
      ∙ ap (λ (r : List B). take (n - 1) r)
      (sym (map_set f (take n l) i last) ∙ ap (λ (r : List A). map f r) (sym (take-set-lt n l i last p)))
      ∙ view_front (n - 1) n (set l i last) (omega arith)

-- A part of an array overwritten with as many elements is a run of stores.
pub copied : (to ys zs : List ℕ) (n k : ℕ) → ys ≡ zs → k ≡ length zs → n + k ≤ length to → put_mid n k to ys ≡ sets to n zs
copied to ys zs n k same size room =
    ap (λ (l : List ℕ). put_mid n k to l) same
    ∙ ap (λ (rest : List ℕ). take n to ++ (zs ++ rest)) (drop-drop k n to ∙ ap (λ (j : ℕ). drop (n + j) to) size)
    ∙ sym (sets-eq zs to n (omega arith) ∙ append_assoc (take n to) zs (drop (n + length zs) to))
