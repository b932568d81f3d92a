-- The first n of a list, as an array of some size with a count beside it holds them: what is left of them for a loop that goes up through
-- them, and one more of them, read or written.
use Prim.Native.Nat.{ℕ, zero, suc, ◌+◌, ◌≤◌, ◌<◌, min}
use native.Mathlib.Nat.{zero-min, min-zero, suc-min-suc}
use native.Mathlib.Numerals.{add-one}
use native.Mathlib.Omega.{arith}
use mathlib.Core.List.{List, [], ◌∷◌, ◌++◌}
use mathlib.Core.Path.{◌≡◌, sym, ap, ap₂, ◌∙◌}
use lib.ListN.{length, take, drop, set, get_or, length-take, length-append, drop_of_length-le}
use lib.Seq.{take-suc-set, length-take-le, drop-cons, get_or-take, take-suc, take_at, sets, sets-eq}

module _ {A : Type 0} where
  -- a count past the end of an array shows the whole of it
  take_within : (n : ℕ) (l : List A) → take (min n (length l)) l ≡ take n l
  take_within zero l = ap (λ (k : ℕ). take k l) (zero-min (length l))
  take_within (suc n) [] = ap (λ (k : ℕ). take {A = A} k []) (min-zero (suc n))
  take_within (suc n) (a ∷ l) =
      ap (λ (k : ℕ). take k (a ∷ l)) (suc-min-suc n (length l)) ∙ ap (λ (r : List A). a ∷ r) (take_within n l)

  -- a count n that is kept within an array of some size: the first n are what the view shows
  pub take_min : (size count n : ℕ) (l : List A) → length l ≡ size → n ≡ min count size → take n l ≡ take count l
  take_min size count n l long e =
      ap (λ (k : ℕ). take k l) (e ∙ ap (λ (k : ℕ). min count k) (sym long)) ∙ take_within count l

  pub length_take_min : (size count n : ℕ) (l : List A) → length l ≡ size → n ≡ min count size → length (take count l) ≡ n
  length_take_min size count n l long e = length-take count l ∙ ap (λ (k : ℕ). min count k) long ∙ sym e

  -- What a loop that goes up through the first n of an array has left: one more, and nothing.
  pub drop_take_next : (n i : ℕ) (l : List A) (d : A) → i < n → n ≤ length l → drop i (take n l) ≡ get_or l i d ∷ drop (i + 1) (take n l)
  drop_take_next n i l d p h =
      let e : length (take n l) ≡ n = length-take-le n l h in
      drop-cons (take n l) i d (omega arith)
      ∙ ap₂ (λ (a : A) (k : ℕ). a ∷ drop k (take n l)) (get_or-take n l i d p) (sym (add-one i))

  pub drop_take_none : (n i : ℕ) (l : List A) → n ≤ i → drop i (take n l) ≡ []
  drop_take_none n i l h = drop_of_length-le (take n l) {i = i} (omega (arith, length-take n l))

  -- What such a loop has made: one more at the end.
  pub take_set_next : (n : ℕ) (l : List A) (a : A) → n < length l → take (n + 1) (set l n a) ≡ take n l ++ (a ∷ [])
  take_set_next n l a h = ap (λ (k : ℕ). take k (set l n a)) (add-one n) ∙ take-suc-set l n a h

  pub take_next : (n : ℕ) (l : List A) (d : A) → n < length l → take (n + 1) l ≡ take n l ++ (get_or l n d ∷ [])
  take_next n l d h = ap (λ (k : ℕ). take k l) (add-one n) ∙ take-suc l n d h

  -- A run of stores into an array from its place i on: one more at the end, and what it leaves in front.
  pub sets_one_more : (vs l : List A) (i k : ℕ) (a : A) → k ≡ i + length vs → set (sets l i vs) k a ≡ sets l i (vs ++ (a ∷ []))
  sets_one_more [] l i k a e =
      let same : k ≡ i = omega arith in
      ap (λ (n : ℕ). set l n a) same
  sets_one_more (v ∷ vs) l i k a e = sets_one_more vs (set l i v) (suc i) k a (omega arith)

  pub take_sets : (vs l : List A) (i k : ℕ) → i + length vs ≤ length l → k ≡ i + length vs → take k (sets l i vs) ≡ take i l ++ vs
  take_sets vs l i k room e =
      let front : length (take i l) ≡ i = length-take-le i l (omega arith) in
      ap (take k) (sets-eq vs l i room)
      ∙ take_at (take i l ++ vs) (drop (i + length vs) l) k (omega (arith, length-append (take i l) vs))

  -- a turn of the loop that copies the first ones of one array into another from its place n on
  pub sets_next : (to more all : List A) (n i : ℕ) (d : A) → i < length more → all ≡ sets to n (take i more)
      → set all (n + i) (get_or more i d) ≡ sets to n (take (i + 1) more)
  sets_next to more all n i d q e =
      let long : length (take i more) ≡ i = length-take-le i more (omega arith) in
      ap (λ (l : List A). set l (n + i) (get_or more i d)) e
      ∙ sets_one_more (take i more) to n (n + i) (get_or more i d) (omega arith)
      ∙ ap (sets to n) (sym (take_next i more d q))
