-- Laws of `span`, of `map` over a list of places, and of the search in a list, over any element. They carry a change of one table to
-- the list of tables.
use Prim.Native.Nat.{ℕ, zero, suc, ◌+◌, ◌≤◌, ◌<◌}
use native.Mathlib.Nat.{add-zero, zero-add}
use native.Mathlib.Omega.{arith}
use mathlib.Core.Path.{◌≡◌, refl, sym, ap, ap₂, ◌∙◌}
use mathlib.Core.Bool.{Bool, true, false}
use mathlib.Core.Option.{Option, none, some}
use mathlib.Core.List.{List, [], ◌∷◌, ◌++◌, map, map-append}
use lib.ListN.{length, take, drop, get_or, set, get_elem?}
use lib.Seq.{drop-cons}
use lib.Dec.{ltb}
use borrow.Author.Tests.{lt-ltb, le-ltb, ltb-true, ltb-false}
use Rattle.laws.specs.Spans.{span}
use Rattle.laws.specs.All.{All, end, more}
use Rattle.laws.proofs.All.{all_first, all_rest}
use Rattle.laws.proofs.Maps.{map_take}
use Rattle.laws.proofs.Spans.{span_ext, span_snoc}
use Rattle.definitions.specs.Lists.{push, position, rotate_left, total}
use Rattle.rings.specs.Lists.{stop, first_index, times, turned}
use Rattle.rings.proofs.Counts.{times_first}

-- where a search ends: at i, or nowhere
abbrev pub first_if : Bool → ℕ → Option ℕ
first_if true i = some i
first_if false i = none

abbrev pub later : Option ℕ → Option ℕ
later o = elim o [ none ↦ none | some i ↦ some (suc i) ]

pub ltb_suc : (i n : ℕ) → ltb (suc i) (suc n) ≡ ltb i n
ltb_suc i n = go (ltb i n) refl
  where
    go : (b : Bool) → ltb i n ≡ b → ltb (suc i) (suc n) ≡ b
    go true e = lt-ltb (suc i) (suc n) (omega (arith, ltb-true i n e))
    go false e = le-ltb (suc i) (suc n) (omega (arith, ltb-false i n e))

position_step : (b : Bool) (n i : ℕ) (o : Option ℕ) → o ≡ first_if (ltb i n) i
    → elim b [ true ↦ some 0 | false ↦ later o ] ≡ first_if (ltb (stop b i) (suc n)) (stop b i)
position_step true n i o e = ap (λ (b : Bool). first_if b 0) (sym (lt-ltb 0 (suc n) (omega arith)))
position_step false n i o e = ap later e ∙ go (ltb i n) ∙ ap (λ (b : Bool). first_if b (suc i)) (sym (ltb_suc i n))
  where
    go : (b : Bool) → later (first_if b i) ≡ first_if b (suc i)
    go true = refl
    go false = refl

module _ {A : Type 0} where
  span_at_from : (f : ℕ → A) (s n i : ℕ) → i < n → get_elem? (span f s n) i ≡ some (f (s + i))
  span_at_from f s zero i h = absurd (omega arith)
  span_at_from f s (suc n) zero h = rw (add-zero s) refl
  span_at_from f s (suc n) (suc i) h =
      let e : suc s + i ≡ s + suc i = omega arith in
      span_at_from f (suc s) n i (omega arith) ∙ ap (λ (k : ℕ). some (f k)) e

  pub span_at : (f : ℕ → A) (n i : ℕ) → i < n → get_elem? (span f 0 n) i ≡ some (f i)
  span_at f n i h = span_at_from f 0 n i h ∙ ap (λ (k : ℕ). some (f k)) (zero-add i)

  span_past_from : (f : ℕ → A) (s n i : ℕ) → n ≤ i → get_elem? (span f s n) i ≡ none
  span_past_from f s zero i h = refl
  span_past_from f s (suc n) zero h = absurd (omega arith)
  span_past_from f s (suc n) (suc i) h = span_past_from f (suc s) n i (omega arith)

  pub span_past : (f : ℕ → A) (n i : ℕ) → n ≤ i → get_elem? (span f 0 n) i ≡ none
  span_past f n i h = span_past_from f 0 n i h

  pub span_same : (f g : ℕ → A) (n : ℕ) → ((u : ℕ) → u < n → g u ≡ f u) → span g 0 n ≡ span f 0 n
  span_same f g n h = span_ext g f 0 n (λ u a b. h u (omega arith))

  span_set_from : (f g : ℕ → A) (s n t : ℕ) → t < n → ((u : ℕ) → u < s + n → (u ≡ s + t → ⊥) → g u ≡ f u)
      → span g s n ≡ set (span f s n) t (g (s + t))
  span_set_from f g s zero t h e = absurd (omega arith)
  span_set_from f g s (suc n) zero h e =
      ap₂ (λ (x : A) (l : List A). x ∷ l) (ap g (sym (add-zero s))) (span_ext g f (suc s) n (λ u a b. e u (omega arith) (λ d. omega arith)))
  span_set_from f g s (suc n) (suc t) h e =
      let i : suc s + t ≡ s + suc t = omega arith in
      ap₂ (λ (x : A) (l : List A). x ∷ l) (e s (omega arith) (λ d. omega arith))
      (span_set_from f g (suc s) n t (omega arith) (λ u a b. e u (omega arith) (λ d. b (omega arith)))
      ∙ ap (λ (k : ℕ). set (span f (suc s) n) t (g k)) i)

  -- one of them changes
  pub span_set : (f g : ℕ → A) (n t : ℕ) → t < n → ((u : ℕ) → u < n → (u ≡ t → ⊥) → g u ≡ f u) → span g 0 n ≡ set (span f 0 n) t (g t)
  span_set f g n t h e =
      let z : 0 + t ≡ t = omega arith in
      span_set_from f g 0 n t h (λ u a b. e u (omega arith) (λ d. b (omega arith))) ∙ ap (λ (k : ℕ). set (span f 0 n) t (g k)) z

  -- one more at the end
  pub span_push : (f : ℕ → A) (n : ℕ) → span f 0 (suc n) ≡ push (span f 0 n) (f n)
  span_push f n = span_snoc f 0 n ∙ ap (λ (k : ℕ). push (span f 0 n) (f k)) (zero-add n)

  pub total_push : (f : A → ℕ) (l : List A) (x : A) → total f (push l x) ≡ total f l + f x
  total_push f [] x = omega arith
  total_push f (y ∷ l) x = omega (arith, total_push f l x)

  -- THE SEARCH
  pub position_is : (test : A → Bool) (l : List A) → position test l ≡ first_if (ltb (first_index test l) (length l)) (first_index test l)
  position_is test [] = refl
  position_is test (x ∷ l) = position_step (test x) (length l) (first_index test l) (position test l) (position_is test l)

  pub first_map : {B : Type 0} (test : B → Bool) (f : A → B) (l : List A) → first_index test (map f l) ≡ first_index (λ x. test (f x)) l
  first_map test f [] = refl
  first_map test f (x ∷ l) = ap (stop (test (f x))) (first_map test f l)

  pub first_cong : (f g : A → Bool) (l : List A) → All (λ x. f x ≡ g x) l → first_index f l ≡ first_index g l
  first_cong f g [] a = refl
  first_cong f g (x ∷ l) a = ap₂ (λ (b : Bool) (n : ℕ). stop b n) (all_first a) (first_cong f g l (all_rest a))

  -- the front of a queue turned to j is what stands at j, and what is behind it is the rest
  pub rotate_front : (l : List A) (j : ℕ) (d : A) → j < length l → rotate_left l j ≡ get_or l j d ∷ turned j l
  rotate_front l j d h = ap (λ (m : List A). m ++ take j l) (drop-cons l j d h)

module _ {A B : Type 0} (f : A → B) where
  pub map_drop : (n : ℕ) (l : List A) → map f (drop n l) ≡ drop n (map f l)
  map_drop zero l = refl
  map_drop (suc n) [] = refl
  map_drop (suc n) (x ∷ l) = map_drop n l

  pub map_turned : (j : ℕ) (l : List A) → map f (turned j l) ≡ turned j (map f l)
  map_turned j l = map-append f (drop (suc j) l) (take j l) ∙ ap₂ (λ (x y : List B). x ++ y) (map_drop (suc j) l) (map_take f j l)

  pub map_at : (l : List A) (j : ℕ) (d : A) (e : B) → j < length l → get_or (map f l) j e ≡ f (get_or l j d)
  map_at [] j d e h = absurd (omega arith)
  map_at (x ∷ l) zero d e h = refl
  map_at (x ∷ l) (suc j) d e h = map_at l j d e (omega arith)

-- a fact of every number that a list has, as "all of it"
pub all_times : (P : ℕ → Type 0) (l : List ℕ) → ((x : ℕ) → 1 ≤ times x l → P x) → All P l
all_times P [] h = end
all_times P (x ∷ l) h = more (h x (times_first x l)) (all_times P l (λ y k. h y (omega arith)))
