-- Laws of lists and tests, over any element and any test: those that pass it, and where the first one stands.
use Prim.Native.Nat.{ℕ, suc, ◌+◌}
use native.Mathlib.Nat.{add-zero}
use native.Mathlib.Omega.{arith}
use mathlib.Core.Path.{◌≡◌, refl, sym, ap, ◌∙◌}
use mathlib.Core.Bool.{Bool, true, false, not}
use mathlib.Core.List.{List, [], ◌∷◌, ◌++◌}
use lib.ListN.{length, drop, get_or}
use lib.Seq.{get_or-drop}
use Rattle.rings.specs.Lists.{stop, first_index}

module _ {A : Type 0} where
  abbrev pub keep : Bool → A → List A → List A
  keep true x l = x ∷ l
  keep false x l = l

  -- those that pass the test, in order
  abbrev pub filter : (A → Bool) → List A → List A
  filter f [] = []
  filter f (x ∷ l) = keep (f x) x (filter f l)

  keep_append : (b : Bool) (x : A) (l m : List A) → keep b x (l ++ m) ≡ keep b x l ++ m
  keep_append true x l m = refl
  keep_append false x l m = refl

  pub filter_append : (f : A → Bool) (l m : List A) → filter f (l ++ m) ≡ filter f l ++ filter f m
  filter_append f [] m = refl
  filter_append f (x ∷ l) m = ap (keep (f x) x) (filter_append f l m) ∙ keep_append (f x) x (filter f l) (filter f m)

  keep_count : (b : Bool) (x : A) (l m : List A) (n : ℕ) → length l + length m ≡ n → length (keep b x l) + length (keep (not b) x m) ≡ suc n
  keep_count true x l m n e = omega arith
  keep_count false x l m n e = omega arith

  -- those that pass and those that don't are all
  pub filter_count : (f : A → Bool) (l : List A) → length (filter f l) + length (filter (λ x. not (f x)) l) ≡ length l
  filter_count f [] = refl
  filter_count f (x ∷ l) = keep_count (f x) x (filter f l) (filter (λ y. not (f y)) l) (length l) (filter_count f l)

  pub first_index_here : (f : A → Bool) (x : A) (l : List A) → f x ≡ true → first_index f (x ∷ l) ≡ 0
  first_index_here f x l e = ap (λ (b : Bool). stop b (first_index f l)) e

  pub first_index_past : (f : A → Bool) (x : A) (l : List A) → f x ≡ false → first_index f (x ∷ l) ≡ suc (first_index f l)
  first_index_past f x l e = ap (λ (b : Bool). stop b (first_index f l)) e

  pub get_or_of_drop : (l m : List A) (i : ℕ) (d : A) → drop i l ≡ drop i m → get_or l i d ≡ get_or m i d
  get_or_of_drop l m i d e =
      let s : get_or (drop i l) 0 d ≡ get_or l (i + 0) d = get_or-drop i l 0 d in
      let t : get_or (drop i m) 0 d ≡ get_or m (i + 0) d = get_or-drop i m 0 d in
      rw (← add-zero i) (sym s ∙ ap (λ (k : List A). get_or k 0 d) e ∙ t)
