-- Places of a list: what stands at them, the last one, and what appending, taking and writing do to them.
use Prim.Native.Nat.{ℕ, zero, suc, ◌+◌, ◌-◌, ◌≤◌, ◌<◌}
use native.Mathlib.Omega.{arith}
use mathlib.Core.Path.{◌≡◌, refl, sym, ap}
use mathlib.Core.Logic.{◌⊎◌, inl, inr}
use mathlib.Core.Option.{none, some}
use mathlib.Core.List.{List, [], ◌∷◌, ◌++◌}
use lib.ListN.{length, get_or, get_elem?, take, set, replicate, length-append}
use lib.Seq.{get_or-set_other}
use Rattle.laws.proofs.Options.{no_such, same_some}

module _ {A : Type 0} where
  pub at_place : (l : List A) (i : ℕ) → i < length l → (a : A) × (get_elem? l i ≡ some a)
  at_place [] i lt = absurd (omega arith)
  at_place (a ∷ l) zero lt = (a, refl)
  at_place (a ∷ l) (suc i) lt = at_place l i (omega arith)

  pub place_under : (l : List A) (i : ℕ) (a : A) → get_elem? l i ≡ some a → i < length l
  place_under [] i a e = absurd (no_such e)
  place_under (b ∷ l) zero a e = omega arith
  place_under (b ∷ l) (suc i) a e = let x = place_under l i a e in omega arith

  pub no_place : (l : List A) (i : ℕ) → get_elem? l i ≡ none → length l ≤ i
  no_place [] i e = omega arith
  no_place (b ∷ l) zero e = absurd (no_such (sym e))
  no_place (b ∷ l) (suc i) e = let x = no_place l i e in omega arith

  pub past_end : (l : List A) (i : ℕ) → length l ≤ i → get_elem? l i ≡ none
  past_end [] i h = refl
  past_end (a ∷ l) zero h = absurd (omega arith)
  past_end (a ∷ l) (suc i) h = past_end l i (omega arith)

  -- The last one.

  pub last_place : (xs : List A) (x : A) → length (xs ++ (x ∷ [])) - 1 ≡ length xs
  last_place xs x = let e : length (xs ++ (x ∷ [])) ≡ length xs + 1 = length-append xs (x ∷ []) in omega arith

  pub last_one : (xs : List A) (x : A) → get_elem? (xs ++ (x ∷ [])) (length xs) ≡ some x
  last_one [] x = refl
  last_one (y ∷ xs) x = last_one xs x

  -- a list that has one has a last one
  pub snoc : (a : A) (l : List A) → (m : List A) × (z : A) × (m ++ (z ∷ []) ≡ a ∷ l)
  snoc a [] = ([], a, refl)
  snoc a (b ∷ l) = let r = snoc b l in (a ∷ r.0, r.1, ap (λ q. a ∷ q) r.2)

  -- Appending, taking.

  pub at_append : (xs ys : List A) (i : ℕ) (x : A) → get_elem? xs i ≡ some x → get_elem? (xs ++ ys) i ≡ some x
  at_append [] ys i x e = absurd (no_such e)
  at_append (y ∷ xs) ys zero x e = e
  at_append (y ∷ xs) ys (suc i) x e = at_append xs ys i x e

  -- a place of a list with one more
  pub at_push : (l : List A) (z : A) (i : ℕ) (a : A) → get_elem? (l ++ (z ∷ [])) i ≡ some a
      → (get_elem? l i ≡ some a) ⊎ ((z ≡ a) × (i ≡ length l))
  at_push [] z zero a e = inr (same_some e, refl)
  at_push [] z (suc i) a e = absurd (no_such e)
  at_push (b ∷ l) z zero a e = inl e
  at_push (b ∷ l) z (suc i) a e = next (at_push l z i a e)
    where
      next : (get_elem? l i ≡ some a) ⊎ ((z ≡ a) × (i ≡ length l)) → (get_elem? l i ≡ some a) ⊎ ((z ≡ a) × (suc i ≡ suc (length l)))
      next (inl q) = inl q
      next (inr q) = inr (q.0, ap suc q.1)

  pub at_take : (l : List A) (i : ℕ) (a : A) → get_elem? l i ≡ some a → get_elem? (take (suc i) l) i ≡ some a
  at_take [] i a e = absurd (no_such e)
  at_take (b ∷ l) zero a e = e
  at_take (b ∷ l) (suc i) a e = at_take l i a e

  -- Writing.

  pub set_here : (xs : List A) (i : ℕ) (x y : A) → get_elem? xs i ≡ some x → get_elem? (set xs i y) i ≡ some y
  set_here [] i x y e = absurd (no_such e)
  set_here (a ∷ xs) zero x y e = refl
  set_here (a ∷ xs) (suc i) x y e = set_here xs i x y e

  pub set_other : (l : List A) (i j : ℕ) (a : A) → (i ≡ j → ⊥) → get_elem? (set l i a) j ≡ get_elem? l j
  set_other [] i j a n = refl
  set_other (c ∷ l) zero zero a n = absurd (n refl)
  set_other (c ∷ l) zero (suc j) a n = refl
  set_other (c ∷ l) (suc i) zero a n = refl
  set_other (c ∷ l) (suc i) (suc j) a n = set_other l i j a (λ k. n (ap suc k))

  pub get_or_set_below : (l : List A) (i j : ℕ) (a d : A) → j < i → get_or (set l i a) j d ≡ get_or l j d
  get_or_set_below l i j a d h = get_or-set_other l i j a d (λ e. omega arith)

  -- what holds at every place holds after writing one of which it holds
  pub every_set : (P : A → Type 0) (l : List A) (i : ℕ) (a d : A) → P a → ((c : ℕ) → P (get_or l c d)) → (c : ℕ) → P (get_or (set l i a) c d)
  every_set P [] i a d h k c = k c
  every_set P (x ∷ l) zero a d h k zero = h
  every_set P (x ∷ l) zero a d h k (suc c) = k (suc c)
  every_set P (x ∷ l) (suc i) a d h k zero = k zero
  every_set P (x ∷ l) (suc i) a d h k (suc c) = every_set P l i a d h (λ e. k (suc e)) c

-- past the end of a list of numbers
pub get_d_past : (l : List ℕ) (i : ℕ) → length l ≤ i → ◌≡◌ {A = ℕ} (get_or l i 0) 0
get_d_past [] i h = refl
get_d_past (x ∷ l) zero h = absurd (omega arith)
get_d_past (x ∷ l) (suc i) h = get_d_past l i (omega arith)

-- a list of zeros, at any place and past its end
pub get_or_zeros : (n i : ℕ) → ◌≡◌ {A = ℕ} (get_or (replicate n 0) i 0) 0
get_or_zeros zero i = refl
get_or_zeros (suc n) zero = refl
get_or_zeros (suc n) (suc i) = get_or_zeros n i
