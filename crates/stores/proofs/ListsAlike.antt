-- Lists of places up to their order: two lists in which each number stands equally often are equally long. From `times` alone.
use Prim.Native.Nat.{ℕ, zero, suc, ◌+◌, ◌≤◌, ◌<◌}
use native.Mathlib.Omega.{arith}
use mathlib.Core.Path.{◌≡◌, refl, sym, ap}
use mathlib.Core.Bool.{Bool, true, false}
use mathlib.Core.List.{List, [], ◌∷◌}
use lib.ListN.{length, get_or}
use lib.Dec.{eqb}
use borrow.Author.Tests.{eqb-true}
use Rattle.rings.specs.Lists.{one, times}
use Rattle.rings.proofs.Counts.{times_self}

abbrev skip : Bool → ℕ → (l m : List ℕ) → List ℕ
skip true y l m = l
skip false y l m = y ∷ m

-- the list without the first x
abbrev pub without : ℕ → List ℕ → List ℕ
without x [] = []
without x (y ∷ l) = skip (eqb x y) y l (without x l)

pub times_without : (x z : ℕ) (l : List ℕ) → 1 ≤ times x l → times z l ≡ one (eqb z x) + times z (without x l)
times_without x z [] h = absurd (omega arith)
times_without x z (y ∷ l) h = go (eqb x y) refl (times_without x z l)
  where
    go : (b : Bool) → eqb x y ≡ b → (1 ≤ times x l → times z l ≡ one (eqb z x) + times z (without x l))
        → times z (y ∷ l) ≡ one (eqb z x) + times z (skip b y l (without x l))
    go true e more = ap (λ (k : ℕ). one (eqb z k) + times z l) (sym (eqb-true x y e))
    go false e more = omega (arith, more (omega (arith, ap one e)))

pub length_without : (x : ℕ) (l : List ℕ) → 1 ≤ times x l → length l ≡ suc (length (without x l))
length_without x [] h = absurd (omega arith)
length_without x (y ∷ l) h = go (eqb x y) refl (length_without x l)
  where
    go : (b : Bool) → eqb x y ≡ b → (1 ≤ times x l → length l ≡ suc (length (without x l)))
        → length (y ∷ l) ≡ suc (length (skip b y l (without x l)))
    go true e more = refl
    go false e more = omega (arith, more (omega (arith, ap one e)))

-- two lists with the same numbers
abbrev pub Alike : (l m : List ℕ) → Type 0
Alike l m = (x : ℕ) → times x l ≡ times x m

pub length_alike : (l m : List ℕ) → Alike l m → length l ≡ length m
length_alike [] [] a = refl
length_alike [] (y ∷ m) a = absurd (omega (arith, a y, times_self y))
length_alike (x ∷ l) m a =
    let h : 1 ≤ times x m = omega (arith, a x, times_self x) in
    let r : length l ≡ length (without x m) = length_alike l (without x m) (λ z. omega (arith, a z, times_without x z m h)) in
    omega (arith, length_without x m h)

-- what stands in a list at an index stands there at least once
pub times_at : (l : List ℕ) (j : ℕ) → j < length l → 1 ≤ times (get_or l j 0) l
times_at [] j h = absurd (omega arith)
times_at (x ∷ l) zero h = omega (arith, times_self x)
times_at (x ∷ l) (suc j) h = omega (arith, times_at l j (omega arith))

-- and what stands in it at least once stands at some index: a fact that holds at each index holds of each that it has
pub times_cases : (q x : ℕ) (l : List ℕ) → 1 ≤ times q (x ∷ l) → (P : Type 0) → (q ≡ x → P) → (1 ≤ times q l → P) → P
times_cases q x l h P here there = go (eqb q x) refl
  where
    go : (b : Bool) → eqb q x ≡ b → P
    go true e = here (eqb-true q x e)
    go false e = there (omega (arith, ap one e))
