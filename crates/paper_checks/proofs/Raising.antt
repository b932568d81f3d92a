-- Laws of `Raised`, a matrix that got larger where that was asked for: one write, and one step after another.
use Prim.Native.Nat.{ℕ, ◌+◌, ◌*◌, ◌≤◌, ◌<◌}
use native.Mathlib.Omega.{arith}
use mathlib.Core.Path.{◌≡◌, refl, ap, subst, ◌∙◌}
use mathlib.Core.Bool.{Bool, true, false}
use mathlib.Core.Logic.{◌⊎◌, inl, inr, ⊎_elim}
use mathlib.Core.List.{List}
use lib.ListN.{length, get_or, set, length-set}
use lib.Seq.{get_or-set_same, get_or-set_other}
use lib.Dec.{eqb}
use borrow.Author.Tests.{eqb-true, eqb-false}
use Rattle.paper_checks.specs.Reach.{cell, Raised, Here}

-- a place is that of one row and one column
pub same_place : (i j x y : ℕ) → j < 64 → y < 64 → 64 * x + y ≡ 64 * i + j → (x ≡ i) × (y ≡ j)
same_place i j x y h k e = (omega arith, omega arith)

pub raised_already : (m : List ℕ) (i j v : ℕ) → v ≤ cell m i j → Raised (Here i j v) m m
raised_already m i j v h = record {
  whole = refl;
  keeps = λ x y. omega arith;
  met = λ w x y a.
      let e : cell m x y ≡ cell m i j = (λ t. cell m (a.0 t) (a.1 t)) in
      let l = a.2 in
      omega arith;
  only = λ w x y z k a. inl a;
}

module _ (m : List ℕ) (i j v : ℕ) (full : length m ≡ 4096) (hi : i < 64) (hj : j < 64) (less : cell m i j < v) where
  abbrev written : List ℕ
  written = set m (64 * i + j) v

  there : cell written i j ≡ v
  there = get_or-set_same m (64 * i + j) v 0 (omega arith)

  module _ (x y : ℕ) where
    other : (64 * x + y ≡ 64 * i + j → ⊥) → cell written x y ≡ cell m x y
    other n = get_or-set_other m (64 * i + j) (64 * x + y) v 0 n

    is_there : 64 * x + y ≡ 64 * i + j → cell written x y ≡ v
    is_there e = ap (λ (p : ℕ). get_or written p 0) e ∙ there

    was_there : 64 * x + y ≡ 64 * i + j → cell m x y ≡ cell m i j
    was_there e = ap (λ (p : ℕ). get_or m p 0) e

  keeps_at : (x y : ℕ) (b : Bool) → eqb (64 * x + y) (64 * i + j) ≡ b → cell m x y ≤ cell written x y
  keeps_at x y true q = let e = eqb-true _ _ q in omega (arith, is_there x y e, was_there x y e)
  keeps_at x y false q = omega (arith, other x y (eqb-false _ _ q))

  only_at : (w x y : ℕ) → y < 64 → w ≤ cell written x y → (b : Bool) → eqb (64 * x + y) (64 * i + j) ≡ b
      → (w ≤ cell m x y) ⊎ Here i j v w x y
  only_at w x y k a true q =
      let e = eqb-true _ _ q in
      let s = same_place i j x y hj k e in
      inr (s.0, s.1, omega (arith, is_there x y e))
  only_at w x y k a false q = inl (omega (arith, other x y (eqb-false _ _ q)))

  pub raised_set : Raised (Here i j v) m written
  raised_set = record {
    whole = length-set m (64 * i + j) v;
    keeps = λ x y. keeps_at x y (eqb (64 * x + y) (64 * i + j)) refl;
    met = λ w x y a.
        let e : cell written x y ≡ cell written i j = (λ t. cell written (a.0 t) (a.1 t)) in
        let l = a.2 in
        omega (arith, there);
    only = λ w x y z k a. only_at w x y k a (eqb (64 * x + y) (64 * i + j)) refl;
  }

-- what is asked for, in other words
module _ {A B : (v i j : ℕ) → Type 0} {old new : List ℕ} (r : Raised A old new) where
  pub raised_as : ((v i j : ℕ) → 0 < v → A v i j → B v i j) → ((v i j : ℕ) → B v i j → A v i j) → Raised B old new
  raised_as to from = record {
    whole = r.whole;
    keeps = r.keeps;
    met = λ v i j b. r.met v i j (from v i j b);
    only = λ v i j z k h. ⊎_elim inl (λ a. inr (to v i j z a)) (r.only v i j z k h);
  }

-- one after the other
module _ {A B : (v i j : ℕ) → Type 0} {old mid new : List ℕ} (r : Raised A old mid) (s : Raised B mid new) where
  pub raised_then : Raised (λ v i j. A v i j ⊎ B v i j) old new
  raised_then = record {
    whole = s.whole ∙ r.whole;
    keeps = λ i j. omega (arith, r.keeps i j, s.keeps i j);
    met = λ v i j. ⊎_elim (λ a. omega (arith, r.met v i j a, s.keeps i j)) (λ b. s.met v i j b);
    only = λ v i j z k h.
        ⊎_elim (λ l. ⊎_elim inl (λ a. inr (inl a)) (r.only v i j z k l)) (λ b. inr (inr b)) (s.only v i j z k h);
  }

-- Step after step: what step k asks for, for each k below n.

abbrev pub Steps : (A : (k v i j : ℕ) → Type 0) → (n v i j : ℕ) → Type 0
Steps A n v i j = (k : ℕ) × (k < n) × A k v i j

pub raised_none : (A : (k v i j : ℕ) → Type 0) (m : List ℕ) → Raised (Steps A 0) m m
raised_none A m = record {
  whole = refl;
  keeps = λ i j. omega arith;
  met = λ v i j a. let h = a.1 in absurd (omega arith);
  only = λ v i j z k h. inl h;
}

pub raised_more : (A : (k v i j : ℕ) → Type 0) (n : ℕ) {old mid new : List ℕ} → Raised (Steps A n) old mid → Raised (A n) mid new
    → Raised (Steps A (n + 1)) old new
raised_more A n r s =
    raised_as (raised_then r s)
    (λ v i j z. ⊎_elim (λ a. (a.0, below a.0 a.1, a.2)) (λ b. (n, omega arith, b)))
    (λ v i j a. at v i j a.0 a.1 a.2 (eqb a.0 n) refl)
  where
    below : (k : ℕ) → k < n → k < n + 1
    below k h = omega arith

    at : (v i j k : ℕ) → k < n + 1 → A k v i j → (b : Bool) → eqb k n ≡ b → Steps A n v i j ⊎ A n v i j
    at v i j k h a true q = inr (subst (λ (x : ℕ). A x v i j) (eqb-true k n q) a)
    at v i j k h a false q = let d = eqb-false k n q in inl (k, omega arith, a)
