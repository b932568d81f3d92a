-- Warshall's method, step by step: a row joined to another, all rows joined to row k, and what is closed then.
use Prim.Native.Nat.{ℕ, ◌+◌, ◌≤◌, ◌<◌}
use native.Mathlib.Omega.{arith}
use mathlib.Core.Path.{◌≡◌, refl, sym, subst, ◌∙◌}
use mathlib.Core.Bool.{Bool, true, false}
use mathlib.Core.Logic.{◌⊎◌, inl, inr, ⊎_elim}
use mathlib.Core.List.{List}
use lib.Dec.{eqb}
use borrow.Author.Tests.{eqb-true, eqb-false}
use Rattle.paper_checks.specs.Reach.{cell, Raised, Here, straight, over, Row, Rows, Closed}
use Rattle.paper_checks.proofs.Raising.{Steps, raised_as, raised_more}

-- A row.

-- row i with what row k has in column j
abbrev pub Joint : List ℕ → (k i j : ℕ) → (v x y : ℕ) → Type 0
Joint m k i j v x y = (x ≡ i) × (y ≡ j) × (v ≤ 1) × (0 < cell m k j)

pub not_joined : (m : List ℕ) (k i : ℕ) → cell m i k ≡ 0 → Raised (Row m k i) m m
not_joined m k i e = record {
  whole = refl;
  keeps = λ x y. omega arith;
  met = λ v x y a. let h = a.2 in absurd (omega arith);
  only = λ v x y z l h. inl h;
}

module _ (old mid new : List ℕ) (k i j w : ℕ) (so_far : Raised (Steps (Joint old k i) j) old mid) (hj : j < 64) (few : w ≤ 1)
    (some : 0 < cell mid k j → 0 < w) (none : 0 < w → 0 < cell mid k j) (r : Raised (Here i j w) mid new) where
  -- column j of row k was not written yet
  unwritten : 0 < cell mid k j → 0 < cell old k j
  unwritten h = ⊎_elim (λ a. omega arith) (λ a. let l = a.1 in let e = a.2.1 in absurd (omega arith))
      (so_far.only 1 k j (omega arith) hj (omega arith))

  pub joined_more : Raised (Steps (Joint old k i) (j + 1)) old new
  joined_more =
      raised_more (Joint old k i) j so_far
      (raised_as r (λ v x y z a. (a.0, a.1, omega (arith, a.2), unwritten (none (omega (arith, a.2)))))
      (λ v x y a. (a.0, a.1, omega (arith, a.2, some (omega (arith, a.3, so_far.keeps k j))))))

pub joined_row : (old new : List ℕ) (k i n : ℕ) → 64 ≤ n → 0 < cell old i k → Raised (Steps (Joint old k i) n) old new
    → n ≤ 64 → Raised (Row old k i) old new
joined_row old new k i n past leads r few =
    raised_as r
    (λ v x y z a. let s = a.2 in
    let l = a.1 in (s.0, s.2, leads, subst (λ (t : ℕ). 0 < cell old k t) (sym s.1) s.3, omega (arith, s.1)))
    (λ v x y a. (y, omega (arith, a.4), (a.0, refl, a.1, a.3)))

-- All rows.

module _ (old mid new : List ℕ) (k i : ℕ) (hk : k < 64) (so_far : Raised (Rows old k i) old mid) (r : Raised (Row mid k i) mid new) where
  -- column k and row k are as they were
  column : (x : ℕ) → 0 < cell mid x k → 0 < cell old x k
  column x h =
      ⊎_elim (λ a. omega arith) (λ a. subst (λ (t : ℕ). 0 < cell old t k) (sym a.2.0) a.2.2)
      (so_far.only 1 x k (omega arith) hk (omega arith))

  row : (y : ℕ) → y < 64 → 0 < cell mid k y → 0 < cell old k y
  row y l h =
      ⊎_elim (λ a. omega arith) (λ a. a.2.3) (so_far.only 1 k y (omega arith) l (omega arith))

  pub rows_more : Raised (Rows old k (i + 1)) old new
  rows_more =
      raised_more (Row old k) i so_far
      (raised_as r (λ v x y z a. (a.0, a.1, column i a.2, row y a.4 a.3, a.4))
      (λ v x y a. (a.0, a.1, omega (arith, a.2, so_far.keeps i k), omega (arith, a.3, so_far.keeps k y), a.4)))

pub rows_all : (old new : List ℕ) (k n : ℕ) → 64 ≤ n → n ≤ 64 → Raised (Rows old k n) old new → Raised (Rows old k 64) old new
rows_all old new k n past few r = let e : n ≡ 64 = omega arith in subst (λ (t : ℕ). Raised (Rows old k t) old new) e r

-- The closure.

pub closed_none : (m : List ℕ) → Closed m m 0
closed_none m = record {
  whole = refl;
  keeps = λ i j. omega arith;
  nots = λ i j h l. l;
  ways = λ i j h l. straight h l;
  leads_on = λ k i j h. absurd (omega arith);
}

module _ (old mid new : List ℕ) (k : ℕ) (hk : k < 64) (so_far : Closed old mid k) (r : Raised (Rows mid k 64) mid new) where
  -- what there was, or a way over k
  led : (i j : ℕ) → j < 64 → 0 < cell new i j → (0 < cell mid i j) ⊎ ((0 < cell mid i k) × (0 < cell mid k j))
  led i j h l =
      ⊎_elim (λ a. inl (omega arith)) (λ a. inr (subst (λ (t : ℕ). 0 < cell mid t k) (sym a.2.0) a.2.2, a.2.3))
      (r.only 1 i j (omega arith) h (omega arith))

  to_k : (i : ℕ) → 0 < cell new i k → 0 < cell mid i k
  to_k i l = ⊎_elim (λ a. a) (λ a. a.0) (led i k hk l)

  from_k : (j : ℕ) → j < 64 → 0 < cell new k j → 0 < cell mid k j
  from_k j h l = ⊎_elim (λ a. a) (λ a. a.1) (led k j h l)

  kept : (i j : ℕ) → 0 < cell mid i j → 0 < cell new i j
  kept i j l = omega (arith, r.keeps i j)

  over_k : (i j : ℕ) → i < 64 → j < 64 → 0 < cell mid i k → 0 < cell mid k j → 0 < cell new i j
  over_k i j hi hj a b = r.met 1 i j (i, hi, (refl, omega arith, a, b, hj))

  -- over p, a goal before k
  before : (p i j : ℕ) → p < k → i < 64 → j < 64 → 0 < cell new i p → 0 < cell new p j → 0 < cell new i j
  before p i j hp hi hj a b =
      ⊎_elim
      (λ x. ⊎_elim (λ y. kept i j (so_far.leads_on p i j hp hi hj x y))
      (λ y. over_k i j hi hj (so_far.leads_on p i k hp hi hk x y.0) y.1) (led p j hj b))
      (λ x. ⊎_elim (λ y. over_k i j hi hj x.0 (so_far.leads_on p k j hp hk hj x.1 y)) (λ y. over_k i j hi hj x.0 y.1)
      (led p j hj b)) (led i p (omega arith) a)

  pub closed_more : Closed old new (k + 1)
  closed_more = record {
    whole = r.whole ∙ so_far.whole;
    keeps = λ i j. omega (arith, so_far.keeps i j, r.keeps i j);
    nots = λ i j h l.
        ⊎_elim (λ a. so_far.nots i j h a) (λ a. let few = a.2.1 in absurd (omega arith)) (r.only 2 i j (omega arith) h l);
    ways = λ i j h l.
        ⊎_elim (λ a. so_far.ways i j h a) (λ a. over (so_far.ways i k hk a.0) (so_far.ways k j h a.1)) (led i j h l);
    leads_on = λ p i j hp hi hj a b. at p i j hp hi hj a b (eqb p k) refl;
  }
    where
      at : (p i j : ℕ) → p < k + 1 → i < 64 → j < 64 → 0 < cell new i p → 0 < cell new p j → (t : Bool) → eqb p k ≡ t
          → 0 < cell new i j
      at p i j hp hi hj a b true q =
          let e = eqb-true p k q in
          over_k i j hi hj (to_k i (subst (λ (t : ℕ). 0 < cell new i t) e a))
          (from_k j hj (subst (λ (t : ℕ). 0 < cell new t j) e b))
      at p i j hp hi hj a b false q = let d = eqb-false p k q in before p i j (omega arith) hi hj a b

pub closed_all : (old new : List ℕ) (n : ℕ) → 64 ≤ n → n ≤ 64 → Closed old new n → Closed old new 64
closed_all old new n past few c = let e : n ≡ 64 = omega arith in subst (λ (t : ℕ). Closed old new t) e c
