-- Walks from goal to goal, put together and taken apart at a "not".
use Prim.Native.Nat.{ℕ, suc, ◌+◌, ◌<◌}
use native.Mathlib.Omega.{arith}
use mathlib.Core.Path.{◌≡◌, refl, sym, subst}
use mathlib.Core.Bool.{Bool, true, false}
use lib.Dec.{eqb}
use borrow.Author.Tests.{eqb-true, eqb-false}
use Rattle.definitions.specs.Book.{Book, goal_of}
use Rattle.papers.specs.Levels.{Walk, stays, goes, is_not, OnNotCycle}
use Rattle.papers.proofs.Passes.{is_not_small}
use Rattle.paper_checks.specs.Reach.{Leads, NotStep}

module _ (book : Book) where
  pub walk_on : {g h n : ℕ} (k : ℕ) → Walk book g h n → Leads book h k → Leads book g k
  walk_on k stays r = r
  walk_on k (goes c l mc ml w) r = let x = walk_on k w r in (is_not l + x.0, goes c l mc ml x.1)

  -- a "not" further on is one of the whole walk
  not_on : {g h n : ℕ} (k m : ℕ) → Walk book g h n → Walk book h k (suc m) → (i : ℕ) × Walk book g k (suc i)
  not_on k m stays r = (m, r)
  not_on {g} k m (goes c l mc ml w) r =
      let x = not_on k m w r in
      let e : is_not l + suc x.0 ≡ suc (is_not l + x.0) = omega arith in
      (is_not l + x.0, subst (Walk book g k) e (goes c l mc ml x.1))

  pub round : (t a z : ℕ) → Leads book t a → NotStep book a z → Leads book z t → OnNotCycle book t
  round t a z there step back =
      let l = step.1 in
      let w : Walk book (goal_of l) t back.0 = subst (λ (x : ℕ). Walk book x t back.0) (sym step.5) back.1 in
      let e : is_not l + back.0 ≡ suc back.0 = omega (arith, step.4) in
      not_on t back.0 there.1 (subst (Walk book a t) e (goes step.0 l step.2 step.3 w))

  -- the first "not" of a walk
  pub at_not : {g h n : ℕ} → Walk book g h n → 0 < n
      → (a : ℕ) × (z : ℕ) × Leads book g a × NotStep book a z × Leads book z h
  at_not stays some = absurd (omega arith)
  at_not {g} {h} (goes {n = n} c l mc ml w) some = at (eqb (is_not l) 1) refl (λ z. at_not w z)
    where
      at : (t : Bool) → eqb (is_not l) 1 ≡ t
          → (0 < n → (a : ℕ) × (z : ℕ) × Leads book (goal_of l) a × NotStep book a z × Leads book z h)
          → (a : ℕ) × (z : ℕ) × Leads book g a × NotStep book a z × Leads book z h
      at true q later = (g, goal_of l, (0, stays), (c, l, mc, ml, eqb-true (is_not l) 1 q, refl), (n, w))
      at false q later =
          let other = eqb-false (is_not l) 1 q in
          let x = later (omega (arith, is_not_small l)) in
          (x.0, x.1, (is_not l + x.2.0, goes c l mc ml x.2.1), x.3, x.4)
