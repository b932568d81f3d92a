-- Cycles through "not" in a closed matrix, place by place, and what they are in the book.
use Prim.Native.Nat.{ℕ, ◌+◌, ◌*◌, ◌/◌, ◌%◌, ◌≤◌, ◌<◌}
use native.Mathlib.Omega.{arith}
use mathlib.Core.Path.{◌≡◌, refl, sym, ap, subst, ◌∙◌}
use mathlib.Core.Bool.{Bool, true, false, true≢false}
use mathlib.Core.List.{List}
use lib.ListN.{length, get_or, set, replicate, length-set, length-replicate, get_or-eq_default}
use lib.Seq.{get_or-set_same, get_or-set_other}
use lib.Dec.{eqb, ltb}
use borrow.Author.Tests.{eqb-true, eqb-false, ltb-true, ltb-false}
use Rattle.laws.proofs.Spans.{length_span}
use Rattle.definitions.specs.Book.{goal_of}
use Rattle.papers.specs.Levels.{Walk, stays, goes, OnNotCycle}
use Rattle.book.specs.declared.Book.{Book}
use Rattle.book.specs.View.{goal_viewed, view, Sound}
use Rattle.paper_checks.specs.Profile.{Marks}
use Rattle.paper_checks.specs.Reach.{cell, Leads, Edges, Way, straight, over, Closed, Round, SomeRound, Tells}
use Rattle.paper_checks.proofs.Walks.{walk_on, round, at_not}
use Rattle.paper_checks.proofs.Members.{has_clause, names_inside}

-- One place.

place_of : (m : List ℕ) (p : ℕ) → cell m (p / 64) (p % 64) ≡ get_or m p 0
place_of m p = let e : 64 * (p / 64) + p % 64 ≡ p = omega arith in ap (λ (i : ℕ). get_or m i 0) e

module _ (m : List ℕ) (t p : ℕ) where
  pub round_tells : (r : Bool) → (r ≡ true → (2 ≤ get_or m p 0) × (0 < cell m t (p / 64)) × (0 < cell m (p % 64) t))
      → (r ≡ false → 2 ≤ get_or m p 0 → 0 < cell m t (p / 64) → 0 < cell m (p % 64) t → ⊥) → Tells (Round m t (p / 64) (p % 64)) r
  round_tells r some none = record {
    yes = λ e. let x = some e in let h = x.0 in (omega (arith, place_of m p), x.1, x.2);
    no = λ e x. let h = x.0 in none e (omega (arith, place_of m p)) x.1 x.2;
  }

-- One goal, place after place.

module _ (m : List ℕ) (n t : ℕ) where
  pub none_found : SomeRound m 0 t → ⊥
  none_found x = let h = x.2 in omega arith

  module _ (p : ℕ) (r : Bool) (told : Tells (Round m t (p / 64) (p % 64)) r) where
    pub found : p < n → r ≡ true → Tells (SomeRound m n t) true
    found lt e = record { yes = λ q. (p / 64, p % 64, omega arith, omega arith, told.yes e); no = λ q. absurd (true≢false q) }

    pub none_more : r ≡ false → (SomeRound m p t → ⊥) → SomeRound m (p + 1) t → ⊥
    none_more e before x = at (eqb (64 * x.0 + x.1) p) refl
      where
        at : (b : Bool) → eqb (64 * x.0 + x.1) p ≡ b → ⊥
        at true q =
            let e2 = eqb-true (64 * x.0 + x.1) p q in
            let h = x.3 in
            let a : x.0 ≡ p / 64 = omega arith in
            let c : x.1 ≡ p % 64 = omega arith in
            told.no e (subst (λ (i : ℕ). Round m t i (p % 64)) a (subst (λ (i : ℕ). Round m t x.0 i) c x.4))
        at false q =
            let d = eqb-false (64 * x.0 + x.1) p q in
            let h = x.2 in
            before (x.0, x.1, omega arith, x.3, x.4)

  pub none_at_all : (p : ℕ) → n ≤ p → (SomeRound m p t → ⊥) → Tells (SomeRound m n t) false
  none_at_all p past none = record {
    yes = λ q. absurd (true≢false (sym q));
    no = λ q x. let h = x.2 in none (x.0, x.1, omega arith, x.3, x.4);
  }

-- All goals.

-- those before k are told of
abbrev pub Told : (m : List ℕ) → (n : ℕ) → (r : List Bool) → (k : ℕ) → Type 0
Told m n r k = (length r ≡ 64) × ((t : ℕ) → t < k → Tells (SomeRound m n t) (get_or r t false))

pub told_none : (m : List ℕ) (n : ℕ) → Told m n (replicate 64 false) 0
told_none m n = (length-replicate {A = Bool} 64 false, λ t h. absurd (omega arith))

pub told_all : (m : List ℕ) (n : ℕ) (r : List Bool) (k : ℕ) → 64 ≤ k → Told m n r k → Told m n r 64
told_all m n r k past told = (told.0, λ t h. told.1 t (omega arith))

pub told_more : (m : List ℕ) (n : ℕ) (r : List Bool) (k : ℕ) (v : Bool) → k < 64 → Told m n r k → Tells (SomeRound m n k) v
    → Told m n (set r k v) (k + 1)
told_more m n r k v lt so_far told = (length-set r k v ∙ so_far.0, λ t h. at t h (eqb t k) refl)
  where
    at : (t : ℕ) → t < k + 1 → (b : Bool) → eqb t k ≡ b → Tells (SomeRound m n t) (get_or (set r k v) t false)
    at t h true q =
        let full = so_far.0 in
        let e = eqb-true t k q in
        subst (λ (i : ℕ). Tells (SomeRound m n i) (get_or (set r k v) i false)) (sym e)
        (subst (Tells (SomeRound m n k)) (sym (get_or-set_same r k v false (omega arith))) told)
    at t h false q =
        let other = eqb-false t k q in
        subst (Tells (SomeRound m n t)) (sym (get_or-set_other r k t v false other)) (so_far.1 t (omega arith))

-- The book.

module _ (b : Book) (s : Sound b) (old m : List ℕ) (edges : Edges (view b) old) (closed : Closed old m 64) where
  way_leads : {i j : ℕ} → Way old i j → Leads (view b) i j
  way_leads (straight {i} {j} h l) = edges.walks i j h l
  way_leads (over {j = j} x y) = walk_on (view b) j (way_leads x).1 (way_leads y)

  leads : (i j : ℕ) → j < 64 → 0 < cell m i j → Leads (view b) i j
  leads i j h l = way_leads (closed.ways i j h l)

  -- each walk from a goal of the book is in
  led : {i j n : ℕ} → Walk (view b) i j n → i < b.goals → j < 64 → 0 < cell m i j
  led (stays {g = i}) hi hj =
      omega (arith, closed.keeps i i, edges.stays i (omega (arith, length_span (goal_viewed b) 0 b.goals)))
  led {j = j} (goes {g = i} c l mc ml w) hi hj =
      let named = names_inside b s i c l mc ml in
      let few = s.few_goals in
      closed.leads_on (goal_of l) i j (omega arith) (omega arith) hj
      (omega (arith, edges.steps i c l mc ml, closed.keeps i (goal_of l))) (led w named hj)

  abbrev places : ℕ
  places = 64 * b.goals

  pub round_is : (t : ℕ) → t < 64 → SomeRound m places t → OnNotCycle (view b) t
  round_is t h x =
      let a = x.0 in
      let z = x.1 in
      let r = x.4 in
      let hz = x.3 in
      let p = x.2 in
      let few = s.few_goals in
      round (view b) t a z (leads t a (omega arith) r.1) (edges.nots a z hz (closed.nots a z hz r.0)) (leads z t h r.2)

  starts_inside : {i j n : ℕ} → Walk (view b) i j n → 0 < n → i < b.goals
  starts_inside stays z = absurd (omega arith)
  starts_inside (goes {g = i} c l mc ml w) z = has_clause b i c mc

  pub is_round_in : (t : ℕ) → OnNotCycle (view b) t → SomeRound m places t
  is_round_in t cycle =
      let few = s.few_goals in
      let ht = starts_inside cycle.1 (omega arith) in
      let x = at_not (view b) cycle.1 (omega arith) in
      let a = x.0 in
      let step = x.3 in
      let ha = has_clause b a step.0 step.2 in
      let l = step.1 in
      let named = names_inside b s a step.0 l step.2 step.3 in
      let e : goal_of l ≡ x.1 = step.5 in
      let there : 2 ≤ cell m a (goal_of l) =
      omega (arith, step.4, edges.steps a step.0 l step.2 step.3, closed.keeps a (goal_of l)) in (
        a,
        x.1,
        omega arith,
        omega arith,
        (
          subst (λ (i : ℕ). 2 ≤ cell m a i) e there,
          led x.2.1 ht (omega arith),
          led x.4.1 (omega arith) (omega arith),
        ),
      )

  pub marked : (r : List Bool) → Told m places r 64 → Marks (view b) r
  marked r told = record {
    whole = told.0;
    on_cycle = λ g q. by g (OnNotCycle (view b) g) (λ h. round_is g h ((told.1 g h).yes q)) (λ e. absurd (true≢false (sym q ∙ e)));
    off_cycle = λ g q cycle.
        let few = s.few_goals in
        let inside = starts_inside cycle.1 (omega arith) in
        (told.1 g (omega arith)).no q (is_round_in g cycle);
  }
    where
      by : (g : ℕ) (P : Type 0) → (g < 64 → P) → (get_or r g false ≡ false → P) → P
      by g P within past = at (ltb g 64) refl
        where
          at : (t : Bool) → ltb g 64 ≡ t → P
          at true q = within (ltb-true g 64 q)
          at false q = let full = told.0 in past (get_or-eq_default r false (omega (arith, ltb-false g 64 q)))
