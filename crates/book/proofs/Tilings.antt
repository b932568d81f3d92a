-- Goals whose clauses lie side by side: how many clauses there are, where the last clause is, and what one more literal does to it.
use Prim.Native.Nat.{ℕ, zero, suc, ◌+◌, ◌≤◌, ◌<◌}
use native.Mathlib.Omega.{arith}
use mathlib.Core.Path.{◌≡◌, refl, ap, subst, ◌∙◌}
use mathlib.Core.Bool.{Bool, true, false}
use mathlib.Core.List.{List, [], ◌∷◌, ◌++◌}
use lib.ListN.{length, get_or}
use lib.Dec.{eqb}
use borrow.Author.Tests.{eqb-true, eqb-false}
use Rattle.definitions.specs.Book.{Literal, Clause, Goal, Book, clause_count, add_to_last, add_literal, with_clauses, with_literals}
use Rattle.definitions.specs.Book.{last_literals, literals_so_far}
use Rattle.laws.proofs.Spans.{length_span, span_ext}
use Rattle.laws.specs.Spans.{span}
use Rattle.book.specs.View.{goal_in, Tiles}

module _ (f : ℕ → Clause) where
  last_literals_span : (s k : ℕ) → last_literals (span f s (suc k)) ≡ length (f (s + k)).literals
  last_literals_span s zero =
      let e : s ≡ s + 0 = omega arith in
      ap (λ (i : ℕ). length (f i).literals) e
  last_literals_span s (suc k) =
      let e : suc s + k ≡ s + suc k = omega arith in
      last_literals_span (suc s) k ∙ ap (λ (i : ℕ). length (f i).literals) e

  last_literals_to : (s k e : ℕ) → s + k ≡ suc e → 0 < k → last_literals (span f s k) ≡ length (f e).literals
  last_literals_to s zero e q h = absurd (omega arith)
  last_literals_to s (suc k) e q h =
      let p : s + k ≡ e = omega arith in
      last_literals_span s k ∙ ap (λ (i : ℕ). length (f i).literals) p

module _ (first len : List ℕ) where
  -- no goal's clauses begin before the first's
  tiles_from : (n g at stop i : ℕ) → Tiles first len g n at stop → i < n → at ≤ get_or first (g + i) 0
  tiles_from zero g at stop i t h = absurd (omega arith)
  tiles_from (suc n) g at stop zero t h =
      let e : g + 0 ≡ g = omega arith in
      let f = ap (λ (x : ℕ). get_or first x 0) e ∙ t.0 in
      omega arith
  tiles_from (suc n) g at stop (suc i) t h =
      let e : g + suc i ≡ suc g + i = omega arith in
      let f = ap (λ (x : ℕ). get_or first x 0) e in
      let r = tiles_from n (suc g) (at + get_or len g 0) stop i t.1 (omega arith) in
      omega arith

  -- goals are in their order
  pub tiles_order : (n g at stop h i : ℕ) → Tiles first len g n at stop → h < i → i < n
      → get_or first (g + h) 0 + get_or len (g + h) 0 ≤ get_or first (g + i) 0
  tiles_order zero g at stop h i t l m = absurd (omega arith)
  tiles_order (suc n) g at stop h zero t l m = absurd (omega arith)
  tiles_order (suc n) g at stop zero (suc i) t l m =
      let e : g + 0 ≡ g = omega arith in
      let f = ap (λ (x : ℕ). get_or first x 0 + get_or len x 0) e in
      let p = t.0 in
      let z : g + suc i ≡ suc g + i = omega arith in
      let y = ap (λ (x : ℕ). get_or first x 0) z in
      let r = tiles_from n (suc g) (at + get_or len g 0) stop i t.1 (omega arith) in
      omega arith
  tiles_order (suc n) g at stop (suc h) (suc i) t l m =
      let e : g + suc h ≡ suc g + h = omega arith in
      let f = ap (λ (x : ℕ). get_or first x 0 + get_or len x 0) e in
      let z : g + suc i ≡ suc g + i = omega arith in
      let y = ap (λ (x : ℕ). get_or first x 0) z in
      let r = tiles_order n (suc g) (at + get_or len g 0) stop h i t.1 (omega arith) (omega arith) in
      omega arith

module _ (f : ℕ → Clause) (flags first len : List ℕ) where
  pub tiles_count : (n g at end : ℕ) → Tiles first len g n at end → at + clause_count (span (goal_in f flags first len) g n) ≡ end
  tiles_count zero g at end t = omega arith
  tiles_count (suc n) g at end t =
      let a : length (span f (get_or first g 0) (get_or len g 0)) ≡ get_or len g 0 = length_span f (get_or first g 0) (get_or len g 0) in
      let r : (at + get_or len g 0) + clause_count (span (goal_in f flags first len) (suc g) n) ≡ end =
      tiles_count n (suc g) (at + get_or len g 0) end t.1 in
      omega arith

  -- each goal's clauses stand before the end
  pub tiles_within : (n g at end i : ℕ) → Tiles first len g n at end → i < n → get_or first (g + i) 0 + get_or len (g + i) 0 ≤ end
  tiles_within zero g at end i t h = absurd (omega arith)
  tiles_within (suc n) g at end zero t h =
      let r : (at + get_or len g 0) + clause_count (span (goal_in f flags first len) (suc g) n) ≡ end =
      tiles_count n (suc g) (at + get_or len g 0) end t.1 in
      let e : g ≡ g + 0 = omega arith in
      let p : get_or first g 0 ≡ at = t.0 in
      let q : get_or first g 0 + get_or len g 0 ≤ end = omega arith in
      subst (λ (k : ℕ). get_or first k 0 + get_or len k 0 ≤ end) e q
  tiles_within (suc n) g at end (suc i) t h =
      let e : suc g + i ≡ g + suc i = omega arith in
      subst (λ (k : ℕ). get_or first k 0 + get_or len k 0 ≤ end) e
      (tiles_within n (suc g) (at + get_or len g 0) end i t.1 (omega arith))

  -- the last goal's clauses end where all end
  pub tiles_last : (n g at end : ℕ) → Tiles first len g (suc n) at end → get_or first (g + n) 0 + get_or len (g + n) 0 ≡ end
  tiles_last zero g at end t =
      let e : g ≡ g + 0 = omega arith in
      let p : get_or first g 0 ≡ at = t.0 in
      let u : at + get_or len g 0 ≡ end = t.1 in
      let q : get_or first g 0 + get_or len g 0 ≡ end = omega arith in
      subst (λ (k : ℕ). get_or first k 0 + get_or len k 0 ≡ end) e q
  tiles_last (suc n) g at end t =
      let e : suc g + n ≡ g + suc n = omega arith in
      subst (λ (k : ℕ). get_or first k 0 + get_or len k 0 ≡ end) e
      (tiles_last n (suc g) (at + get_or len g 0) end t.1)

  -- how many literals the last clause has
  literals_by : (n g at e : ℕ) (t : Bool) → Tiles first len g (suc n) at (suc e) → at ≤ e
      → eqb (clause_count (span (goal_in f flags first len) (suc g) n)) 0 ≡ t
      → (at + get_or len g 0 ≤ e → literals_so_far (span (goal_in f flags first len) (suc g) n) ≡ length (f e).literals)
      → elim t [
        | true ↦ last_literals (span f (get_or first g 0) (get_or len g 0))
        | false ↦ literals_so_far (span (goal_in f flags first len) (suc g) n)
      ]
      ≡ length (f e).literals
  literals_by n g at e true t h q ih =
      let r : (at + get_or len g 0) + clause_count (span (goal_in f flags first len) (suc g) n) ≡ suc e =
      tiles_count n (suc g) (at + get_or len g 0) (suc e) t.1 in
      let z : clause_count (span (goal_in f flags first len) (suc g) n) ≡ 0 = eqb-true _ 0 q in
      let p : get_or first g 0 ≡ at = t.0 in
      last_literals_to f (get_or first g 0) (get_or len g 0) e (omega arith) (omega arith)
  literals_by n g at e false t h q ih =
      let r : (at + get_or len g 0) + clause_count (span (goal_in f flags first len) (suc g) n) ≡ suc e =
      tiles_count n (suc g) (at + get_or len g 0) (suc e) t.1 in
      ih (omega (arith, eqb-false (clause_count (span (goal_in f flags first len) (suc g) n)) 0 q))

  pub tiles_literals : (n g at e : ℕ) → Tiles first len g n at (suc e) → at ≤ e
      → literals_so_far (span (goal_in f flags first len) g n) ≡ length (f e).literals
  tiles_literals zero g at e t h = absurd (omega arith)
  tiles_literals (suc n) g at e t h =
      literals_by n g at e (eqb (clause_count (span (goal_in f flags first len) (suc g) n)) 0) t h refl
      (λ k. tiles_literals n (suc g) (at + get_or len g 0) e t.1 k)

-- f and h are the same clauses but for the last, which has one literal more
module _ (f h : ℕ → Clause) (l : Literal) (e : ℕ) (more : with_literals (f e) ((f e).literals ++ (l ∷ [])) ≡ h e)
    (same : (i : ℕ) → i < e → f i ≡ h i) where
  last_more : (s k : ℕ) → s + k ≡ e → add_to_last l (span f s (suc k)) ≡ span h s (suc k)
  last_more s zero q =
      let p : e ≡ s = omega arith in
      subst (λ (i : ℕ). with_literals (f i) ((f i).literals ++ (l ∷ [])) ∷ [] ≡ h i ∷ []) p (ap (λ (c : Clause). c ∷ []) more)
  last_more s (suc k) q =
      ap (λ (c : Clause). c ∷ add_to_last l (span f (suc s) (suc k))) (same s (omega arith))
      ∙ ap (λ (cs : List Clause). h s ∷ cs) (last_more (suc s) k (omega arith))

  last_to : (s k : ℕ) → s + k ≡ suc e → 0 < k → add_to_last l (span f s k) ≡ span h s k
  last_to s zero q p = absurd (omega arith)
  last_to s (suc k) q p = last_more s k (omega arith)

  module _ (flags first len : List ℕ) where
    goal_same : (g : ℕ) → get_or first g 0 + get_or len g 0 ≤ e → goal_in f flags first len g ≡ goal_in h flags first len g
    goal_same g p =
        ap (λ (cs : List Clause). with_clauses (goal_in f flags first len g) cs)
        (span_ext f h (get_or first g 0) (get_or len g 0) (λ i x y. same i (omega arith)))

    no_clauses : (n g : ℕ) → clause_count (span (goal_in f flags first len) g n) ≡ 0
        → span (goal_in f flags first len) g n ≡ span (goal_in h flags first len) g n
    no_clauses zero g q = refl
    no_clauses (suc n) g q =
        let a : length (span f (get_or first g 0) (get_or len g 0)) ≡ get_or len g 0 = length_span f (get_or first g 0) (get_or len g 0) in
        ap (λ (cs : List Clause). with_clauses (goal_in f flags first len g) cs ∷ span (goal_in f flags first len) (suc g) n)
        (span_ext f h (get_or first g 0) (get_or len g 0) (λ i x y. absurd (omega arith)))
        ∙ ap (λ (gs : Book). goal_in h flags first len g ∷ gs) (no_clauses n (suc g) (omega arith))

    add_by : (n g at : ℕ) (t : Bool) → Tiles first len g (suc n) at (suc e) → at ≤ e
        → eqb (clause_count (span (goal_in f flags first len) (suc g) n)) 0 ≡ t
        → (at + get_or len g 0 ≤ e → add_literal l (span (goal_in f flags first len) (suc g) n) ≡ span (goal_in h flags first len) (suc g) n)
        → elim t [
          | true ↦ with_clauses (goal_in f flags first len g) (add_to_last l (span f (get_or first g 0) (get_or len g 0))) ∷ span
              (goal_in f flags first len) (suc g) n
          | false ↦ goal_in f flags first len g ∷ add_literal l (span (goal_in f flags first len) (suc g) n)
        ] ≡ span (goal_in h flags first len) g (suc n)
    add_by n g at true t p q ih =
        let r : (at + get_or len g 0) + clause_count (span (goal_in f flags first len) (suc g) n) ≡ suc e =
        tiles_count f flags first len n (suc g) (at + get_or len g 0) (suc e) t.1 in
        let z : clause_count (span (goal_in f flags first len) (suc g) n) ≡ 0 = eqb-true _ 0 q in
        let s : get_or first g 0 ≡ at = t.0 in
        ap (λ (cs : List Clause). with_clauses (goal_in f flags first len g) cs ∷ span (goal_in f flags first len) (suc g) n)
        (last_to (get_or first g 0) (get_or len g 0) (omega arith) (omega arith))
        ∙ ap (λ (gs : Book). goal_in h flags first len g ∷ gs) (no_clauses n (suc g) z)
    add_by n g at false t p q ih =
        let r : (at + get_or len g 0) + clause_count (span (goal_in f flags first len) (suc g) n) ≡ suc e =
        tiles_count f flags first len n (suc g) (at + get_or len g 0) (suc e) t.1 in
        let s : get_or first g 0 ≡ at = t.0 in
        let b : at + get_or len g 0 ≤ e = omega (arith, eqb-false (clause_count (span (goal_in f flags first len) (suc g) n)) 0 q) in
        ap (λ (x : Goal). x ∷ add_literal l (span (goal_in f flags first len) (suc g) n)) (goal_same g (omega arith))
        ∙ ap (λ (gs : Book). goal_in h flags first len g ∷ gs) (ih b)

    pub tiles_add : (n g at : ℕ) → Tiles first len g n at (suc e) → at ≤ e
        → add_literal l (span (goal_in f flags first len) g n) ≡ span (goal_in h flags first len) g n
    tiles_add zero g at t p = absurd (omega arith)
    tiles_add (suc n) g at t p =
        add_by n g at (eqb (clause_count (span (goal_in f flags first len) (suc g) n)) 0) t p refl
        (λ k. tiles_add n (suc g) (at + get_or len g 0) t.1 k)
