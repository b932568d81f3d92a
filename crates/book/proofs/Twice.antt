-- What the proofs of `repeats` cite, over variables: the clauses of a goal, each held against those before it, and the goals one after the
-- other.
use Prim.Native.Nat.{ℕ, suc, ◌+◌, ◌-◌, ◌≤◌, ◌<◌}
use native.Mathlib.Omega.{arith}
use mathlib.Core.Path.{◌≡◌, refl, sym, ap, subst, ◌∙◌}
use mathlib.Core.Bool.{Bool, true, false}
use mathlib.Core.Option.{Option, none, some}
use mathlib.Core.List.{List, [], ◌∷◌}
use lib.ListN.{length}
use lib.Dec.{ltb}
use borrow.Author.Tests.{ltb-true, ltb-false}
use Rattle.laws.specs.Spans.{span}
use Rattle.laws.proofs.Spans.{length_span, span_snoc, span_left, span_done}
use Rattle.definitions.specs.Book.{Clause, Goal}
use Rattle.definitions.specs.Desk as desks
use Rattle.definitions.specs.Desk.{same_clause, repeat_behind, repeat_from}
use Rattle.definitions.specs.Lists.{push, position}
use Rattle.definitions.proofs.Lists.{position_missed, position_found}
use Rattle.book.specs.Repeats.{Earlier}

-- none of the clauses from `first` to d is the same as the one at c
pub record Looking (clause : ℕ → Clause) (first c d : ℕ) : Type 0 where
  pub not_before : first ≤ d
  pub not_behind : d ≤ c
  pub none_before : (i : ℕ) → first ≤ i → i < d → same_clause (clause c) (clause i) ≡ false

module _ (clause : ℕ → Clause) (first c : ℕ) where
  pub begins : first ≤ c → Looking clause first c first
  begins h = record { not_before = omega arith; not_behind = h; none_before = λ i a b. absurd (omega arith) }

  module _ (d : ℕ) (x : Looking clause first c d) where
    goes_on : d < c → same_clause (clause c) (clause d) ≡ false → Looking clause first c (d + 1)
    goes_on lt e =
        let low = x.not_before in
        record { not_before = omega arith; not_behind = omega arith; none_before = λ i a b. at i a b (ltb i d) refl }
      where
        at : (i : ℕ) → first ≤ i → i < d + 1 → (b : Bool) → ltb i d ≡ b → same_clause (clause c) (clause i) ≡ false
        at i a b true q = x.none_before i a (ltb-true i d q)
        at i a b false q =
            let y = ltb-false i d q in
            let z : d ≡ i = omega arith in
            subst (λ (j : ℕ). same_clause (clause c) (clause j) ≡ false) z e

    pub differs : (s : Bool) → d < c → s ≡ same_clause (clause c) (clause d) → s ≡ false → Looking clause first c (d + 1)
    differs s lt e f = goes_on lt (sym e ∙ f)

    pub here : (s : Bool) → s ≡ same_clause (clause c) (clause d) → s ≡ true → Earlier clause first c d
    here s e f =
        record { not_before = x.not_before; not_behind = x.not_behind; none_before = x.none_before; found = λ _. sym e ∙ f }

    pub nowhere : c ≤ d → Earlier clause first c c
    nowhere past =
        let low = x.not_before in
        let most = x.not_behind in
        record {
          not_before = omega arith;
          not_behind = omega arith;
          none_before = λ i a b. x.none_before i a (omega arith);
          found = λ h. absurd (omega arith);
        }

-- One goal: those behind place k decide, as long as none before it is the same as an earlier one.

abbrev pub Behind : (clause : ℕ → Clause) → (g first n k : ℕ) → Type 0
Behind clause g first n k =
    repeat_behind g (span clause first k) (span clause (first + k) (n - k)) ≡ repeat_behind g [] (span clause first n)

module _ (clause : ℕ → Clause) (g first k n : ℕ) (X : Option desks.Repeat)
    (left : repeat_behind g (span clause first k) (span clause (first + k) (n - k)) ≡ X) (lt : k < n) where
  clauses_left : span clause (first + k) (n - k) ≡ clause (first + k) ∷ span clause (first + (k + 1)) (n - (k + 1))
  clauses_left =
      let i : first + k + 1 ≡ first + (k + 1) = omega arith in
      span_left clause (first + k) n k lt ∙ ap (λ (m : ℕ). clause (first + k) ∷ span clause m (n - (k + 1))) i

  module _ (r : ℕ) (x : Earlier clause first (first + k) r) where
    pub behind_again : first + k ≤ r → repeat_behind g (span clause first (k + 1)) (span clause (first + (k + 1)) (n - (k + 1))) ≡ X
    behind_again past =
        let missed : position (same_clause (clause (first + k))) (span clause first k) ≡ none =
        position_missed (same_clause (clause (first + k))) clause first k
        (λ i a b. x.none_before i a (omega arith)) in
        let i : suc k ≡ k + 1 = omega arith in
        let pushed : push (span clause first k) (clause (first + k)) ≡ span clause first (k + 1) =
        sym (span_snoc clause first k) ∙ ap (λ (m : ℕ). span clause first m) i in
        ap (λ (before : List Clause). repeat_behind g before (span clause (first + (k + 1)) (n - (k + 1)))) (sym pushed)
        ∙ (rw (clauses_left, repeat_behind, missed) at left)

    pub behind_found : r < first + k → some (record { goal = g; clause = k; earlier = r - first }) ≡ X
    behind_found here =
        let low = x.not_before in
        let z : first + (r - first) ≡ r = omega arith in
        let found : position (same_clause (clause (first + k))) (span clause first k) ≡ some (r - first) =
        position_found (same_clause (clause (first + k))) clause first k (r - first) (omega arith)
        (λ i a b. x.none_before i a (omega arith))
        (subst (λ (i : ℕ). same_clause (clause (first + k)) (clause i) ≡ true) (sym z) (x.found here)) in
        let counted : length (span clause first k) ≡ k = length_span clause first k in
        rw (clauses_left, repeat_behind, found, counted) at left

-- All goals.

module _ (goal : ℕ → Goal) (g n : ℕ) (X : Option desks.Repeat) (left : repeat_from g (span goal g (n - g)) ≡ X) where
  pub from_again : g < n → repeat_behind g [] (goal g).clauses ≡ none → repeat_from (g + 1) (span goal (g + 1) (n - (g + 1))) ≡ X
  from_again lt e =
      let i : suc g ≡ g + 1 = omega arith in
      ap (λ (m : ℕ). repeat_from m (span goal (g + 1) (n - (g + 1)))) (sym i) ∙ (rw (span_left goal g n g lt, repeat_from, e) at left)

  pub from_found : (r : desks.Repeat) → g < n → repeat_behind g [] (goal g).clauses ≡ some r → some r ≡ X
  from_found r lt e = rw (span_left goal g n g lt, repeat_from, e) at left

  pub from_over : n ≤ g → none ≡ X
  from_over ge = rw (span_done goal g n g ge) at left
