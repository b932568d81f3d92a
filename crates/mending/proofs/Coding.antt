-- What the proofs of `reasons` cite of one clause: whether its goals are there, and whether an earlier one is the same. Assumes nothing.
use Prim.Native.Nat.{ℕ, suc, ◌+◌, ◌*◌, ◌-◌, ◌<◌, ◌≤◌}
use native.Mathlib.Omega.{arith}
use mathlib.Core.Path.{◌≡◌, sym, ap, ap₂, ◌∙◌}
use mathlib.Core.Bool.{Bool, true, false}
use mathlib.Core.List.{List}
use lib.ListN.{get_or, set}
use lib.Dec.{ltb}
use borrow.Author.Tests.{lt-ltb, le-ltb}
use Rattle.laws.specs.Spans.{span}
use Rattle.laws.proofs.Spans.{span_left, span_done}
use Rattle.book.specs.Access.{entry}
use Rattle.book.specs.Repeats.{Lent}
use Rattle.book.proofs.Looks.{entry_in}
use Rattle.std.specs.declared.option.Option as found
use Rattle.mending.specs.declared.reasons.Reason.{Reason}
use Rattle.mending.specs.Reasons.{all_below, goals_named, one_passes, repeats_at, repeats, reason_by, reasons_from}

-- The goals of a clause.

module _ (lens goals : List ℕ) (n c : ℕ) where
  -- those from place j on decide, as long as none before it is missing
  abbrev pub names_left : (count j : ℕ) → Bool
  names_left count j = all_below n (span (λ i. get_or goals i 0) (8 * c + j) (count - j))

  module _ (count : ℕ) (inside : c < 256) (counted : count ≡ entry 256 lens c) where
    pub names_count : get_or lens c 0 ≤ 8 → count ≤ 8
    names_count few = omega (arith, counted ∙ entry_in 256 lens c inside)

    pub names_begin : names_left count 0 ≡ all_below n (goals_named lens goals c)
    names_begin =
        let start : 8 * c + 0 ≡ 8 * c = omega arith in
        let whole : count - 0 ≡ get_or lens c 0 = omega (arith, counted ∙ entry_in 256 lens c inside) in
        ap₂ (λ (s m : ℕ). all_below n (span (λ i. get_or goals i 0) s m)) start whole

  module _ (count j : ℕ) (left : names_left count j ≡ all_below n (goals_named lens goals c)) where
    names_next : j < count → names_left count j
        ≡ elim (ltb (get_or goals (8 * c + j) 0) n) [ true ↦ names_left count (j + 1) | false ↦ false ]
    names_next h =
        let next : 8 * c + j + 1 ≡ 8 * c + (j + 1) = omega arith in
        ap (all_below n) (span_left (λ i. get_or goals i 0) (8 * c + j) count j h)
        ∙ ap (λ (s : ℕ). elim (ltb (get_or goals (8 * c + j) 0) n) [
          | true ↦ all_below n (span (λ i. get_or goals i 0) s (count - (j + 1)))
          | false ↦ false
        ]) next

    pub names_again : (g : ℕ) → j < count → g ≡ get_or goals (8 * c + j) 0 → g < n
        → names_left count (j + 1) ≡ all_below n (goals_named lens goals c)
    names_again g h e l =
        let below : ltb (get_or goals (8 * c + j) 0) n ≡ true = lt-ltb (get_or goals (8 * c + j) 0) n (omega arith) in
        sym (ap (λ (t : Bool). elim t [ true ↦ names_left count (j + 1) | false ↦ false ]) below) ∙ sym (names_next h) ∙ left

    pub names_miss : (g : ℕ) → j < count → g ≡ get_or goals (8 * c + j) 0 → n ≤ g → false ≡ all_below n (goals_named lens goals c)
    names_miss g h e l =
        let past : ltb (get_or goals (8 * c + j) 0) n ≡ false = le-ltb (get_or goals (8 * c + j) 0) n (omega arith) in
        sym (ap (λ (t : Bool). elim t [ true ↦ names_left count (j + 1) | false ↦ false ]) past) ∙ sym (names_next h) ∙ left

    pub names_all : count ≤ j → true ≡ all_below n (goals_named lens goals c)
    names_all h = sym (ap (all_below n) (span_done (λ i. get_or goals i 0) (8 * c + j) count j h)) ∙ left

-- An earlier clause.

module _ (a : Lent) (reasons : List (found.Option Reason)) (first c : ℕ) where
  -- those from d on decide, as long as none before it is the same
  abbrev pub repeats_left : ℕ → Bool
  repeats_left d = one_passes (repeats_at a reasons c) d (c - d)

  module _ (d : ℕ) (left : repeats_left d ≡ repeats a reasons first c) where
    repeats_next : d < c → repeats_left d ≡ elim (repeats_at a reasons c d) [ true ↦ true | false ↦ repeats_left (d + 1) ]
    repeats_next h =
        let more : c - d ≡ suc (c - (d + 1)) = omega arith in
        let next : suc d ≡ d + 1 = omega arith in
        ap (one_passes (repeats_at a reasons c) d) more
        ∙ ap (λ (e : ℕ). elim (repeats_at a reasons c d) [
          | true ↦ true
          | false ↦ one_passes (repeats_at a reasons c) e (c - (d + 1))
        ]) next

    pub repeats_here : (r : Bool) → d < c → r ≡ repeats_at a reasons c d → r ≡ true → true ≡ repeats a reasons first c
    repeats_here r h e t =
        sym (ap (λ (x : Bool). elim x [ true ↦ true | false ↦ repeats_left (d + 1) ]) (sym e ∙ t)) ∙ sym (repeats_next h) ∙ left

    pub repeats_again : (r : Bool) → d < c → r ≡ repeats_at a reasons c d → r ≡ false → repeats_left (d + 1) ≡ repeats a reasons first c
    repeats_again r h e t =
        sym (ap (λ (x : Bool). elim x [ true ↦ true | false ↦ repeats_left (d + 1) ]) (sym e ∙ t)) ∙ sym (repeats_next h) ∙ left

    pub repeats_none : c ≤ d → false ≡ repeats a reasons first c
    repeats_none h =
        let done : c - d ≡ 0 = omega arith in
        sym (ap (one_passes (repeats_at a reasons c) d) done) ∙ left

-- The reasons of a goal's clauses.

module _ (a : Lent) (n first count : ℕ) where
  -- those from place k on are to be found yet
  abbrev pub reasons_left : (k : ℕ) → (reasons : List (found.Option Reason)) → List (found.Option Reason)
  reasons_left k reasons = reasons_from a n first (first + k) (count - k) reasons

  pub reasons_begin : (reasons : List (found.Option Reason)) → reasons_left 0 reasons ≡ reasons_from a n first first count reasons
  reasons_begin reasons =
      let start : first + 0 ≡ first = omega arith in
      let whole : count - 0 ≡ count = omega arith in
      ap₂ (λ (s m : ℕ). reasons_from a n first s m reasons) start whole

  module _ (k : ℕ) (reasons whole : List (found.Option Reason)) (left : reasons_left k reasons ≡ whole) where
    pub reasons_again : (c : ℕ) (r : found.Option Reason) → k < count → c ≡ first + k → r ≡ reason_by a reasons n first c
        → reasons_left (k + 1) (set reasons c r) ≡ whole
    reasons_again c r h e f =
        let more : count - k ≡ suc (count - (k + 1)) = omega arith in
        let next : first + (k + 1) ≡ suc (first + k) = omega arith in
        let rest = count - (k + 1) in
        ap₂ (λ (s : ℕ) (l : List (found.Option Reason)). reasons_from a n first s rest l) next
        (ap (set reasons c) f ∙ ap (λ (d : ℕ). set reasons d (reason_by a reasons n first d)) e)
        ∙ sym (ap (λ (m : ℕ). reasons_from a n first (first + k) m reasons) more) ∙ left

    pub reasons_done : count ≤ k → reasons ≡ whole
    reasons_done h =
        let done : count - k ≡ 0 = omega arith in
        sym (ap (λ (m : ℕ). reasons_from a n first (first + k) m reasons) done) ∙ left
