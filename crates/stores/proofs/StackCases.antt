-- The stack's functions at their tests' answers: whether there is a caller, or a top. From the definitions alone.
use Prim.Native.Nat.{ℕ, ◌-◌, ◌≤◌, ◌<◌}
use native.Mathlib.Omega.{arith}
use mathlib.Core.Path.{◌≡◌, sym, ap, ap₂}
use mathlib.Core.Bool.{Bool, true, false, not, ◌&&◌}
use mathlib.Core.List.{List}
use lib.ListN.{get_or, set}
use lib.Dec.{ltb}
use borrow.Author.Tests.{lt-ltb, le-ltb, eq-eqb, ne_eqb}
use Rattle.rings.specs.Rings.{place_if}
use Rattle.stores.specs.Numbers.{set_if}
use Rattle.stores.specs.Stack.{has_caller, has_top, caller_place, caller_written, top_written}

-- whether there is a caller, or a top
no_caller : (d : ℕ) → d < 2 → has_caller d ≡ false
no_caller d h = ap (λ (b : Bool). not b && not (ltb 64 d)) (lt-ltb d 2 h)

far_caller : (d : ℕ) → 64 < d → has_caller d ≡ false
far_caller d h = ap₂ (λ (b c : Bool). not b && not c) (le-ltb d 2 (omega arith)) (lt-ltb 64 d h)

pub some_caller : (d : ℕ) → 2 ≤ d → d ≤ 64 → has_caller d ≡ true
some_caller d h k = ap₂ (λ (b c : Bool). not b && not c) (le-ltb d 2 h) (le-ltb 64 d k)

no_top : (d : ℕ) → d ≡ 0 → has_top d ≡ false
no_top d e = ap (λ (b : Bool). not b && not (ltb 64 d)) (eq-eqb d 0 e)

far_top : (d : ℕ) → 64 < d → has_top d ≡ false
far_top d h = ap₂ (λ (b c : Bool). not b && not c) (ne_eqb d 0 (λ e. omega arith)) (lt-ltb 64 d h)

pub some_top : (d : ℕ) → (d ≡ 0 → ⊥) → d ≤ 64 → has_top d ≡ true
some_top d n k = ap₂ (λ (b c : Bool). not b && not c) (ne_eqb d 0 n) (le-ltb 64 d k)

module _ (d : ℕ) (l : List ℕ) where
  caller_by : (b : Bool) → has_caller d ≡ b → (place_if b (get_or l (d - 2) 0) ≡ caller_place d l)
      × (set_if b (d - 2) 256 l ≡ caller_written d l)
  caller_by b e = (ap (λ (c : Bool). place_if c (get_or l (d - 2) 0)) (sym e), ap (λ (c : Bool). set_if c (d - 2) 256 l) (sym e))

  -- `caller_place` and `take_caller`
  pub caller_none : d < 2 → (256 ≡ caller_place d l) × (l ≡ caller_written d l)
  caller_none h = caller_by false (no_caller d h)

  pub caller_far : 64 < d → (256 ≡ caller_place d l) × (l ≡ caller_written d l)
  caller_far h = caller_by false (far_caller d h)

  pub caller_some : 2 ≤ d → d ≤ 64 → (get_or l (d - 2) 0 ≡ caller_place d l) × (set l (d - 2) 256 ≡ caller_written d l)
  caller_some h k = caller_by true (some_caller d h k)

  -- `set_active` and `set_minimum`
  pub top_none : d ≡ 0 → (x : ℕ) → l ≡ top_written d x l
  top_none e x = ap (λ (c : Bool). set_if c (d - 1) x l) (sym (no_top d e))

  pub top_far : 64 < d → (x : ℕ) → l ≡ top_written d x l
  top_far h x = ap (λ (c : Bool). set_if c (d - 1) x l) (sym (far_top d h))

  pub top_some : (d ≡ 0 → ⊥) → d ≤ 64 → (x : ℕ) → set l (d - 1) x ≡ top_written d x l
  top_some n k x = ap (λ (c : Bool). set_if c (d - 1) x l) (sym (some_top d n k))
