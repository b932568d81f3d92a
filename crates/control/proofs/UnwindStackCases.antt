-- The functions of unwind_stack.rt at their tests' answers, and one step of the loop. From what `ring_enqueue` leaves.
use Prim.Native.Nat.{ℕ, zero, suc, ◌-◌, ◌≤◌, ◌<◌}
use native.Mathlib.Omega.{arith}
use mathlib.Core.Path.{◌≡◌, refl, sym, ap, ◌∙◌}
use mathlib.Core.Bool.{Bool}
use mathlib.Core.List.{List}
use lib.ListN.{get_or, set}
use borrow.Author.Tests.{lt-ltb, le-ltb}
use Rattle.rings.specs.Rings.{linked, lengthened}
use Rattle.stores.specs.declared.places.Places.{Places}
use Rattle.stores.specs.Places.{places}
use Rattle.stores.proofs.PlacesMoves.{enqueued_is}
use Rattle.control.specs.UnwindStack.{Rings, enqueued_if, enqueued_back, all_back}

-- `enqueue_active`
module _ (t q : ℕ) (next tail len : List ℕ) where
  pub back_none : 256 ≤ q → Rings (enqueued_back t q) next tail len next tail len
  back_none h top = sym (ap (λ (b : Bool). enqueued_if b t q (places next tail len top)) (le-ltb q 256 h))

  pub back_some : q < 256 → (next' tail' len' : List ℕ) → next' ≡ linked next tail len t q → tail' ≡ set tail t q → len' ≡ lengthened len t
      → Rings (enqueued_back t q) next tail len next' tail' len'
  back_some h next' tail' len' en et el top =
      enqueued_is (places next tail len top) t q next' tail' len' en et el
      ∙ sym (ap (λ (b : Bool). enqueued_if b t q (places next tail len top)) (lt-ltb q 256 h))

-- one entry more
pub back_on : (table active : List ℕ) (i : ℕ) → 0 < i → (p : Places)
    → all_back table active i p ≡ all_back table active (i - 1) (enqueued_back (get_or table (i - 1) 0) (get_or active (i - 1) 0) p)
back_on table active zero h p = absurd (omega arith)
back_on table active (suc i) h p =
    let e : suc i - 1 ≡ i = omega arith in
    ap (λ (j : ℕ). all_back table active j (enqueued_back (get_or table j 0) (get_or active j 0) p)) (sym e)

pub back_over : (table active : List ℕ) (i : ℕ) → i ≤ 0 → (p : Places) → all_back table active i p ≡ p
back_over table active zero h p = refl
back_over table active (suc i) h p = absurd (omega arith)
