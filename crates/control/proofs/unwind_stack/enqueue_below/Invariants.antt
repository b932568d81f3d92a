-- `enqueue_below` meets its contract: what is left to enqueue, on the rings as they are, comes to what all of it comes to.
use Prim.Native.Nat.{ℕ}
use mathlib.Core.Path.{◌≡◌}
use Rattle.stores.specs.Numbers.{within}
use Rattle.stores.specs.Places.{places}
use Rattle.control.specs.UnwindStack.{all_back}
use Rattle.control.proofs.unwind_stack.enqueue_below.Given as goal

abbrev pub invariant-loop-i : goal.invariant-loop-i
invariant-loop-i l = (top : ℕ) → all_back l.entry_table l.active l.i (places l.next l.tail l.len top)
    ≡ all_back l.entry_table l.active (within l.n) (places l.initial.next l.initial.tail l.initial.len top)
