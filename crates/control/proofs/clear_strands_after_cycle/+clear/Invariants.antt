-- `clear` meets its contract, by the waiting strands as the measure. The loop's invariant: what is left of the walk comes to what all of
-- it comes to, and no more wait than when it began.
use Prim.Native.Nat.{◌-◌, ◌≤◌}
use mathlib.Core.Path.{◌≡◌}
use mathlib.Core.Bool.{false}
use Rattle.control.specs.ClearStrandsAfterCycle.{cleared, lengths, clear_each, clear}
use Rattle.control.proofs.clear_strands_after_cycle.+clear.Given as goal

abbrev pub decreases-clear : goal.decreases-clear
decreases-clear l = lengths 64 l.len.now

abbrev pub invariant-loop-step : goal.invariant-loop-step
invariant-loop-step l =
    (clear_each l.waits (clear l.waits) (l.left - l._step) l.p (cleared false l.next l.tail l.len)
    ≡ clear_each l.waits (clear l.waits) l.left l.initial.p (cleared false l.initial.next l.initial.tail l.initial.len))
    × (lengths 64 l.len ≤ lengths 64 l.initial.len)
