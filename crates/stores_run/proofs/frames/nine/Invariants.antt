-- `nine` is safe: it counts at most one a turn.
use Prim.Native.Nat.{◌≤◌}
use Rattle.stores_run.proofs.frames.nine.Given as goal

abbrev pub invariant-loop-i : goal.invariant-loop-i
invariant-loop-i l = l.n ≤ l.i
