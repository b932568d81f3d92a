-- `fill` is safe: each count is at most the number of turns.
use Prim.Native.Nat.{◌≤◌}
use Rattle.stores_run.proofs.kept.fill.Given as goal

abbrev pub invariant-loop-i : goal.invariant-loop-i
invariant-loop-i l = l.n ≤ l.i
