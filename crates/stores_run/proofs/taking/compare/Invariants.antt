-- `compare` is safe: each count is at most the number of turns.
use Prim.Native.Nat.{◌≤◌}
use Rattle.stores_run.proofs.taking.compare.Given as goal

abbrev pub invariant-loop-i : goal.invariant-loop-i
invariant-loop-i l = (l.links ≤ l.i) × (l.ends ≤ l.i) × (l.lengths ≤ l.i)
