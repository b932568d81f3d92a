-- `goal_commands`: at each turn the commands of the goals so far are written.
use Prim.Native.Nat.{◌≤◌, ◌-◌}
use mathlib.Core.Path.{◌≡◌}
use lib.ListN.{length}
use Rattle.xsb_import.specs.Keeping.{goal_bytes, Writes}
use Rattle.xsb_import.proofs.keeping.goal_commands.Given as goal

abbrev pub invariant-loop-goal : goal.invariant-loop-goal
invariant-loop-goal l =
    (l._goal - l.from ≤ l.to - l.from) × (length l.out ≡ length l.initial.out)
    × Writes l.initial.out l.used (goal_bytes (l._goal - l.from)) l.out l.at
