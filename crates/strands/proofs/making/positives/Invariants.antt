-- The loop of `positives`: the literals made so far are those of the goals passed.
use mathlib.Core.Path.{◌≡◌}
use lib.ListN.{length, take}
use Rattle.strands.specs.Making.{positives}
use Rattle.strands.proofs.making.positives.Given as goal

abbrev pub invariant-loop-i : goal.invariant-loop-i
invariant-loop-i l = (length l.made ≡ 8) × (l.made ≡ positives (take l.i l.goals))
