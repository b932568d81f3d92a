-- The loop from the end: what is left to do for the strand in hand is what there was to do for the one at the start.
use mathlib.Core.Path.{◌≡◌}
use Rattle.strands.specs.Floundering.{reconsider_down}
use Rattle.strands.proofs.floundering.reconsider_floundered_subgoals.Given as goal

abbrev pub invariant-loop-i : goal.invariant-loop-i
invariant-loop-i l = reconsider_down l.i l.t ≡ reconsider_down l.n l.initial.t
