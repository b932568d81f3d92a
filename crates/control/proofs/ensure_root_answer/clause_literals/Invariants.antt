-- The loop of `clause_literals`: the literals read so far are the model's.
use mathlib.Core.Path.{◌≡◌}
use lib.ListN.{length}
use Rattle.control.specs.EnsureRootAnswer.{clause_literals}
use Rattle.control.proofs.ensure_root_answer.clause_literals.Given as goal

abbrev pub invariant-loop-i : goal.invariant-loop-i
invariant-loop-i l = (length l.literals ≡ 8) × (l.literals ≡ clause_literals l.literal_kind l.literal_goal l.literal_want l.c l.i)
