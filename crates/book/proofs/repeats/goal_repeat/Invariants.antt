-- `goal_repeat`: no clause before place k of the goal is the same as an earlier one.
use Rattle.book.specs.Repeats.{lent_by, clause_read}
use Rattle.book.proofs.Twice.{Behind}
use Rattle.book.proofs.repeats.goal_repeat.Given as goal

abbrev pub invariant-loop-k : goal.invariant-loop-k
invariant-loop-k l = Behind (clause_read (lent_by l.b)) l.g l.first l.count l.k
