-- `settle`: the levels are those of as many passes as turns, and before the last one the passes go on.
use Rattle.paper_checks.proofs.Ending.{Stands}
use Rattle.paper_checks.proofs.settle.settle.Given as goal

abbrev pub invariant-loop-k : goal.invariant-loop-k
invariant-loop-k l = Stands l.b l.k l.levels
