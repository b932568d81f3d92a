-- `marks`: the goals before goal t are told of.
use Rattle.paper_checks.proofs.Rounds.{Told}
use Rattle.paper_checks.proofs.cycles.marks.Given as goal

abbrev pub invariant-loop-t : goal.invariant-loop-t
invariant-loop-t l = Told l.m l.n l.r l.t
