-- `pass`: the goals before goal g are raised.
use Rattle.paper_checks.proofs.Settling.{PassTo}
use Rattle.paper_checks.proofs.settle.pass.Given as goal

abbrev pub invariant-loop-g : goal.invariant-loop-g
invariant-loop-g l = PassTo l.levels l.b l.g l.next
