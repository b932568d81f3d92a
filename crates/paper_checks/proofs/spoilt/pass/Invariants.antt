-- `pass`: the goals before goal g are done.
use Rattle.paper_checks.specs.Spoilers.{pass_told}
use Rattle.paper_checks.proofs.SpoiltBooks.{FillsTo}
use Rattle.paper_checks.proofs.spoilt.pass.Given as goal

abbrev pub invariant-loop-g : goal.invariant-loop-g
invariant-loop-g l = FillsTo l.b (pass_told l.b l.told) l.g l.next
