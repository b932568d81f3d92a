-- `themselves`: the goals before goal g are done.
use Rattle.paper_checks.proofs.SpoiltBooks.{FillsTo, told_at}
use Rattle.paper_checks.proofs.spoilt.themselves.Given as goal

abbrev pub invariant-loop-g : goal.invariant-loop-g
invariant-loop-g l = FillsTo l.b (told_at l.b 0) l.g l.told
