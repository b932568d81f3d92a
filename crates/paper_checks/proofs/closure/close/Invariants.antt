-- `close`: what leads on over a goal before k is in.
use Rattle.paper_checks.specs.Reach.{Closed}
use Rattle.paper_checks.proofs.closure.close.Given as goal

abbrev pub invariant-loop-k : goal.invariant-loop-k
invariant-loop-k l = Closed l.fn.m l.m l.k
