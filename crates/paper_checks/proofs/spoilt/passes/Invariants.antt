-- `passes`: so many are made.
use Rattle.paper_checks.specs.Spoilers.{Stands}
use Rattle.paper_checks.proofs.spoilt.passes.Given as goal

abbrev pub invariant-loop-made : goal.invariant-loop-made
invariant-loop-made l = Stands l.b l.made l.told
