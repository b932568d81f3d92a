-- `edges`: the goals before goal g have their edges.
use lib.ListN.{replicate}
use Rattle.paper_checks.specs.Reach.{Raised}
use Rattle.paper_checks.proofs.Raising.{Steps}
use Rattle.paper_checks.proofs.Leading.{GoalStep}
use Rattle.paper_checks.proofs.edges.edges.Given as goal

abbrev pub invariant-loop-g : goal.invariant-loop-g
invariant-loop-g l = Raised (Steps (GoalStep l.b) l.g) (replicate 4096 0) l.m
