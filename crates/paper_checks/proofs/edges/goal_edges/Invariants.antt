-- `goal_edges`: the clauses before place d of the goal have their edges.
use Rattle.paper_checks.specs.Reach.{Raised}
use Rattle.paper_checks.proofs.Raising.{Steps}
use Rattle.paper_checks.proofs.Leading.{ClauseStep}
use Rattle.paper_checks.proofs.edges.goal_edges.Given as goal

abbrev pub invariant-loop-d : goal.invariant-loop-d
invariant-loop-d l = Raised (Steps (ClauseStep l.b l.g l.first) l.d) l.fn.m l.m
