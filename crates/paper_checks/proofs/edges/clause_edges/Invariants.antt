-- `clause_edges`: the literals before place k have their edges.
use Rattle.paper_checks.specs.Reach.{Raised}
use Rattle.paper_checks.proofs.Raising.{Steps}
use Rattle.paper_checks.proofs.Leading.{LiteralLeads}
use Rattle.paper_checks.proofs.edges.clause_edges.Given as goal

abbrev pub invariant-loop-k : goal.invariant-loop-k
invariant-loop-k l = Raised (Steps (LiteralLeads l.b l.g l.c) l.k) l.fn.m l.m
