-- `clauses_spoilt`: no clause before place k of the goal is spoilt.
use Rattle.paper_checks.proofs.Spreading.{ClausesLeft}
use Rattle.paper_checks.proofs.spoilt.clauses_spoilt.Given as goal

abbrev pub invariant-loop-k : goal.invariant-loop-k
invariant-loop-k l = ClausesLeft l.told l.b l.first l.count l.k
