-- `clauses_place`: each clause before place k of the goal is plain.
use Rattle.paper_checks.proofs.Tested.{ClausesLeft}
use Rattle.paper_checks.proofs.plain.clauses_place.Given as goal

abbrev pub invariant-loop-k : goal.invariant-loop-k
invariant-loop-k l = ClausesLeft l.b l.g l.first l.count l.k
