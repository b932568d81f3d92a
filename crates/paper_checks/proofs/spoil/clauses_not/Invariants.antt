-- `clauses_not`: no clause before place k of the goal has a "not".
use Rattle.paper_checks.proofs.Spoiling.{ClausesLeft}
use Rattle.paper_checks.proofs.spoil.clauses_not.Given as goal

abbrev pub invariant-loop-k : goal.invariant-loop-k
invariant-loop-k l = ClausesLeft l.b l.first l.count l.k
