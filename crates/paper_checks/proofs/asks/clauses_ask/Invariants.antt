-- `clauses_ask`: the most that the clauses before place k ask, and what is left.
use Rattle.paper_checks.proofs.Asking.{ClausesLeft}
use Rattle.paper_checks.proofs.asks.clauses_ask.Given as goal

abbrev pub invariant-loop-k : goal.invariant-loop-k
invariant-loop-k l = ClausesLeft l.levels l.b l.first l.count l.k l.most
