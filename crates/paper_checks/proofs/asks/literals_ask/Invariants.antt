use Rattle.paper_checks.proofs.Asking.{LiteralsLeft}
use Rattle.paper_checks.proofs.asks.literals_ask.Given as goal

abbrev pub invariant-loop-j : goal.invariant-loop-j
invariant-loop-j l = LiteralsLeft l.levels l.b l.c l.count l.j l.most
