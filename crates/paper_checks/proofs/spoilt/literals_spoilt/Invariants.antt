-- `literals_spoilt`: no literal before place j is spoilt.
use Rattle.paper_checks.proofs.Spreading.{LiteralsLeft}
use Rattle.paper_checks.proofs.spoilt.literals_spoilt.Given as goal

abbrev pub invariant-loop-j : goal.invariant-loop-j
invariant-loop-j l = LiteralsLeft l.told l.b l.c l.count l.j
