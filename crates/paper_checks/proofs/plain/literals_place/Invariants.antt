-- `literals_place`: each literal before place j is plain.
use Rattle.paper_checks.proofs.Tested.{LiteralsLeft}
use Rattle.paper_checks.proofs.plain.literals_place.Given as goal

abbrev pub invariant-loop-j : goal.invariant-loop-j
invariant-loop-j l = LiteralsLeft l.b l.g l.k l.c l.count l.j
