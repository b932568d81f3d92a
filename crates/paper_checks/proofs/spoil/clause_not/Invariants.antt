-- `clause_not`: no literal before place j is a "not".
use Rattle.paper_checks.proofs.Spoiling.{NotsLeft}
use Rattle.paper_checks.proofs.spoil.clause_not.Given as goal

abbrev pub invariant-loop-j : goal.invariant-loop-j
invariant-loop-j l = NotsLeft l.b l.k l.c l.count l.j
