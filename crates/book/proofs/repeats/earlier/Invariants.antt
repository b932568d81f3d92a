-- `earlier`: no clause before place d is the same as the one at c.
use Rattle.book.specs.Repeats.{lent_by, clause_read}
use Rattle.book.proofs.Twice.{Looking}
use Rattle.book.proofs.repeats.earlier.Given as goal

abbrev pub invariant-loop-d : goal.invariant-loop-d
invariant-loop-d l = Looking (clause_read (lent_by l.b)) l.first l.c l.d
