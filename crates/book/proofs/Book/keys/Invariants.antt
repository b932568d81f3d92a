-- `keys_of`: those before place c have their keys.
use Rattle.book.specs.Repeats.{lent_by}
use Rattle.book.proofs.ClauseKeys.{KeysSoFar}
use Rattle.book.proofs.Book.keys.Given as goal

abbrev pub invariant-loop-c : goal.invariant-loop-c
invariant-loop-c l = KeysSoFar (lent_by l.self) l.self.clauses l.keys l.c
