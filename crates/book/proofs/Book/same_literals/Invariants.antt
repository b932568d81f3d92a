-- `same_literals`: the literals behind place j decide, as long as those before it are the same.
use mathlib.Core.Path.{◌≡◌}
use Rattle.definitions.specs.Desk.{same_literals}
use Rattle.book.specs.Repeats.{lent_by, clause_read}
use Rattle.book.proofs.SameClauses.{literals_left}
use Rattle.book.proofs.Book.same_literals.Given as goal

abbrev pub invariant-loop-j : goal.invariant-loop-j
invariant-loop-j l = literals_left l.self.clause_len l.self.literal_kind l.self.literal_goal l.self.literal_want l.c l.d l.count l.j
    ≡ same_literals (clause_read (lent_by l.self) l.c).literals (clause_read (lent_by l.self) l.d).literals
