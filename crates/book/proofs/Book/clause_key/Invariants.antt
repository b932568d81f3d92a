-- `clause_key`: the literals behind place j are still to be mixed in.
use Prim.Native.Nat.{◌-◌}
use mathlib.Core.Path.{◌≡◌}
use Rattle.laws.specs.Spans.{span}
use Rattle.book.specs.Access.{literal_read}
use Rattle.book.specs.View.{meant}
use Rattle.book.specs.Repeats.{lent_by, clause_read, literals_key, clause_key}
use Rattle.book.proofs.Book.clause_key.Given as goal

abbrev pub invariant-loop-j : goal.invariant-loop-j
invariant-loop-j l = literals_key l.key (span (λ i. meant (literal_read l.self.literal_kind l.self.literal_goal l.self.literal_want l.c i)) l.j (l.count - l.j))
    ≡ clause_key (clause_read (lent_by l.self) l.c)
