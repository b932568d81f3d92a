-- `clauses`: at each turn the clauses that are left, put down from where the pen is, are all that there is to say.
use Rattle.pen.specs.Pen.{put_all, content}
use Rattle.book.specs.View.{clause_viewed}
use Rattle.inspect.proofs.Lines.{clauses_left}
use Prim.Native.Nat.{◌≤◌, ◌<◌}
use mathlib.Core.Path.{◌≡◌}
use Rattle.inspect.proofs.book_lines.clauses.Given as goal

abbrev pub invariant-loop-k : goal.invariant-loop-k
invariant-loop-k l = (l.k ≤ l.count) × (l.count < 65536) × (l.first < 65536) ×
    (put_all (clauses_left l.g (clause_viewed l.book) l.first l.count l.k) (content l.pen)
    ≡ put_all (clauses_left l.g (clause_viewed l.book) l.first l.count 0) (content l.initial.pen))
