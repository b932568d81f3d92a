-- `clause_line`: at each turn the literals that are left, put down from where the pen is, are all that the head leaves to say.
use Rattle.pen.specs.Pen.{put_all, content}
use Rattle.book.specs.View.{literal_viewed}
use Rattle.inspect.proofs.Lines.{literals_left}
use Prim.Native.Nat.{◌≤◌, ◌<◌, ◌*◌}
use mathlib.Core.Path.{◌≡◌}
use Rattle.inspect.proofs.book_lines.clause_line.Given as goal

abbrev pub invariant-loop-j : goal.invariant-loop-j
invariant-loop-j l = (l.j ≤ l.count) × (l.count ≤ 8) × (l.c < 256) ×
    (put_all (literals_left (literal_viewed l.book) (8 * l.c) l.count l.j) (content l.pen)
    ≡ put_all (literals_left (literal_viewed l.book) (8 * l.c) l.count 0) (content l.initial.pen))
