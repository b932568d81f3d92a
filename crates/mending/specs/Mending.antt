-- What mending is to give.
use Rattle.std.specs.Prelude.{ℕ}
use Rattle.definitions.specs.Refusal.{Refusable, refused, accepted}
use Rattle.papers.specs.Mend.{Mended}
use Rattle.pen.specs.Pen.{Pen, put_all}
use Rattle.pen.specs.Refusals.{refusal_line}

-- 0, and the book and the lines put down; or the number of a refusal, no book, and a line that says it
abbrev pub mends : Refusable Mended → (out told : Pen) → ℕ × Pen × Pen
mends (refused n) out told = (n, out, put_all (refusal_line n) told)
mends (accepted m) out told = (0, put_all m.bytes out, put_all m.lines told)
