-- `literals`: at each turn the literals that are left, put down from where the pen is, are all that there is to say.
use Rattle.pen.specs.Pen.{put_all, content}
use Rattle.inspect.proofs.Looking.{literals_left}
use Prim.Native.Nat.{◌≤◌, ◌<◌}
use mathlib.Core.Path.{◌≡◌}
use Rattle.inspect.proofs.missing.literals.Given as goal

abbrev pub invariant-loop-j : goal.invariant-loop-j
invariant-loop-j l = (l.j ≤ l.count) × (l.count ≤ 8) × (l.c < 256) ×
    (put_all (literals_left l.book l.g l.k l.c l.count l.j) (content l.pen)
    ≡ put_all (literals_left l.book l.g l.k l.c l.count 0) (content l.initial.pen))
