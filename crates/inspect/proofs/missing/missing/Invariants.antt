-- `missing`: at each turn the goals that are left, put down from where the pen is, are all that there is to say.
use Rattle.pen.specs.Pen.{put_all, content}
use Rattle.inspect.proofs.Looking.{goals_left}
use mathlib.Core.Path.{◌≡◌}
use Rattle.inspect.proofs.missing.missing.Given as goal

abbrev pub invariant-loop-g : goal.invariant-loop-g
invariant-loop-g l =
    (put_all (goals_left l.book l.g) (content l.pen)
    ≡ put_all (goals_left l.book 0) (content l.initial.pen))
