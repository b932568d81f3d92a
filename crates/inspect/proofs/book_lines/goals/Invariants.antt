-- `goals`: at each turn the goals that are left, put down from where the pen is, are all that there is to say.
use Rattle.pen.specs.Pen.{put_all, content}
use Rattle.book.specs.View.{goal_viewed}
use Rattle.inspect.proofs.Lines.{goals_left}
use mathlib.Core.Path.{◌≡◌}
use Rattle.inspect.proofs.book_lines.goals.Given as goal

abbrev pub invariant-loop-g : goal.invariant-loop-g
invariant-loop-g l = (put_all (goals_left (goal_viewed l.book) l.book.goals l.g) (content l.pen)
    ≡ put_all (goals_left (goal_viewed l.book) l.book.goals 0) (content l.initial.pen))
