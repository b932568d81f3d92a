-- `goal_lines`: the lines of the goals so far are put down.
use Rattle.std.proofs.Common.{◌≡◌, take}
use Rattle.pen.specs.Pen.{put_all, content}
use Rattle.pen.specs.Goals.{words_from}
use Rattle.certify.specs.Told.{line_told}
use Rattle.certify.proofs.lines.goal_lines.Given as goal

abbrev pub invariant-loop-goal : goal.invariant-loop-goal
invariant-loop-goal l =
    content l.pen ≡ put_all (words_from (line_told l.s.told) 0 (take l.goal l.goals)) (content l.fn.pen)
