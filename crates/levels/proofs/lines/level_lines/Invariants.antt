-- `level_lines`: the lines of the goals so far are put down.
use Rattle.std.proofs.Common.{◌≡◌, take}
use Rattle.pen.specs.Pen.{put_all, content}
use Rattle.levels.specs.Words.{level_lines}
use Rattle.levels.proofs.lines.level_lines.Given as goal

abbrev pub invariant-loop-goal : goal.invariant-loop-goal
invariant-loop-goal l = content l.pen ≡ put_all (level_lines 0 (take l.goal l.levels)) (content l.fn.pen)
