-- `marked_goals`: those of the goals so far that are marked are put down.
use Rattle.std.proofs.Common.{◌≡◌, take}
use Rattle.pen.specs.Pen.{put_all, content}
use Rattle.pen.specs.Goals.{words_from}
use Rattle.levels.specs.Words.{marked_words}
use Rattle.levels.proofs.lines.marked_goals.Given as goal

abbrev pub invariant-loop-goal : goal.invariant-loop-goal
invariant-loop-goal l = content l.pen ≡ put_all (words_from marked_words 0 (take l.goal l.marks)) (content l.fn.pen)
