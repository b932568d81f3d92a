-- `list_goals`: at each turn what is left of the lines, put down from where the pen is, is all of them; and the two arrays have room for a
-- call and a reply.
use Rattle.std.proofs.Common.{◌≤◌, length}
use Rattle.pen.specs.Pen.{content}
use Rattle.listing.proofs.Loops.{Along, left_at}
use Rattle.listing.proofs.goals.list_goals.Given as goal

abbrev pub invariant-loop-p : goal.invariant-loop-p
invariant-loop-p l =
    (5 ≤ length l.calls) × (3 ≤ length l.replies) × Along l.initial.forest (content l.initial.pen) l.forest l.p (content l.pen)

abbrev pub decreases-loop-p : goal.decreases-loop-p
decreases-loop-p l = left_at l.initial.forest l.p
