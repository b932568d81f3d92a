-- `lines`: at each turn the goals that are left, put down from where the pen is, are all that there is to say.
use Rattle.std.proofs.Common.{◌≡◌}
use Rattle.pen.specs.Pen.{put_all, content, lender}
use Rattle.mending.proofs.Telling.{goals_left}
use Rattle.mending.proofs.lines.lines.Given as goal

abbrev pub invariant-loop-g : goal.invariant-loop-g
invariant-loop-g l = record {
  puts : put_all (goals_left l.fn.b l.g) (content l.pen) ≡ put_all (goals_left l.fn.b 0) (content l.fn.pen);
  same_buffer : lender l.pen ≡ lender l.fn.pen;
}
