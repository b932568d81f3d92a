-- `table_lines`: the lines of the goals so far are put down.
use Rattle.std.proofs.Common.{◌≡◌}
use Rattle.papers.specs.Xsb.{table_lines}
use Rattle.pen.specs.Pen.{put_all, content, lender}
use Rattle.xsb_export.proofs.export.table_lines.Given as goal

abbrev pub invariant-loop-goal : goal.invariant-loop-goal
invariant-loop-goal l = record {
  puts : content l.pen ≡ put_all (table_lines l.goal) (content l.fn.pen);
  same_buffer : lender l.pen ≡ lender l.fn.pen;
}
