-- `clause_lines`: at each turn the lines that are left, put down from where the pen is, are all that there is to say.
use Rattle.std.proofs.Common.{◌≡◌}
use Rattle.pen.specs.Pen.{put_all, content, lender}
use Rattle.mending.proofs.Telling.{clauses_left}
use Rattle.mending.proofs.lines.clause_lines.Given as goal

abbrev pub invariant-loop-number : goal.invariant-loop-number
invariant-loop-number l = record {
  puts :
      put_all (clauses_left l.reasons l.goal l.first l.count l.number) (content l.pen)
      ≡ put_all (clauses_left l.reasons l.goal l.first l.count 0) (content l.fn.pen);
  same_buffer : lender l.pen ≡ lender l.fn.pen;
}
