-- `copy`: at each turn what is left to copy, put down from where the pen is, is all that there is to copy.
use Rattle.std.proofs.Common.{◌≡◌, drop}
use Rattle.laws.specs.Spans.{span}
use Rattle.papers.specs.Mend.{copied}
use Rattle.pen.specs.Pen.{put_all, content, lender}
use Rattle.mending.specs.Reasons.{reason_at}
use Rattle.mending.specs.Copying.{copy_on}
use Rattle.mending.proofs.copy.copy.Given as goal

abbrev pub invariant-loop-b : goal.invariant-loop-b
invariant-loop-b l = record {
  puts :
      put_all (copy_on l.reasons l.c (drop l.b-index l.bytes)) (content l.pen)
      ≡ put_all (copied l.bytes (span (reason_at l.reasons) 0 256)) (content l.fn.pen);
  same_buffer : lender l.pen ≡ lender l.fn.pen;
}
