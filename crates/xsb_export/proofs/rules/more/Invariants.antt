-- `more`: at each turn the literals that are left, put down from where the pen is, are all that there is to say.
use Rattle.std.proofs.Common.{◌≡◌}
use Rattle.pen.specs.Pen.{put_all, content, lender}
use Rattle.xsb_export.proofs.Exporting.{more_left}
use Rattle.xsb_export.proofs.rules.more.Given as goal

abbrev pub invariant-loop-j : goal.invariant-loop-j
invariant-loop-j l = record {
  puts : put_all (more_left l.b l.c l.count l.j) (content l.pen) ≡ put_all (more_left l.b l.c l.count 1) (content l.fn.pen);
  same_buffer : lender l.pen ≡ lender l.fn.pen;
}
