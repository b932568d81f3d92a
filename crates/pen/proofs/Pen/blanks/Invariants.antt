-- `blanks`: at each turn the blanks so far are put down.
use Rattle.std.proofs.Common.{◌≡◌}
use Rattle.definitions.specs.Text.{blanks}
use Rattle.pen.specs.Pen.{put_all, content, lender}
use Rattle.pen.proofs.Pen.blanks.Given as goal

abbrev pub invariant-loop-i : goal.invariant-loop-i
invariant-loop-i l = record {
  puts : content l.self ≡ put_all (blanks l._i) (content l.fn.self);
  same_buffer : lender l.self ≡ lender l.fn.self;
}
