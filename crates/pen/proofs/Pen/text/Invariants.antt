-- `text`: at each turn the bytes so far are put down.
use Rattle.std.proofs.Common.{◌≡◌, take}
use Rattle.pen.specs.Pen.{put_all, content, lender}
use Rattle.pen.proofs.Pen.text.Given as goal

abbrev pub invariant-loop-b : goal.invariant-loop-b
invariant-loop-b l = record {
  puts : content l.self ≡ put_all (take l.b-index l.bytes) (content l.fn.self);
  same_buffer : lender l.self ≡ lender l.fn.self;
}
