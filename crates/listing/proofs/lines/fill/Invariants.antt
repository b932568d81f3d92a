-- `fill`: at each turn what is left comes to the same.
use Rattle.std.proofs.Common.{◌≡◌, ◌-◌}
use Rattle.papers.specs.Listing.{blank_lines}
use Rattle.pen.specs.Pen.{put_all, content}
use Rattle.listing.proofs.lines.fill.Given as goal

abbrev pub invariant-loop-line : goal.invariant-loop-line
invariant-loop-line l = put_all (blank_lines (l.missing - l._line)) (content l.pen) ≡ put_all (blank_lines l.missing) (content l.fn.pen)
