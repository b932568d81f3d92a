-- `line`: six texts, one after the other.
use Rattle.listing.proofs.Words.{line_said}
use Rattle.listing.proofs.lines.line.Goals as goal

pub returns : goal.returns
returns c = search line_said
