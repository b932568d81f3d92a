-- `blank`: the blanks, then the line's end.
use Rattle.listing.proofs.Words.{blank_said}
use Rattle.listing.proofs.lines.blank.Goals as goal

pub returns : goal.returns
returns c = search blank_said
