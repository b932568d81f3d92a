-- `field`: the number in its column, then the space.
use Rattle.listing.proofs.Words.{field_said}
use Rattle.listing.proofs.lines.field.Goals as goal

pub returns : goal.returns
returns c = search field_said
