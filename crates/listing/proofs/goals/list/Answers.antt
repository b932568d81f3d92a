-- `list`: by whether the desk took the book.
use Rattle.listing.proofs.Loops.{listing_refused}
use Rattle.listing.proofs.goals.list.Goals as goal

pub returns-in-Refused : goal.returns-in-Refused
returns-in-Refused c = search listing_refused
