-- `opened`: by what the open gave.
use Rattle.listing.proofs.Places.{opened_past, opened_table}
use Rattle.listing.proofs.goals.opened.Goals as goal

pub returns-in-Refused : goal.returns-in-Refused
returns-in-Refused c = search opened_past

pub returns-in-Table : goal.returns-in-Table
returns-in-Table c = search opened_table
