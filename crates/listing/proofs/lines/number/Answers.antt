-- `number`: each number by its arm.
use Rattle.listing.specs.Lines.{number_of, number_column}
use Rattle.listing.proofs.Words.{number_is, no_number}
use Rattle.listing.proofs.lines.number.Goals as goal

pub returns-in-2 : goal.returns-in-2
unfolding number_of number_column
returns-in-2 c = search number_is

pub returns-in-3 : goal.returns-in-3
unfolding number_of number_column
returns-in-3 c = search number_is

pub returns-in-4 : goal.returns-in-4
unfolding number_of number_column
returns-in-4 c = search number_is

pub returns-in_default : goal.returns-in_default
returns-in_default c = search no_number
