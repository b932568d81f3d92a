-- `is_settled`: the text of a reader without a spot is one of which no state is left.
use borrow.Author.Rules.{rules}
use Rattle.xsb_import.proofs.Finishing.{settled}
use Rattle.xsb_import.proofs.import.is_settled.Goals as goal

pub returns : goal.returns
returns c = search (rules, settled)
