-- `ends_negative`: the bracket behind a "not".
use Rattle.xsb_import.proofs.Ending.{negative_ends}
use Rattle.xsb_import.proofs.numbers.ends_negative.Goals as goal

pub returns-then-b-eq41 : goal.returns-then-b-eq41
returns-then-b-eq41 c = negative_ends _ _ _ _ c.requires c.if-b-eq41.true c.at.ensures
