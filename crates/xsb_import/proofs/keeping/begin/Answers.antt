-- `begin`: a rule that is written behind the rest.
use borrow.Author.Rules.{rules}
use Rattle.xsb_import.proofs.Growing.{begin_keeps}
use Rattle.xsb_import.proofs.keeping.begin.Goals as goal

pub returns : goal.returns
returns c = search (rules, begin_keeps)
