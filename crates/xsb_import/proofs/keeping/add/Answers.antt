-- `add`: a ninth literal is over the limit, and another is written behind the rest.
use borrow.Author.Rules.{rules}
use Rattle.xsb_import.proofs.Growing.{add_over, add_keeps}
use Rattle.xsb_import.proofs.keeping.add.Goals as goal

pub returns-then-k-ge8 : goal.returns-then-k-ge8
returns-then-k-ge8 c = search (rules, add_over)

pub returns : goal.returns
returns c = search (rules, add_keeps)
