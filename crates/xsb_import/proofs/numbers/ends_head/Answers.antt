-- `ends_head`: the two bytes that may stand behind a head.
use borrow.Author.Rules.{rules}
use Rattle.xsb_import.proofs.Ending.{head_fact, head_rule}
use Rattle.xsb_import.proofs.numbers.ends_head.Goals as goal

pub returns-in-46 : goal.returns-in-46
returns-in-46 c = search (rules, head_fact)

pub returns-in-32 : goal.returns-in-32
returns-in-32 c = search (rules, head_rule)
