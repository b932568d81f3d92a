-- `rule_line`: the head, the body, and the end of the line.
use Rattle.xsb_export.proofs.Exporting.{rule_said}
use Rattle.xsb_export.proofs.rules.rule_line.Goals as goal

pub returns-clause-puts : goal.returns-clause-puts
returns-clause-puts c = search rule_said
