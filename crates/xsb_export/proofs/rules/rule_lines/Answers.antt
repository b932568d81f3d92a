use borrow.Author.Rules.{rules}
use Rattle.xsb_export.proofs.Exporting.{rules_step, rules_said}
use Rattle.xsb_export.proofs.rules.rule_lines.Goals as goal

pub loop-k-preserved : goal.loop-k-preserved
loop-k-preserved c = record { puts = search rules_step; same_buffer = search rules }

pub returns-clause-puts : goal.returns-clause-puts
returns-clause-puts c = search rules_said
