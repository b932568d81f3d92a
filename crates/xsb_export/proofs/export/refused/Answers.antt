-- `refused`: the refusal's lines, and the place behind them.
use Rattle.xsb_export.proofs.Exporting.{refusal_said}
use Rattle.xsb_export.proofs.export.refused.Goals as goal

pub returns-clause-puts : goal.returns-clause-puts
returns-clause-puts c = search refusal_said
