-- `body`: by whether there is a literal.
use Rattle.xsb_export.proofs.Exporting.{fact_said, body_said}
use Rattle.xsb_export.proofs.rules.body.Goals as goal

pub returns-then-count-eq0-clause-puts : goal.returns-then-count-eq0-clause-puts
returns-then-count-eq0-clause-puts c = search fact_said

pub returns-clause-puts : goal.returns-clause-puts
returns-clause-puts c = search body_said
