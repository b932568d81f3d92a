-- `literal`: by its sign.
use Rattle.xsb_export.proofs.Exporting.{not_said}
use Rattle.xsb_export.proofs.rules.literal.Goals as goal

pub returns-then-is_negative-clause-puts : goal.returns-then-is_negative-clause-puts
returns-then-is_negative-clause-puts c = search not_said
