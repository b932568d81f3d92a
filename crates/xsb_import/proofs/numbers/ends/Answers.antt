-- `ends`: what stands behind a positive literal's number.
use Rattle.std.specs.Prelude.{Some}
use mathlib.Core.Path.{ap, ◌∙◌}
use Rattle.xsb_import.specs.declared.What.{What}
use Rattle.xsb_import.specs.declared.Place.TheVariants.{Number}
use Rattle.xsb_import.proofs.Ending.{positive_ends}
use Rattle.xsb_import.proofs.numbers.ends.Goals as goal

pub returns-in-Positive : goal.returns-in-Positive
returns-in-Positive c =
    positive_ends _ _ _ _ (c.requires.0 ∙ ap (λ (w : What). Number w (Some c.args.v)) c.in-Positive.is, c.requires.1) c.behind.ensures
