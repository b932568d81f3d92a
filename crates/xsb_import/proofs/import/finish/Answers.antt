-- `finish`: what the desk says of a book within the limits.
use mathlib.Core.Path.{sym, ◌∙◌}
use Rattle.xsb_import.proofs.Taking.{finish_book}
use Rattle.xsb_import.proofs.import.finish.Goals as goal

pub returns : goal.returns
returns c =
    let spot = sym c.at_line.ensures ∙ c.in_ok-spot.ensures.ok_part in (
      c.at_desk.ensures.0,
      λ text h. finish_book text _ _ _ _ _ _ _ _ _ spot c.in_ok-kept.ensures.ok_part c.if-spot.false c.own-bytes.ensures
          c.goal_commands-named.ensures c.end_command-used.ensures c.at_desk.ensures h,
    )
