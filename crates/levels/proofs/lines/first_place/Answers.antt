-- `first_place`: the numbers are those of the place.
use Rattle.std.proofs.Common.{ap, ◌∙◌}
use Rattle.papers.specs.NotPlain.{not_plain_place}
use Rattle.paper_checks.proofs.Tested.{place_by}
use Rattle.pen.specs.Pen.{put_all, content}
use Rattle.places.specs.Words.{place_line}
use Rattle.levels.proofs.lines.first_place.Goals as goal

pub returns : goal.returns
returns c =
    c.place.ensures.puts
    ∙ ap (λ o. put_all (place_line o) (content c.args.pen.now)) (place_by (not_plain_place c.args.bytes.now) _ c.not_plain.ensures)
