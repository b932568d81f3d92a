-- `is_plain`: there is no place that is not.
use Rattle.paper_checks.proofs.Tested.{plain_if_nowhere}
use Rattle.paper_checks.proofs.plain.is_plain.Goals as goal

pub returns : goal.returns
returns c = plain_if_nowhere c.args.b.now _ _ c.book_place.ensures c.is_none.ensures
