use Rattle.paper_checks.proofs.SpoiltBooks.{paper_told}
use Rattle.paper_checks.proofs.spoilt.spoilers.Goals as goal

pub returns : goal.returns
returns c = paper_told c.args.bytes.now _ _ c.in_ok-book.ensures c.passes-told.ensures
