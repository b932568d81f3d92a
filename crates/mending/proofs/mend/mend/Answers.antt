-- `mend`: the book of a paper that is read.
use Rattle.mending.proofs.Mends.{book_mended}
use Rattle.mending.proofs.mend.mend.Goals as goal

pub returns-in-Ok-clause-says : goal.returns-in-Ok-clause-says
returns-in-Ok-clause-says c =
    book_mended _ _ _ _ _ _ _ c.in-Ok.ensures c.reasons_of-reasons.ensures c.copy.ensures.puts c.lines.ensures.puts
