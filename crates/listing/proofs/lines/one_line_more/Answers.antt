-- `one_line_more`: by whether the page has room.
use Rattle.listing.proofs.Words.{one_more_line, page_full}
use Rattle.listing.proofs.lines.one_line_more.Goals as goal

pub returns-then-lines : goal.returns-then-lines
returns-then-lines c = search one_more_line

pub returns-else-lines : goal.returns-else-lines
returns-else-lines c = search page_full
