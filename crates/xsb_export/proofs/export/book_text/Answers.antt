-- `book_text`: the table lines, then the rules.
use Rattle.xsb_export.proofs.Exporting.{text_said}
use Rattle.xsb_export.proofs.export.book_text.Goals as goal

pub returns-clause-puts : goal.returns-clause-puts
returns-clause-puts c = search text_said
