-- `literal`: its name, then its mark.
use Rattle.inspect.proofs.Saying.{literal_said}
use Rattle.inspect.proofs.book_lines.literal.Goals as goal

pub returns : goal.returns
returns c = search literal_said
