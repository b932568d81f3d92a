-- `head`: three texts, one after the other.
use Rattle.inspect.proofs.Saying.{head_said}
use Rattle.inspect.proofs.book_lines.head.Goals as goal

pub returns : goal.returns
returns c = search head_said
