-- `say`: a book, and behind it what the desk says to it; or a refusal, and what stands behind it.
use Rattle.inspect.proofs.Lines.{book_said, refused_said}
use Rattle.inspect.proofs.words.say.Goals as goal

pub returns-in-Ok : goal.returns-in-Ok
returns-in-Ok c = book_said _ _ _ _ _ c.in-Ok.ensures c.goals.ensures c.at_desk.ensures

pub returns-in-Err : goal.returns-in-Err
returns-in-Err c = refused_said _ _ _ _ _ c.in-Err.ensures c.refusal.ensures c.behind.ensures
