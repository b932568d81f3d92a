-- `loosely`: the book, and then the literals that name no goal of it; nothing where it is refused.
use Rattle.inspect.proofs.Looking.{unread_said, read_said}
use Rattle.inspect.proofs.missing.loosely.Goals as goal

pub returns-in-Ok : goal.returns-in-Ok
returns-in-Ok c = read_said _ _ _ _ _ c.in-Ok.ensures c.goals.ensures c.missing.ensures

pub returns-in_default : goal.returns-in_default
returns-in_default c = unread_said _ _ _ c.in_default.ensures
