-- `behind`: by whether the refusal is that a literal names no goal.
use Rattle.inspect.proofs.Looking.{behind_said, not_behind}
use Rattle.inspect.proofs.missing.behind.Goals as goal

pub returns-in-NoSuchGoal : goal.returns-in-NoSuchGoal
returns-in-NoSuchGoal c = search behind_said

pub returns-in_default : goal.returns-in_default
returns-in_default c = search not_behind
