-- `line`: by which kind of place it is.
use Rattle.places.proofs.Placing.{goal_said, clause_said, literal_said}
use Rattle.places.proofs.line.Goals as goal

pub returns-in-Goal-clause-puts : goal.returns-in-Goal-clause-puts
returns-in-Goal-clause-puts c = search goal_said

pub returns-in-Clause-clause-puts : goal.returns-in-Clause-clause-puts
returns-in-Clause-clause-puts c = search clause_said

pub returns-in-Literal-clause-puts : goal.returns-in-Literal-clause-puts
returns-in-Literal-clause-puts c = search literal_said
