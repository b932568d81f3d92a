use native.Mathlib.Omega.{arith}
use Rattle.paper_checks.proofs.Spreading.{by_there, by_past}
use Rattle.paper_checks.proofs.spoilt.by_of.Goals as goal

pub returns-then-goal-lt-MOST_GOALS : goal.returns-then-goal-lt-MOST_GOALS
returns-then-goal-lt-MOST_GOALS c = by_there c.args.told.now c.args.goal

pub returns-else-goal-lt-MOST_GOALS : goal.returns-else-goal-lt-MOST_GOALS
returns-else-goal-lt-MOST_GOALS c = by_past c.args.told.now c.args.goal (omega arith) c.if-goal-lt-MOST_GOALS.false
