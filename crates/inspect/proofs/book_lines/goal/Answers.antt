-- `goal`: its line, then its clauses.
use Rattle.book.specs.View.{goal_viewed}
use Rattle.inspect.proofs.Lines.{goal_all}
use Rattle.inspect.proofs.book_lines.goal.Goals as goal

pub returns : goal.returns
returns c =
    goal_all c.args.g (goal_viewed c.args.book.now c.args.g) _ _ _
    c.goal_line.ensures c.clauses.ensures
