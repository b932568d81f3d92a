use Rattle.book.proofs.TwiceInBook.{goal_few}
use Rattle.paper_checks.proofs.Settling.{pass_start}
use Rattle.paper_checks.proofs.settle.pass.Goals as goal

pub loop-g-init : goal.loop-g-init
loop-g-init c = pass_start c.args.levels.now c.args.b.now

pub clauses_ask-requires-clause-count_bound : goal.clauses_ask-requires-clause-count_bound
clauses_ask-requires-clause-count_bound c =
    goal_few c.args.b.now c.requires.sound _ _ _ c.loop-g-test.true c.first_clause.ensures c.clause_count.ensures
