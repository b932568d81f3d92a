use Rattle.book.proofs.TwiceInBook.{goal_few}
use Rattle.paper_checks.specs.Spoilers.{pass_told}
use Rattle.paper_checks.proofs.SpoiltBooks.{fills_to_start, fills_to_next, pass_at}
use Rattle.paper_checks.proofs.spoilt.pass.Goals as goal

pub loop-g-init : goal.loop-g-init
loop-g-init c = fills_to_start c.args.b.now (pass_told c.args.b.now c.args.told.now)

pub passed-by-requires : goal.passed-by-requires
passed-by-requires c =
    goal_few c.args.b.now c.requires _ _ _ c.loop-g-test.true c.first_clause.ensures c.clause_count.ensures

pub loop-g-preserved : goal.loop-g-preserved
loop-g-preserved c =
    fills_to_next c.args.b.now (pass_told c.args.b.now c.args.told.now) _ _ c.loop-g.invariant c.requires.few_goals
    c.loop-g-test.true _
    (pass_at c.args.b.now c.requires c.args.told.now _ _ _ _ c.first_clause.ensures c.clause_count.ensures c.passed-by.ensures)
