use Rattle.book.proofs.TwiceInBook.{goal_few}
use Rattle.paper_checks.proofs.SpoiltBooks.{told_at, fills_to_start, fills_to_next, fills_to_over, own_told_at, stands_as}
use Rattle.paper_checks.proofs.spoilt.themselves.Goals as goal

pub loop-g-init : goal.loop-g-init
loop-g-init c = fills_to_start c.args.b.now (told_at c.args.b.now 0)

pub own_spoil-own-requires : goal.own_spoil-own-requires
own_spoil-own-requires c =
    goal_few c.args.b.now c.requires _ _ _ c.loop-g-test.true c.first_clause.ensures c.clause_count.ensures

pub loop-g-preserved : goal.loop-g-preserved
loop-g-preserved c =
    fills_to_next c.args.b.now (told_at c.args.b.now 0) _ _ c.loop-g.invariant c.requires.few_goals c.loop-g-test.true _
    (own_told_at c.args.b.now c.requires _ _ _ c.loop-g-test.true c.first_clause.ensures c.clause_count.ensures _ _
    c.own_spoil-own.ensures c.by_itself-by.ensures)

pub returns : goal.returns
returns c =
    stands_as c.args.b.now 0 _ c.requires.few_goals
    (fills_to_over c.args.b.now (told_at c.args.b.now 0) _ _ c.loop-g.invariant c.loop-g-test.false)
