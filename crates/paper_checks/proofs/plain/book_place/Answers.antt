use Rattle.book.proofs.TwiceInBook.{goal_few}
use Rattle.paper_checks.proofs.Tested.{clauses_found, goals_again}
use Rattle.paper_checks.proofs.plain.book_place.Goals as goal

pub clauses_place-requires : goal.clauses_place-requires
clauses_place-requires c =
    goal_few c.args.b.now c.requires _ _ _ c.loop-g-test.true c.first_clause.ensures c.clause_count.ensures

pub returns-in-Some-clauses_place : goal.returns-in-Some-clauses_place
returns-in-Some-clauses_place c =
    clauses_found c.args.b.now c.requires _ c.loop-g.invariant c.loop-g-test.true c.in_default.ensures _ _
    c.first_clause.ensures c.clause_count.ensures _ c.in-Some-clauses_place.ensures

pub loop-g-preserved : goal.loop-g-preserved
loop-g-preserved c =
    goals_again c.args.b.now c.requires _ c.loop-g.invariant c.loop-g-test.true c.in_default.ensures _ _
    c.first_clause.ensures c.clause_count.ensures c.in_default-clauses_place.ensures
