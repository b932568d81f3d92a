use native.Mathlib.Omega.{arith}
use Rattle.book.proofs.TwiceInBook.{goal_few}
use Rattle.paper_checks.proofs.Members.{names_few}
use Rattle.paper_checks.proofs.Leading.{goals_more, goals_all}
use Rattle.paper_checks.proofs.edges.edges.Goals as goal

pub goal_edges-requires-clause-count_bound : goal.goal_edges-requires-clause-count_bound
goal_edges-requires-clause-count_bound c =
    let few = goal_few c.args.b.now c.requires _ _ _ c.loop-g-test.true c.first_clause-first.ensures c.clause_count-count.ensures in
    omega arith

pub goal_edges-requires-clause-by_index : goal.goal_edges-requires-clause-by_index
goal_edges-requires-clause-by_index c =
    names_few c.args.b.now c.requires _ _ _ c.loop-g-test.true c.first_clause-first.ensures c.clause_count-count.ensures

pub loop-g-preserved : goal.loop-g-preserved
loop-g-preserved c =
    goals_more c.args.b.now _ _ _ _ _ _ _ c.first_clause-first.ensures c.clause_count-count.ensures c.loop-g.invariant
    c.raise.ensures c.goal_edges.ensures

pub returns : goal.returns
returns c = goals_all c.args.b.now c.requires _ _ c.loop-g.auto.g-end c.loop-g-test.false c.loop-g.invariant
