use Rattle.book.proofs.TwiceInBook.{goal_few, goal_keys, goal_has, goal_has_none}
use Rattle.book.proofs.repeats.book_repeat.Goals as goal

pub goal_repeat-requires : goal.goal_repeat-requires
goal_repeat-requires c =
    let b = c.args.b.now in
    let s = c.requires in
    let under = c.loop-g-test.true in
    record {
      count_bound = goal_few b s _ _ _ under c.first_clause.ensures c.clause_count.ensures;
      keys = goal_keys b s _ _ _ under c.first_clause.ensures c.clause_count.ensures c.keys-keys.result c.keys-keys.ensures;
    }

pub returns-in-Some : goal.returns-in-Some
returns-in-Some c =
    goal_has c.args.b.now c.requires _ _ _ c.loop-g-test.true c.first_clause.ensures
    c.clause_count.ensures c.loop-g.invariant _ c.in-Some.ensures

pub loop-g-preserved : goal.loop-g-preserved
loop-g-preserved c =
    goal_has_none c.args.b.now c.requires _ _ _ c.loop-g-test.true c.first_clause.ensures
    c.clause_count.ensures c.loop-g.invariant c.in_default.ensures
