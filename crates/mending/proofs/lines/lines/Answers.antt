use borrow.Author.Rules.{rules}
use Rattle.mending.proofs.Telling.{goals_step, goals_said, goal_few}
use Rattle.mending.proofs.lines.lines.Goals as goal

pub clause_lines-requires : goal.clause_lines-requires
clause_lines-requires c = search goal_few

pub loop-g-preserved : goal.loop-g-preserved
loop-g-preserved c = record {
  puts =
      goals_step _ c.requires.formed c.loop-g.g _ _ c.loop-g-test.true c.first_clause.ensures c.clause_count.ensures
      _ _ _ _ c.requires.reasoned c.loop-g.invariant.puts c.clause_lines.ensures.puts;
  same_buffer = search rules;
}

pub returns-clause-puts : goal.returns-clause-puts
returns-clause-puts c = search goals_said
