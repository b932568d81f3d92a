use borrow.Author.Rules.{rules}
use Rattle.book.proofs.TwiceInBook.{goal_few}
use Rattle.xsb_export.proofs.Exporting.{goals_step, goals_said}
use Rattle.xsb_export.proofs.export.rules.Goals as goal

pub rule_lines-requires : goal.rule_lines-requires
rule_lines-requires c = search goal_few

pub loop-g-preserved : goal.loop-g-preserved
loop-g-preserved c = record {
  puts =
      goals_step _ c.requires c.loop-g.g _ _ _ _ _ c.loop-g-test.true c.first_clause.ensures c.clause_count.ensures
      c.loop-g.invariant.puts c.rule_lines.ensures.puts;
  same_buffer = search rules;
}

pub returns-clause-puts : goal.returns-clause-puts
returns-clause-puts c = search goals_said
