use borrow.Author.Rules.{rules}
use Rattle.mending.proofs.Telling.{clauses_step, clauses_said}
use Rattle.mending.proofs.lines.clause_lines.Goals as goal

pub loop-number-preserved : goal.loop-number-preserved
loop-number-preserved c =
    let a = c.args in
    record {
      puts =
          clauses_step a.reasons.now a.goal a.first a.count c.loop-number.number _ _ _ c.loop-number-test.true
          c.loop-number.invariant.puts c.reason_line.ensures.puts;
      same_buffer = search rules;
    }

pub returns-clause-puts : goal.returns-clause-puts
returns-clause-puts c =
    let a = c.args in
    clauses_said a.reasons.now a.goal a.first a.count c.loop-number.number _ _ c.loop-number-test.false c.loop-number.invariant.puts
