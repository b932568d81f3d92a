use borrow.Author.Rules.{rules}
use Rattle.xsb_export.proofs.Exporting.{more_step, more_said}
use Rattle.xsb_export.proofs.rules.more.Goals as goal

pub loop-j-preserved : goal.loop-j-preserved
loop-j-preserved c =
    let l = c.loop-j in
    record {
      puts =
          more_step c.args.b.now c.args.c c.args.count l.j _ _ _ _ _ c.loop-j-test.true l.invariant.puts c.text.ensures.puts
          c.literal.ensures c.literal-in-loop-j.ensures.puts;
      same_buffer = search rules;
    }

pub returns-clause-puts : goal.returns-clause-puts
returns-clause-puts c = search more_said
