use Rattle.paper_checks.proofs.Asking.{literals_begin, literals_again}
use Rattle.paper_checks.proofs.asks.literals_ask.Goals as goal

pub loop-j-init : goal.loop-j-init
loop-j-init c = literals_begin c.args.levels.now c.args.b.now c.args.c _ c.literal_count-count.ensures

pub loop-j-preserved : goal.loop-j-preserved
loop-j-preserved c =
    literals_again c.args.levels.now c.args.b.now c.args.c _ _ _ c.loop-j.invariant _ _ _ c.loop-j-test.true c.literal.ensures
    c.literal_asks.ensures c.max-most.ensures
