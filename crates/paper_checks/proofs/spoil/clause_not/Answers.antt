use Rattle.paper_checks.proofs.Spoiling.{nots_again}
use Rattle.paper_checks.proofs.spoil.clause_not.Goals as goal

pub loop-j-preserved : goal.loop-j-preserved
loop-j-preserved c =
    nots_again c.args.b.now c.args.k c.args.c _ _ c.loop-j.invariant _ _ c.loop-j-test.true c.literal.ensures
    c.is_negative.ensures c.if-is_negative.false
