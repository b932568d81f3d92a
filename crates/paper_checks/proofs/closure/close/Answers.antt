use Rattle.paper_checks.proofs.Closing.{closed_none, closed_more}
use Rattle.paper_checks.proofs.closure.close.Goals as goal

pub loop-k-init : goal.loop-k-init
loop-k-init c = closed_none _

pub loop-k-preserved : goal.loop-k-preserved
loop-k-preserved c = closed_more _ _ _ _ c.loop-k-test.true c.loop-k.invariant c.join_rows.ensures
