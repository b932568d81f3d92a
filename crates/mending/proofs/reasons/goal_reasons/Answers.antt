use Rattle.mending.proofs.Coding.{reasons_again}
use Rattle.mending.proofs.reasons.goal_reasons.Goals as goal

pub loop-k-preserved : goal.loop-k-preserved
loop-k-preserved c = search reasons_again
