use Rattle.mending.proofs.Coding.{repeats_again}
use Rattle.mending.proofs.reasons.repeats.Goals as goal

pub loop-d-preserved : goal.loop-d-preserved
loop-d-preserved c = search repeats_again
