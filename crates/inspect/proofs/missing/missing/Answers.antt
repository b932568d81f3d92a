use Rattle.inspect.proofs.Looking.{goals_step, goals_said}
use Rattle.inspect.proofs.missing.missing.Goals as goal

pub loop-g-preserved : goal.loop-g-preserved
loop-g-preserved c = search goals_step

pub returns : goal.returns
returns c = search goals_said
