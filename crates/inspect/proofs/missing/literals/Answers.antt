use native.Mathlib.Omega.{arith}
use Rattle.inspect.proofs.Looking.{literals_step, literals_said}
use Rattle.inspect.proofs.missing.literals.Goals as goal

pub loop-j-preserved : goal.loop-j-preserved
loop-j-preserved c = (omega arith, omega arith, omega arith, search literals_step)

pub returns : goal.returns
returns c = search literals_said
