use Rattle.std.proofs.Common.{arith}
use Rattle.listing.proofs.Words.{fill_start, fill_step, fill_done}
use Rattle.listing.proofs.lines.fill.Goals as goal

pub loop-line-init : goal.loop-line-init
loop-line-init c = fill_start _ _

pub loop-line-preserved : goal.loop-line-preserved
loop-line-preserved c = fill_step _ c.loop-line._line _ _ _ (omega arith) c.loop-line.invariant c.blank.ensures

pub returns : goal.returns
returns c = fill_done _ c.loop-line._line _ _ (omega arith) c.loop-line.invariant
