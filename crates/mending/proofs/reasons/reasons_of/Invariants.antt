-- `reasons_of`: at each turn the goals before have their reasons, and behind them there is none (`ReasonedTo`).
use Rattle.mending.proofs.AllReasons.{ReasonedTo}
use Rattle.mending.proofs.reasons.reasons_of.Given as goal

abbrev pub invariant-loop-g : goal.invariant-loop-g
invariant-loop-g l = ReasonedTo l.b l.g l.reasons
