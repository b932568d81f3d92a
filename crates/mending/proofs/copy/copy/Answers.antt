use Rattle.mending.proofs.Copies.{copy_step, copy_done}
use borrow.Author.Rules.{rules}
use Rattle.mending.proofs.copy.copy.Goals as goal

pub loop-b-preserved : goal.loop-b-preserved
loop-b-preserved c = record { puts = search (copy_step, rules); same_buffer = search rules }

pub returns-clause-puts : goal.returns-clause-puts
returns-clause-puts c = search copy_done
