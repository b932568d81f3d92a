use Rattle.paper_checks.proofs.Closing.{rows_more}
use Rattle.paper_checks.proofs.closure.join_rows.Goals as goal

pub loop-i-preserved : goal.loop-i-preserved
loop-i-preserved c = rows_more _ _ _ _ _ c.requires c.loop-i.invariant c.join_row.ensures
