use Rattle.paper_checks.proofs.Spoiling.{clauses_again}
use Rattle.paper_checks.proofs.spoil.clauses_not.Goals as goal

pub loop-k-preserved : goal.loop-k-preserved
loop-k-preserved c = clauses_again c.args.b.now c.args.first c.args.count _ c.loop-k.invariant c.loop-k-test.true c.in_default.ensures
