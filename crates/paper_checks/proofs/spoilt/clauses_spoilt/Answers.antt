use Rattle.paper_checks.proofs.Spreading.{clauses_begin, clauses_again}
use Rattle.paper_checks.proofs.spoilt.clauses_spoilt.Goals as goal

pub loop-k-init : goal.loop-k-init
loop-k-init c = clauses_begin c.args.told.now c.args.b.now c.args.first c.args.count

pub loop-k-preserved : goal.loop-k-preserved
loop-k-preserved c =
    clauses_again c.args.told.now c.args.b.now c.args.first c.args.count _ c.loop-k.invariant c.loop-k-test.true c.in_default.ensures
