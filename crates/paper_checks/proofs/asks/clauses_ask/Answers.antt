use mathlib.Core.Path.{refl}
use Rattle.paper_checks.proofs.Asking.{clauses_again}
use Rattle.paper_checks.proofs.asks.clauses_ask.Goals as goal

pub loop-k-preserved : goal.loop-k-preserved
loop-k-preserved c =
    clauses_again c.args.levels.now c.args.b.now c.args.first c.args.count _ _ c.loop-k.invariant _ _ _ c.loop-k-test.true refl
    c.literals_ask.ensures c.max-most.ensures
