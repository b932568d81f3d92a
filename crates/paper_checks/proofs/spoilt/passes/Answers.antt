use Rattle.paper_checks.proofs.SpoiltBooks.{stands_next, stands_over}
use Rattle.paper_checks.proofs.spoilt.passes.Goals as goal

pub loop-made-preserved : goal.loop-made-preserved
loop-made-preserved c = stands_next c.args.b.now c.requires.sound _ _ c.loop-made.invariant _ c.pass-told.ensures

pub returns : goal.returns
returns c = stands_over c.args.b.now _ _ c.loop-made.invariant c.loop-made.auto.made-end c.loop-made-test.false
