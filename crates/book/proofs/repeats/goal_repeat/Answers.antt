use Rattle.book.specs.Repeats.{lent_by, clause_read}
use Rattle.book.proofs.Twice.{behind_found, behind_again}
use Rattle.book.proofs.repeats.goal_repeat.Goals as goal

pub returns-then-e-c : goal.returns-then-e-c
returns-then-e-c c =
    let a = c.args in
    behind_found (clause_read (lent_by a.b.now)) a.g a.first _ a.count _ c.loop-k.invariant c.loop-k-test.true _ c.earlier-e.ensures c.if-e-c.true

pub loop-k-preserved : goal.loop-k-preserved
loop-k-preserved c =
    let a = c.args in
    behind_again (clause_read (lent_by a.b.now)) a.g a.first _ a.count _ c.loop-k.invariant c.loop-k-test.true _ c.earlier-e.ensures c.if-e-c.false
