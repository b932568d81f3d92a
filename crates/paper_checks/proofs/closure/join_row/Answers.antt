use native.Mathlib.Omega.{arith}
use Rattle.paper_checks.proofs.Closing.{joined_more, joined_row}
use Rattle.paper_checks.proofs.closure.join_row.Goals as goal

pub loop-j-preserved : goal.loop-j-preserved
loop-j-preserved c =
    let w = c.way_of.ensures in
    let lt = c.loop-j-test.true in
    joined_more _ _ _ _ _ _ _ c.loop-j.invariant lt w.0 w.1 w.2 c.raise.ensures

pub returns : goal.returns
returns c =
    let zero = c.if-m-i-eq0.false in
    joined_row _ _ _ _ _ c.loop-j-test.false (omega arith) c.loop-j.invariant c.loop-j.auto.j-end
