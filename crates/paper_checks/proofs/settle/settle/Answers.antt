use native.Mathlib.Omega.{arith}
use Rattle.paper_checks.proofs.Ending.{stands_start, stands_low, same_told, other_told, settled_now, stands_next, never_settled}
use Rattle.paper_checks.proofs.settle.settle.Goals as goal

pub loop-k-init : goal.loop-k-init
loop-k-init c = stands_start c.args.b.now

pub pass-next-requires-clause-low : goal.pass-next-requires-clause-low
pass-next-requires-clause-low c = stands_low c.args.b.now c.requires _ _ c.loop-k.invariant

pub returns-then-eq : goal.returns-then-eq
returns-then-eq c =
    settled_now c.args.b.now c.requires _ _ c.loop-k.invariant _ c.pass-next.ensures
    (same_told c.args.b.now c.requires _ _ c.loop-k.invariant _ c.pass-next.ensures _ c.eq.ensures c.if-eq.true) c.loop-k-test.true

pub loop-k-preserved : goal.loop-k-preserved
loop-k-preserved c =
    stands_next c.args.b.now c.requires _ _ c.loop-k.invariant _ c.pass-next.ensures
    (other_told c.args.b.now c.requires _ _ c.loop-k.invariant _ c.pass-next.ensures _ c.eq.ensures c.if-eq.false) c.loop-k-test.true

pub returns-else-eq : goal.returns-else-eq
returns-else-eq c =
    let next = stands_next c.args.b.now c.requires _ _ c.loop-k.invariant _ c.pass-next.ensures
    (other_told c.args.b.now c.requires _ _ c.loop-k.invariant _ c.pass-next.ensures _ c.eq.ensures c.if-eq.false) c.loop-k-test.true in
    never_settled c.args.b.now c.requires _ _ next (omega arith)
