use native.Mathlib.Omega.{arith}
use Rattle.forest.specs.declared.open.Opened.{Opened}
use Rattle.forest.specs.Open.{opened_to}
use Rattle.listing.proofs.Loops.{along_start, along_over, along_opened, turn_told, less_told}
use borrow.Author.Rules.{rules}
use Rattle.listing.proofs.goals.list_goals.Goals as goal

pub loop-p-init : goal.loop-p-init
loop-p-init c = (omega arith, omega arith, search along_start)

pub returns-then-p : goal.returns-then-p
returns-then-p c = search along_over

pub loop-p-preserved-then-p-2 : goal.loop-p-preserved-then-p-2
loop-p-preserved-then-p-2 c =
    let now = c.loop-p in
    let o : Opened = opened_to c.open_goal-opening.result c.open_goal-opening.new.self in (
      search rules,
      search rules,
      along_opened _ _ _ _ _ now.invariant.2 c.if-p.false c.if-p-2.true o c.open_goal-opening.ensures _ _ c.opened-p.ensures,
    )

pub loop-p-smaller : goal.loop-p-smaller
loop-p-smaller c =
    let now = c.loop-p in
    let asks = c.ask.ensures in
    let says = c.serve.ensures in
    less_told _ _ _ _ _ now.invariant.2 c.if-p.false c.if-p-2.false
    _ _ now.calls _ _ now.invariant.0 now.invariant.1 asks says _ _ c.told-p.ensures

pub loop-p-preserved : goal.loop-p-preserved
loop-p-preserved c =
    let now = c.loop-p in
    let asks = c.ask.ensures in
    let says = c.serve.ensures in
    let turn = turn_told _ _ _ _ _ now.invariant.2 c.if-p.false c.if-p-2.false
    _ _ now.calls _ _ now.invariant.0 now.invariant.1 asks says _ _ c.told-p.ensures in
    (turn.0, turn.1, turn.2)
