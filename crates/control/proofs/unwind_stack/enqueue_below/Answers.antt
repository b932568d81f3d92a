use Prim.Native.Nat.{◌-◌}
use native.Mathlib.Omega.{arith}
use mathlib.Core.Path.{sym, ap, ◌∙◌}
use Rattle.stores.specs.Places.{places}
use Rattle.control.specs.UnwindStack.{all_back}
use Rattle.control.proofs.UnwindStackCases.{back_on}
use Rattle.control.proofs.unwind_stack.enqueue_below.Goals as goal

pub loop-i-preserved : goal.loop-i-preserved
loop-i-preserved c =
    let a = c.args in
    let l = c.loop-i in
    λ top. ap (all_back a.entry_table.now a.active.now (l.i - 1)) (c.enqueue_active.ensures top)
    ∙ sym (back_on a.entry_table.now a.active.now l.i (omega arith) (places l.next l.tail l.len top))
    ∙ l.invariant top
