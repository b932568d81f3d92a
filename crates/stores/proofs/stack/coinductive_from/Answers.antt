use Prim.Native.Nat.{min}
use native.Mathlib.Omega.{arith}
use mathlib.Core.Path.{◌∙◌, sym}
use Rattle.stores.specs.Stack.{coinductive_at}
use Rattle.stores.proofs.NumbersCases.{all_next}
use Rattle.stores.proofs.stack.coinductive_from.Goals as goal

pub loop-i-preserved : goal.loop-i-preserved
loop-i-preserved c =
    let a = c.args in
    let l = c.loop-i in
    sym (all_next (coinductive_at a.table.now a.coinductive.now) (min a.depth 64) l.i (omega arith)
    (sym c.flag_at.ensures ∙ c.if-not-flag_at.false)) ∙ l.invariant
