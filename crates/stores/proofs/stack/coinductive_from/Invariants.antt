-- `coinductive_from` meets its contract: the test from i on is what is left of the whole test.
use Prim.Native.Nat.{◌-◌}
use mathlib.Core.Path.{◌≡◌}
use Rattle.stores.specs.Numbers.{all_from, within}
use Rattle.stores.specs.Stack.{coinductive_at}
use Rattle.stores.proofs.stack.coinductive_from.Given as goal

abbrev pub invariant-loop-i : goal.invariant-loop-i
invariant-loop-i l = all_from (coinductive_at l.table l.coinductive) l.i (within l.depth - l.i)
    ≡ all_from (coinductive_at l.table l.coinductive) l.from (within l.depth - l.from)
