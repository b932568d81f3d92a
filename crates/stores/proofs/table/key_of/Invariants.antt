-- `key_of` meets its contract: from the last goal to the first, the key of those passed.
use mathlib.Core.Path.{◌≡◌}
use lib.ListN.{take, drop}
use Prim.Native.Nat.{min}
use Rattle.stores.specs.Table.{key_of}
use Rattle.stores.proofs.table.key_of.Given as goal

abbrev pub invariant-loop-i : goal.invariant-loop-i
invariant-loop-i l = l.k ≡ key_of (drop l.i (take (min l.x.delayed_count 8) l.x.delayed))
