-- `first_of` meets its contract: the search from i on is what is left of the whole search.
use Prim.Native.Nat.{◌-◌}
use mathlib.Core.Path.{◌≡◌}
use lib.ListN.{get_or}
use lib.Dec.{eqb}
use Rattle.stores.specs.Numbers.{first_at, within}
use Rattle.stores.proofs.numbers.first_of.Given as goal

abbrev pub invariant-loop-i : goal.invariant-loop-i
invariant-loop-i l =
    first_at (λ j. eqb (get_or l.xs j 0) l.x) l.i (within l.n - l.i) ≡ first_at (λ j. eqb (get_or l.xs j 0) l.x) 0 (within l.n)
