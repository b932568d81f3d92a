-- The search from i on is what is left of the whole search.
use Prim.Native.Nat.{◌-◌, min}
use mathlib.Core.Path.{◌≡◌}
use lib.ListN.{get_or}
use lib.Dec.{eqb}
use Rattle.stores.specs.Numbers.{first_at}
use Rattle.control.proofs.select_subgoal.first_noted.Given as goal

abbrev pub invariant-loop-i : goal.invariant-loop-i
invariant-loop-i l = first_at (λ j. eqb (get_or l.made.goals j 0) l.g) l.i (min l.made.count 8 - l.i)
    ≡ first_at (λ j. eqb (get_or l.made.goals j 0) l.g) 0 (min l.made.count 8)
