-- `settle` meets its contract: whatever the walk now settles to, the walk that it was begun with settles to.
use mathlib.Core.Bool.{true}
use mathlib.Core.Path.{◌≡◌}
use Rattle.search.specs.Walk.{Walk, walking, counts, may_settle, Settles}
use Rattle.search.proofs.Settling.{rest_by, turns_left}
use Rattle.search.proofs.settle.settle.Given as goal

abbrev pub invariant-loop-more : goal.invariant-loop-more
invariant-loop-more l = (l.more ≡ true → may_settle l.asked l.c.done ≡ true)
    × ((u : Walk) → rest_by l.more l.asked (walking l.c l.stores l.stack) u
    → Settles l.asked (walking l.fn.from l.initial.stores l.initial.stack) u)
    × (counts l.stores l.stack ≡ counts l.initial.stores l.initial.stack)

abbrev pub decreases-loop-more : goal.decreases-loop-more
decreases-loop-more l = turns_left l.more l.asked.limit l.c.done
