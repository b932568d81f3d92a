-- The loop meets its contract: whatever the walk now comes to, the walk that was begun with comes to.
use mathlib.Core.Path.{◌≡◌}
use Rattle.search.specs.Falls.{left_of}
use Rattle.search.specs.Walk.{Walk, walking, counts, Comes}
use Rattle.search.proofs.ensure_root_answer.ensure_root_answer.Given as goal

abbrev pub invariant-loop-course : goal.invariant-loop-course
invariant-loop-course l = ((x : Walk) → Comes l.book l.asked (walking l.course l.stores l.stack) x
    → Comes l.book l.asked (walking l.initial.course l.initial.stores l.initial.stack) x)
    × (counts l.stores l.stack ≡ counts l.initial.stores l.initial.stack)

abbrev pub decreases-loop-course : goal.decreases-loop-course
decreases-loop-course l = left_of l.asked l.course
