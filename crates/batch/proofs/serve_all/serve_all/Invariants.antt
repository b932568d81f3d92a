-- The loop meets its contract: whatever the stage now comes to, the stage that was begun with comes to.
use mathlib.Core.Path.{◌≡◌}
use Rattle.search.specs.Walk.{standing, counts}
use Rattle.batch.specs.Serve.{Stage, stage}
use Rattle.batch.specs.ServeAll.{Serves, serving_left}
use Rattle.batch.proofs.serve_all.serve_all.Given as goal

abbrev pub invariant-loop-s : goal.invariant-loop-s
invariant-loop-s l = ((u : Stage)
    → Serves l.book l.clock_limit l.calls l.count (stage l.s (standing l.stores l.stack l.s.course.clock) l.replies) u
    → Serves l.book l.clock_limit l.calls l.count
    (stage l.fn.from (standing l.initial.stores l.initial.stack l.fn.from.course.clock) l.initial.replies) u)
    × (counts l.stores l.stack ≡ counts l.initial.stores l.initial.stack)

abbrev pub decreases-loop-s : goal.decreases-loop-s
decreases-loop-s l = serving_left l.count l.s
