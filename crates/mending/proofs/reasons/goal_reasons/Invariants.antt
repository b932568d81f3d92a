-- `goal_reasons`: at each turn the reasons that are left, found from there on, make up all.
use mathlib.Core.Path.{◌≡◌}
use Rattle.book.specs.Repeats.{lent_by}
use Rattle.mending.specs.Reasons.{reasons_from}
use Rattle.mending.proofs.Coding.{reasons_left}
use Rattle.mending.proofs.reasons.goal_reasons.Given as goal

abbrev pub invariant-loop-k : goal.invariant-loop-k
invariant-loop-k l = reasons_left (lent_by l.b) l.b.goals l.first l.count l.k l.reasons
    ≡ reasons_from (lent_by l.b) l.b.goals l.first l.first l.count l.initial.reasons
