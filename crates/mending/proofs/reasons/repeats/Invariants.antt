-- `repeats`: at each turn the clauses that are left decide.
use mathlib.Core.Path.{◌≡◌}
use Rattle.book.specs.Repeats.{lent_by}
use Rattle.mending.specs.Reasons.{repeats as repeatsOf}
use Rattle.mending.proofs.Coding.{repeats_left}
use Rattle.mending.proofs.reasons.repeats.Given as goal

abbrev pub invariant-loop-d : goal.invariant-loop-d
invariant-loop-d l = repeats_left (lent_by l.b) l.reasons l.first l.c l.d ≡ repeatsOf (lent_by l.b) l.reasons l.first l.c
