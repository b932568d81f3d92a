use mathlib.Core.Path.{sym, subst}
use Rattle.mending.proofs.Telling.{goal_few}
use Rattle.mending.proofs.AllReasons.{ReasonedTo, begins, again, whole}
use Rattle.mending.proofs.reasons.reasons_of.Goals as goal

pub loop-g-init : goal.loop-g-init
loop-g-init c = begins _ _ c.none-reasons.ensures

pub goal_reasons-requires-clause-count_bound : goal.goal_reasons-requires-clause-count_bound
goal_reasons-requires-clause-count_bound c =
    goal_few _ c.requires _ _ _ c.loop-g-test.true c.first_clause.ensures c.clause_count.ensures

pub loop-g-preserved : goal.loop-g-preserved
loop-g-preserved c =
    subst (ReasonedTo _ _) (sym c.goal_reasons.ensures)
    (again _ c.requires c.loop-g.g _ _ c.loop-g-test.true c.first_clause.ensures c.clause_count.ensures _ c.loop-g.invariant)

pub returns : goal.returns
returns c = search whole
