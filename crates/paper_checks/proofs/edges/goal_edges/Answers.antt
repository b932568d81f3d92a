use Rattle.paper_checks.proofs.Raising.{raised_more}
use Rattle.paper_checks.proofs.Leading.{ClauseStep, clauses_all}
use Rattle.paper_checks.proofs.edges.goal_edges.Goals as goal

pub loop-d-preserved : goal.loop-d-preserved
loop-d-preserved c = raised_more (ClauseStep c.args.b.now c.args.g c.args.first) _ c.loop-d.invariant c.clause_edges.ensures

pub returns : goal.returns
returns c = clauses_all c.args.b.now c.args.g c.args.first _ _ _ _ c.loop-d.auto.d-end c.loop-d-test.false c.loop-d.invariant
