use Rattle.paper_checks.proofs.Leading.{literals_more, literals_all}
use Rattle.paper_checks.proofs.edges.clause_edges.Goals as goal

pub loop-k-preserved : goal.loop-k-preserved
loop-k-preserved c =
    literals_more c.args.b.now c.args.g c.args.c _ _ _ _ _ _ c.loop-k.invariant c.literal-l.ensures c.edge_of.ensures c.raise.ensures

pub returns : goal.returns
returns c =
    literals_all c.args.b.now c.args.g c.args.c _ _ _ _ c.literal_count-count.ensures c.loop-k.auto.k-end c.loop-k-test.false
    c.loop-k.invariant
