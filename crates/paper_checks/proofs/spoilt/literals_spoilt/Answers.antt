use Rattle.paper_checks.proofs.Spreading.{literals_begin, literals_again, literal_found}
use Rattle.paper_checks.proofs.spoilt.literals_spoilt.Goals as goal

pub loop-j-init : goal.loop-j-init
loop-j-init c = literals_begin c.args.told.now c.args.b.now c.args.c _ c.literal_count-count.ensures

pub returns-in-Some : goal.returns-in-Some
returns-in-Some c =
    literal_found c.args.told.now c.args.b.now c.args.c _ _ c.loop-j.invariant _ c.loop-j-test.true c.literal-l.ensures _ c.in-Some.ensures

pub loop-j-preserved : goal.loop-j-preserved
loop-j-preserved c =
    literals_again c.args.told.now c.args.b.now c.args.c _ _ c.loop-j.invariant _ c.loop-j-test.true
    c.literal-l.ensures c.in_default.ensures
