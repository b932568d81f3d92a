use Rattle.paper_checks.proofs.Tested.{literals_again, literal_found}
use Rattle.paper_checks.proofs.plain.literals_place.Goals as goal

pub returns-in-Some : goal.returns-in-Some
returns-in-Some c =
    literal_found c.args.b.now c.args.g c.args.k c.args.c _ _ c.loop-j.invariant _ c.loop-j-test.true c.literal.ensures _ c.in-Some.ensures

pub loop-j-preserved : goal.loop-j-preserved
loop-j-preserved c =
    literals_again c.args.b.now c.args.g c.args.k c.args.c _ _ c.loop-j.invariant _ c.loop-j-test.true c.literal.ensures
    c.in_default.ensures
