-- `cycles`: what goes round in the closed matrix goes round in the book.
use Rattle.paper_checks.proofs.Rounds.{marked}
use Rattle.paper_checks.proofs.cycles.cycles.Goals as goal

pub returns : goal.returns
returns c =
    marked c.args.b.now c.requires c.edges-m.result c.close.new.m c.edges-m.ensures c.close.ensures c.marks.result c.marks.ensures
