-- `book_place`: each goal before goal g is plain.
use Rattle.paper_checks.proofs.Tested.{GoalsLeft}
use Rattle.paper_checks.proofs.plain.book_place.Given as goal

abbrev pub invariant-loop-g : goal.invariant-loop-g
invariant-loop-g l = GoalsLeft l.b l.g
