-- `book_repeat`: no goal before goal g has a clause twice.
use Rattle.book.proofs.TwiceInBook.{FromGoal}
use Rattle.book.proofs.repeats.book_repeat.Given as goal

abbrev pub invariant-loop-g : goal.invariant-loop-g
invariant-loop-g l = FromGoal l.b l.g
