-- `settled`: by the word, and by whether an answer was skipped.
use Rattle.listing.proofs.Words.{unsettled_is, settled_other, settled_whole}
use Rattle.listing.proofs.lines.settled.Goals as goal
use Rattle.listing.proofs.lines.settled.Goals.{else-said-eq5-via-then-said-eq5+else-skipped, else-said-eq5-via-else-said-eq5}

pub returns-then-skipped : goal.returns-then-skipped
returns-then-skipped c = search unsettled_is

pub returns-else-said-eq5 : goal.returns-else-said-eq5
returns-else-said-eq5 c = elim c.else-said-eq5.branch [
  | else-said-eq5-via-then-said-eq5+else-skipped w ↦ search settled_whole
  | else-said-eq5-via-else-said-eq5 w ↦ search settled_other
]
