-- A decision with no copy: it is sound where its strand and its answer are, and leaves that strand.
use mathlib.Core.Bool.{false}
use mathlib.Core.Path.{◌≡◌}
use Rattle.strands.specs.declared.Answer.{Answer}
use Rattle.strands.specs.declared.Strand.{Strand}
use Rattle.strands.specs.View.{Sound, SoundAnswer}
use Rattle.control.specs.declared.decision.Deed.{Deed}
use Rattle.control.specs.Decision.{decided, SoundDecision, Leaves, Left, carried}

pub alone_sound : (deed : Deed) (t : Strand) (a : Answer) → Sound t → SoundAnswer a → SoundDecision (decided deed false t t a)
alone_sound deed t a o p = record { strand = o; copy = o; answer = p }

pub alone_leaves : (deed : Deed) (s t : Strand) (was x a : Answer) → Left deed s t → a ≡ carried deed was x
    → Leaves s was x (decided deed false t t a)
alone_leaves deed s t was x a l e = record { strand = l; copy = λ never. cc; answer = e }
