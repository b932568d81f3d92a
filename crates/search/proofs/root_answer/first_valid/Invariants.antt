-- `first_valid` meets its contract: what is found in what is left of the ring is what is found in the whole.
use Prim.Native.Nat.{◌-◌}
use mathlib.Core.Path.{◌≡◌}
use Rattle.rings.specs.Rings.{walk, ring_of}
use Rattle.search.specs.RootAnswer.{first_valid}
use Rattle.search.proofs.root_answer.first_valid.Given as goal

abbrev pub invariant-loop-i : goal.invariant-loop-i
invariant-loop-i l = first_valid l.answers.key l.from l.i (walk (l.count - l.i) l.ring.next l.prev)
    ≡ first_valid l.answers.key l.from 0 (ring_of l.answers.places.next l.answers.places.tail l.answers.places.len l.t)
