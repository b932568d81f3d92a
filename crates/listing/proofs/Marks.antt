-- Only a stop marks a forest: what `Listed` of the promises says of a peek, without the stops' numbers.
use Prim.Native.Nat.{ℕ}
use mathlib.Core.Path.{◌≡◌}
use Rattle.definitions.specs.Tables.{Forest}
use Rattle.definitions.specs.Turn.{Ending, found, fail, cut, stopped}
use Rattle.definitions.specs.Forest.{Peeked, peek_rounds}
use Rattle.promises.proofs.Listed.Searches.{Ends, rounds_end}

-- unless a stop ended it, the mark is m
abbrev pub MarkStays : ℕ → Ending → Forest → Type 0
MarkStays m (found a) f = f.mark ≡ m
MarkStays m (fail e) f = f.mark ≡ m
MarkStays m cut f = f.mark ≡ m
MarkStays m (stopped n) f = Unit {0}

abbrev pub PeekMarks : ℕ → Peeked → Type 0
PeekMarks m p = MarkStays m p.ending p.forest

stays : (m : ℕ) (e : Ending) (f : Forest) → Ends m e f.mark → MarkStays m e f
stays m (found a) f h = h
stays m (fail e) f h = h
stays m cut f h = h
stays m (stopped n) f h = tt

pub peek_mark : (m root limit : ℕ) (more k index : ℕ) (f : Forest) → f.mark ≡ m → PeekMarks m (peek_rounds more limit k root index f)
peek_mark m root limit more k index f h =
    let p = peek_rounds more limit k root index f in
    stays m p.ending p.forest (rounds_end more limit k root index f h).ends
