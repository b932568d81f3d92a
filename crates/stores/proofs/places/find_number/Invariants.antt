-- `find_number` meets its contract: what is found in what is left of the ring is what is found in the whole.
use Prim.Native.Nat.{◌-◌}
use mathlib.Core.Path.{◌≡◌}
use lib.ListN.{drop, get_or}
use Rattle.rings.specs.Rings.{walk, ring_of}
use Rattle.stores.specs.Places.{numbered, found_in}
use Rattle.stores.proofs.places.find_number.Given as goal

abbrev pub invariant-loop-step : goal.invariant-loop-step
invariant-loop-step l =
    found_in (numbered l.by_key l.variant l.v l.key l.k) (drop l.skip (walk (get_or l.len l.t 0 - l._step) l.next l.prev))
    ≡ found_in (numbered l.by_key l.variant l.v l.key l.k) (drop l.from (ring_of l.next l.tail l.len l.t))
