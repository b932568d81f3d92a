-- `find_strand` meets its contract: what is found in what is left of the queue is what is found in the whole.
use Prim.Native.Nat.{◌-◌}
use mathlib.Core.Path.{◌≡◌}
use lib.ListN.{get_or}
use Rattle.rings.specs.Rings.{walk, ring_of}
use Rattle.stores.specs.Queue.{eligible, spot_from}
use Rattle.stores.proofs.queue.find_strand.Given as goal

abbrev pub invariant-loop-step : goal.invariant-loop-step
invariant-loop-step l =
    spot_from (eligible l.time l.ambiguous l.clock l.complete) l.prev (walk (get_or l.len l.t 0 - l._step) l.next l.prev)
    ≡ spot_from (eligible l.time l.ambiguous l.clock l.complete) (get_or l.tail l.t 0) (ring_of l.next l.tail l.len l.t)
