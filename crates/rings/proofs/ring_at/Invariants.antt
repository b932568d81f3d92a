-- `ring_at` meets its contract: what is left of the way from where it stands is the whole way from the last place.
use Prim.Native.Nat.{◌-◌}
use mathlib.Core.Path.{◌≡◌}
use lib.ListN.{get_or}
use Rattle.rings.proofs.Walks.{after}
use Rattle.rings.proofs.ring_at.Given as goal

abbrev pub invariant-loop-step : goal.invariant-loop-step
invariant-loop-step l = after (l.index - l._step) l.next l.prev ≡ after l.index l.next (get_or l.tail l.table 0)
