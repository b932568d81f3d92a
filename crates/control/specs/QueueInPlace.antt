-- ORDER 6 of what control calls. A turn looks along the queue of the top's table (ensure_root_answer, `next_strand`): `find_strand` is lent
-- the store's own numbers and writes none. Once the turn is decided, one call on the store's own arrays takes what was found (perform_deed,
-- `leave`): `ring_unlink`. Neither has a list of places.
use Rattle.std.specs.Prelude.{ℕ, Bool, true, false, get_or}
use Rattle.definitions.specs.Turn as turns
use Rattle.rings.specs.Rings.{place_if}
use Rattle.stores.specs.declared.queue.Strands.{Strands}
use Rattle.stores.specs.Queue.{with_places}
use Rattle.stores.specs.QueueInPlace.{InPlace}
use Rattle.stores.specs.View.{mode}
use Rattle.control.specs.declared.ensure_root_answer.Next.{Next}
use Rattle.control.specs.Perform.{has_strand}
use Rattle.control.specs.PerformDeed.{left_rings}
use Rattle.control.specs.Stores.{Stores, first_strands, held_places}
use Rattle.control.specs.TurnReads.{top, next, idle}

-- the strands that a turn goes on from: what was found has left its queue (`begun`, in PerformStrand, and `pursued`, in crate
-- `number_turns`, have it so); as they were where the turn has no strand
abbrev pub taken_out : (has_strand : Bool) → Next → (t : ℕ) → Strands → Strands
taken_out true p t s = with_places s (left_rings p.queued t p.before s.places)
taken_out false p t s = s

-- What a turn's two calls do to the queue of the top's table, where the top, the entry at n, has no active strand to go on with. Whether
-- the turn has a strand is the test of `performed` (Perform): without one no act takes any.
abbrev pub TakesInPlace : (z : Stores) → (n : ℕ) → Type 0
TakesInPlace z n =
    let t = get_or z.stack.table n 0 in
    InPlace (first_strands z.book) z.tables.count (held_places z)
    (turns.eligible (get_or z.stack.clock n 0) (mode (get_or z.tables.complete t 0))) t z.strands
    (taken_out (has_strand (idle z)) (next z) (top z).table z.strands) (place_if (has_strand (idle z)) (next z).place)
