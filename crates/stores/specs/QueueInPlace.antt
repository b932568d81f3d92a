-- ORDER 6, drop the temporary queue: the first eligible strand is taken within the queue itself, with no second list of entries; the order
-- left behind is that of document 01, and no other queue changes. Proved of `take_strand` in this crate's proofs/QueueInPlace, and of what
-- control calls in control's.
use Rattle.std.specs.Prelude.{ℕ, suc, Bool, List, ◌∷◌, ◌++◌, ◌≡◌, take, drop, get_or}
use Rattle.std.proofs.Math.Option.{none, some}
use Rattle.definitions.specs.Lists.{position}
use Rattle.definitions.specs.Strand as said
use Rattle.sizes.specs.Limits.{most_places}
use Rattle.stores.specs.declared.queue.Strands.{Strands}
use Rattle.stores.specs.Numbers.{free}
use Rattle.stores.specs.Places.{ring, before, unlinked_at}
use Rattle.stores.specs.Queue.{with_places, strands_of}
use Rattle.stores.specs.Sound.{SoundStrands}
use Rattle.stores.specs.View.{FirstStrands, strand_at}

-- The strand b at i of table t's queue is taken: the store s becomes s'', and the place q is given. n tables are made, and the places in
-- `held` are in nobody's queue: on the stack or in hand.
pub record TakenAt (fresh : FirstStrands) (n : ℕ) (held : List ℕ) (t i : ℕ) (s s'' : Strands) (q : ℕ) : Type 0 where
  -- what is given is b's place
  pub gives : q ≡ get_or (ring s.places t) i 0
  -- it is taken within the queue: one link is written, with this queue's own end and length, and nothing else of the store
  pub writes : s'' ≡ with_places s (unlinked_at t (before t i s.places) s.places)
  -- the order left behind: what stood behind b, and then what stood before it
  pub leaves : strands_of fresh s'' t ≡ drop (suc i) (strands_of fresh s t) ++ take i (strands_of fresh s t)
  -- every other queue is as it was, by its places and by its strands
  pub others : (u : ℕ) → (u ≡ t → ⊥)
      → (ring s''.places u ≡ ring s.places u) × (strands_of fresh s'' u ≡ strands_of fresh s u)
  -- so are the free places, and where those begin that were never used
  pub free_places : (ring s''.places free ≡ ring s.places free) × (s''.places.top ≡ s.places.top)
  -- the held ones are held, with b's place besides, and each place shows the strand that it showed
  pub held_places : SoundStrands fresh s'' n (q ∷ held)
  pub shows : (x : ℕ) → strand_at fresh s'' x ≡ strand_at fresh s x

-- The first strand of table t's queue that passes the test is taken: what `dequeue_next_strand_that` of table.rs is to do.
pub record InPlace (fresh : FirstStrands) (n : ℕ) (held : List ℕ) (test : said.Strand → Bool) (t : ℕ) (s s'' : Strands) (q : ℕ)
    : Type 0 where
  pub taken : (i : ℕ) → position test (strands_of fresh s t) ≡ some i → TakenAt fresh n held t i s s'' q
  -- where none passes nothing changes at all, and what is given is no place
  pub untouched : position test (strands_of fresh s t) ≡ none → (s'' ≡ s) × (q ≡ most_places)
