-- `clear_strands_after_cycle`: a table's queue goes to the free places, and then the table that each strand of it waits on is cleared.
use Rattle.std.specs.Prelude.{ℕ, zero, suc, ◌+◌, ◌%◌, ◌≤◌, ◌<◌, ◌≡◌, Bool, true, false, List, [], map, get_or, set, eqb, ltb}
use Rattle.std.proofs.Math.Option.{Option, none, some}
use Rattle.definitions.specs.{TableIndex}
use Rattle.definitions.specs.Stop.{Stops, stop, go}
use Rattle.definitions.specs.Lists.{any_passes}
use Rattle.definitions.specs.Strand.{SelectedSubgoal, Strand}
use Rattle.definitions.specs.Table.{Table}
use Rattle.rings.specs.Lists.{times}
use Rattle.rings.specs.Rings.{moved_next, moved_tail, joined}
use Rattle.stores.specs.declared.places.Places.{Places}
use Rattle.stores.specs.Numbers.{free}
use Rattle.stores.specs.Places.{places, ring}
use Rattle.stores.specs.Sound.{SoundPlaces}
use Rattle.control.specs.declared.clear_strands_after_cycle.Cleared.{Cleared}

abbrev pub cleared : (met : Bool) → (next tail len : List ℕ) → Cleared
cleared met next tail len = record { met_29 = met; next = next; tail = tail; len = len }

-- the lengths of the first n rings together
unfoldable pub lengths : ℕ → List ℕ → ℕ
lengths zero len = 0
lengths (suc n) len = get_or len n 0 + lengths n len

-- the strands that wait in the tables' queues
abbrev pub live : Cleared → ℕ
live c = lengths 64 c.len

-- the table that a strand waits on: 64 is added to its number where the literal is a "not"
abbrev pub awaited : ℕ → ℕ
awaited w = w % 64

-- a strand with nothing selected was met
abbrev pub met : Cleared → Cleared
met c = cleared true c.next c.tail c.len

-- `take_strands`: the queue of t goes behind the free places
abbrev pub taken : (t : ℕ) → Cleared → Cleared
taken t c = cleared c.met_29
    (moved_next (eqb (get_or c.len t 0) 0) (eqb (get_or c.len free 0) 0) c.next (get_or c.tail t 0) (get_or c.tail free 0))
    (moved_tail (eqb (get_or c.len t 0) 0) c.tail free (get_or c.tail t 0))
    (set (set c.len t 0) free (joined (get_or c.len free 0) (get_or c.len t 0)))

abbrev pub first_place : (t : ℕ) → Cleared → ℕ
first_place t c = get_or c.next (get_or c.tail t 0) 0

module _ (waits : List ℕ) where
  -- The tables are cleared that the strands at m places wait on: at p, and on along the links, which are read as clearing leaves them.
  -- A strand with 128 or more waits on nothing.
  unfoldable pub clear_each : (clear : ℕ → Cleared → Cleared) → (m p : ℕ) → Cleared → Cleared
  clear_each clear zero p c = c
  clear_each clear (suc m) p c = elim (ltb (get_or waits p 0) 128) [
    | false ↦ met c
    | true ↦ let d = clear (get_or waits p 0) c in elim d.met_29 [ true ↦ d | false ↦ clear_each clear m (get_or d.next p 0) d ]
  ]

  -- Each call that finds a strand takes it, so that the waiting strands are a bound of how deep the calls go.
  unfoldable pub clear_within : (bound : ℕ) → (w : ℕ) → Cleared → Cleared
  clear_within zero w c = c
  clear_within (suc bound) w c = elim (eqb (get_or c.len (awaited w) 0) 0) [
    | true ↦ c
    | false ↦ clear_each (clear_within bound) (get_or c.len (awaited w) 0) (first_place (awaited w) c) (taken (awaited w) c)
  ]

  abbrev pub clear : (w : ℕ) → Cleared → Cleared
  clear w c = clear_within (live c) w c

-- WHAT IT MEANS. The number w beside a strand says what it has selected, for n tables.
abbrev pub Told : (n w : ℕ) → Option SelectedSubgoal → Type 0
Told n w none = 128 ≤ w
Told n w (some selected) = (w < 128) × (selected.subgoal_table ≡ awaited w) × (awaited w < n)

-- the queues of n tables are the strands at the places of their rings, and the numbers beside these strands tell what they have selected
pub record Shows (waits : List ℕ) (strand_at : ℕ → Strand) (n : ℕ) (p : Places) (table : ℕ → Table) : Type 0 where
  pub queues : (t : ℕ) → (table t).strands ≡ map strand_at (ring p t)
  pub told : (t q : ℕ) → t < n → 1 ≤ times q (ring p t) → Told n (get_or waits q 0) (strand_at q).selected_subgoal

abbrev pub rings_in : (top : ℕ) → Cleared → Places
rings_in top c = places c.next c.tail c.len top

abbrev pub queue_unless : (taken : Bool) → List ℕ → List ℕ
queue_unless true queue = []
queue_unless false queue = queue

abbrev pub queue_left : (gone : List TableIndex) → (t : ℕ) → List ℕ → List ℕ
queue_left gone t queue = queue_unless (any_passes (eqb t) gone) queue

-- The tables in `gone` have lost their queues, whose places are free; every other queue is as it was.
pub record Emptied (n : ℕ) (held : List ℕ) (was : Places) (gone : List TableIndex) (p : Places) : Type 0 where
  pub sound : SoundPlaces p n held
  pub left : (t : ℕ) → t < n → ring p t ≡ queue_left gone t (ring was t)
  pub freed : (t q : ℕ) → t < n → any_passes (eqb t) gone ≡ true → 1 ≤ times q (ring was t) → 1 ≤ times q (ring p free)

-- Clearing meets 29 where the definitions stop with it; else it empties the tables that they name.
abbrev pub Clears : (n : ℕ) → (held : List ℕ) → Places → Cleared → Stops (List TableIndex) → Type 0
Clears n held was c (stop k) = (k ≡ 29) × (c.met_29 ≡ true)
Clears n held was c (go gone) = (c.met_29 ≡ false) × Emptied n held was gone (rings_in was.top c)
