-- The strand that a turn goes on with leaves where it was, for sound stores: the top's entry, or the queue of the top's table. Its place is
-- in hand then, the top's entry has no strand, and the state is the one with the strand taken that crate `small_steps` says.
use Prim.Native.Nat.{ℕ, suc, ◌-◌, ◌<◌}
use native.Mathlib.Omega.{arith}
use mathlib.Core.Bool.{Bool, true, false, false≢true}
use mathlib.Core.List.{List, [], ◌∷◌}
use mathlib.Core.Path.{◌≡◌, refl, sym, ap, subst, ◌∙◌}
use lib.Dec.{ltb}
use lib.ListN.{length, get_or, set, drop, take, length-map}
use lib.Seq.{get_or-set_same}
use borrow.Author.Tests.{ltb-true, ltb-false}
use Rattle.definitions.specs.{TimeStamp}
use Rattle.definitions.specs.Lists.{rotate_left}
use Rattle.definitions.specs.Strand as held
use Rattle.definitions.specs.Table as tabled
use Rattle.definitions.specs.Table.{Table}
use Rattle.rings.specs.Rings.{end}
use Rattle.rings.specs.Lists.{turned}
use Rattle.small_steps.specs.Acts as split
use Rattle.small_steps.specs.Acts.{Origin}
use Rattle.stores.specs.declared.queue.Spot.{Spot}
use Rattle.stores.specs.declared.queue.Strands.{Strands}
use Rattle.stores.specs.Numbers.{free, flag}
use Rattle.stores.specs.Places.{ring, taken_at, first_of}
use Rattle.stores.specs.Queue.{with_places, strands_of, eligible, test_at, spot_from, is_found}
use Rattle.stores.specs.QueueInPlace.{TakenAt}
use Rattle.stores.specs.Stack.{top_written}
use Rattle.stores.specs.View.{FirstStrands, strand_at}
use Rattle.stores.proofs.ListsSpans.{rotate_front}
use Rattle.stores.proofs.PlacesViews.{length_ring}
use Rattle.stores.proofs.QueueCases.{spot_by, spot_is}
use Rattle.stores.proofs.QueueSound.{taken_there}
use Rattle.stores.proofs.QueueViews.{tables_changed}
use Rattle.stores.proofs.StackCases.{top_some}
use Rattle.control.specs.declared.ensure_root_answer.Next.{Next}
use Rattle.control.specs.declared.ensure_root_answer.Top.{Top}
use Rattle.control.specs.EnsureRootAnswer.{next_by, next_strand}
use Rattle.control.specs.PerformDeed.{stack_of, left_rings, left_active}
use Rattle.control.specs.PerformStrand.{lent_of}
use Rattle.control.specs.InHand.{with_lent, Sounds, state_above}
use Rattle.control.specs.Stores.{Stores, first_strands, in_use, forest, held_places, SoundStores}
use Rattle.control.specs.TurnReads.{top, next, origin_by, origin}
use Rattle.control.proofs.EffectSteps.{sounds_of, idle_sound, idle_view}
use Rattle.control.proofs.EffectTables.{same_entries, top_table_view}
use Rattle.control.proofs.EnsureRootAnswer.{top_is}
use Rattle.control.proofs.Stores.{table_held, top_entry, table_made}

-- THE STORES with a strand of table t taken from where it was
abbrev pub left_by : Next → (t : ℕ) → Stores → Stores
left_by p t z = with_lent (lent_of z.tables (with_places z.strands (left_rings p.queued t p.before z.strands.places))
    z.answers
    (stack_of z.stack.depth z.stack.table z.stack.clock z.stack.positive z.stack.negative
    (left_active p.queued z.stack.depth z.stack.active))
    z.clock) z

abbrev pub away : Stores → Stores
away z = left_by (next z) (top z).table z

-- a queue without the one at j, turned: as the definitions take it
without_front : {A : Type 0} (l : List A) (j : ℕ) (d : A) → j < length l → drop 1 (rotate_left l j) ≡ turned j l
without_front l j d h = ap (drop 1) (rotate_front l j d h)

-- FROM A QUEUE: the place at j of the ring of the top's table
module _ (z : Stores) (n : ℕ) (o : Sounds [] z) (t_made : get_or z.stack.table n 0 < z.tables.count) (j : ℕ)
    (there : j < length (ring z.strands.places (get_or z.stack.table n 0))) where
  abbrev shows : FirstStrands
  shows = first_strands z.book

  abbrev u : ℕ
  u = get_or z.stack.table n 0

  abbrev after : Strands
  after = with_places z.strands (taken_at u j z.strands.places)

  -- order 6
  took : TakenAt shows z.tables.count (held_places z) u j z.strands after (get_or (ring z.strands.places u) j 0)
  took = taken_there shows z.strands z.tables.count (held_places z) u j t_made o.strands there

  own : strands_of shows after u ≡ drop 1 (rotate_left (strands_of shows z.strands u) j)
  own =
      took.leaves
      ∙ sym (without_front (strands_of shows z.strands u) j (strand_at shows z.strands 0)
      (omega (arith, there, length-map (ring z.strands.places u) (strand_at shows z.strands))))

  abbrev without : Table → Table
  without x = tabled.with_strands x (drop 1 (rotate_left x.strands j))

  queue_sound : Sounds (get_or (ring z.strands.places u) j 0 ∷ []) (with_lent (lent_of z.tables after z.answers z.stack
      z.clock) z)
  queue_sound = record {
    tables = o.tables;
    strands = took.held_places;
    answers = o.answers;
    stack = o.stack;
    made = o.made;
  }

  queue_view : state_above n (with_lent (lent_of z.tables after z.answers z.stack z.clock) z)
      ≡ split.taken (split.was_queued j) (state_above n z)
  queue_view =
      top_table_view z n t_made without z.tables after z.answers
      (tables_changed shows z.tables z.answers z.strands after u t_made (λ v k d. (took.others v d).1)
      ∙ ap (λ (l : List held.Strand). set (forest z).tables u (tabled.with_strands (table_held z u) l)) own)
      (same_entries z after.places (suc n))

  -- as many are live, the one in hand with them
  queue_live : in_use after.places ≡ in_use z.strands.places
  queue_live =
      omega (arith, length_ring after.places free, length_ring z.strands.places free, ap length took.free_places.0)

-- FOR SOUND STORES
-- what is known once the strand at p's place is taken
pub record Leaves (z : Stores) (n : ℕ) (p : Next) (t : ℕ) (from : Origin) : Type 0 where
  pub sound : Sounds (p.place ∷ []) (left_by p t z)
  pub view : state_above n (left_by p t z) ≡ split.taken from (state_above n z)
  pub idle : get_or (left_by p t z).stack.active n 0 ≡ 256
  pub live : in_use (left_by p t z).strands.places ≡ in_use z.strands.places

module _ (root index first : ℕ) (z : Stores) (o : SoundStores root index first z) (n : ℕ) (d : z.stack.depth ≡ suc n) where
  abbrev t : ℕ
  t = (top_entry z n).table

  abbrev clock : TimeStamp
  clock = (top_entry z n).clock

  abbrev complete : Bool
  complete = flag (get_or z.tables.complete t 0)

  abbrev place : ℕ
  place = get_or z.stack.active n 0

  abbrev queue : List ℕ
  queue = ring z.strands.places t

  abbrev tail : ℕ
  tail = get_or z.strands.places.tail t 0

  abbrev first_one : ℕ
  first_one = first_of (test_at clock complete z.strands) t z.strands.places

  abbrev spot : Spot
  spot = spot_from (test_at clock complete z.strands) tail queue

  sounds : Sounds [] z
  sounds = sounds_of root index first z o n d

  written_idle : get_or (top_written z.stack.depth 256 z.stack.active) n 0 ≡ 256
  written_idle =
      let last : z.stack.depth - 1 ≡ n = omega arith in
      sym (ap (λ (l : List ℕ). get_or l n 0)
      (top_some z.stack.depth z.stack.active (λ e. omega arith) o.stack.few 256))
      ∙ ap (λ (i : ℕ). get_or (set z.stack.active i 256) n 0) last
      ∙ get_or-set_same z.stack.active n 256 0 (omega (arith, o.stack.few, o.stack.long_active))

  -- what is found, by whether a strand is eligible
  abbrev found_by : (there : Bool) → Spot
  found_by there = spot_by there (end tail (take first_one queue)) (get_or queue first_one 0)

  from_spot : (b : Bool) → ltb first_one (length queue) ≡ b → is_found (found_by b) ≡ true → place ≡ 256
      → Leaves z n (next_by false place (found_by b)) t (split.was_queued first_one)
  from_spot false q e idle = absurd (false≢true e)
  from_spot true q e idle =
      let there : first_one < length queue = ltb-true first_one (length queue) q in
      let made : t < z.tables.count = table_made root index first z o n d in
      record {
        sound = queue_sound z n sounds made first_one there;
        view = queue_view z n sounds made first_one there;
        idle = idle;
        live = queue_live z n sounds made first_one there;
      }

  leaves_by : (b : Bool) → ltb place 256 ≡ b → (next_by b place spot).found ≡ true
      → Leaves z n (next_by b place spot) t (origin_by (next_by b place spot).queued first_one)
  leaves_by true e found =
      let other : place ≡ 256 → ⊥ = λ q. omega (arith, ltb-true place 256 e) in
      record {
        sound = idle_sound z n d sounds other;
        view = idle_view z n d sounds other;
        idle = written_idle;
        live = refl;
      }
  leaves_by false e found =
      let all : place ≡ 256 = omega (arith, ltb-false place 256 e, o.stack.places n (omega arith)) in
      subst (λ (x : Spot). is_found x ≡ true → Leaves z n (next_by false place x) t (split.was_queued first_one))
      (sym (spot_is (test_at clock complete z.strands) tail queue)) (λ there. from_spot (ltb first_one (length queue)) refl there all) found

  -- by the numbers of any top
  abbrev next_under : Top → Next
  next_under x =
      next_strand z.strands.places.next z.strands.places.tail z.strands.places.len z.strands.time
      z.strands.ambiguous x

  abbrev origin_under : Top → Origin
  origin_under x =
      origin_by (next_under x).queued
      (first_of (eligible z.strands.time z.strands.ambiguous x.clock x.complete) x.table z.strands.places)

  pub leaves : (next z).found ≡ true → Leaves z n (next z) (top z).table (origin z (next z))
  leaves found =
      subst (λ (x : Top). (next_under x).found ≡ true → Leaves z n (next_under x) x.table (origin_under x))
      (sym (top_is root index first z o n d)) (leaves_by (ltb place 256) refl) found

  -- THE STRAND LEAVES
  module _ (is : (next z).found ≡ true) where
    pub left_sound : Sounds ((next z).place ∷ []) (away z)
    left_sound = (leaves is).sound

    pub left_view : state_above n (away z) ≡ split.taken (origin z (next z)) (state_above n z)
    left_view = (leaves is).view

    pub left_idle : get_or (away z).stack.active n 0 ≡ 256
    left_idle = (leaves is).idle

    -- as many strands are live as were
    pub left_live : in_use (away z).strands.places ≡ in_use z.strands.places
    left_live = (leaves is).live

-- what stands at a place is as it was
pub left_shown : (z : Stores) (q : ℕ)
    → strand_at (first_strands z.book) (away z).strands q ≡ strand_at (first_strands z.book) z.strands q
left_shown z q = refl
