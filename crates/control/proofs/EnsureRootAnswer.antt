-- The head of the loop, for sound stores: the top's numbers are those of its entry; the strand that it goes on with is the one that
-- `decide_strand` of crate `small_steps` takes; and the strand in hand means that strand, pursued now.
use Prim.Native.Nat.{ℕ, suc, ◌-◌, ◌≤◌, ◌<◌}
use native.Mathlib.Omega.{arith}
use mathlib.Core.Bool.{Bool, true, false}
use mathlib.Core.List.{List, []}
use mathlib.Core.Option.{Option, none, some}
use mathlib.Core.Path.{◌≡◌, refl, sym, ap, subst, ◌∙◌}
use lib.Dec.{ltb}
use lib.ListN.{length, get_or, get_elem?, take}
use borrow.Author.Tests.{ltb-true, ltb-false, eq-eqb, ne_eqb}
use Rattle.definitions.specs.{TimeStamp}
use Rattle.definitions.specs.Lists.{position}
use Rattle.definitions.specs.Strand as held
use Rattle.definitions.specs.Turn as turns
use Rattle.asserts.specs.Sound.{SoundStrand, Active}
use Rattle.laws.proofs.All.{all_at}
use Rattle.laws.proofs.Maps.{get_elem_map}
use Rattle.small_steps.specs.Acts.{Origin, was_active, was_queued}
use Rattle.small_steps.specs.Decide.{or, no_strand, table_of, decide_strand}
use Rattle.strands.specs.View.{Sound, seen}
use Rattle.rings.specs.Rings.{end}
use Rattle.stores.specs.declared.queue.Spot.{Spot}
use Rattle.stores.specs.Numbers.{flag, flag_at}
use Rattle.stores.specs.Places.{ring, first_of}
use Rattle.stores.specs.Queue.{eligible, test_at, any_strand, strands_of, spot_from, is_found, place_found}
use Rattle.stores.specs.Sound.{InUse}
use Rattle.stores.specs.View.{FirstStrands, strand_at, active_strand_at, is_fresh, unread_strand, mode}
use Rattle.stores.proofs.ListsAlike.{times_at}
use Rattle.stores.proofs.ListsSpans.{first_if}
use Rattle.stores.proofs.QueueCases.{spot_by, found_by, spot_is}
use Rattle.stores.proofs.QueueViews.{first_eligible}
use Rattle.stores.proofs.StackCallers.{active_held}
use Rattle.stores.proofs.TablesViews.{flag_at_is}
use Rattle.control.specs.declared.ensure_root_answer.Next.{Next}
use Rattle.control.specs.declared.ensure_root_answer.Top.{Top}
use Rattle.control.specs.EnsureRootAnswer.{next_by, next_strand}
use Rattle.control.specs.Stores.{Stores, first_strands, forest, held_places, SoundStores}
use Rattle.control.specs.TurnReads.{top, next, hand_at, origin_by, taken_by, taken}
use Rattle.control.proofs.EnsureRootAnswerCases.{says_topmost}
use Rattle.control.proofs.EnsureRootAnswerFirst.{hand_means, hand_sound}
use Rattle.control.proofs.Stores.{top_entry, table_found, table_still, table_made, sound_stack, searching}

module _ (root index first : ℕ) (z : Stores) (o : SoundStores root index first z) (n : ℕ) (d : z.stack.depth ≡ suc n) where
  abbrev fresh : FirstStrands
  fresh = first_strands z.book

  abbrev t : ℕ
  t = (top_entry z n).table

  made : t < z.tables.count
  made = table_made root index first z o n d

  abbrev complete : Bool
  complete = flag (get_or z.tables.complete t 0)

  -- THE TOP
  abbrev pub top_read : Top
  top_read = record {
    depth = z.stack.depth;
    table = t;
    clock = (top_entry z n).clock;
    complete = complete;
    active = get_or z.stack.active n 0;
  }

  abbrev top_at : (i : ℕ) → Top
  top_at i = record {
    depth = z.stack.depth;
    table = get_or z.stack.table i 0;
    clock = get_or z.stack.clock i 0;
    complete = flag_at (get_or z.stack.table i 0) z.tables.complete;
    active = get_or z.stack.active i 0;
  }

  pub top_is : top z ≡ top_read
  top_is =
      let few = o.stack.few in
      let last : z.stack.depth - 1 ≡ n = omega arith in
      sym (says_topmost z.stack.table z.stack.clock z.stack.active z.tables.complete z.stack.depth (λ e. omega arith)
      (omega arith))
      ∙ ap top_at last
      ∙ ap (λ (b : Bool). record {
        depth = z.stack.depth;
        table = t;
        clock = (top_entry z n).clock;
        complete = b;
        active = get_or z.stack.active n 0;
      }) (flag_at_is fresh z.tables z.strands z.answers o.tables t made z.tables.complete)

  -- THE STRAND that it goes on with

  abbrev clock : TimeStamp
  clock = (top_entry z n).clock

  abbrev place : ℕ
  place = get_or z.stack.active n 0

  place_few : place ≤ 256
  place_few = o.stack.places n (omega arith)

  abbrev queue : List ℕ
  queue = ring z.strands.places t

  abbrev spot : Spot
  spot = spot_from (test_at clock complete z.strands) (get_or z.strands.places.tail t 0) queue

  abbrev first_one : ℕ
  first_one = first_of (test_at clock complete z.strands) t z.strands.places

  abbrev any : Bool
  any = any_strand clock complete t z.strands

  abbrev shown : (p : ℕ) → held.Strand
  shown p = strand_at fresh z.strands p

  -- as the definitions have it: by the active strand, and then by the position in the queue
  abbrev from_queue : Option ℕ → Option (held.Strand × Origin)
  from_queue found = elim found [ none ↦ none | some i ↦ some (or no_strand (get_elem? (strands_of fresh z.strands t) i), was_queued i) ]

  abbrev from_active : Option held.Strand → Option (held.Strand × Origin)
  from_active active = elim active [
    | some x ↦ some (x, was_active)
    | none ↦ from_queue (position (turns.eligible clock (mode (get_or z.tables.complete t 0))) (strands_of fresh z.strands t))
  ]

  abbrev taken_at : Next → Option (held.Strand × Origin)
  taken_at p = taken_by p.found (shown p.place) (origin_by p.queued first_one)

  from_queue_is : (b : Bool) → any ≡ b
      → from_queue (first_if b first_one) ≡ taken_by b (shown (get_or queue first_one 0)) (was_queued first_one)
  from_queue_is true e =
      ap (λ (x : Option held.Strand). some (or no_strand x, was_queued first_one))
      (get_elem_map shown queue first_one 0 (ltb-true first_one (length queue) e))
  from_queue_is false e = refl

  taken_spot : (b : Bool) (before p : ℕ) → taken_by b (shown p) (was_queued first_one)
      ≡ taken_by (is_found (spot_by b before p)) (shown (place_found (spot_by b before p))) (was_queued first_one)
  taken_spot true before p = refl
  taken_spot false before p = refl

  abbrev active_by : (none_active : Bool) → Option held.Strand
  active_by none_active = elim none_active [ true ↦ none | false ↦ some (shown place) ]

  from_active_is : (b : Bool) → ltb place 256 ≡ b
      → from_active (active_strand_at fresh z.strands place) ≡ taken_at (next_by b place spot)
  from_active_is true e =
      ap (λ (b : Bool). from_active (active_by b)) (ne_eqb place 256 (λ q. omega (arith, ltb-true place 256 e)))
  from_active_is false e =
      let all : place ≡ 256 = omega (arith, ltb-false place 256 e, place_few) in
      ap (λ (b : Bool). from_active (active_by b)) (eq-eqb place 256 all)
      ∙ ap from_queue
      (first_eligible fresh z.tables z.answers z.strands (held_places z) t clock made o.strands any refl)
      ∙ from_queue_is any refl
      ∙ taken_spot any (end (get_or z.strands.places.tail t 0) (take first_one queue)) (get_or queue first_one 0)
      ∙ sym
      (ap (λ (x : Spot). taken_by (is_found x) (shown (place_found x)) (was_queued first_one))
      (spot_is (test_at clock complete z.strands) (get_or z.strands.places.tail t 0) queue))

  -- by the numbers of any top
  abbrev next_under : Top → Next
  next_under x =
      next_strand z.strands.places.next z.strands.places.tail z.strands.places.len z.strands.time
      z.strands.ambiguous x

  abbrev taken_under : Top → Option (held.Strand × Origin)
  taken_under x =
      taken_by (next_under x).found (shown (next_under x).place) (origin_by (next_under x).queued
      (first_of (eligible z.strands.time z.strands.ambiguous x.clock x.complete) x.table z.strands.places))

  pub strand_decided : decide_strand (top_entry z n) (table_of (forest z) t) ≡ taken z (next z)
  strand_decided =
      ap (decide_strand (top_entry z n)) (table_still root index first z o t made [])
      ∙ from_active_is (ltb place 256) refl
      ∙ sym (ap taken_under top_is)

  -- WHAT IS KNOWN of it: its numbers are its own, and it is sound in the state
  pub record Known (p : ℕ) : Type 0 where
    pub in_use : InUse fresh z.strands p
    pub sound : SoundStrand z.book.goals (forest z).tables (shown p)

  known_by : (b : Bool) → ltb place 256 ≡ b → (next_by b place spot).found ≡ true → Known (next_by b place spot).place
  known_by true e found =
      let other : place ≡ 256 → ⊥ = λ q. omega (arith, ltb-true place 256 e) in
      record {
        in_use = o.strands.in_hand place (active_held z.stack.active z.stack.depth n (omega arith) other);
        sound = subst (Active z.book.goals (forest z).tables) (ap active_by (ne_eqb place 256 other))
            (sound_stack root index first z o n d).1;
      }
  known_by false e found =
      let before : ℕ = end (get_or z.strands.places.tail t 0) (take first_one queue) in
      let is = spot_is (test_at clock complete z.strands) (get_or z.strands.places.tail t 0) queue in
      let held : any ≡ true = sym (found_by any before (get_or queue first_one 0)) ∙ sym (ap is_found is) ∙ found in
      let there : first_one < length queue = ltb-true first_one (length queue) held in
      let place_is : place_found spot ≡ get_or queue first_one 0 =
      ap place_found (is ∙ ap (λ (b : Bool). spot_by b before (get_or queue first_one 0)) held) in
      let table = all_at t (searching root index first z o n d).forest.sound_tables (table_found root index first z o t made) in
      subst Known (sym place_is) (record {
        in_use = o.strands.queued t (get_or queue first_one 0) made (times_at queue first_one there);
        sound = all_at first_one table.sound_strands (get_elem_map shown queue first_one 0 there);
      })

  pub known : (next z).found ≡ true → Known (next z).place
  known found =
      subst (λ (x : Top). (next_under x).found ≡ true → Known (next_under x).place) (sym top_is) (known_by (ltb place 256) refl) found

  -- THE STRAND IN HAND
  module _ (p : ℕ) (k : Known p) where
    pub in_hand_is : (time : TimeStamp) → seen time (hand_at z p) ≡ held.with_pursued (shown p) time
    in_hand_is time =
        hand_means z.book o.book z.book.goals o.book.few_goals (get_or z.strands.strands p unread_strand)
        (get_or z.strands.wants p 0) (is_fresh z.strands p) (get_or z.strands.time p 0) time k.sound.0.subgoals_named

    pub in_hand_sound : Sound (hand_at z p)
    in_hand_sound =
        hand_sound z.book o.book z.book.goals o.book.few_goals (get_or z.strands.strands p unread_strand)
        (get_or z.strands.wants p 0) (is_fresh z.strands p) (λ e. (k.in_use.is_written e).sound)

    pub in_hand_kept : (time : TimeStamp) → SoundStrand z.book.goals (forest z).tables (seen time (hand_at z p))
    in_hand_kept time = subst (SoundStrand z.book.goals (forest z).tables) (sym (in_hand_is time)) k.sound
