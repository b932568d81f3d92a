-- Single steps of a turn, for sound stores with a place in hand: what each leaves is sound, and shows what crate `small_steps` says. From
-- the theorems of the stores, operation by operation.
use Prim.Native.Nat.{ℕ, suc, ◌-◌, ◌≤◌, ◌<◌}
use native.Mathlib.Omega.{arith}
use mathlib.Core.Bool.{Bool, true, false}
use mathlib.Core.List.{List, [], ◌∷◌}
use mathlib.Core.Option.{Option, none, some}
use mathlib.Core.Path.{◌≡◌, refl, sym, ap, ap₂, subst, ◌∙◌}
use lib.ListN.{get_or, set}
use borrow.Author.Tests.{ne_eqb}
use Rattle.definitions.specs.Stack as said
use Rattle.definitions.specs.Stack.{with_active, change_top}
use Rattle.definitions.specs.Stop.{Stops, go}
use Rattle.definitions.specs.Strand as held
use Rattle.definitions.specs.Table.{Table, enqueue_strand}
use Rattle.definitions.specs.Tables.{Forest}
use Rattle.definitions.specs.Tables as forests
use Rattle.rings.specs.Lists.{times}
use Rattle.rings.proofs.Counts.{times_self}
use Rattle.small_steps.specs.Acts as split
use Rattle.small_steps.specs.Acts.{changed}
use Rattle.strands.specs.declared.Strand.{Strand}
use Rattle.strands.specs.View.{Sound, seen}
use Rattle.stores.specs.declared.places.Places.{Places}
use Rattle.stores.specs.declared.queue.Strands.{Strands}
use Rattle.stores.specs.declared.stack.Stack.{Stack}
use Rattle.stores.specs.Queue.{with_places, enqueued_strand, given, written}
use Rattle.stores.specs.Sound.{SoundStrands}
use Rattle.stores.specs.Stack.{activated}
use Rattle.stores.specs.View.{FirstStrands, strand_at, active_strand_at, entry_at, entries, entered, active_places}
use Rattle.stores.proofs.QueueSound.{enqueue_sound, given_strand_sound, held_ready, written_sound}
use Rattle.stores.proofs.QueueViews.{enqueue_view, given_view, tables_kept, written_here, written_queue}
use Rattle.stores.proofs.StackCallers.{active_held, activate_places, deactivate_places}
use Rattle.stores.proofs.StackViews.{entries_same, entered_away, activate_view, activate_sound}
use Rattle.stores.proofs.TablesViews.{table_there}
use Rattle.control.specs.InHand.{with_strands, with_stack, Sounds, state_above}
use Rattle.control.specs.Stores.{Stores, SoundStores, first_strands, forest, state, held_places}
use Rattle.control.proofs.Stores.{table_held, top_entry, entries_below, entries_made}

-- sound stores are sound with nothing in hand
pub sounds_of : (root index first : ℕ) (z : Stores) → SoundStores root index first z → (n : ℕ) → z.stack.depth ≡ suc n → Sounds [] z
sounds_of root index first z o n d = record {
  tables = o.tables;
  strands = o.strands;
  answers = o.answers;
  stack = o.stack;
  made = λ i h. entries_made root index first z o n d i (omega arith);
}

pub state_is : (z : Stores) (n : ℕ) → z.stack.depth ≡ suc n → state z ≡ state_above n z
state_is z n d =
    ap (λ (m : ℕ). record { forest = forest z; stack = entries (first_strands z.book) z.stack z.strands m }) d

-- a table that is there, changed
pub changed_is : (z : Stores) (t : ℕ) → t < z.tables.count → (change : Table → Table)
    → changed (forest z) t change ≡ forests.with_tables (forest z) (set (forest z).tables t (change (table_held z t)))
changed_is z t h change =
    ap (λ (o : Option Table). elim o as (λ (p : Option Table). Forest) [
      | none ↦ forest z
      | some x ↦ forests.with_tables (forest z) (set (forest z).tables t (change x))
    ]) (table_there (first_strands z.book) z.tables z.strands z.answers t h)

-- a forest by its tables
pub forest_is : (z : Stores) (l m : List Table) → l ≡ m → forests.with_tables (forest z) l ≡ forests.with_tables (forest z) m
forest_is z l m e = ap (forests.with_tables (forest z)) e

-- other rings: what stands at the places is as it was
module _ (z : Stores) (p : Places) (n : ℕ) where
  pub entries_moved : entries_below (with_strands (with_places z.strands p) z) n ≡ entries_below z n
  entries_moved =
      entries_same (first_strands z.book) z.stack z.stack z.strands (with_places z.strands p) n (λ i h. refl)

-- A PLACE IN HAND
module _ (z : Stores) (q : ℕ) (o : Sounds (q ∷ []) z) where
  abbrev fresh : FirstStrands
  fresh = first_strands z.book

  -- it goes to the end of the queue of the top's table
  module _ (n : ℕ) (d : z.stack.depth ≡ suc n) where
    abbrev t : ℕ
    t = get_or z.stack.table n 0

    abbrev queued : Stores
    queued = with_strands (enqueued_strand t q z.strands) z

    made : t < z.tables.count
    made = o.made n (omega arith)

    pub queued_sound : Sounds [] (with_strands (enqueued_strand (get_or z.stack.table n 0) q z.strands) z)
    queued_sound = record {
      tables = o.tables;
      strands = enqueue_sound fresh z.strands z.tables.count (held_places z) t q made o.strands;
      answers = o.answers;
      stack = o.stack;
      made = o.made;
    }

    pub queued_view : state_above n (with_strands (enqueued_strand (get_or z.stack.table n 0) q z.strands) z)
        ≡ split.queued_at_top (strand_at (first_strands z.book) z.strands q) (state_above n z)
    queued_view =
        ap₂ (λ (f : Forest) (es : said.Stack). record { forest = f; stack = top_entry z n ∷ es })
        (forest_is z (forest queued).tables (set (forest z).tables t (enqueue_strand (strand_at fresh z.strands q) (table_held z t)))
        (enqueue_view fresh z.strands z.tables.count (held_places z) t q made o.strands.places z.tables z.answers refl)
        ∙ sym (changed_is z t made (enqueue_strand (strand_at fresh z.strands q))))
        (entries_moved z queued.strands.places n)

  -- it is free again
  pub freed_sound : Sounds [] (with_strands (given q z.strands) z)
  freed_sound = record {
    tables = o.tables;
    strands = given_strand_sound fresh z.strands z.tables.count (held_places z) q o.strands;
    answers = o.answers;
    stack = o.stack;
    made = o.made;
  }

  pub freed_view : (n : ℕ) → state_above n (with_strands (given q z.strands) z) ≡ state_above n z
  freed_view n =
      ap₂ (λ (f : Forest) (es : said.Stack). record { forest = f; stack = top_entry z n ∷ es })
      (forest_is z (forest (with_strands (given q z.strands) z)).tables (forest z).tables
      (given_view fresh z.tables z.answers z.strands (held_places z) q o.strands.places))
      (entries_moved z (given q z.strands).places n)

  -- WHAT IS KNOWN of it
  has : 1 ≤ times q (q ∷ held_places z)
  has = omega (arith, times_self q)

  pub in_hand_few : q < 256
  in_hand_few =
      let p = o.strands.places in
      omega (arith, p.used q has, p.rings.room)

  pub in_no_entry : (i : ℕ) → i < z.stack.depth → get_or z.stack.active i 0 ≡ q → ⊥
  in_no_entry i h e =
      let few = in_hand_few in
      let there : 1 ≤ times (get_or z.stack.active i 0) (held_places z) =
      active_held z.stack.active z.stack.depth i h (λ w. omega arith) in
      let again : 1 ≤ times q (held_places z) = subst (λ (p : ℕ). 1 ≤ times p (held_places z)) e there in
      omega (arith, o.strands.places.once q, times_self q)

  -- a strand is written there, with its numbers
  module _ (time : ℕ) (x : Strand) (good : Sound x) where
    abbrev after : Strands
    after = written q time x z.strands

    pub written_sounds : Sounds (q ∷ []) (with_strands (written q time x z.strands) z)
    written_sounds = record {
      tables = o.tables;
      strands = written_sound fresh z.strands z.tables.count (held_places z) q
          (held_ready fresh z.strands z.tables.count (held_places z) q o.strands) time x good;
      answers = o.answers;
      stack = o.stack;
      made = o.made;
    }

    pub written_view : state (with_strands (written q time x z.strands) z) ≡ state z
    written_view =
        ap₂ (λ (f : Forest) (es : said.Stack). record { forest = f; stack = es })
        (forest_is z (forest (with_strands after z)).tables (forest z).tables
        (tables_kept fresh z.tables z.answers z.strands after
        (λ u k. written_queue fresh z.strands q time x u (o.strands.places.apart q u has))))
        (entered_away fresh z.stack z.strands q time x in_no_entry)

    pub written_shown : strand_at (first_strands z.book) (written q time x z.strands) q ≡ seen time x
    written_shown = written_here fresh z.strands q time x in_hand_few o.strands.long

-- THE TOP'S ENTRY, changed
same_go : (a b : said.Stack) → ◌≡◌ {A = Stops said.Stack} (go a) (go b) → a ≡ b
same_go a b e = cc

pub top_changed : (fresh : FirstStrands) (k k' : Stack) (s : Strands) (n : ℕ) → k.depth ≡ suc n → k'.depth ≡ suc n
    → (change : said.StackEntry → said.StackEntry) → change_top (entered fresh k s) change ≡ go (entered fresh k' s)
    → entry_at fresh k' s n ∷ entries fresh k' s n ≡ change (entry_at fresh k s n) ∷ entries fresh k s n
top_changed fresh k k' s n d d' change e =
    sym (same_go (change (entry_at fresh k s n) ∷ entries fresh k s n) (entries fresh k' s (suc n))
    (sym (ap (λ (m : ℕ). change_top (entries fresh k s m) change) d) ∙ e ∙ ap (λ (m : ℕ). go (entries fresh k' s m)) d'))

module _ (z : Stores) (n : ℕ) (d : z.stack.depth ≡ suc n) where
  abbrev shows : FirstStrands
  shows = first_strands z.book

  abbrev k : Stack
  k = z.stack

  pub one_at_least : 1 ≤ z.stack.depth
  one_at_least = omega arith

  pub last_is : z.stack.depth - 1 ≡ n
  last_is = omega arith

  pub top_idle : get_or z.stack.active n 0 ≡ 256 → get_or z.stack.active (z.stack.depth - 1) 0 ≡ 256
  top_idle no_strand = ap (λ (i : ℕ). get_or k.active i 0) last_is ∙ no_strand

  -- A place in hand goes to the top's entry, which has none.
  module _ (q : ℕ) (o : Sounds (q ∷ []) z) (no_strand : get_or k.active n 0 ≡ 256) where
    few : q < 256
    few = in_hand_few z q o

    other : q ≡ 256 → ⊥
    other e = omega (arith, few)

    pub active_sound : Sounds [] (with_stack (activated q z.stack) z)
    active_sound = record {
      tables = o.tables;
      strands = subst (SoundStrands shows z.strands z.tables.count)
          (sym (activate_places k o.stack one_at_least q other (top_idle no_strand))) o.strands;
      answers = o.answers;
      stack = activate_sound shows k z.strands o.stack one_at_least q (omega (arith, few));
      made = o.made;
    }

    shown : active_strand_at shows z.strands q ≡ some (strand_at shows z.strands q)
    shown =
        ap (λ (b : Bool). elim b as (λ (c : Bool). Option held.Strand) [ true ↦ none | false ↦ some (strand_at shows z.strands q) ])
        (ne_eqb q 256 other)

    pub active_view : state_above n (with_stack (activated q z.stack) z)
        ≡ split.activated (strand_at (first_strands z.book) z.strands q) (state_above n z)
    active_view =
        ap (λ (es : said.Stack). record { forest = forest z; stack = es })
        (top_changed shows k (activated q k) z.strands n d d (λ e. with_active e (active_strand_at shows z.strands q))
        (activate_view shows k z.strands o.stack one_at_least q)
        ∙ ap (λ (s : Option held.Strand). with_active (top_entry z n) s ∷ entries_below z n) shown)

  -- The top's strand is taken from its entry.
  module _ (o : Sounds [] z) (some_strand : get_or k.active n 0 ≡ 256 → ⊥) where
    abbrev place : ℕ
    place = get_or k.active n 0

    at_top : get_or k.active (k.depth - 1) 0 ≡ place
    at_top = ap (λ (i : ℕ). get_or k.active i 0) last_is

    pub idle_sound : Sounds (get_or z.stack.active n 0 ∷ []) (with_stack (activated 256 z.stack) z)
    idle_sound = record {
      tables = o.tables;
      strands = subst (SoundStrands shows z.strands z.tables.count)
          (deactivate_places k o.stack one_at_least (λ e. some_strand (sym at_top ∙ e))
          ∙ ap (λ (p : ℕ). p ∷ active_places (activated 256 k).active k.depth) at_top) o.strands;
      answers = o.answers;
      stack = activate_sound shows k z.strands o.stack one_at_least 256 (omega arith);
      made = o.made;
    }

    pub idle_view : state_above n (with_stack (activated 256 z.stack) z)
        ≡ split.taken split.was_active (state_above n z)
    idle_view =
        ap (λ (es : said.Stack). record { forest = forest z; stack = es })
        (top_changed shows k (activated 256 k) z.strands n d d (λ e. with_active e (active_strand_at shows z.strands 256))
        (activate_view shows k z.strands o.stack one_at_least 256))
