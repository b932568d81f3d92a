-- Steps of a turn on the top's table, for sound stores: a copy queued, the table floundered, an answer kept, the queue emptied, and the
-- answer mode changed.
use Prim.Native.Nat.{ℕ, suc, ◌<◌}
use native.Mathlib.Omega.{arith}
use mathlib.Core.Bool.{Bool, false}
use mathlib.Core.List.{List, ◌∷◌, ◌++◌}
use mathlib.Core.Option.{Option, none, some}
use mathlib.Core.Path.{◌≡◌, refl, sym, ap, ap₂, subst, ◌∙◌}
use lib.ListN.{get_or, get_elem?, set}
use lib.Seq.{set-set}
use borrow.Author.Tests.{ne_eqb}
use Rattle.definitions.specs as said
use Rattle.definitions.specs.Lists.{push}
use Rattle.definitions.specs.Stack as stacks
use Rattle.definitions.specs.Table as tabled
use Rattle.definitions.specs.Table.{Table, take_strands, mark_floundered, with_mode, enqueue_strand}
use Rattle.definitions.specs.Tables.{Forest}
use Rattle.definitions.specs.Tables as forests
use Rattle.laws.proofs.Lists.{set_here}
use Rattle.rings.proofs.Counts.{times_append}
use Rattle.small_steps.specs.Acts as split
use Rattle.strands.specs.declared.Answer.{Answer}
use Rattle.strands.specs.declared.Strand.{Strand}
use Rattle.strands.specs.View.{Sound, seen, answer}
use Rattle.stores.specs.declared.places.Places.{Places}
use Rattle.stores.specs.declared.queue.Strands.{Strands}
use Rattle.stores.specs.declared.table.Answers.{Answers}
use Rattle.stores.specs.declared.tables.Tables.{Tables}
use Rattle.stores.specs.Numbers.{free}
use Rattle.stores.specs.Places.{moved_to, free_place}
use Rattle.stores.specs.Queue.{with_places, cleared, stored}
use Rattle.stores.specs.Sound.{SoundStrands, SoundAnswers, GoodAnswer}
use Rattle.stores.specs.Table.{with_answer_places, cleared_answers, marked, answer_stored}
use Rattle.stores.specs.Tables.{moded}
use Rattle.stores.specs.View.{FirstStrands, tables, entries}
use Rattle.stores.proofs.QueueSound.{cleared_sound}
use Rattle.stores.proofs.QueueStores.{HeldStill, stored_grown, stored_view, stored_sound}
use Rattle.stores.proofs.QueueViews.{cleared_view}
use Rattle.stores.proofs.StackCallers.{entered_holds}
use Rattle.stores.proofs.StackViews.{entries_same}
use Rattle.stores.proofs.TableViews.{stored_answer_sound, stored_answer_view, cleared_answers_sound, marked_sound}
use Rattle.stores.proofs.TableViews.{marked_view}
use Rattle.stores.proofs.TablesViews.{table_there, moded_sound, moded_view}
use Rattle.control.specs.PerformDeed.{emptied_unless, emptied}
use Rattle.control.specs.PerformStrand.{lent_of}
use Rattle.control.specs.InHand.{with_lent, with_tables, with_strands, with_answers, Sounds, state_above}
use Rattle.control.specs.Stores.{Stores, first_strands, forest, held_places}
use Rattle.control.proofs.EffectSteps.{forest_is, changed_is}
use Rattle.control.proofs.Stores.{table_held, top_entry, entries_below}

-- the top's table, changed, where the entries show what they did
module _ (z : Stores) (n : ℕ) (h : get_or z.stack.table n 0 < z.tables.count) (change : Table → Table) where
  abbrev fresh : FirstStrands
  fresh = first_strands z.book

  abbrev t : ℕ
  t = get_or z.stack.table n 0

  pub top_table_view : (ts : Tables) (s : Strands) (a : Answers)
      → tables (first_strands z.book) ts s a
      ≡ set (forest z).tables (get_or z.stack.table n 0) (change (table_held z (get_or z.stack.table n 0)))
      → entries (first_strands z.book) z.stack s (suc n) ≡ entries (first_strands z.book) z.stack z.strands (suc n)
      → state_above n (with_lent (lent_of ts s a z.stack z.clock) z) ≡ split.top_table change (state_above n z)
  top_table_view ts s a e es =
      ap₂ (λ (f : Forest) (l : stacks.Stack). record { forest = f; stack = l })
      (forest_is z (tables fresh ts s a) (set (forest z).tables t (change (table_held z t))) e ∙ sym (changed_is z t h change)) es

-- other rings
pub same_entries : (z : Stores) (p : Places) (n : ℕ)
    → entries (first_strands z.book) z.stack (with_places z.strands p) n
    ≡ entries (first_strands z.book) z.stack z.strands n
same_entries z p n =
    entries_same (first_strands z.book) z.stack z.stack z.strands (with_places z.strands p) n (λ i h. refl)

module _ (z : Stores) (n : ℕ) (d : z.stack.depth ≡ suc n) (hand : List ℕ) (o : Sounds hand z) where
  abbrev shows : FirstStrands
  shows = first_strands z.book

  abbrev top : ℕ
  top = get_or z.stack.table n 0

  made : top < z.tables.count
  made = o.made n (omega arith)

  emptied_is : (p : Places) → emptied top p ≡ moved_to top free p
  emptied_is p =
      let few = o.tables.few in
      ap (λ (b : Bool). emptied_unless b top p) (ne_eqb top free (λ e. omega (arith, made)))

  -- THE QUEUE EMPTIED
  abbrev emptied_strands : Strands
  emptied_strands = with_places z.strands (emptied top z.strands.places)

  cleared_is : emptied_strands ≡ cleared top z.strands
  cleared_is = ap (with_places z.strands) (emptied_is z.strands.places)

  pub emptied_sound : Sounds hand (with_strands (with_places z.strands (emptied (get_or z.stack.table n 0) z.strands.places)) z)
  emptied_sound = record {
    tables = o.tables;
    strands = subst (λ (s : Strands). SoundStrands shows s z.tables.count (hand ++ held_places z)) (sym cleared_is)
        (cleared_sound shows z.strands z.tables.count (hand ++ held_places z) top made o.strands);
    answers = o.answers;
    stack = o.stack;
    made = o.made;
  }

  pub emptied_view : state_above n (with_strands (with_places z.strands (emptied (get_or z.stack.table n 0) z.strands.places)) z)
      ≡ split.top_table take_strands (state_above n z)
  emptied_view =
      top_table_view z n made take_strands z.tables emptied_strands z.answers
      (ap (λ (s : Strands). tables shows z.tables s z.answers) cleared_is
      ∙ cleared_view shows z.tables z.answers z.strands (hand ++ held_places z) top made o.strands.places)
      (same_entries z emptied_strands.places (suc n))

  -- THE TABLE FLOUNDERED
  abbrev floundered : Stores
  floundered = with_lent (lent_of (marked top z.tables) emptied_strands
      (with_answer_places z.answers (emptied top z.answers.places)) z.stack z.clock) z

  answers_is : with_answer_places z.answers (emptied top z.answers.places) ≡ cleared_answers top z.answers
  answers_is = ap (with_answer_places z.answers) (emptied_is z.answers.places)

  pub floundered_sound : Sounds hand (with_lent (lent_of (marked (get_or z.stack.table n 0) z.tables)
      (with_places z.strands (emptied (get_or z.stack.table n 0) z.strands.places))
      (with_answer_places z.answers (emptied (get_or z.stack.table n 0) z.answers.places)) z.stack z.clock) z)
  floundered_sound = record {
    tables = marked_sound shows z.tables z.strands z.answers (hand ++ held_places z) top made o.tables o.strands.places
        o.answers.places;
    strands = emptied_sound.strands;
    answers = subst (λ (a : Answers). SoundAnswers a z.tables.count) (sym answers_is)
        (cleared_answers_sound z.answers z.tables.count top made o.answers);
    stack = o.stack;
    made = o.made;
  }

  pub floundered_view : state_above n (with_lent (lent_of (marked (get_or z.stack.table n 0) z.tables)
      (with_places z.strands (emptied (get_or z.stack.table n 0) z.strands.places))
      (with_answer_places z.answers (emptied (get_or z.stack.table n 0) z.answers.places)) z.stack z.clock) z)
      ≡ split.top_table mark_floundered (state_above n z)
  floundered_view =
      top_table_view z n made mark_floundered (marked top z.tables) emptied_strands floundered.answers
      (ap₂ (λ (s : Strands) (a : Answers). tables shows (marked top z.tables) s a) cleared_is answers_is
      ∙ marked_view shows z.tables z.strands z.answers (hand ++ held_places z) top made o.tables o.strands.places
      o.answers.places)
      (same_entries z emptied_strands.places (suc n))

  -- THE ANSWER MODE
  pub moded_sounds : Sounds hand (with_tables (moded (get_or z.stack.table n 0) false z.tables) z)
  moded_sounds = record {
    tables = moded_sound shows z.tables z.strands z.answers top false o.tables made;
    strands = o.strands;
    answers = o.answers;
    stack = o.stack;
    made = o.made;
  }

  pub mode_changed : state_above n (with_tables (moded (get_or z.stack.table n 0) false z.tables) z)
      ≡ split.top_table (λ u. with_mode u said.Ambiguous) (state_above n z)
  mode_changed =
      top_table_view z n made (λ u. with_mode u said.Ambiguous) (moded top false z.tables) z.strands z.answers
      (moded_view shows z.tables z.strands z.answers top false o.tables made) refl

  -- A NEW ANSWER
  module _ (x : Answer) (good : GoodAnswer x) (room : free_place z.answers.places < 256) where
    abbrev more : Answers
    more = answer_stored top x z.answers

    abbrev with_answer : Table → Table
    with_answer u = tabled.with_answers u (push u.answers (answer x))

    pub stored_sounds : Sounds hand (with_answers (answer_stored (get_or z.stack.table n 0) x z.answers) z)
    stored_sounds = record {
      tables = o.tables;
      strands = o.strands;
      answers = stored_answer_sound z.answers z.tables.count top x made o.answers good room;
      stack = o.stack;
      made = o.made;
    }

    pub answer_view : state_above n (with_answers (answer_stored (get_or z.stack.table n 0) x z.answers) z)
        ≡ split.top_table (split.stored (answer x) false) (state_above n z)
    answer_view =
        top_table_view z n made with_answer z.tables z.strands more
        (stored_answer_view z.answers z.tables.count top x made o.answers good room shows z.tables z.strands refl) refl

  -- THE COPY for the next answer
  module _ (time : ℕ) (x : Strand) (good : Sound x) (room : free_place z.strands.places < 256) where
    abbrev copied : Strands
    copied = stored top time x z.strands

    pub copied_sound : Sounds hand (with_strands (stored (get_or z.stack.table n 0) time x z.strands) z)
    copied_sound = record {
      tables = o.tables;
      strands = stored_sound shows z.strands z.tables.count (hand ++ held_places z) top time x made o.strands good room;
      answers = o.answers;
      stack = o.stack;
      made = o.made;
    }

    held_still : HeldStill shows z.strands copied (held_places z)
    held_still u h =
        (stored_grown shows z.strands z.tables.count (hand ++ held_places z) top made o.strands room time x good).holds u
        (omega (arith, times_append u hand (held_places z)))

    -- what is in hand shows what it did
    pub copied_hand : HeldStill (first_strands z.book) z.strands (stored (get_or z.stack.table n 0) time x z.strands) hand
    copied_hand u h =
        (stored_grown shows z.strands z.tables.count (hand ++ held_places z) top made o.strands room time x good).holds u
        (omega (arith, times_append u hand (held_places z)))

    pub copied_view : state_above n (with_strands (stored (get_or z.stack.table n 0) time x z.strands) z)
        ≡ split.queued_at_top (seen time x) (state_above n z)
    copied_view =
        top_table_view z n made (enqueue_strand (seen time x)) z.tables copied z.answers
        (stored_view shows z.strands z.tables.count (hand ++ held_places z) top time x made o.strands good room
        z.tables z.answers refl)
        (ap (entries shows z.stack copied) (sym d) ∙ entered_holds shows z.stack z.strands copied held_still
        ∙ ap (entries shows z.stack z.strands) d)

-- one change of a table after another
changed_at : (f : Forest) (t : ℕ) (x : Table) → get_elem? f.tables t ≡ some x → (change : Table → Table)
    → split.changed f t change ≡ forests.with_tables f (set f.tables t (change x))
changed_at f t x e change =
    ap (λ (o : Option Table). elim o as (λ (p : Option Table). Forest) [
      | none ↦ f
      | some y ↦ forests.with_tables f (set f.tables t (change y))
    ]) e

pub changed_then : (f : Forest) (t : ℕ) (x : Table) → get_elem? f.tables t ≡ some x → (g h : Table → Table)
    → split.changed (split.changed f t g) t h ≡ split.changed f t (λ u. h (g u))
changed_then f t x e g h =
    ap (λ (y : Forest). split.changed y t h) (changed_at f t x e g)
    ∙ changed_at (forests.with_tables f (set f.tables t (g x))) t (g x) (set_here f.tables t x (g x) e) h
    ∙ ap (forests.with_tables f) (set-set f.tables t (g x) (h (g x)))
    ∙ sym (changed_at f t x e (λ u. h (g u)))

pub then_changed : (z : Stores) (n : ℕ) → get_or z.stack.table n 0 < z.tables.count → (g h : Table → Table)
    → split.top_table h (split.top_table g (state_above n z)) ≡ split.top_table (λ u. h (g u)) (state_above n z)
then_changed z n there g h =
    ap (λ (f : Forest). record { forest = f; stack = top_entry z n ∷ entries_below z n })
    (changed_then (forest z) (get_or z.stack.table n 0) (table_held z (get_or z.stack.table n 0))
    (table_there (first_strands z.book) z.tables z.strands z.answers (get_or z.stack.table n 0) there) g h)
