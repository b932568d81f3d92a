-- The deed of a turn, for sound stores: the strand's place is in hand and the strand settled there, and the top's entry has none. What each
-- deed leaves is sound, and shows what crate `small_steps` says.
use Prim.Native.Nat.{ℕ, zero, suc, ◌<◌}
use native.Mathlib.Omega.{arith}
use mathlib.Core.Bool.{Bool, true, false}
use mathlib.Core.List.{[], ◌∷◌}
use mathlib.Core.Option.{Option, none, some}
use mathlib.Core.Path.{◌≡◌, sym, ap, subst, ◌∙◌}
use lib.Dec.{ltb}
use lib.ListN.{get_or}
use borrow.Author.Tests.{lt-ltb, le-ltb}
use Rattle.std.specs.Prelude as code
use Rattle.definitions.specs.{TimeStamp, Minimums, MAX}
use Rattle.definitions.specs.Book as books
use Rattle.definitions.specs.Logic.{SolveState, continue, return_ok}
use Rattle.definitions.specs.Stop.{go}
use Rattle.definitions.specs.Strand as held
use Rattle.definitions.specs.Table.{take_strands, mark_floundered}
use Rattle.definitions.specs.Turn.{cycle_minimums, create_refinement_strand}
use Rattle.small_steps.specs.Acts as split
use Rattle.strands.specs.declared.Answer.{Answer}
use Rattle.strands.specs.declared.Strand.{Strand}
use Rattle.strands.specs.Making.{refinement, refine}
use Rattle.strands.specs.View.{is_negative, seen, answer}
use Rattle.strands.proofs.MakeViews.{refine_view}
use Rattle.stores.specs.Places.{enqueued, free_place}
use Rattle.stores.specs.Queue.{with_places, enqueued_strand, given}
use Rattle.stores.specs.Stack.{popped, activated}
use Rattle.stores.specs.Sound.{GoodAnswer}
use Rattle.stores.specs.Table.{answer_stored}
use Rattle.stores.specs.View.{strand_at}
use Rattle.control.specs.declared.create_refinement_strand.Left.{Left}
use Rattle.control.specs.CreateRefinementStrand.{answer_left_by, answer_left}
use Rattle.control.specs.InHand.{with_lent, with_strands, with_answers, with_stack, Sounds, state_above, flows}
use Rattle.control.specs.MakeTables.{tables_of}
use Rattle.control.specs.OnPositiveCycle.{cycled}
use Rattle.control.specs.PerformDeed.{Moving, moving, requeued, given_away, table_pushed, table_floundered}
use Rattle.control.specs.PerformDeed.{emptied_if, seated, answer_flow}
use Rattle.control.specs.PerformDeed as deeds
use Rattle.control.specs.PerformStrand.{lent_of}
use Rattle.control.specs.Stores.{Stores, first_strands, state}
use Rattle.control.proofs.EffectSteps.{state_is, queued_sound, queued_view, freed_sound, freed_view, active_sound, active_view}
use Rattle.control.proofs.EffectStack.{cycled_sound, cycled_view, popped_sound, popped_view, pushed_sound, pushed_view}
use Rattle.control.proofs.EffectStack.{gone_sound, gone_view}
use Rattle.control.proofs.EffectTables.{emptied_sound, emptied_view, floundered_sound, floundered_view}
use Rattle.control.proofs.EffectTables.{stored_sounds, answer_view, then_changed}

-- WHAT A DEED MOVES of stores, and the stores with what it has moved
abbrev pub moving_in : Stores → Moving
moving_in y = moving y.strands.places y.tables.floundered y.answers y.stack y.clock

abbrev pub moved_in : Stores → Moving → Stores
moved_in y m = with_lent (lent_of
    (tables_of y.tables.count y.tables.goal y.tables.coinductive m.floundered y.tables.complete)
    (with_places y.strands m.rings) m.answers m.stack m.clock) y

-- sound stores that show this
pub record Comes (s : SolveState) (z : Stores) : Type 0 where
  pub view : state z ≡ s
  pub sound : Sounds [] z

module _ (y : Stores) (n : ℕ) (depth : y.stack.depth ≡ suc n) (q : ℕ) (o : Sounds (q ∷ []) y)
    (idle : get_or y.stack.active n 0 ≡ 256) where
  abbrev m : Moving
  m = moving_in y

  abbrev t : ℕ
  t = get_or y.stack.table n 0

  -- the strand goes on
  pub goes_on : Comes (split.activated (strand_at (first_strands y.book) y.strands q) (state_above n y))
      (moved_in y (deeds.with_stack m (activated q y.stack)))
  goes_on = record {
    view = state_is (with_stack (activated q y.stack) y) n depth ∙ active_view y n depth q o idle;
    sound = active_sound y n depth q o idle;
  }

  -- it is given up: its place is free, and the search is over
  abbrev without : Stores
  without = with_strands (given q y.strands) y

  pub gives_up : Comes (split.gone (state_above n y)) (moved_in y (given_away q m))
  gives_up = record {
    view = gone_view without n depth (freed_sound y q o) idle ∙ ap split.gone (freed_view y q o n);
    sound = gone_sound without n depth (freed_sound y q o) idle;
  }

  -- it goes back to the queue of the top's table
  pub requeues : Comes (split.queued_at_top (strand_at (first_strands y.book) y.strands q) (state_above n y))
      (moved_in y (requeued t q m))
  requeues = record {
    view = state_is (moved_in y (requeued t q m)) n depth ∙ queued_view y q o n depth;
    sound = queued_sound y q o n depth;
  }

  -- it goes back there once the top has taken the minimums of a cycle that it meets through this literal
  module _ (l : books.Literal) (r : Minimums) where
    abbrev cycling : Stores
    cycling = with_stack (cycled (is_negative l) r y.stack) y

    pub cycles : Comes (split.queued_at_top (strand_at (first_strands y.book) y.strands q)
        (split.top_entry (cycle_minimums l r) (state_above n y)))
        (moved_in y (requeued t q (deeds.with_stack m (cycled (is_negative l) r y.stack))))
    cycles =
        let p = cycled_sound y n depth (q ∷ []) o l r in
        record {
          view = state_is (moved_in cycling (requeued t q (moving_in cycling))) n depth ∙ queued_view cycling q p n depth
              ∙ ap (split.queued_at_top (strand_at (first_strands y.book) y.strands q)) (cycled_view y n depth (q ∷ []) o l r);
          sound = queued_sound cycling q p n depth;
        }

  -- it waits for a table, which goes on the stack
  module _ (table : ℕ) (there : table < y.tables.count) (room : y.stack.depth < 64) (in_time : y.clock < MAX) where
    abbrev waiting : Stores
    waiting = with_stack (activated q y.stack) y

    pub pushes : Comes (split.pushed table (split.activated (strand_at (first_strands y.book) y.strands q) (state_above n y)))
        (moved_in y (table_pushed table q m))
    pushes =
        let p = active_sound y n depth q o idle in
        record {
          view = pushed_view waiting table p there room in_time
              ∙ ap (split.pushed table) (state_is waiting n depth ∙ active_view y n depth q o idle);
          sound = pushed_sound waiting table p there room in_time;
        }

  -- the top's table is floundered, and the search is over
  abbrev floundered : Stores
  floundered = moved_in y (table_floundered t m)

  abbrev floundered_without : Stores
  floundered_without = with_strands (given q floundered.strands) floundered

  pub flounders : Comes (split.gone (split.top_table mark_floundered (state_above n y))) (moved_in y (given_away q (table_floundered t m)))
  flounders =
      let p = floundered_sound y n depth (q ∷ []) o in
      let r = freed_sound floundered q p in
      record {
        view = gone_view floundered_without n depth r idle
            ∙ ap split.gone (freed_view floundered q p n ∙ floundered_view y n depth (q ∷ []) o);
        sound = gone_sound floundered_without n depth r idle;
      }

-- AN ANSWER IS GIVEN

-- what is left of the strand once the answer is stored: a refinement strand at the root, or nothing; then the top is popped
abbrev refined_by : Option held.Strand → SolveState → SolveState
refined_by r s = elim r as (λ (o : Option held.Strand). SolveState) [ none ↦ s | some strand ↦ split.queued_at_top strand s ]

abbrev seated_in : (y : Stores) → (t q : ℕ) → (refines : Bool) → Stores
seated_in y t q refines = with_lent (lent_of y.tables (with_places y.strands (enqueued (seated refines t) q y.strands.places))
    y.answers (popped y.stack) y.clock) y

pub record Ends (root : Bool) (a : Answer) (s : SolveState) (z : Stores) : Type 0 where
  pub view : flows (answer_flow root) (state z) ≡ go (split.answered (answer a) s)
  pub sound : Sounds [] z

-- no entry is below the top: it is the root
module _ (y : Stores) (depth : y.stack.depth ≡ 1) (q : ℕ) (o : Sounds (q ∷ []) y) (idle : get_or y.stack.active 0 0 ≡ 256) (a : Answer)
    (s : Strand) (c : TimeStamp) where
  root_ends : (r : code.Option Strand) → refinement r ≡ create_refinement_strand (answer a)
      → strand_at (first_strands y.book) y.strands q ≡ seen (answer_left_by true r s c).time (answer_left_by true r s c).strand
      → Ends true a (state_above 0 y) (seated_in y (get_or y.stack.table 0 0) q (answer_left_by true r s c).refines)
  root_ends (code.Some f) e shown =
      let y' : Stores = with_strands (enqueued_strand (get_or y.stack.table 0 0) q y.strands) y in
      let p = queued_sound y q o 0 depth in
      record {
        view = ap (λ (x : SolveState). go (return_ok x)) (popped_view y' 0 depth [] p idle
            ∙ ap split.popped (queued_view y q o 0 depth)
            ∙ ap (λ (x : held.Strand). split.popped (split.queued_at_top x (state_above 0 y))) shown
            ∙ ap (λ (r : Option held.Strand). record { forest = (refined_by r (state_above 0 y)).forest; stack = [] }) e);
        sound = popped_sound y' 0 depth [] p idle;
      }
  root_ends code.None e shown =
      let y' : Stores = with_strands (given q y.strands) y in
      let p = freed_sound y q o in
      record {
        view = ap (λ (x : SolveState). go (return_ok x)) (popped_view y' 0 depth [] p idle
            ∙ ap split.popped (freed_view y q o 0)
            ∙ ap (λ (r : Option held.Strand). record { forest = (refined_by r (state_above 0 y)).forest; stack = [] }) e);
        sound = popped_sound y' 0 depth [] p idle;
      }

-- a caller is below it
module _ (y : Stores) (n : ℕ) (depth : y.stack.depth ≡ suc (suc n)) (q : ℕ) (o : Sounds (q ∷ []) y)
    (idle : get_or y.stack.active (suc n) 0 ≡ 256) (a : Answer) where
  caller_ends : Ends false a (state_above (suc n) y) (seated_in y (get_or y.stack.table (suc n) 0) q false)
  caller_ends =
      let y' : Stores = with_strands (given q y.strands) y in
      let p = freed_sound y q o in
      record {
        view = ap (λ (x : SolveState). go (continue x)) (popped_view y' (suc n) depth [] p idle
            ∙ ap split.popped (freed_view y q o (suc n)));
        sound = popped_sound y' (suc n) depth [] p idle;
      }

-- either, by the depth
module _ (y : Stores) (q : ℕ) (o : Sounds (q ∷ []) y) (a : Answer) (good : GoodAnswer a) (s : Strand) (c : TimeStamp) where
  abbrev left_by : (root : Bool) → Left
  left_by root = answer_left_by root (refine a) s c

  abbrev shown_by : (root : Bool) → Type 0
  shown_by root = strand_at (first_strands y.book) y.strands q ≡ seen (left_by root).time (left_by root).strand

  abbrev ends_by : (n : ℕ) → (root : Bool) → Type 0
  ends_by n root =
      shown_by root → Ends root a (state_above n y) (seated_in y (get_or y.stack.table n 0) q (left_by root).refines)

  answer_ends : (n : ℕ) → y.stack.depth ≡ suc n → get_or y.stack.active n 0 ≡ 256 → ends_by n (ltb y.stack.depth 2)
  answer_ends zero depth idle =
      subst (ends_by 0) (sym (lt-ltb y.stack.depth 2 (omega arith)))
      (root_ends y depth q o idle a s c (refine a) (refine_view a good.sound.delayed_long))
  answer_ends (suc n) depth idle =
      subst (ends_by (suc n)) (sym (le-ltb y.stack.depth 2 (omega arith))) (λ shown. caller_ends y n depth q o idle a)

-- the answer is stored, and the queue emptied where that is told
module _ (y : Stores) (n : ℕ) (depth : y.stack.depth ≡ suc n) (q : ℕ) (o : Sounds (q ∷ []) y) (a : Answer) (good : GoodAnswer a)
    (room : free_place y.answers.places < 256) where
  abbrev top : ℕ
  top = get_or y.stack.table n 0

  abbrev with_answer : Stores
  with_answer = with_answers (answer_stored top a y.answers) y

  abbrev answering : (empties : Bool) → Stores
  answering empties = with_strands (with_places y.strands (emptied_if empties top y.strands.places)) with_answer

  answering_sound : (empties : Bool) → Sounds (q ∷ []) (answering empties)
  answering_sound true = emptied_sound with_answer n depth (q ∷ []) (stored_sounds y n depth (q ∷ []) o a good room)
  answering_sound false = stored_sounds y n depth (q ∷ []) o a good room

  answering_view : (empties : Bool)
      → state_above n (answering empties) ≡ split.top_table (split.stored (answer a) empties) (state_above n y)
  answering_view true =
      emptied_view with_answer n depth (q ∷ []) (stored_sounds y n depth (q ∷ []) o a good room)
      ∙ ap (split.top_table take_strands) (answer_view y n depth (q ∷ []) o a good room)
      ∙ then_changed y n (o.made n (omega arith)) (split.stored (answer a) false) take_strands
  answering_view false = answer_view y n depth (q ∷ []) o a good room

  module _ (idle : get_or y.stack.active n 0 ≡ 256) (s : Strand) (c : TimeStamp) where
    abbrev left_at : Left
    left_at = answer_left y.stack.depth a s c

    pub answers : (empties : Bool) → strand_at (first_strands y.book) y.strands q ≡ seen left_at.time left_at.strand
        → Ends (ltb y.stack.depth 2) a (split.top_table (split.stored (answer a) empties) (state_above n y))
        (seated_in (answering empties) top q left_at.refines)
    answers empties shown =
        let r = answer_ends (answering empties) q (answering_sound empties) a good s c n depth idle shown in
        record {
          view = r.view ∙ ap (λ (x : SolveState). go (split.answered (answer a) x)) (answering_view empties);
          sound = r.sound;
        }
