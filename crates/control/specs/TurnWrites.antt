-- The doing half of a turn put together: what is done to the stores, in the order of the loop, and what that means.
use Rattle.std.specs.Prelude.{ℕ, ◌%◌, Bool, true, false, [], ◌≡◌, get_or, set}
use Rattle.definitions.specs.Stop.{◌>>=◌, go}
use Rattle.small_steps.specs.Acts as split
use Rattle.stores.specs.Numbers.{within}
use Rattle.stores.specs.Queue.{store, with_places}
use Rattle.stores.specs.Stack.{caller_place}
use Rattle.stores.specs.View.{unread_answer}
use Rattle.control.specs.declared.choose.Chosen.{Chosen}
use Rattle.control.specs.declared.performed.Flow.TheVariants as ways
use Rattle.control.specs.InHand.{lent, with_lent, Sounds, flows}
use Rattle.control.specs.Perform.{performed}
use Rattle.control.specs.PerformDeed.{answers_of, bare}
use Rattle.control.specs.PerformStrand.{Lent, lent_of, TurnDone}
use Rattle.control.specs.Stores.{Stores, state}
use Rattle.control.specs.TurnReads.{top, next, hand_at, chosen_for, decided_for, idle, turn_means}
use Rattle.control.specs.UnwindStack.{all_back}

-- WHAT THE OWNER WRITES: the copy, then the strand, and the answer
abbrev pub put : TurnDone → Lent
put r =
    let w = r.lent in
    let s = w.strands in
    let a = w.answers in
    lent_of w.tables
    (store (set (set s.strands r.copy_at r.copy) r.strand_at r.strand) s.time s.ambiguous s.variant s.waits
    s.wants s.places)
    (answers_of (set a.answers r.answer_at r.answer) a.variant a.key a.ambiguous a.places)
    w.stack w.clock

-- the place that is read: the strand's, or where there is none to go on with, the caller's
abbrev pub place_by : (found : Bool) → (place caller : ℕ) → ℕ
place_by true place caller = place
place_by false place caller = caller % 256

module _ (z : Stores) where
  abbrev pub read_place : ℕ
  read_place = place_by (next z).found (next z).place (caller_place z.stack.depth z.stack.active)

  abbrev pub chosen : Chosen
  chosen = chosen_for z (hand_at z read_place)

  -- WHAT IS DONE
  abbrev pub turn_done : TurnDone
  turn_done =
      performed z.book.goal_flags z.book.goal_first z.book.goal_len z.book.clause_variant z.book.clause_flags
      (next z) (top z) chosen.made (decided_for z chosen) read_place (hand_at z read_place) chosen.place
      (get_or z.answers.answers chosen.place unread_answer) (idle z) (lent z)

  abbrev pub turned : Stores
  turned = with_lent (put turn_done) z

  -- WHAT IT MEANS: the turn that is decided, done; a stop leaves the state as it was
  pub record Performs : Type 0 where
    pub does : flows turn_done.flow (state turned) ≡ (turn_means z >>= λ act. go (split.perform act (state z)))
    pub undone : (n : ℕ) → turn_done.flow ≡ ways.Stop n → state turned ≡ state z
    pub sound : Sounds [] turned

-- A SEARCH PUT BACK (`Drop` of SolveState): the entries' active strands go back to their tables, and nothing is on the stack
abbrev pub backed : Stores → Stores
backed z =
    with_lent (lent_of z.tables
    (with_places z.strands (all_back z.stack.table z.stack.active (within z.stack.depth) z.strands.places))
    z.answers (bare z.stack) z.clock) z
