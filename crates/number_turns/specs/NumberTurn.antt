-- A turn by the numbers beside the strands alone, where they settle it: models over what is lent. What is found is what a turn with the
-- strand would find (`proofs/NumberTurns`), and what is done is what it would do; no strand is read.
use Rattle.std.specs.Prelude.{ℕ, ◌*◌, ◌%◌, Bool, true, false, List, leb, get_or, set}
use Rattle.definitions.specs.{MAX}
use Rattle.strands.specs.Times.{incremented}
use Rattle.stores.specs.declared.queue.Strands.{Strands}
use Rattle.stores.specs.declared.stack.Stack.{Stack}
use Rattle.stores.specs.Numbers.{waits_not, flag_at}
use Rattle.stores.specs.Places.{enqueued}
use Rattle.stores.specs.Queue.{store, with_places}
use Rattle.stores.specs.Stack.{pushed, activated, caller_taken}
use Rattle.control.specs.declared.ensure_root_answer.Next.{Next}
use Rattle.control.specs.declared.ensure_root_answer.Top.{Top}
use Rattle.control.specs.declared.on_no_strands_left.Idle.{Idle}
use Rattle.control.specs.declared.on_no_strands_left.Idle.TheVariants as idle
use Rattle.control.specs.declared.on_subgoal_selected.Look.{Look}
use Rattle.control.specs.declared.on_subgoal_selected.Look.TheVariants as looks
use Rattle.control.specs.Choose.{look_at}
use Rattle.control.specs.EnsureRootAnswer.{top_of, next_strand}
use Rattle.control.specs.OnNoStrandsLeft.{waits_on_not, caller_waits_on_not, minimum_at, no_strands_left}
use Rattle.control.specs.OnPositiveCycle.{minimums_at, met_at, cycled}
use Rattle.control.specs.PerformDeed.{stack_of, left_rings, left_active}
use Rattle.control.specs.PerformIdle.{rejoined}
use Rattle.control.specs.PerformStrand.{Lent, lent_of}
use Rattle.number_turns.specs.declared.number_turn.Move.{Move}
use Rattle.number_turns.specs.declared.number_turn.Move.TheVariants as move

-- WHAT IS FOUND

abbrev pub push_unless : (late : Bool) → (table : ℕ) → Move
push_unless true t = move.Nothing
push_unless false t = move.Pushes t

abbrev pub move_by_look : (late : Bool) → Look → Move
move_by_look late (looks.Answer place) = move.Nothing
move_by_look late looks.Coinductive = move.Nothing
move_by_look late (looks.Cycle height) = move.Cycles height
move_by_look late (looks.Push table) = push_unless late table

abbrev pub strand_move_by : (nothing floundered : Bool) → Move → Move
strand_move_by true floundered m = move.Nothing
strand_move_by false true m = move.Nothing
strand_move_by false false m = m

abbrev pub idle_move : Idle → Move
idle_move idle.Nothing = move.Nothing
idle_move idle.Finishes = move.Nothing
idle_move idle.CallerFailed = move.Nothing
idle_move idle.CallerProved = move.Nothing
idle_move idle.ChangesMode = move.Nothing
idle_move idle.NegativeCycle = move.Nothing
idle_move idle.Clears = move.Nothing
idle_move idle.PartOfCycle = move.Rejoins

abbrev pub move_by : (found : Bool) → (with_strand without : Move) → Move
move_by true m n = m
move_by false m n = n

module _ (entry_table coinductive floundered : List ℕ) where
  -- the number w beside a strand names the table that it waits on, and the other one the answer that it wants
  abbrev pub strand_move : (depth : ℕ) → (answer_next answer_tail answer_len : List ℕ) → (late : Bool) → (w index : ℕ) → Move
  strand_move depth answer_next answer_tail answer_len late w index =
      strand_move_by (leb (2 * waits_not) w) (flag_at (w % waits_not) floundered)
      (move_by_look late (look_at entry_table coinductive depth answer_next answer_tail answer_len (w % waits_not) index))

  module _ (answer_next answer_tail answer_len : List ℕ) (late : Bool) (len waits wants positive negative active : List ℕ) where
    abbrev pub move_for : Next → Top → Move
    move_for p top =
        move_by p.found
        (strand_move top.depth answer_next answer_tail answer_len late (get_or waits p.place 0) (get_or wants p.place 0))
        (idle_move (no_strands_left len waits positive negative active top))

abbrev pub moves : Move → Bool
moves move.Nothing = false
moves (move.Pushes table) = true
moves (move.Cycles height) = true
moves move.Rejoins = true

-- WHAT IS DONE

-- whether the turn is done, and what is lent then
pub record NumberTurn : Type 0 where
  pub settled : Bool
  pub lent : Lent

abbrev pub numbered_by : (settled : Bool) → Lent → NumberTurn
numbered_by settled w = record { settled = settled; lent = w }

module _ (p : Next) (top : Top) where
  -- `pursue`: the strand leaves its origin, pursued at the top's time
  abbrev pub pursued : Strands → Strands
  pursued s = store s.strands (set s.time p.place top.clock) s.ambiguous s.variant s.waits s.wants
      (left_rings p.queued top.table p.before s.places)

  abbrev pub entry_left : Stack → Stack
  entry_left k = stack_of k.depth k.table k.clock k.positive k.negative (left_active p.queued k.depth k.active)

  -- `make_move`
  abbrev pub lent_moved : Move → Lent → Lent
  lent_moved move.Nothing w = w
  lent_moved (move.Pushes t) w =
      lent_of w.tables (pursued w.strands) w.answers
      (pushed t (incremented w.clock) MAX (activated p.place (entry_left w.stack))) (incremented w.clock)
  lent_moved (move.Cycles height) w =
      lent_of w.tables
      (with_places (pursued w.strands) (enqueued top.table p.place (pursued w.strands).places)) w.answers
      (cycled (waits_on_not (get_or w.strands.waits p.place 0)) (met_at w.stack.clock height) (entry_left w.stack))
      w.clock
  lent_moved move.Rejoins w =
      let k = w.stack in
      lent_of w.tables
      (with_places w.strands (rejoined k.table k.active k.depth w.strands.places)) w.answers
      (cycled (caller_waits_on_not w.strands.waits k.active k.depth)
      (minimums_at (minimum_at k.positive k.depth) (minimum_at k.negative k.depth)) (caller_taken k)) w.clock

  abbrev pub moved : Move → Lent → NumberTurn
  moved m w = numbered_by (moves m) (lent_moved m w)

-- THE TURN
abbrev pub top_in : Lent → Top
top_in w = top_of w.stack.table w.stack.clock w.stack.active w.tables.complete w.stack.depth

abbrev pub next_in : Lent → Next
next_in w =
    let s = w.strands in
    next_strand s.places.next s.places.tail s.places.len s.time s.ambiguous (top_in w)

abbrev pub move_in : (late : Bool) → Lent → Move
move_in late w =
    let s = w.strands in
    let a = w.answers.places in
    let k = w.stack in
    move_for k.table w.tables.coinductive w.tables.floundered a.next a.tail a.len late s.places.len s.waits
    s.wants k.positive k.negative k.active (next_in w) (top_in w)

abbrev pub number_turn : (late : Bool) → Lent → NumberTurn
number_turn late w = moved (next_in w) (top_in w) (move_in late w) w
