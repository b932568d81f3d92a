-- What is done about the strand in hand: models over what a deed moves, composed of those of the stores. The strand's place is in nobody's
-- ring. A deed that stops does nothing.
use Rattle.std.specs.Prelude.{ℕ, ◌-◌, ◌%◌, Bool, true, false, List, set, eqb, ltb}
use Rattle.definitions.specs.{TimeStamp, MAX}
use Rattle.strands.specs.declared.Answer.{Answer}
use Rattle.strands.specs.Times.{incremented}
use Rattle.strands.specs.View.{answer}
use Rattle.stores.specs.declared.places.Places.{Places}
use Rattle.stores.specs.declared.table.Answers.{Answers}
use Rattle.stores.specs.declared.stack.Stack.{Stack}
use Rattle.stores.specs.Numbers.{free, within, written_at, flag_number}
use Rattle.stores.specs.Places.{enqueued, unlinked_at, moved_to, freed, free_place}
use Rattle.stores.specs.Stack.{top_written, pushed, popped, activated}
use Rattle.stores.specs.Table.{key_of, with_answer_places}
use Rattle.control.specs.declared.decision.Deed.{Deed}
use Rattle.control.specs.declared.decision.Deed.TheVariants.{Stop, GoesOn, GivesUp, Cycles, Pushes, Requeues, Flounders}
use Rattle.control.specs.declared.decision.Deed.TheVariants.{Answers as Answering}
use Rattle.control.specs.declared.performed.Flow.{Flow}
use Rattle.control.specs.declared.perform_deed.Done.{Done}
use Rattle.control.specs.declared.performed.Flow.TheVariants as flow
use Rattle.control.specs.UnwindStack.{all_back}
use Rattle.control.specs.OnPositiveCycle.{met_at, cycled}

-- THE RECORDS by their parts
abbrev pub stack_of : (depth : ℕ) → (table clock positive negative active : List ℕ) → Stack
stack_of depth table clock positive negative active =
    record { depth = depth; table = table; clock = clock; positive = positive; negative = negative; active = active }

abbrev pub answers_of : List Answer → (variant key ambiguous : List ℕ) → Places → Answers
answers_of answers variant key ambiguous p =
    record { answers = answers; variant = variant; key = key; ambiguous = ambiguous; places = p }

-- `leave`: by whether the strand was queued
abbrev pub left_rings : (queued : Bool) → (t before : ℕ) → Places → Places
left_rings true t b p = unlinked_at t b p
left_rings false t b p = p

abbrev pub left_active : (queued : Bool) → (depth : ℕ) → List ℕ → List ℕ
left_active true depth active = active
left_active false depth active = top_written depth 256 active

-- `give_up`
abbrev pub given_up : (table active : List ℕ) → (depth place : ℕ) → Places → Places
given_up table active depth q p = all_back table active (within (depth - 1)) (enqueued free q p)

-- `empty_queue`: the ring of the free places stays
abbrev pub emptied_unless : (is_free : Bool) → (t : ℕ) → Places → Places
emptied_unless true t p = p
emptied_unless false t p = moved_to t free p

abbrev pub emptied : (t : ℕ) → Places → Places
emptied t p = emptied_unless (eqb t free) t p

abbrev pub emptied_if : (empties : Bool) → (t : ℕ) → Places → Places
emptied_if true t p = emptied t p
emptied_if false t p = p

-- `keep_answer`: a place is taken, the numbers of the answer are written there, and it is enqueued. The answer itself is written by its
-- owner, whatever answers that has.
abbrev pub new_place : Places → ℕ
new_place p = free_place p % 256

abbrev pub answer_noted : (q : ℕ) → Answer → Answers → Answers
answer_noted q x a = answers_of a.answers (set a.variant q (answer x).variant) (set a.key q (key_of (answer x).delayed_subgoals))
    (set a.ambiguous q (flag_number (answer x).ambiguous)) a.places

abbrev pub answer_kept : (t : ℕ) → Answer → Answers → Answers
answer_kept t x a =
    with_answer_places (answer_noted (new_place a.places) x a) (enqueued t (new_place a.places) (freed a.places))

-- the ring for the place of a strand that has given its answer
abbrev pub seated : (refines : Bool) → (t : ℕ) → ℕ
seated true t = t
seated false t = free

abbrev pub answer_flow : (root : Bool) → Flow
answer_flow true = flow.ReturnOk
answer_flow false = flow.Continue

-- WHAT A DEED MOVES
pub record Moving : Type 0 where
  pub rings : Places
  pub floundered : List ℕ
  pub answers : Answers
  pub stack : Stack
  pub clock : TimeStamp

abbrev pub moving : Places → (floundered : List ℕ) → Answers → Stack → TimeStamp → Moving
moving rings floundered answers stack clock =
    record { rings = rings; floundered = floundered; answers = answers; stack = stack; clock = clock }

abbrev pub with_rings : Moving → Places → Moving
with_rings m p = moving p m.floundered m.answers m.stack m.clock

abbrev pub with_stack : Moving → Stack → Moving
with_stack m k = moving m.rings m.floundered m.answers k m.clock

-- the strand's place goes to the end of ring t
abbrev pub requeued : (t place : ℕ) → Moving → Moving
requeued t q m = with_rings m (enqueued t q m.rings)

-- nothing is on the stack
abbrev pub bare : Stack → Stack
bare k = stack_of 0 k.table k.clock k.positive k.negative k.active

-- the strand's place is free, and the search is over
abbrev pub given_away : (place : ℕ) → Moving → Moving
given_away q m =
    moving (given_up m.stack.table m.stack.active m.stack.depth q m.rings) m.floundered m.answers (bare m.stack)
    m.clock

abbrev pub table_pushed : (t place : ℕ) → Moving → Moving
table_pushed t q m =
    moving m.rings m.floundered m.answers (pushed t (incremented m.clock) MAX (activated q m.stack))
    (incremented m.clock)

abbrev pub table_floundered : (t : ℕ) → Moving → Moving
table_floundered t m =
    moving (emptied t m.rings) (written_at t 1 m.floundered) (with_answer_places m.answers (emptied t m.answers.places))
    m.stack m.clock

abbrev pub answer_given : (t place : ℕ) → Answer → (empties refines : Bool) → Moving → Moving
answer_given t q x empties refines m =
    moving (enqueued (seated refines t) q (emptied_if empties t m.rings)) m.floundered (answer_kept t x m.answers)
    (popped m.stack) m.clock

-- HOW A DEED ENDS: the flow, and where the answer that is written stands
pub record Did : Type 0 where
  pub flow : Flow
  pub answer_at : ℕ
  pub moved : Moving

abbrev pub did : Flow → (answer_at : ℕ) → Moving → Did
did f q m = record { flow = f; answer_at = q; moved = m }

-- THE MODEL of a deed of the top's table t, about the strand at this place: `not` is the sign of its last literal, x the answer that it
-- gives, and `seen` the place of the answer that was read.
module _ (not refines : Bool) (x : Answer) (t place seen : ℕ) where
  abbrev pub deed_done : Deed → Moving → Did
  deed_done (Stop n) m = did (flow.Stop n) seen m
  deed_done GoesOn m = did flow.Continue seen (with_stack m (activated place m.stack))
  deed_done GivesUp m = did flow.QuantumExceeded seen (given_away place m)
  deed_done (Cycles height) m =
      did flow.Continue seen (requeued t place (with_stack m (cycled not (met_at m.stack.clock height) m.stack)))
  deed_done (Pushes table) m = did flow.Continue seen (table_pushed table place m)
  deed_done Requeues m = did flow.QuantumExceeded seen (requeued t place m)
  deed_done Flounders m = did flow.QuantumExceeded seen (given_away place (table_floundered t m))
  deed_done (Answering empties) m =
      did (answer_flow (ltb m.stack.depth 2)) (new_place m.answers.places) (answer_given t place x empties refines m)

-- what the code tells of it
abbrev pub did_by : Done → Places → (floundered : List ℕ) → Answers → Stack → Did
did_by r rings floundered answers stack = did r.flow r.answer_place (moving rings floundered answers stack r.clock)
