-- What the operations on the answers do, as functions on the record, the numbers that stand beside an answer, and what `push_answer` comes
-- to.
use Rattle.std.specs.Prelude.{ℕ, ◌+◌, ◌*◌, ◌%◌, ◌<◌, ◌≡◌, Bool, true, false, List, [], ◌∷◌, map, get_or, set, replicate, ltb}
use Rattle.std.proofs.Math.Option.{none, some}
use Rattle.definitions.specs as said
use Rattle.definitions.specs.Stop.{stop, go}
use Rattle.definitions.specs.Table.{Table, push_answer, next_answer_index}
use Rattle.sizes.specs.Limits.{most_literals, most_places}
use Rattle.strands.specs.declared.Answer.{Answer}
use Rattle.strands.specs.View.{answer}
use Rattle.stores.specs.declared.places.Places.{Places}
use Rattle.stores.specs.declared.table.Answers.{Answers}
use Rattle.stores.specs.declared.table.PushAnswer.{PushAnswer}
use Rattle.stores.specs.declared.table.PushAnswer.TheVariants.{Repeat, Stop, New}
use Rattle.stores.specs.declared.tables.Tables.{Tables}
use Rattle.stores.specs.Numbers.{free, flag, flag_number, written_at}
use Rattle.stores.specs.Places.{places, ring, enqueued, freed, free_place, moved_to, numbered, found_in, blank_places}
use Rattle.stores.specs.View.{answer_at}

-- THE NUMBER OF A DELAYED LIST: its goals in base 128, the first the lowest digit, and no digit 0
abbrev pub key_of : List ℕ → ℕ
key_of [] = 0
key_of (g ∷ l) = key_of l * 128 + (g % 127 + 1)

-- THE MODELS on the record
abbrev pub with_answer_places : Answers → Places → Answers
with_answer_places a p = record {
  answers = a.answers;
  variant = a.variant;
  key = a.key;
  ambiguous = a.ambiguous;
  places = p;
}

-- the answers of table t, in the order found
abbrev pub answers_of : Answers → (t : ℕ) → List said.Answer
answers_of a t = map (answer_at a) (ring a.places t)

-- an answer is written at a place, with its numbers beside it
abbrev pub written_answer : (q : ℕ) → Answer → Answers → Answers
written_answer q x a = record {
  answers = set a.answers q x;
  variant = set a.variant q (answer x).variant;
  key = set a.key q (key_of (answer x).delayed_subgoals);
  ambiguous = set a.ambiguous q (flag_number (answer x).ambiguous);
  places = a.places;
}

-- A NEW ANSWER in table t: a place is taken, enqueued and written
abbrev pub answer_stored : (t : ℕ) → Answer → Answers → Answers
answer_stored t x a =
    with_answer_places (written_answer (free_place a.places) x a) (enqueued t (free_place a.places) (freed a.places))

-- the places of table t's answers are free
abbrev pub cleared_answers : (t : ℕ) → Answers → Answers
cleared_answers t a = with_answer_places a (moved_to t free a.places)

-- WHAT `push_answer` COMES TO: by whether the same answer is stored, whether that is ambiguous and this isn't, and whether there is room
abbrev pub repeated_of : (was is : Bool) → PushAnswer
repeated_of true true = Repeat
repeated_of true false = Stop 26
repeated_of false is = Repeat

abbrev pub new_if : (room : Bool) → ℕ → PushAnswer
new_if true q = New q
new_if false q = Stop 23

abbrev pub outcome_if : (found : Bool) → PushAnswer → PushAnswer → PushAnswer
outcome_if true x y = x
outcome_if false x y = y

abbrev pub room_if : (room : Bool) → (t : ℕ) → Places → Places
room_if true t p = enqueued t (free_place p) (freed p)
room_if false t p = freed p

abbrev pub pushed_if : (found : Bool) → Places → Places → Places
pushed_if true p p' = p
pushed_if false p p' = p'

-- by the numbers beside the answers
module _ (variant key ambiguous : List ℕ) (t : ℕ) (x : Answer) (p : Places) where
  abbrev pub same_place : ℕ
  same_place = found_in (numbered true variant x.variant key (key_of (answer x).delayed_subgoals)) (ring p t)

  abbrev pub push_outcome : PushAnswer
  push_outcome = outcome_if (ltb same_place most_places) (repeated_of (flag (get_or ambiguous same_place 0)) x.ambiguous)
      (new_if (ltb (free_place p) most_places) (free_place p))

  abbrev pub pushed_places : Places
  pushed_places = pushed_if (ltb same_place most_places) p (room_if (ltb (free_place p) most_places) t p)

pub record AnswerPushed (variant key ambiguous next tail len : List ℕ) (top t : ℕ) (x : Answer) (next' tail' len' : List ℕ) (top' : ℕ)
    (r : PushAnswer) : Type 0 where
  pub is : r ≡ push_outcome variant key ambiguous t x (places next tail len top)
  pub left : places next' tail' len' top' ≡ pushed_places variant key ambiguous t x (places next tail len top)

-- WHAT AN OUTCOME MEANS: the result of the definitions' `push_answer` of x on a table; `new` is the table with x
abbrev pub PushMeans : (held : ℕ) → (x : said.Answer) → (table new : Table) → PushAnswer → Type 0
PushMeans held x table new Repeat = push_answer held x table ≡ go (none, table)
PushMeans held x table new (Stop n) = push_answer held x table ≡ stop n
PushMeans held x table new (New q) = push_answer held x table ≡ go (some (next_answer_index table), new)

-- and what it leaves: the places as they were, or those with the new answer's place
abbrev pub PushLeaves : (before new after : Places) → PushAnswer → Type 0
PushLeaves p new p' Repeat = p' ≡ p
PushLeaves p new p' (Stop n) = p' ≡ p
PushLeaves p new p' (New q) = (q ≡ free_place p) × (q < most_places) × (p' ≡ new)

-- `mark_floundered`, of the table's own numbers
abbrev pub marked : (t : ℕ) → Tables → Tables
marked t ts = record {
  count = ts.count;
  goal = ts.goal;
  coinductive = ts.coinductive;
  floundered = written_at t 1 ts.floundered;
  complete = ts.complete;
}

-- BLANK
abbrev pub blank_answer : Answer
blank_answer = record { variant = 0; ambiguous = false; delayed_count = 0; delayed = replicate most_literals 0 }

abbrev pub blank_answers : Answers
blank_answers = record {
  answers = replicate most_places blank_answer;
  variant = replicate most_places 0;
  key = replicate most_places 0;
  ambiguous = replicate most_places 0;
  places = blank_places;
}
