-- `root_answer` around its turns: what is done before the first turn, how a search ends, and which search of a peek comes next. Models over
-- the numbers of the answers.
use Rattle.std.specs.Prelude.{ℕ, suc, ◌+◌, ◌-◌, ◌%◌, Bool, true, false, not, List, [], ◌∷◌, eqb, leb, ltb, get_or}
use Rattle.definitions.specs.{MAX}
use Rattle.rings.specs.Rings.{ring_of, place_if}
use Rattle.control.specs.declared.performed.Flow.{Flow}
use Rattle.control.specs.declared.performed.Flow.TheVariants as flow
use Rattle.stores.specs.Numbers.{flag_at}
use Rattle.search.specs.declared.course.Asked.{Asked}
use Rattle.search.specs.declared.course.Course.{Course}
use Rattle.search.specs.declared.course.Ending.{Ending}
use Rattle.search.specs.declared.course.Ending.TheVariants as endings
use Rattle.search.specs.declared.course.Mode.{Mode}
use Rattle.search.specs.Course.{is_peek, ended}

-- BEFORE THE FIRST TURN

-- the places of the answers from index i on: the first index, none below `from`, whose answer has no delayed goals, else the first past all
abbrev pub first_valid : (key : List ℕ) → (from i : ℕ) → List ℕ → ℕ
first_valid key from i [] = elim (ltb i from) [ true ↦ from | false ↦ i ]
first_valid key from i (p ∷ ps) = elim (leb from i) [
  | false ↦ first_valid key from (suc i) ps
  | true ↦ elim (eqb (get_or key p 0) 0) [ true ↦ i | false ↦ first_valid key from (suc i) ps ]
]

abbrev pub index_by : (peeks : Bool) → (from valid : ℕ) → ℕ
index_by true from valid = valid
index_by false from valid = from

abbrev pub index_from : Mode → (next tail len key : List ℕ) → (t from : ℕ) → ℕ
index_from mode next tail len key t from = index_by (is_peek mode) from (first_valid key from 0 (ring_of next tail len t))

-- the answer stored at an index
abbrev pub stored_by : (far none delayed : Bool) → (variant : ℕ) → (ambiguous : Bool) → Ending
stored_by true none delayed variant ambiguous = endings.Stopped 0
stored_by false true delayed variant ambiguous = endings.Stopped 0
stored_by false false true variant ambiguous = endings.InvalidAnswer
stored_by false false false variant ambiguous = endings.Found variant ambiguous

module _ (next tail len variant key ambiguous : List ℕ) where
  abbrev pub stored_at : (far : Bool) → (place : ℕ) → Ending
  stored_at far p =
      stored_by far (leb 256 p) (ltb 0 (get_or key p 0)) (get_or variant p 0) (not (eqb (get_or ambiguous p 0) 0))

  abbrev pub stored_answer : (t index : ℕ) → Ending
  stored_answer t index =
      stored_at (leb 256 index) (place_if (ltb index (get_or len t 0)) (get_or (ring_of next tail len t) index 0))

-- a course with these changed
abbrev pub course_at : (over : Bool) → Ending → (index more exceeded done mark depth clock : ℕ) → Course → Course
course_at over ending index more exceeded done mark depth clock c = record {
  over = over;
  ending = ending;
  flow = c.flow;
  index = index;
  more = more;
  exceeded = exceeded;
  done = done;
  mark = mark;
  count = c.count;
  depth = depth;
  clock = clock;
  used = c.used;
  answer_used = c.answer_used;
}

abbrev pub pushes_by : (late none_left : Bool) → Course → Course
pushes_by true none_left c =
    course_at true (endings.Stopped 21) c.index c.more c.exceeded c.done 21 c.depth c.clock c
pushes_by false true c = course_at true endings.Cut c.index c.more c.exceeded c.done c.mark c.depth (suc c.clock) c
pushes_by false false c = course_at false endings.Cut c.index c.more c.exceeded c.done c.mark 1 (suc c.clock) c

abbrev pub pushes_root : Asked → Course → Course
pushes_root asked c = pushes_by (leb asked.clock_limit c.clock) (eqb asked.limit 0) c

-- no turn is done yet, and this is the index
abbrev pub from_index : (index : ℕ) → Course → Course
from_index i c = course_at c.over c.ending i c.more c.exceeded 0 c.mark c.depth c.clock c

abbrev pub start_by : (missing floundered new : Bool) → Asked → (index : ℕ) → (stored : Ending) → Course → Course
start_by true floundered new asked i stored c = ended (endings.Stopped 0) (from_index c.index c)
start_by false true new asked i stored c = ended endings.Floundered (from_index c.index c)
start_by false false true asked i stored c = pushes_root asked (from_index i c)
start_by false false false asked i stored c = ended stored (from_index i c)

module _ (asked : Asked) (floundered next tail len variant key ambiguous : List ℕ) where
  abbrev pub start_at : (index : ℕ) → Course → Course
  start_at i c =
      start_by (leb c.count asked.table) (flag_at asked.table floundered) (eqb i (get_or len asked.table 0)) asked i
      (stored_answer next tail len variant key ambiguous asked.table i) c

  abbrev pub start : Course → Course
  start c = start_at (index_from asked.mode next tail len key asked.table c.index) c

-- AFTER THE LAST TURN

abbrev pub one_more_by : (below : Bool) → ℕ → ℕ
one_more_by true n = suc n
one_more_by false n = n

abbrev pub one_more : ℕ → ℕ
one_more n = one_more_by (ltb n MAX) n

abbrev pub ending_of : Flow → (stored : Ending) → Ending
ending_of flow.Continue stored = endings.Cut
ending_of flow.ReturnOk stored = stored
ending_of flow.NoMoreSolutions stored = endings.NoMoreSolutions
ending_of flow.QuantumExceeded stored = endings.QuantumExceeded
ending_of flow.NegativeCycle stored = endings.NegativeCycle
ending_of (flow.Stop n) stored = endings.Stopped n

abbrev pub counted : Flow → (done : ℕ) → ℕ
counted flow.Continue done = one_more done
counted flow.ReturnOk done = one_more done
counted flow.NoMoreSolutions done = one_more done
counted flow.QuantumExceeded done = one_more done
counted flow.NegativeCycle done = one_more done
counted (flow.Stop n) done = done

abbrev pub marked : Flow → (mark : ℕ) → ℕ
marked flow.Continue mark = mark
marked flow.ReturnOk mark = mark
marked flow.NoMoreSolutions mark = mark
marked flow.QuantumExceeded mark = mark
marked flow.NegativeCycle mark = mark
marked (flow.Stop n) mark = n

abbrev pub finish : Flow → (stored : Ending) → Course → Course
finish f stored c =
    course_at true (ending_of f stored) c.index c.more c.exceeded (counted f c.done) (marked f c.mark) 0 c.clock c

abbrev pub is_invalid : Ending → Bool
is_invalid (endings.Found variant ambiguous) = false
is_invalid endings.NoMoreSolutions = false
is_invalid endings.Floundered = false
is_invalid endings.QuantumExceeded = false
is_invalid endings.NegativeCycle = false
is_invalid endings.InvalidAnswer = true
is_invalid endings.Cut = false
is_invalid (endings.Stopped n) = false

abbrev pub is_exceeded : Ending → Bool
is_exceeded (endings.Found variant ambiguous) = false
is_exceeded endings.NoMoreSolutions = false
is_exceeded endings.Floundered = false
is_exceeded endings.QuantumExceeded = true
is_exceeded endings.NegativeCycle = false
is_exceeded endings.InvalidAnswer = false
is_exceeded endings.Cut = false
is_exceeded (endings.Stopped n) = false

-- no table has as many answers
abbrev pub last_index : ℕ
last_index = 256

abbrev pub skip_by : (below : Bool) → Course → Course
skip_by true c = course_at false c.ending (suc c.index) c.more c.exceeded c.done c.mark c.depth c.clock c
skip_by false c = c

abbrev pub skip_invalid : Course → Course
skip_invalid c = skip_by (ltb c.index last_index) c

abbrev pub round_by : (left : Bool) → Course → Course
round_by true c =
    course_at false c.ending c.index (c.more - 1) (one_more c.exceeded) c.done c.mark c.depth c.clock c
round_by false c =
    course_at c.over c.ending c.index c.more (one_more c.exceeded) c.done c.mark c.depth c.clock c

abbrev pub next_round : Course → Course
next_round c = round_by (ltb 0 c.more) c

abbrev pub next_by : (peeks invalid exceeded : Bool) → Course → Course
next_by false invalid exceeded c = c
next_by true true exceeded c = skip_invalid c
next_by true false true c = next_round c
next_by true false false c = c

abbrev pub next_search : Mode → Course → Course
next_search mode c = next_by (is_peek mode) (is_invalid c.ending) (is_exceeded c.ending) c

abbrev pub unless_over : (over : Bool) → (c next : Course) → Course
unless_over true c next = c
unless_over false c next = next

module _ (asked : Asked) (floundered next tail len variant key ambiguous : List ℕ) where
  abbrev pub ended_so : Course → Course
  ended_so c =
      next_search asked.mode (finish c.flow (stored_answer next tail len variant key ambiguous asked.table c.index) c)

  abbrev pub end_search : Course → Course
  end_search c =
      unless_over (ended_so c).over (ended_so c) (start asked floundered next tail len variant key ambiguous (ended_so c))
