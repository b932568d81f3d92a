-- What a search and a peek say: the definitions' results, in the words of the code.
use Rattle.std.specs.Prelude.{ℕ, false, ◌≡◌}
use Rattle.definitions.specs.{MAX}
use Rattle.definitions.specs.Forest as said
use Rattle.definitions.specs.Logic as logic
use Rattle.definitions.specs.Refusal.{Refusable, refused, accepted}
use Rattle.definitions.specs.Turn as turns
use Rattle.stores.specs.declared.stack.Stack.{Stack}
use Rattle.stores.specs.Stack.{pushed, blank_stack}
use Rattle.control.specs.declared.performed.Flow.TheVariants as flow
use Rattle.control.specs.PerformDeed.{bare}
use Rattle.control.specs.PerformStrand.{Lent, lent_of}
use Rattle.search.specs.declared.course.Asked.{Asked}
use Rattle.search.specs.declared.course.Course.{Course}
use Rattle.search.specs.declared.course.Ending.{Ending}
use Rattle.search.specs.declared.course.Ending.TheVariants as endings
use Rattle.search.specs.Walk.{Walk, walk, numbered, Comes}
use Rattle.batch.specs.Refusal.{refusal_in}
use Rattle.forest.specs.declared.Forest.{Forest}
use Rattle.forest.specs.declared.searches.Outcome.{Outcome}
use Rattle.forest.specs.declared.searches.Outcome.TheVariants as outcomes
use Rattle.forest.specs.declared.searches.PeekReply.{PeekReply}
use Rattle.forest.specs.declared.searches.Peeked.{Peeked}
use Rattle.forest.specs.declared.searches.Ran.{Ran}
use Rattle.forest.specs.declared.searches.SearchReply.{SearchReply}
use Rattle.forest.specs.declared.searches.Searched.{Searched}
use Rattle.forest.specs.View.{book_in, lent_with, view, Sound, forest_by}

-- WHAT A RESULT MEANS: refused by a number, or how the search ended
abbrev pub outcome_of : Ending → Outcome
outcome_of (endings.Found variant ambiguous) = outcomes.Found variant ambiguous
outcome_of endings.NoMoreSolutions = outcomes.NoMoreSolutions
outcome_of endings.Floundered = outcomes.Floundered
outcome_of endings.QuantumExceeded = outcomes.QuantumExceeded
outcome_of endings.NegativeCycle = outcomes.NegativeCycle
outcome_of endings.InvalidAnswer = outcomes.InvalidAnswer
outcome_of endings.Cut = outcomes.Cut
outcome_of (endings.Stopped n) = outcomes.Stopped n

abbrev pub reply_by : {A : Type 0} → Outcome → (turns.Ending → A) → Refusable A
reply_by (outcomes.Refused n) with = refused n
reply_by (outcomes.Found variant ambiguous) with = accepted (with (turns.found (record { variant = variant; ambiguous = ambiguous })))
reply_by outcomes.NoMoreSolutions with = accepted (with (turns.fail logic.NoMoreSolutions))
reply_by outcomes.Floundered with = accepted (with (turns.fail logic.Floundered))
reply_by outcomes.QuantumExceeded with = accepted (with (turns.fail logic.QuantumExceeded))
reply_by outcomes.NegativeCycle with = accepted (with (turns.fail logic.NegativeCycle))
reply_by outcomes.InvalidAnswer with = accepted (with (turns.fail logic.InvalidAnswer))
reply_by outcomes.Cut with = accepted (with turns.cut)
reply_by (outcomes.Stopped n) with = accepted (with (turns.stopped n))

abbrev pub searched_means : Searched → Refusable turns.Searched
searched_means r = reply_by r.outcome (λ e. record { ending = e; turns = r.turns; forest = view r.forest })

abbrev pub peeked_means : Peeked → Refusable said.Peeked
peeked_means r = reply_by r.outcome
    (λ e. record { ending = e; index = r.index; turns = r.turns; exceeded = r.exceeded; forest = view r.forest })

-- THE CONTRACTS. For every sound forest the result is the definitions' and the forest left is sound; and whatever the forest, a refused
-- call tells the number alone and leaves the very same forest, and a marked one is refused with 20.
pub record SearchSays (f : Forest) (table index limit : ℕ) (r : Searched) : Type 0 where
  pub says : Sound f → searched_means r ≡ said.search (view f) table index limit
  pub sound : Sound f → Sound r.forest
  pub unchanged : (n : ℕ) → r.outcome ≡ outcomes.Refused n → r ≡ record { outcome = outcomes.Refused n; turns = 0; forest = f }
  pub marked : (f.mark ≡ 0 → ⊥) → r.outcome ≡ outcomes.Refused 20

pub record PeekSays (f : Forest) (table index rounds limit : ℕ) (r : Peeked) : Type 0 where
  pub says : Sound f → peeked_means r ≡ said.peek (view f) table index rounds limit
  pub sound : Sound f → Sound r.forest
  pub unchanged : (n : ℕ) → r.outcome ≡ outcomes.Refused n
      → r ≡ record { outcome = outcomes.Refused n; index = index; turns = 0; exceeded = 0; forest = f }
  pub marked : (f.mark ≡ 0 → ⊥) → r.outcome ≡ outcomes.Refused 20

-- what a search and a peek tell, with the forest that they leave
abbrev pub searched : SearchReply → Forest → Searched
searched z f = record { outcome = z.outcome; turns = z.turns; forest = f }

abbrev pub peeked : PeekReply → Forest → Peeked
peeked z f = record { outcome = z.outcome; index = z.index; turns = z.turns; exceeded = z.exceeded; forest = f }

-- WHAT IS TESTED FIRST: 20, 10 and 11, or 0 where none of them refuses
abbrev pub refusal_of : Forest → (table index : ℕ) → ℕ
refusal_of f table index = refusal_in f.mark f.stores.tables.count f.stores.tables.floundered f.stores.answers.places.len table index

abbrev pub searching_refused : (number : ℕ) → SearchReply
searching_refused number = record { outcome = outcomes.Refused number; turns = 0 }

abbrev pub peeking_refused : (index number : ℕ) → PeekReply
peeking_refused index number = record { outcome = outcomes.Refused number; index = index; turns = 0; exceeded = 0 }

-- HOW THEY ARE RUN

-- the course before the first search starts
abbrev pub course_in : Forest → (index more : ℕ) → Course
course_in f index more = record {
  over = false;
  ending = endings.Cut;
  flow = flow.Continue;
  index = index;
  more = more;
  exceeded = 0;
  done = 0;
  mark = f.mark;
  count = f.stores.tables.count;
  depth = 0;
  clock = f.clock;
  used = f.stores.strands.places.top;
  answer_used = f.stores.answers.places.top;
}

-- a course that was run, with the forest that it leaves
abbrev pub ran : Course → Forest → Ran
ran c f = record { course = c; forest = f }

-- a forest in which only the numbers that a course carries have changed
abbrev pub renumbered : Forest → Course → Forest
renumbered f c = forest_by (book_in f) (numbered c (lent_with f blank_stack)) f.clock_limit c.mark

-- the root's entry is at the bottom of the stack
abbrev pub rooted : Asked → Lent → Course → Walk
rooted asked w c =
    walk c (lent_of w.tables w.strands w.answers (pushed asked.table c.clock MAX (bare w.stack)) w.clock)

-- a forest by what a course carries
pub record Carries (f : Forest) (c : Course) (g : Forest) : Type 0 where
  pub book : book_in g ≡ book_in f
  pub limit : g.clock_limit ≡ f.clock_limit
  pub mark : g.mark ≡ c.mark
  pub count : g.stores.tables.count ≡ c.count
  pub clock : g.clock ≡ c.clock
  pub used : g.stores.strands.places.top ≡ c.used
  pub answer_used : g.stores.answers.places.top ≡ c.answer_used

-- what is run from a course on, with the entries of this stack, comes to this, with some stack left over
pub record RunsWith (f : Forest) (k : Stack) (asked : Asked) (c : Course) (r : Ran) : Type 0 where
  pub stack : Stack
  pub comes : Comes (book_in f) asked (rooted asked (lent_with f k) c) (walk r.course (lent_with r.forest stack))
  pub carries : Carries f r.course r.forest

abbrev pub Runs : Forest → Asked → Course → Ran → Type 0
Runs f asked c r = RunsWith f blank_stack asked c r
