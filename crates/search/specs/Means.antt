-- What a walk means: how its searches end, and how they stand, in the words of the definitions.
use Rattle.std.specs.Prelude.{ℕ, Bool, true, false, [], ◌≡◌}
use Rattle.definitions.specs.{TimeStamp}
use Rattle.definitions.specs.Forest.{Peeked, peeked}
use Rattle.definitions.specs.Logic as logic
use Rattle.definitions.specs.Turn as said
use Rattle.asserts.specs.Sound.{SoundForest}
use Rattle.small_steps.specs.Steps.{Standing, Progress, ended, stands, Peeks}
use Rattle.book.specs.View as books
use Rattle.book.specs.declared.Book.{Book}
use Rattle.control.specs.InHand.{Sounds}
use Rattle.control.specs.Stores.{Stores, forest, state}
use Rattle.search.specs.declared.course.Asked.{Asked}
use Rattle.search.specs.declared.course.Ending.{Ending}
use Rattle.search.specs.declared.course.Ending.TheVariants as endings
use Rattle.search.specs.Walk.{Walk}

abbrev pub ending_means : Ending → said.Ending
ending_means (endings.Found variant ambiguous) = said.found (record { variant = variant; ambiguous = ambiguous })
ending_means endings.NoMoreSolutions = said.fail logic.NoMoreSolutions
ending_means endings.Floundered = said.fail logic.Floundered
ending_means endings.QuantumExceeded = said.fail logic.QuantumExceeded
ending_means endings.NegativeCycle = said.fail logic.NegativeCycle
ending_means endings.InvalidAnswer = said.fail logic.InvalidAnswer
ending_means endings.Cut = said.cut
ending_means (endings.Stopped n) = said.stopped n

-- STORES between two searches: nothing is on the stack
pub record Rests (z : Stores) : Type 0 where
  pub book : books.Sound z.book
  pub sounds : Sounds [] z
  pub empty : z.stack.depth ≡ 0
  pub forest : SoundForest z.book.goals (forest z)

module _ (b : Book) (asked : Asked) where
  -- the stores that a walk lends
  abbrev pub stores_of : Walk → Stores
  stores_of v =
      let w = v.lent in
      record {
        book = b;
        tables = w.tables;
        strands = w.strands;
        answers = w.answers;
        stack = w.stack;
        clock_limit = asked.clock_limit;
        mark = v.course.mark;
        clock = w.clock;
      }

  -- the last search, where the course is over
  abbrev pub searched_of : Walk → said.Searched
  searched_of v = record { ending = ending_means v.course.ending; turns = v.course.done; forest = forest (stores_of v) }

  abbrev pub peeked_of : Walk → Peeked
  peeked_of v = peeked v.course.index v.course.exceeded (searched_of v)

  -- the search that stands, begun at this clock, where it is not
  abbrev pub standing_of : (first : TimeStamp) → Walk → Standing
  standing_of first v = record {
    state = state (stores_of v);
    table = asked.table;
    index = v.course.index;
    limit = asked.limit;
    done = v.course.done;
    first = first;
  }

  abbrev pub progress_by : (over : Bool) → (first : TimeStamp) → Walk → Progress
  progress_by true first v = ended (searched_of v)
  progress_by false first v = stands (standing_of first v)

  abbrev pub progress_of : (first : TimeStamp) → Walk → Progress
  progress_of first v = progress_by v.course.over first v

  -- WHAT A PEEK COMES TO: it is over, or goes on by its steps from the search that stands
  abbrev pub peeked_by : (over : Bool) → (first : TimeStamp) → Walk → Peeked → Type 0
  peeked_by true first v p = p ≡ peeked_of v
  peeked_by false first v p =
      let c = v.course in
      Peeks asked.limit asked.table c.more c.exceeded c.index (stands (standing_of first v)) p

  abbrev pub PeekedBy : (first : TimeStamp) → Walk → Peeked → Type 0
  PeekedBy first v p = peeked_by v.course.over first v p
