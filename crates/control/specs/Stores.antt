-- The stores of a search: what they mean together, and when they are sound.
use Rattle.std.specs.Prelude.{ℕ, ◌-◌, List, get_or}
use Rattle.definitions.specs.{TimeStamp}
use Rattle.definitions.specs.Logic.{initial_strand, SolveState}
use Rattle.definitions.specs.Stack as said
use Rattle.definitions.specs.Tables.{Forest}
use Rattle.asserts.specs.Sound.{SoundState}
use Rattle.book.specs.View as books
use Rattle.book.specs.declared.Book.{Book}
use Rattle.stores.specs.declared.places.Places.{Places}
use Rattle.stores.specs.declared.queue.Strands.{Strands}
use Rattle.stores.specs.declared.stack.Stack.{Stack}
use Rattle.stores.specs.declared.table.Answers.{Answers}
use Rattle.stores.specs.declared.tables.Tables.{Tables}
use Rattle.stores.specs.Numbers.{free}
use Rattle.stores.specs.Sound.{SoundTables, SoundStrands, SoundAnswers, SoundStack}
use Rattle.stores.specs.View.{FirstStrands, tables, entered, active_places}

pub record Stores : Type 0 where
  pub book : Book
  pub tables : Tables
  pub strands : Strands
  pub answers : Answers
  pub stack : Stack
  pub clock_limit : TimeStamp
  pub mark : ℕ
  pub clock : TimeStamp

-- the first strands of the book's clauses, which fresh places stand for
abbrev pub first_strands : Book → FirstStrands
first_strands b c = initial_strand (books.clause_viewed b c)

-- `in_use`: how many places of a store are in use
abbrev pub in_use : Places → ℕ
in_use p = p.top - get_or p.len free 0

-- THE VIEW
module _ (z : Stores) where
  abbrev pub forest : Forest
  forest = record {
    book = books.view z.book;
    clock_limit = z.clock_limit;
    mark = z.mark;
    tables = tables (first_strands z.book) z.tables z.strands z.answers;
    clock = z.clock;
  }

  abbrev pub entries_of : said.Stack
  entries_of = entered (first_strands z.book) z.stack z.strands

  abbrev pub state : SolveState
  state = record { forest = forest; stack = entries_of }

  -- the places of the entries' strands
  abbrev pub held_places : List ℕ
  held_places = active_places z.stack.active z.stack.depth

-- What a turn rests on: each store is sound, and so is the state that they hold, in a search for an answer of a root.
pub record SoundStores (root index first : ℕ) (z : Stores) : Type 0 where
  pub book : books.Sound z.book
  pub tables : SoundTables z.tables
  pub strands : SoundStrands (first_strands z.book) z.strands z.tables.count (held_places z)
  pub answers : SoundAnswers z.answers z.tables.count
  pub stack : SoundStack z.stack
  pub state : SoundState z.book.goals root index first (state z)
