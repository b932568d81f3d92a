-- What a forest means: the stores that it holds, with an empty stack, and through them the forest of the definitions.
use Rattle.std.specs.Prelude.{ℕ}
use Rattle.definitions.specs.Tables as said
use Rattle.book.specs.declared.Book.{Book}
use Rattle.stores.specs.declared.stack.Stack.{Stack}
use Rattle.stores.specs.Stack.{blank_stack}
use Rattle.control.specs.PerformStrand.{Lent}
use Rattle.control.specs.Stores as stores
use Rattle.control.specs.Stores.{Stores}
use Rattle.search.specs.Means.{Rests}
use Rattle.search.specs.Walk.{standing}
use Rattle.forest.specs.declared.Forest.{Forest}

module _ (f : Forest) where
  abbrev pub book_in : Book
  book_in = f.book

  -- what it lends, with this stack
  abbrev pub lent_with : Stack → Lent
  lent_with k = standing f.stores k f.clock

  abbrev pub stores_with : Stack → Stores
  stores_with k =
      let w = lent_with k in
      record {
        book = book_in;
        tables = w.tables;
        strands = w.strands;
        answers = w.answers;
        stack = k;
        clock_limit = f.clock_limit;
        mark = f.mark;
        clock = f.clock;
      }

  abbrev pub stores_in : Stores
  stores_in = stores_with blank_stack

  -- THE VIEW
  abbrev pub view : said.Forest
  view = stores.forest stores_in

  -- what every forest is that was made here: its stores are sound, and between two searches
  abbrev pub Sound : Type 0
  Sound = Rests stores_in

-- THE OTHER WAY ROUND: the forest with this book, that lends this
abbrev pub forest_by : Book → Lent → (limit mark : ℕ) → Forest
forest_by b w limit mark = record {
  book = b;
  stores = record { tables = w.tables; strands = w.strands; answers = w.answers };
  clock_limit = limit;
  mark = mark;
  clock = w.clock;
}
