-- tables.rs, and the forest of forest.rs, which the turn works on: the tables, the clock, and what is added here: the book that
-- the forest was made from, the clock's limit, and the mark of a stop.
use Rattle.std.specs.Prelude.{ℕ, suc, List, length, set, eqb, leb}
use Rattle.std.proofs.Math.Option.{Option}
use Rattle.std.proofs.Math.ListN.{get_elem?}
use Rattle.definitions.specs.{TableIndex, TimeStamp}
use Rattle.definitions.specs.Book.{Book}
use Rattle.definitions.specs.Stop.{Stops, go, ◌>>=◌, ◌>>◌, stop_if, unwrap}
use Rattle.definitions.specs.Lists.{push, position, total}
use Rattle.definitions.specs.Table.{Table}

-- `Tables`: `table_indices` is a search by goal
abbrev pub Tables : Type 0
Tables = List Table

-- `insert`
abbrev pub insert_table : Table → Tables → Tables
insert_table t ts = push ts t

-- `index_of`
abbrev pub index_of : ℕ → Tables → Option TableIndex
index_of goal ts = position (λ t. eqb t.table_goal goal) ts

-- `Forest`
pub record Forest : Type 0 where
  pub book : Book
  pub clock_limit : TimeStamp
  pub mark : ℕ
  pub tables : Tables
  pub clock : TimeStamp

abbrev pub with_tables : Forest → Tables → Forest
with_tables f ts = record {
  book = f.book;
  clock_limit = f.clock_limit;
  mark = f.mark;
  tables = ts;
  clock = f.clock;
}

abbrev pub with_mark : Forest → ℕ → Forest
with_mark f n = record {
  book = f.book;
  clock_limit = f.clock_limit;
  mark = n;
  tables = f.tables;
  clock = f.clock;
}

abbrev pub with_clock : Forest → TimeStamp → Forest
with_clock f t = record {
  book = f.book;
  clock_limit = f.clock_limit;
  mark = f.mark;
  tables = f.tables;
  clock = t;
}

-- `Index`: `tables[i]`
abbrev pub table_at : Forest → TableIndex → Stops Table
table_at f i = unwrap (get_elem? f.tables i)

-- `IndexMut`: the table at i, changed
abbrev pub change_table : Forest → TableIndex → (Table → Table) → Stops Forest
change_table f i change = table_at f i >>= λ t. go (with_tables f (set f.tables i (change t)))

-- `increment_clock`: 21 at the limit
abbrev pub increment_clock : Forest → Stops Forest
increment_clock f = do
  stop_if (leb f.clock_limit f.clock) 21
  go (with_clock f (suc f.clock))

-- the strands in the queues
abbrev pub queued : Forest → ℕ
queued f = total (λ t. length t.strands) f.tables

-- the answers held together
abbrev pub held : Forest → ℕ
held f = total (λ t. length t.answers) f.tables
