-- What the operations on the tables' own numbers do, as functions on the record.
use Rattle.std.specs.Prelude.{ℕ, Bool, List, get_or, replicate, ltb}
use Rattle.stores.specs.declared.tables.Tables.{Tables}
use Rattle.sizes.specs.Limits.{most_tables}
use Rattle.stores.specs.Numbers.{flag_number, number_if, count_after, written_at}

abbrev pub table_goal_at : (t : ℕ) → List ℕ → ℕ
table_goal_at t l = number_if (ltb t most_tables) (get_or l t 0)

-- `insert` of a new table, with its flags
abbrev pub inserted : (goal : ℕ) → (coinductive floundered : Bool) → Tables → Tables
inserted g co fl ts = record {
  count = count_after ts.count;
  goal = written_at ts.count g ts.goal;
  coinductive = written_at ts.count (flag_number co) ts.coinductive;
  floundered = written_at ts.count (flag_number fl) ts.floundered;
  complete = written_at ts.count 1 ts.complete;
}

-- the answer mode is set: complete or not
abbrev pub moded : (t : ℕ) → (complete : Bool) → Tables → Tables
moded t b ts = record {
  count = ts.count;
  goal = ts.goal;
  coinductive = ts.coinductive;
  floundered = ts.floundered;
  complete = written_at t (flag_number b) ts.complete;
}

-- no table is made
abbrev pub blank_tables : Tables
blank_tables = record {
  count = 0;
  goal = replicate most_tables 0;
  coinductive = replicate most_tables 0;
  floundered = replicate most_tables 0;
  complete = replicate most_tables 0;
}
