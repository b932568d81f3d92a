-- The goals noted get their tables: models over the tables and the strands, composed of those of the stores.
use Rattle.std.specs.Prelude.{ℕ, zero, suc, List, get_or}
use Rattle.definitions.specs.Book.{bit0, bit1}
use Rattle.book.specs.Access.{entry}
use Rattle.stores.specs.declared.queue.Strands.{Strands}
use Rattle.stores.specs.declared.tables.Tables.{Tables}
use Rattle.stores.specs.Numbers.{within}
use Rattle.stores.specs.Queue.{clauses_from, fresh_each}
use Rattle.stores.specs.Tables.{inserted}
use Rattle.control.specs.SelectSubgoal.{strands_by}

abbrev pub tables_of : (count : ℕ) → (goal coinductive floundered complete : List ℕ) → Tables
tables_of count goal coinductive floundered complete =
    record { count = count; goal = goal; coinductive = coinductive; floundered = floundered; complete = complete }

-- what making tables changes
pub record Tabling : Type 0 where
  pub tables : Tables
  pub strands : Strands

abbrev pub tabling : Tables → Strands → Tabling
tabling ts s = record { tables = ts; strands = s }

module _ (goal_flags goal_first goal_len clause_variant clause_flags : List ℕ) where
  -- `build_table` of a goal: a floundered one has no strands
  abbrev pub table_made : (g : ℕ) → Tabling → Tabling
  table_made g m = tabling (inserted g (bit0 (entry 64 goal_flags g)) (bit1 (entry 64 goal_flags g)) m.tables)
      (fresh_each clause_variant clause_flags (within m.tables.count)
      (clauses_from (entry 64 goal_first g) (strands_by (bit1 (entry 64 goal_flags g)) (entry 64 goal_len g)))
      (entry 64 goal_first g) m.strands)

  -- of the goals noted from i on, as many as are left
  abbrev pub tables_from : (goals : List ℕ) → (left i : ℕ) → Tabling → Tabling
  tables_from goals zero i m = m
  tables_from goals (suc left) i m = tables_from goals left (suc i) (table_made (get_or goals i 0) m)
