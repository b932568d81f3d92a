-- `make_tables` meets its contract: what is left to make, of the tables as they are, comes to what all of it comes to.
-- the tables and the strands by what is lent
use Prim.Native.Nat.{ℕ, ◌-◌, min}
use mathlib.Core.List.{List}
use mathlib.Core.Path.{◌≡◌}
use Rattle.strands.specs.declared.Strand.{Strand}
use Rattle.stores.specs.Places.{places}
use Rattle.stores.specs.Queue.{store}
use Rattle.control.specs.MakeTables.{tables_of, Tabling, tabling, tables_from}
use Rattle.control.proofs.make_tables.make_tables.Given as goal

abbrev pub state : (goal coinductive floundered complete next tail len : List ℕ) → (used : ℕ) → (time ambiguous variant waits wants : List ℕ)
    → (tables : ℕ) → List Strand → Tabling
state goal coinductive floundered complete next tail len used time ambiguous variant waits wants tables strands =
    tabling (tables_of tables goal coinductive floundered complete)
    (store strands time ambiguous variant waits wants (places next tail len used))

abbrev pub invariant-loop-i : goal.invariant-loop-i
invariant-loop-i l = (strands : List Strand)
    → tables_from l.goal_flags l.goal_first l.goal_len l.clause_variant l.clause_flags l.made.goals (min l.made.count 8 - l.i) l.i
    (state l.goal l.coinductive l.floundered l.complete l.next l.tail l.len l.used l.time l.ambiguous l.variant l.waits l.wants
    l.tables strands)
    ≡ tables_from l.goal_flags l.goal_first l.goal_len l.clause_variant l.clause_flags l.made.goals (min l.made.count 8) 0
    (state l.initial.goal l.initial.coinductive l.initial.floundered l.initial.complete l.initial.next l.initial.tail l.initial.len
    l.initial.used l.initial.time l.initial.ambiguous l.initial.variant l.initial.waits l.initial.wants l.initial.tables strands)
