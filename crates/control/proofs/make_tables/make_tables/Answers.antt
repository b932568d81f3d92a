use Prim.Native.Nat.{ℕ, ◌+◌, ◌-◌, min}
use native.Mathlib.Omega.{arith}
use mathlib.Core.List.{List}
use mathlib.Core.Path.{sym, ap, ◌∙◌}
use Rattle.strands.specs.declared.Strand.{Strand}
use Rattle.control.specs.MakeTables.{Tabling, tables_from}
use Rattle.control.proofs.MakeTablesCases.{tables_step}
use Rattle.control.proofs.make_tables.make_tables.Invariants.{state}
use Rattle.control.proofs.make_tables.make_tables.Goals as goal

pub loop-i-preserved : goal.loop-i-preserved
loop-i-preserved c =
    let v = c.loop-i in
    let a = c.args in
    let n : ℕ = min a.made.count 8 in
    let now : List Strand → Tabling =
    state v.goal v.coinductive v.floundered v.complete v.next v.tail v.len v.used v.time v.ambiguous
    v.variant
    v.waits v.wants v.tables in
    λ strands. ap (tables_from a.goal_flags.now a.goal_first.now a.goal_len.now a.clause_variant.now a.clause_flags.now
    a.made.goals (n - (v.i + 1)) (v.i + 1)) (c.make_table-tables.ensures strands)
    ∙ sym (tables_step a.goal_flags.now a.goal_first.now a.goal_len.now a.clause_variant.now a.clause_flags.now
    a.made.goals (n - v.i) (n - (v.i + 1)) v.i (now strands) (omega arith) (omega arith))
    ∙ v.invariant strands
