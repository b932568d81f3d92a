-- `index_of` is the definitions': `first_of` over the goals of the tables. From the search among numbers.
use Prim.Native.Nat.{ℕ, ◌+◌, ◌-◌, ◌≤◌}
use native.Mathlib.Omega.{arith}
use mathlib.Core.Path.{◌≡◌, sym, ap, ap₂, ◌∙◌}
use lib.ListN.{get_or}
use lib.Dec.{eqb, ltb}
use Rattle.definitions.specs.Tables.{index_of}
use Rattle.stores.specs.declared.queue.Strands.{Strands}
use Rattle.stores.specs.declared.table.Answers.{Answers}
use Rattle.stores.specs.declared.tables.Tables.{Tables}
use Rattle.stores.specs.Numbers.{first_at, within}
use Rattle.stores.specs.View.{FirstStrands, held_table, tables}
use Rattle.stores.proofs.ListsSpans.{first_if}
use Rattle.stores.proofs.NumbersSearch.{position_from}

-- `index_of` of the definitions, by what `first_of` finds among the tables' goals
pub index_of_view : (fresh : FirstStrands) (ts : Tables) (s : Strands) (a : Answers) (goal r : ℕ) → ts.count ≤ 64
    → r ≡ first_at (λ i. eqb (get_or ts.goal i 0) goal) 0 (within ts.count)
    → index_of goal (tables fresh ts s a) ≡ first_if (ltb r ts.count) r
index_of_view fresh ts s a goal r few e =
    let w : within ts.count ≡ ts.count = omega arith in
    let z : 0 + ts.count ≡ ts.count = omega arith in
    let i : first_at (λ j. eqb (get_or ts.goal j 0) goal) 0 ts.count ≡ r = sym
    (e ∙ ap (first_at (λ j. eqb (get_or ts.goal j 0) goal) 0) w) in
    let y : r - 0 ≡ r = omega arith in
    position_from (held_table fresh ts s a) (λ t. eqb t.table_goal goal) 0 ts.count
    ∙ ap₂ (λ (m n : ℕ). first_if (ltb m n) (m - 0)) i z ∙ ap (first_if (ltb r ts.count)) y
