use Prim.Native.Nat.{ℕ}
use mathlib.Core.Bool.{Bool}
use mathlib.Core.Path.{ap₂, ◌∙◌}
use lib.ListN.{get_or}
use lib.Dec.{eqb}
use Rattle.std.specs.Option.{unwrap_or}
use Rattle.stores.specs.Numbers.{within}
use Rattle.stores.proofs.NumbersSearch.{first_or}
use Rattle.stores.proofs.tables.index_of.Goals as goal

pub returns : goal.returns
returns c =
    let a = c.args in
    let test : ℕ → Bool = λ i. eqb (get_or a.goal.now i 0) a.g in
    c.unwrap_or.ensures ∙ ap₂ unwrap_or c.first_of.ensures c.upto.ensures ∙ first_or test (within a.count)
