use Prim.Native.Nat.{ℕ, min}
use native.Mathlib.Omega.{arith}
use mathlib.Core.Path.{◌∙◌, sym}
use mathlib.Core.Bool.{Bool}
use mathlib.Core.List.{List}
use borrow.Author.Tests.{ne_eqb}
use lib.ListN.{get_or}
use lib.Dec.{eqb}
use Rattle.stores.proofs.NumbersCases.{first_next}
use Rattle.stores.proofs.numbers.first_of.Goals as goal

abbrev test : List ℕ → ℕ → ℕ → Bool
test xs x j = eqb (get_or xs j 0) x

pub loop-i-preserved : goal.loop-i-preserved
loop-i-preserved c =
    let a = c.args in
    let l = c.loop-i in
    sym (first_next (test a.xs.now a.x) (min a.n 64) l.i (omega arith) (ne_eqb (get_or a.xs.now l.i 0) a.x c.if-xs-i.false)) ∙ l.invariant
