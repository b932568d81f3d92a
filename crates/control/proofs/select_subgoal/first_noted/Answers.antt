use Prim.Native.Nat.{ℕ, min}
use mathlib.Core.Path.{◌∙◌, sym}
use mathlib.Core.Bool.{Bool}
use mathlib.Core.List.{List}
use native.Mathlib.Omega.{arith}
use borrow.Author.Tests.{ne_eqb}
use lib.ListN.{get_or}
use lib.Dec.{eqb}
use Rattle.stores.proofs.NumbersCases.{first_next}
use Rattle.control.proofs.select_subgoal.first_noted.Goals as goal

abbrev test : List ℕ → ℕ → ℕ → Bool
test goals g j = eqb (get_or goals j 0) g

pub loop-i-preserved : goal.loop-i-preserved
loop-i-preserved c =
    let l = c.loop-i in
    let m = c.args.made in
    let g = c.args.g in
    sym (first_next (test m.goals g) (min m.count 8) l.i (omega arith) (ne_eqb (get_or m.goals l.i 0) g c.if-made-i.false)) ∙ l.invariant
