use Prim.Native.Nat.{ℕ, ◌+◌, ◌-◌}
use native.Mathlib.Omega.{arith}
use mathlib.Core.Path.{◌≡◌, ap, ◌∙◌}
use Rattle.control.specs.SelectSubgoal.{passes_for, select_from}
use Rattle.control.proofs.SelectCases.{select_again, select_done}
use Rattle.control.proofs.select_subgoal.select_subgoal.Goals as goal

pub returns-then-not-goes_on : goal.returns-then-not-goes_on
returns-then-not-goes_on c =
    let l = c.loop-pass in
    let a = c.args in
    select_done a.goal.now a.floundered.now a.count a.goal_flags.now a.goal_len.now l.c (passes_for a.s - l._pass) _ _
    (λ e. omega arith) c.pass-c.ensures c.goes_on.ensures c.if-not-goes_on.true
    ∙ l.invariant

pub loop-pass-preserved : goal.loop-pass-preserved
loop-pass-preserved c =
    let l = c.loop-pass in
    let a = c.args in
    let left : ℕ = passes_for a.s - l._pass in
    let on : passes_for a.s - (l._pass + 1) ≡ left - 1 = omega arith in
    ap (λ (n : ℕ). select_from a.goal.now a.floundered.now a.count a.goal_flags.now a.goal_len.now n c.pass-c.result) on
    ∙ select_again a.goal.now a.floundered.now a.count a.goal_flags.now a.goal_len.now l.c left _ _
    (λ e. omega arith) c.pass-c.ensures c.goes_on.ensures c.if-not-goes_on.false
    ∙ l.invariant
