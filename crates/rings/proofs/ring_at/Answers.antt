use Prim.Native.Nat.{ℕ, ◌+◌, ◌-◌}
use native.Mathlib.Omega.{arith}
use mathlib.Core.Path.{◌≡◌, sym, ap, ◌∙◌}
use lib.ListN.{get_or}
use Rattle.rings.proofs.Walks.{after, after_step, at_some}
use Rattle.rings.proofs.ring_at.Goals as goal

pub loop-step-preserved : goal.loop-step-preserved
loop-step-preserved c =
    let a = c.args in
    let l = c.loop-step in
    let on : a.index - (l._step + 1) ≡ a.index - l._step - 1 = omega arith in
    ap (λ (n : ℕ). after n a.next.now (get_or a.next.now c.wide.result 0)) on
    ∙ ap (λ (p : ℕ). after (a.index - l._step - 1) a.next.now (get_or a.next.now p 0)) c.wide.ensures.0
    ∙ sym (after_step (a.index - l._step) a.next.now l.prev (omega arith))
    ∙ l.invariant

pub returns : goal.returns
returns c =
    let a = c.args in
    let l = c.loop-step in
    let over : 0 ≡ a.index - l._step = omega arith in
    let prev : c.wide-2.result ≡ after a.index a.next.now (get_or a.tail.now a.table 0) =
    c.wide-2.ensures.0 ∙ ap (λ (n : ℕ). after n a.next.now l.prev) over ∙ l.invariant in
    at_some a.next.now a.tail.now a.len.now a.table a.index c.if-index-len.false c.wide-2.result prev
