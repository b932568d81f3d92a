use Prim.Native.Nat.{ℕ, ◌+◌, ◌-◌}
use native.Mathlib.Omega.{arith}
use mathlib.Core.Path.{◌≡◌, sym, ap, ◌∙◌}
use mathlib.Core.Bool.{Bool, true, false}
use lib.ListN.{get_or}
use Rattle.std.specs.Prelude as code
use Rattle.rings.specs.Rings.{walk}
use Rattle.stores.specs.Queue.{eligible, spot_from}
use Rattle.stores.proofs.QueueCases.{spot_here, spot_next}
use Rattle.stores.proofs.queue.find_strand.Goals as goal

pub returns-then-may_take : goal.returns-then-may_take
returns-then-may_take c =
    let a = c.args in
    let l = c.loop-step in
    let f : ℕ → Bool = eligible a.time.now a.ambiguous.now a.clock a.complete in
    let left : ℕ = get_or a.len.now a.t 0 - l._step in
    let e : f (get_or a.next.now l.prev 0) ≡ true =
    rw (← c.wide.ensures.0, ← c.wide-k.ensures.0) (sym c.may_take.ensures ∙ c.if-may_take.true) in
    ap (λ (p : ℕ). record { before = l.prev; place = code.Some (get_or a.next.now p 0) }) c.wide.ensures.0
    ∙ sym (spot_here f a.next.now left l.prev (omega arith) e)
    ∙ l.invariant

pub loop-step-preserved : goal.loop-step-preserved
loop-step-preserved c =
    let a = c.args in
    let l = c.loop-step in
    let f : ℕ → Bool = eligible a.time.now a.ambiguous.now a.clock a.complete in
    let len : ℕ = get_or a.len.now a.t 0 in
    let left : ℕ = len - l._step in
    let e : f (get_or a.next.now l.prev 0) ≡ false =
    rw (← c.wide.ensures.0, ← c.wide-k.ensures.0) (sym c.may_take.ensures ∙ c.if-may_take.false) in
    let on : len - (l._step + 1) ≡ left - 1 = omega arith in
    ap (λ (m : ℕ). spot_from f (get_or a.next.now c.wide.result 0) (walk m a.next.now (get_or a.next.now c.wide.result 0))) on
    ∙ ap (λ (p : ℕ). spot_from f (get_or a.next.now p 0) (walk (left - 1) a.next.now (get_or a.next.now p 0))) c.wide.ensures.0
    ∙ sym (spot_next f a.next.now left l.prev (omega arith) e)
    ∙ l.invariant
