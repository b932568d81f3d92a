use Prim.Native.Nat.{ℕ, ◌+◌, ◌-◌}
use native.Mathlib.Omega.{arith}
use mathlib.Core.Path.{◌≡◌, sym, ap, ap₂, ◌∙◌}
use mathlib.Core.Bool.{Bool, true, false, ◌&&◌}
use lib.ListN.{drop, get_or}
use lib.Dec.{eqb}
use Rattle.rings.specs.Rings.{walk}
use Rattle.stores.specs.Places.{numbered, found_in}
use Rattle.stores.proofs.PlacesSearch.{found_here, found_next}
use Rattle.stores.proofs.places.find_number.Goals as goal

pub returns-then-hit : goal.returns-then-hit
returns-then-hit c =
    let a = c.args in
    let l = c.loop-step in
    let f : ℕ → Bool = numbered a.by_key a.variant.now a.v a.key.now a.k in
    let left : ℕ = get_or a.len.now a.t 0 - l._step in
    let e : eqb l.skip 0 && f (get_or a.next.now l.prev 0) ≡ true =
    rw (← c.wide.ensures.0, ← c.wide-q.ensures.0) (sym c.hit.ensures ∙ c.if-hit.true) in
    ap (λ (p : ℕ). get_or a.next.now p 0) c.wide.ensures.0
    ∙ sym (found_here f a.next.now left l.prev l.skip (omega arith) e)
    ∙ l.invariant

pub loop-step-preserved : goal.loop-step-preserved
loop-step-preserved c =
    let a = c.args in
    let l = c.loop-step in
    let f : ℕ → Bool = numbered a.by_key a.variant.now a.v a.key.now a.k in
    let len : ℕ = get_or a.len.now a.t 0 in
    let left : ℕ = len - l._step in
    let e : eqb l.skip 0 && f (get_or a.next.now l.prev 0) ≡ false =
    rw (← c.wide.ensures.0, ← c.wide-q.ensures.0) (sym c.hit.ensures ∙ c.if-hit.false) in
    let less : c.saturating_sub-skip.result ≡ l.skip - 1 = omega arith in
    let on : len - (l._step + 1) ≡ left - 1 = omega arith in
    ap₂ (λ (k m : ℕ). found_in f (drop k (walk m a.next.now (get_or a.next.now c.wide.result 0)))) less on
    ∙ ap (λ (p : ℕ). found_in f (drop (l.skip - 1) (walk (left - 1) a.next.now (get_or a.next.now p 0)))) c.wide.ensures.0
    ∙ sym (found_next f a.next.now left l.prev l.skip (omega arith) e)
    ∙ l.invariant
