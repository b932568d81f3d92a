use Prim.Native.Nat.{ℕ, ◌+◌, ◌-◌, ◌<◌, ◌≤◌}
use native.Mathlib.Nat.{le_of_eq, le_trans, lt_of_lt_of_le, lt_of_le_of_lt}
use native.Mathlib.Omega.{arith}
use mathlib.Core.Path.{◌≡◌, refl, sym, ap, ap₂, ◌∙◌}
use mathlib.Core.Bool.{Bool, true, false}
use lib.ListN.{get_or}
use Rattle.control.specs.declared.clear_strands_after_cycle.Cleared.{Cleared}
use Rattle.control.specs.ClearStrandsAfterCycle.{cleared, lengths, live, clear_each, clear}
use Rattle.control.proofs.ClearStrandsAfterCycleCases.{
  clear_falls,
  clear_empty,
  each_over,
  each_nothing,
  each_met,
  each_on,
  code_clears,
  code_falls,
}
use Rattle.control.proofs.clear_strands_after_cycle.+clear.Goals as goal

pub returns-then-left-eq0 : goal.returns-then-left-eq0
returns-then-left-eq0 t c =
    let a = c.args in
    sym (clear_empty a.waits.now a.w (cleared false a.next.now a.tail.now a.len.now)
    (ap (λ (x : ℕ). get_or a.len.now x 0) (sym c.wide-k.ensures.0) ∙ c.if-left-eq0.true))

pub returns-then-waiting-ge128 : goal.returns-then-waiting-ge128
returns-then-waiting-ge128 t c =
    let ws = c.args.waits.now in
    let moved = cleared false c.ring_move.new.next c.ring_move.new.tail c.ring_move.new.len in
    let was = cleared false c.args.next.now c.args.tail.now c.args.len.now in
    let whole : clear ws c.args.w was
    ≡ clear_each ws (clear ws) (get_or was.len c.wide-k.result 0) (get_or was.next c.wide.result 0) moved =
    code_clears c.args.waits.now c.args.next.now c.args.tail.now c.args.len.now c.ring_move.new.next c.ring_move.new.tail c.ring_move.new.len c.args.w
    c.wide-k.result c.wide.result (get_or c.args.next.now c.wide.result 0) c.wide-k.ensures.0 c.if-left-eq0.false c.wide.ensures.0 refl
    c.ring_move.ensures in
    let left_over : ℕ = get_or c.args.len.now c.wide-k.result 0 - c.loop-step._step in
    let now = cleared false c.loop-step.next c.loop-step.tail c.loop-step.len in
    let wanted = get_or ws c.loop-step.p 0 in
    let read : get_or ws c.wide-in-loop-step.result 0 ≡ wanted = ap (λ (x : ℕ). get_or ws x 0) c.wide-in-loop-step.ensures.0 in
    sym (whole ∙ sym c.loop-step.invariant.0
    ∙ each_nothing ws (clear ws) left_over c.loop-step.p now
    (omega arith) (le_trans c.if-waiting-ge128.true (le_of_eq read)))

pub clear-requires : goal.clear-requires
clear-requires t c =
    let fewer : lengths 64 c.ring_move.new.len < lengths 64 c.args.len.now = code_falls c.args.waits.now c.args.next.now c.args.tail.now c.args.len.now c.ring_move.new.next c.ring_move.new.tail c.ring_move.new.len c.args.w
    c.wide-k.result c.wide.result (get_or c.args.next.now c.wide.result 0) c.wide-k.ensures.0 c.if-left-eq0.false c.wide.ensures.0 refl
    c.ring_move.ensures in
    (lt_of_lt_of_le (lt_of_le_of_lt c.loop-step.invariant.1 fewer) (le_of_eq c.decreases), tt)

pub returns-then-clear : goal.returns-then-clear
returns-then-clear t c =
    let ws = c.args.waits.now in
    let moved = cleared false c.ring_move.new.next c.ring_move.new.tail c.ring_move.new.len in
    let was = cleared false c.args.next.now c.args.tail.now c.args.len.now in
    let whole : clear ws c.args.w was
    ≡ clear_each ws (clear ws) (get_or was.len c.wide-k.result 0) (get_or was.next c.wide.result 0) moved =
    code_clears c.args.waits.now c.args.next.now c.args.tail.now c.args.len.now c.ring_move.new.next c.ring_move.new.tail c.ring_move.new.len c.args.w
    c.wide-k.result c.wide.result (get_or c.args.next.now c.wide.result 0) c.wide-k.ensures.0 c.if-left-eq0.false c.wide.ensures.0 refl
    c.ring_move.ensures in
    let left_over : ℕ = get_or c.args.len.now c.wide-k.result 0 - c.loop-step._step in
    let now = cleared false c.loop-step.next c.loop-step.tail c.loop-step.len in
    let wanted = get_or ws c.loop-step.p 0 in
    let read : get_or ws c.wide-in-loop-step.result 0 ≡ wanted = ap (λ (x : ℕ). get_or ws x 0) c.wide-in-loop-step.ensures.0 in
    let left = cleared c.clear.result c.clear.new.next c.clear.new.tail c.clear.new.len in
    let said : clear ws wanted now ≡ left = sym (c.clear.ensures ∙ ap (λ (w : ℕ). clear ws w now) read) in
    let on_some : wanted < 128 = lt_of_le_of_lt (le_of_eq (sym read)) c.if-waiting-ge128.false in
    let some : 0 < left_over = omega arith in
    let met : left ≡ cleared true left.next left.tail left.len =
    ap (λ (b : Bool). cleared b left.next left.tail left.len) c.if-clear.true in
    sym (whole ∙ sym c.loop-step.invariant.0
    ∙ each_met ws (clear ws) left_over c.loop-step.p now some on_some left said c.if-clear.true
    ∙ met)

pub loop-step-preserved : goal.loop-step-preserved
loop-step-preserved t c =
    let ws = c.args.waits.now in
    let moved = cleared false c.ring_move.new.next c.ring_move.new.tail c.ring_move.new.len in
    let was = cleared false c.args.next.now c.args.tail.now c.args.len.now in
    let whole : clear ws c.args.w was
    ≡ clear_each ws (clear ws) (get_or was.len c.wide-k.result 0) (get_or was.next c.wide.result 0) moved =
    code_clears c.args.waits.now c.args.next.now c.args.tail.now c.args.len.now c.ring_move.new.next c.ring_move.new.tail c.ring_move.new.len c.args.w
    c.wide-k.result c.wide.result (get_or c.args.next.now c.wide.result 0) c.wide-k.ensures.0 c.if-left-eq0.false c.wide.ensures.0 refl
    c.ring_move.ensures in
    let left_over : ℕ = get_or c.args.len.now c.wide-k.result 0 - c.loop-step._step in
    let now = cleared false c.loop-step.next c.loop-step.tail c.loop-step.len in
    let wanted = get_or ws c.loop-step.p 0 in
    let read : get_or ws c.wide-in-loop-step.result 0 ≡ wanted = ap (λ (x : ℕ). get_or ws x 0) c.wide-in-loop-step.ensures.0 in
    let left = cleared c.clear.result c.clear.new.next c.clear.new.tail c.clear.new.len in
    let said : clear ws wanted now ≡ left = sym (c.clear.ensures ∙ ap (λ (w : ℕ). clear ws w now) read) in
    let on_table : wanted < 128 = lt_of_le_of_lt (le_of_eq (sym read)) c.if-waiting-ge128.false in
    let some : 0 < left_over = omega arith in
    let none : left ≡ cleared false left.next left.tail left.len =
    ap (λ (b : Bool). cleared b left.next left.tail left.len) c.if-clear.false in
    let on : get_or c.args.len.now c.wide-k.result 0 - (c.loop-step._step + 1) ≡ left_over - 1 = omega arith in
    let fewer : lengths 64 left.len ≤ lengths 64 c.loop-step.len =
    le_trans (le_of_eq (ap live (sym said))) (clear_falls ws wanted now) in (
      ap (λ (m : ℕ). clear_each ws (clear ws) m (get_or left.next c.wide-in-loop-step-2.result 0) (cleared false left.next left.tail left.len)) on
          ∙ ap₂ (λ (p : ℕ) (s : Cleared). clear_each ws (clear ws) (left_over - 1) (get_or left.next p 0) s)
          c.wide-in-loop-step-2.ensures.0 (sym none)
          ∙ sym (each_on ws (clear ws) left_over c.loop-step.p now some on_table left said c.if-clear.false)
          ∙ c.loop-step.invariant.0,
      le_trans fewer c.loop-step.invariant.1,
    )

pub returns : goal.returns
returns t c =
    let ws = c.args.waits.now in
    let moved = cleared false c.ring_move.new.next c.ring_move.new.tail c.ring_move.new.len in
    let was = cleared false c.args.next.now c.args.tail.now c.args.len.now in
    let whole : clear ws c.args.w was
    ≡ clear_each ws (clear ws) (get_or was.len c.wide-k.result 0) (get_or was.next c.wide.result 0) moved =
    code_clears c.args.waits.now c.args.next.now c.args.tail.now c.args.len.now c.ring_move.new.next c.ring_move.new.tail c.ring_move.new.len c.args.w
    c.wide-k.result c.wide.result (get_or c.args.next.now c.wide.result 0) c.wide-k.ensures.0 c.if-left-eq0.false c.wide.ensures.0 refl
    c.ring_move.ensures in
    let left_over : ℕ = get_or c.args.len.now c.wide-k.result 0 - c.loop-step._step in
    sym (whole ∙ sym c.loop-step.invariant.0
    ∙ each_over ws (clear ws) left_over c.loop-step.p
    (cleared false c.loop-step.next c.loop-step.tail c.loop-step.len) (omega arith))
