-- `perform_deed` meets its contract, deed by deed: each is handed to its function.
-- what is lent, and the deed done to it
use Prim.Native.Nat.{ℕ}
use mathlib.Core.List.{List}
use mathlib.Core.Path.{refl, sym, ap, ◌∙◌}
use Rattle.strands.specs.declared.Answer.{Answer}
use Rattle.stores.specs.Places.{places}
use Rattle.control.specs.declared.decision.Deed.{Deed}
use Rattle.control.specs.PerformDeed.{stack_of, answers_of, Moving, moving, deed_done}
use Rattle.control.proofs.PerformDeedCases.{stack_is, moving_is, did_is}
use Rattle.control.proofs.perform_deed.perform_deed.Goals as goal

pub returns-in-Cycles : goal.returns-in-Cycles
returns-in-Cycles c =
    let e = c.on_positive_cycle.ensures in
    let a = c.args in
    λ (used : ℕ) (answers : List Answer).
    let lent : Moving =
    moving (places a.next.now a.tail.now a.len.now used) a.floundered.now
    (answers_of answers a.answer_variant.now a.answer_key.now a.answer_ambiguous.now
    (places a.answer_next.now a.answer_tail.now a.answer_len.now a.was.answer_used))
    (stack_of a.was.depth a.entry_table.now a.entry_clock.now a.positive.now a.negative.now a.active.now)
    a.was.clock in
    did_is refl refl (moving_is (e.1 used) refl refl (stack_is refl refl refl e.0.0 e.0.1 refl) refl)
    ∙ ap (λ (d : Deed). deed_done a.not a.refines a.x a.t a.place a.was.answer_place d lent) (sym c.in-Cycles.is)

pub returns-in-Answers : goal.returns-in-Answers
returns-in-Answers c =
    let a = c.args in
    λ (used : ℕ) (answers : List Answer).
    let lent : Moving =
    moving (places a.next.now a.tail.now a.len.now used) a.floundered.now
    (answers_of answers a.answer_variant.now a.answer_key.now a.answer_ambiguous.now
    (places a.answer_next.now a.answer_tail.now a.answer_len.now a.was.answer_used))
    (stack_of a.was.depth a.entry_table.now a.entry_clock.now a.positive.now a.negative.now a.active.now)
    a.was.clock in
    did_is c.flow_of_answer-flow.ensures c.keep_answer-k.ensures.0
    (moving_is (c.leave_answer.ensures used) refl (c.keep_answer-k.ensures.1 answers)
    (stack_is c.pop.ensures refl refl refl refl refl) refl)
    ∙ ap (λ (d : Deed). deed_done a.not a.refines a.x a.t a.place a.was.answer_place d lent) (sym c.in-Answers.is)
