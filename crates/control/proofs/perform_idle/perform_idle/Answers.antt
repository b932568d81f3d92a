-- `perform_idle` meets its contract, act by act: each is handed to its function.
-- what is lent, and the act done to it
use Prim.Native.Nat.{ℕ}
use mathlib.Core.List.{List}
use mathlib.Core.Path.{refl, sym, ap, ◌∙◌}
use Rattle.strands.specs.declared.Strand.{Strand}
use Rattle.stores.specs.Places.{places}
use Rattle.stores.specs.Queue.{store}
use Rattle.control.specs.declared.on_no_strands_left.Idle.{Idle}
use Rattle.control.specs.PerformDeed.{stack_of}
use Rattle.control.specs.PerformIdle.{Idling, idling, idle_done}
use Rattle.control.proofs.PerformDeedCases.{stack_is}
use Rattle.control.proofs.PerformIdleCases.{idling_is, idled_is}
use Rattle.control.proofs.perform_idle.perform_idle.Goals as goal

pub returns-in-CallerProved : goal.returns-in-CallerProved
returns-in-CallerProved c =
    let e = c.prove_caller-x.ensures in
    let a = c.args in
    λ (strands : List Strand) (used : ℕ).
    let lent : Idling = idling (store strands a.time.now a.ambiguous.now a.variant.now a.waits.now a.wants.now
    (places a.next.now a.tail.now a.len.now used)) a.complete.now
    (stack_of a.depth a.entry_table.now a.entry_clock.now a.positive.now a.negative.now a.active.now) in
    idled_is refl e.0 (idling_is (e.1 strands a.next.now a.tail.now a.len.now used) refl
    (stack_is c.pop.ensures refl refl refl refl refl))
    ∙ ap (λ (i : Idle). idle_done a.t a.place a.s i lent) (sym c.in-CallerProved.is)
