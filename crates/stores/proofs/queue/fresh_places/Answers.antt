use Prim.Native.Nat.{ℕ, ◌+◌, ◌-◌}
use native.Mathlib.Omega.{arith}
use mathlib.Core.Path.{◌∙◌}
use Rattle.stores.specs.Queue.{clauses_from}
use Rattle.stores.proofs.QueueCases.{fresh_step}
use Rattle.stores.proofs.queue.fresh_places.Goals as goal

pub loop-c-preserved : goal.loop-c-preserved
loop-c-preserved c =
    let a = c.args in
    let i : ℕ = c.loop-c.c in
    let n : ℕ = a.first + clauses_from a.first a.count in
    λ strands. fresh_step a.clause_variant.now a.clause_flags.now a.t (n - i) (n - (i + 1)) i _ _ (omega arith) (omega arith)
    (c.fresh_place.ensures strands) ∙ c.loop-c.invariant strands
