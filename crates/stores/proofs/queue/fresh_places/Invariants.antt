-- `fresh_places` meets its contract: from the counter on there is to be done what was to be done from the first clause on.
use Prim.Native.Nat.{◌+◌, ◌-◌}
use mathlib.Core.List.{List}
use mathlib.Core.Path.{◌≡◌}
use Rattle.strands.specs.declared.Strand.{Strand}
use Rattle.stores.specs.Places.{places}
use Rattle.stores.specs.Queue.{clauses_from, fresh_each, store}
use Rattle.stores.proofs.queue.fresh_places.Given as goal

abbrev pub invariant-loop-c : goal.invariant-loop-c
invariant-loop-c l = (strands : List Strand)
    → fresh_each l.clause_variant l.clause_flags l.t (l.first + clauses_from l.first l.count - l.c) l.c
    (store strands l.time l.ambiguous l.variant l.waits l.wants (places l.next l.tail l.len l.top))
    ≡ fresh_each l.clause_variant l.clause_flags l.t (clauses_from l.first l.count) l.first
    (store strands l.initial.time l.initial.ambiguous l.initial.variant l.initial.waits l.initial.wants
    (places l.initial.next l.initial.tail l.initial.len l.initial.top))
