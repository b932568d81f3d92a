-- Demand 3 of the code as it was first stated, and with the allowance: no result grants anything.
use Prim.Native.Nat.{ℕ, ◌+◌, ◌≤◌}
use native.Mathlib.Omega.{arith}
use mathlib.Core.Bool.{false}
use mathlib.Core.List.{List, [], ◌∷◌}
use mathlib.Core.Path.{◌≡◌, refl}
use lib.ListN.{length}
use Rattle.definitions.specs.Book.{clause_count}
use Rattle.forest.specs.Sittings.{Told, opens, searches, peeks, asks_future}
use Rattle.papers.specs.Model.{In}
use Rattle.theorems.specs.Right.{AllTell, exceeded, granted, all_granted, Demand3}
use Rattle.theorems.specs.Before as before
use Rattle.theorems.proofs.Right.{sitting_tells, either_made, entry_sound}
use Rattle.theorems.proofs.Steps.{tell_so}

none_granted : (t : Told) → granted t ≡ 0
none_granted (opens goal r) = refl
none_granted (searches table index limit r) = refl
none_granted (peeks table index rounds limit r) = refl
none_granted (asks_future table index variant r) = refl

pub nothing_granted : (ts : List Told) → all_granted ts ≡ 0
nothing_granted [] = refl
nothing_granted (t ∷ ts) = let x = none_granted t in let y = nothing_granted ts in omega (arith, x, y)

pub demand_3_before : before.Demand3
demand_3_before bytes limit m says e book k level plain levelled ts g =
    sitting_tells bytes limit m says e book k level plain levelled ts g

-- with the allowance the bound is no smaller
allowed : (a b c : ℕ) → a ≤ b → a ≤ b + c
allowed a b c p = omega (arith, p)

pub demand_3 : Demand3
demand_3 bytes limit m says e book k level plain levelled ss runs =
    let made = either_made bytes limit m says e in
    tell_so
    (λ ts. AllTell (In book level) limit false ts × (exceeded ts ≤ length book + clause_count book + all_granted ts))
    ss m.forest (entry_sound bytes limit m says) runs
    (λ ts g.
    let d = sitting_tells bytes limit m made e book k level plain levelled ts g in
    (d.0, allowed (exceeded ts) (length book + clause_count book) (all_granted ts) d.1))
