-- `names`: at each turn the goals that are left decide.
use Prim.Native.Nat.{◌≤◌}
use mathlib.Core.Path.{◌≡◌}
use Rattle.mending.specs.Reasons.{all_below, goals_named}
use Rattle.mending.proofs.Coding.{names_left}
use Rattle.mending.proofs.reasons.names.Given as goal

abbrev pub invariant-loop-j : goal.invariant-loop-j
invariant-loop-j l =
    let b = l.b in
    (l.j-end ≤ 8)
    × (names_left b.clause_len b.literal_goal b.goals l.c l.j-end l.j ≡ all_below b.goals (goals_named b.clause_len b.literal_goal l.c))
