-- What is left to do for the choice in hand is what there was to do at the start.
use Prim.Native.Nat.{◌-◌}
use mathlib.Core.Path.{◌≡◌}
use Rattle.control.specs.SelectSubgoal.{passes_for, select_from}
use Rattle.control.proofs.select_subgoal.select_subgoal.Given as goal

abbrev pub invariant-loop-pass : goal.invariant-loop-pass
invariant-loop-pass l = select_from l.goal l.floundered l.count l.goal_flags l.goal_len (passes_for l.fn.s - l._pass) l.c
    ≡ select_from l.goal l.floundered l.count l.goal_flags l.goal_len (passes_for l.fn.s) l.initial.c
