-- `goal_at` at its test's answer. From the definition alone.
use Prim.Native.Nat.{ℕ, ◌≤◌, ◌<◌}
use mathlib.Core.Path.{◌≡◌, sym, ap}
use mathlib.Core.Bool.{Bool}
use mathlib.Core.List.{List}
use lib.ListN.{get_or}
use borrow.Author.Tests.{lt-ltb, le-ltb}
use Rattle.stores.specs.Numbers.{number_if}
use Rattle.stores.specs.Tables.{table_goal_at}

pub goal_far : (t : ℕ) (l : List ℕ) → 64 ≤ t → 0 ≡ table_goal_at t l
goal_far t l h = ap (λ (b : Bool). number_if b (get_or l t 0)) (sym (le-ltb t 64 h))

pub goal_near : (t : ℕ) (l : List ℕ) → t < 64 → get_or l t 0 ≡ table_goal_at t l
goal_near t l h = ap (λ (b : Bool). number_if b (get_or l t 0)) (sym (lt-ltb t 64 h))
