-- The ways out of the functions of delaying.rt: n goals are held, m come, and where they find room they follow those held.
use Prim.Native.Nat.{ℕ, ◌+◌, ◌≤◌, ◌<◌}
use native.Mathlib.Omega.{arith}
use mathlib.Core.Bool.{true, false}
use mathlib.Core.List.{List}
use mathlib.Core.Path.{◌≡◌, sym, ap, ap₂, ◌∙◌}
use lib.ListN.{length}
use lib.Seq.{sets}
use borrow.Author.Tests.{lt-ltb, le-ltb}
use Rattle.std.specs.Prelude.{Some, None}
use Rattle.strands.specs.declared.Strand.{Strand}
use Rattle.strands.specs.Delaying.{held, delay_by, delay_goals}
use Rattle.strands.specs.Fields.{with_delayed}

module _ (s : Strand) (goals : List ℕ) where
  pub delay_over : 8 < held s + length goals → delay_goals goals s ≡ delay_by true goals s
  delay_over h = ap (λ b. delay_by b goals s) (lt-ltb 8 (held s + length goals) h)

  pub delay_room : held s + length goals ≤ 8 → delay_goals goals s ≡ delay_by false goals s
  delay_room h = ap (λ b. delay_by b goals s) (le-ltb 8 (held s + length goals) h)

  module _ (n m : ℕ) (n_is : n ≡ held s) (m_is : m ≡ length goals) where
    pub says_over : 8 < n + m → None ≡ delay_goals goals s
    says_over h = sym (delay_over (omega arith))

    pub says_room : (all : List ℕ) → n + m ≤ 8 → all ≡ sets s.delayed n goals
        → Some (with_delayed s all (n + m)) ≡ delay_goals goals s
    says_room all h e =
        let count : n + m ≡ held s + length goals = omega arith in
        ap₂ (λ (ds : List ℕ) (k : ℕ). Some (with_delayed s ds k))
        (e ∙ ap (λ (k : ℕ). sets s.delayed k goals) n_is) count
        ∙ sym (delay_room (omega arith))
