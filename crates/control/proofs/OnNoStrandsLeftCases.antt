-- The ways out of the functions of on_no_strands_left.rt, over variables: what a return says is the model at the tests that led there.
use Prim.Native.Nat.{ℕ, ◌-◌, ◌≤◌, ◌<◌}
use mathlib.Core.Bool.{Bool, false}
use mathlib.Core.List.{List}
use mathlib.Core.Path.{◌≡◌, sym, ap, ap₂, ◌∙◌}
use lib.Dec.{ltb}
use lib.ListN.{get_or}
use borrow.Author.Tests.{lt-ltb, le-ltb, eq-eqb, ne_eqb}
use Rattle.stores.specs.Stack.{caller_place}
use Rattle.control.specs.declared.ensure_root_answer.Top.{Top}
use Rattle.control.specs.OnNoStrandsLeft.{waits_on_not, caller_by, caller_waits_on_not, no_strands, minimum_by, minimum_at}
use Rattle.control.specs.OnNoStrandsLeft.{left_by, no_strands_left}

module _ (minimum : List ℕ) (depth : ℕ) where
  abbrev by : (empty deep : Bool) → ℕ
  by empty deep = minimum_by empty deep (get_or minimum (depth - 1) 0)

  pub minimum_empty : depth ≡ 0 → 0 ≡ minimum_at minimum depth
  minimum_empty e = sym (ap (λ (b : Bool). by b (ltb 64 depth)) (eq-eqb depth 0 e))

  pub minimum_deep : (depth ≡ 0 → ⊥) → 64 < depth → 0 ≡ minimum_at minimum depth
  minimum_deep n h = sym (ap₂ by (ne_eqb depth 0 n) (lt-ltb 64 depth h))

  pub minimum_some : (depth ≡ 0 → ⊥) → depth ≤ 64 → get_or minimum (depth - 1) 0 ≡ minimum_at minimum depth
  minimum_some n h = sym (ap₂ by (ne_eqb depth 0 n) (le-ltb 64 depth h))

-- the caller's strand at the place p
module _ (waits active : List ℕ) (depth p : ℕ) (is : p ≡ caller_place depth active) where
  abbrev asked : ℕ → Bool
  asked q = caller_by (ltb q 256) (get_or waits q 0)

  pub caller_none : 256 ≤ p → false ≡ caller_waits_on_not waits active depth
  caller_none h = sym (ap (λ (b : Bool). caller_by b (get_or waits p 0)) (le-ltb p 256 h)) ∙ ap asked is

  pub caller_some : p < 256 → waits_on_not (get_or waits p 0) ≡ caller_waits_on_not waits active depth
  caller_some h = sym (ap (λ (b : Bool). caller_by b (get_or waits p 0)) (lt-ltb p 256 h)) ∙ ap asked is

module _ (len waits positive negative active : List ℕ) (top : Top) where
  pub left_empty : get_or len top.table 0 ≡ 0
      → no_strands waits active top.depth ≡ no_strands_left len waits positive negative active top
  left_empty e =
      sym
      (ap (λ (b : Bool). left_by len waits positive negative active b top.complete top) (eq-eqb (get_or len top.table 0) 0 e))

  pub left_some : (complete : Bool) → (get_or len top.table 0 ≡ 0 → ⊥) → top.complete ≡ complete
      → left_by len waits positive negative active false complete top ≡ no_strands_left len waits positive negative active top
  left_some complete n e =
      sym
      (ap₂ (λ (b d : Bool). left_by len waits positive negative active b d top) (ne_eqb (get_or len top.table 0) 0 n) e)
