-- The ways out of `refusal`, over variables: its model at the tests that led there.
use Prim.Native.Nat.{ℕ, ◌%◌, ◌≤◌, ◌<◌}
use native.Mathlib.Omega.{arith}
use mathlib.Core.Bool.{Bool, true, false}
use mathlib.Core.List.{List}
use mathlib.Core.Path.{◌≡◌, refl, sym, ◌∙◌}
use lib.Dec.{leb, ltb}
use lib.ListN.{get_or}
use borrow.Author.Tests.{lt-ltb, le-ltb, le-leb, lt-leb}
use Rattle.stores.specs.Numbers.{flag_at}
use Rattle.batch.specs.Refusal.{refusal_by, refusal_in}

module _ (mark count : ℕ) (floundered answer_len : List ℕ) (table index : ℕ) where
  abbrev refusal : ℕ
  refusal = refusal_in mark count floundered answer_len table index

  abbrev flag_read : Bool
  flag_read = flag_at (table % 256) floundered

  abbrev count_read : ℕ
  count_read = get_or answer_len (table % 256) 0

  pub refusal_marked : 0 < mark → 20 ≡ refusal_in mark count floundered answer_len table index
  refusal_marked h = λ i. refusal_by (sym (lt-ltb 0 mark h) i) (leb count table) flag_read (ltb count_read index)

  module _ (unmarked : mark ≤ 0) where
    -- the table's flag is read as b
    module _ (made : table < count) (b : Bool) (is : b ≡ flag_at (table % 256) floundered) where
      by_tests : (flag above : Bool) → b ≡ flag → ltb count_read index ≡ above → refusal_by false false flag above ≡ refusal
      by_tests flag above e h = λ i.
          refusal_by (sym (le-ltb 0 mark unmarked) i) (sym (lt-leb count table made) i) ((sym e ∙ is) i) (sym h i)
