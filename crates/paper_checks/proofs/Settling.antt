-- A pass over a book, by its arrays.
use Prim.Native.Nat.{ℕ, ◌+◌, ◌≤◌, ◌<◌}
use native.Mathlib.Omega.{arith}
use native.Mathlib.Decide.{dec_lt}
use mathlib.Core.Path.{◌≡◌, ap₂, subst, ◌∙◌}
use mathlib.Core.List.{List}
use lib.ListN.{length, get_or, set, replicate, length-replicate, length-set}
use lib.Seq.{get_or-set_same, get_or-set_other}
use Rattle.laws.proofs.Lists.{get_or_zeros}
use Rattle.book.specs.declared.Book.{Book}
use Rattle.book.specs.Access.{entry}
use Rattle.paper_checks.specs.Asks.{asked_from, PassGives}

-- A pass by the arrays, up to goal g.

module _ (levels : List ℕ) (b : Book) where
  abbrev asks_at : ℕ → ℕ
  asks_at g = asked_from levels b (entry 64 b.goal_first g) (entry 64 b.goal_len g)

  pub record PassTo (g : ℕ) (next : List ℕ) : Type 0 where
    pub whole : length next ≡ 64
    pub within : g ≤ b.goals
    pub raised : (i : ℕ) → i < g → get_or next i 0 ≡ asks_at i
    pub past : (i : ℕ) → g ≤ i → get_or next i 0 ≡ 0

  pub pass_start : PassTo 0 (replicate 64 0)
  pass_start = record {
    whole = length-replicate {A = ℕ} 64 0;
    within = omega arith;
    raised = λ i h. absurd (omega arith);
    past = λ i h. get_or_zeros 64 i;
  }

  module _ (few : b.goals ≤ 64) (g : ℕ) (next : List ℕ) (so : PassTo g next) where
    pub pass_next : g < b.goals → (first count n : ℕ) → first ≡ entry 64 b.goal_first g → count ≡ entry 64 b.goal_len g
        → n ≡ asked_from levels b first count → PassTo (g + 1) (set next g n)
    pass_next h first count n hf hc e = record {
      whole = length-set next g n ∙ so.whole;
      within = omega arith;
      raised = λ i l. up i l (dec_lt i g);
      past = λ i l. get_or-set_other next g i n 0 (λ k. omega arith) ∙ so.past i (omega arith);
    }
      where
        here : get_or (set next g n) g 0 ≡ asks_at g
        here = get_or-set_same next g n 0 (omega (arith, so.whole)) ∙ e ∙ ap₂ (asked_from levels b) hf hc

        up : (i : ℕ) → i < g + 1 → Dec (i < g) → get_or (set next g n) i 0 ≡ asks_at i
        up i l (yes k) = get_or-set_other next g i n 0 (λ q. omega arith) ∙ so.raised i k
        up i l (no o) = let k : g ≡ i = omega arith in subst (λ (j : ℕ). get_or (set next g n) j 0 ≡ asks_at j) k here

    pub pass_over : b.goals ≤ g → PassGives levels b next
    pass_over h = record {
      whole = so.whole;
      raised = λ i l. so.raised i (omega (arith, so.within));
      past = λ i l. so.past i (omega (arith, so.within));
    }
