-- What the proofs of `same` cite, over variables: two literals, two lists of them and two clauses, as they are read from a book's arrays.
use Prim.Native.Nat.{ℕ, zero, suc, ◌+◌, ◌-◌, ◌≤◌, ◌<◌}
use native.Mathlib.Omega.{arith}
use mathlib.Core.Path.{◌≡◌, refl, sym, ap, ap₂, ◌∙◌}
use mathlib.Core.Bool.{Bool, true, false, not, ◌&&◌}
use mathlib.Core.List.{List}
use lib.Dec.{eqb}
use borrow.Author.Tests.{eq-eqb}
use Rattle.laws.specs.Spans.{span}
use Rattle.laws.proofs.Bools.{was_true, was_false}
use Rattle.laws.proofs.Spans.{span_left, span_done}
use Rattle.definitions.specs.Book as said
use Rattle.definitions.specs.Book.{want_of, bit0, bit1}
use Rattle.definitions.specs.Desk.{same_want, same_literal, same_literals}
use Rattle.book.specs.declared.Literal.{Literal}
use Rattle.book.specs.View.{wanted, bit2, meant}
use Rattle.book.specs.Access.{entry, literal_read}
use Rattle.book.specs.Repeats.{literals_read}

-- Two literals.

pub goal_same : (g h : ℕ) (b r : Bool) → g ≡ h → r ≡ b → r ≡ (eqb g h && b)
goal_same g h b r e f = rw (eq-eqb g h e) f

module _ (k n v w x y : ℕ) (p q : Bool) (kp : p ≡ bit2 k) (nq : q ≡ bit2 n) where
  pub one_and_range : p ≡ false → q ≡ true → false ≡ same_want (wanted (bit2 k) v x) (wanted (bit2 n) w y)
  one_and_range e f = rw (sym kp ∙ e, sym nq ∙ f) (at v)
    where
      at : (v : ℕ) → false ≡ same_want (want_of v) (said.between w y)
      at zero = refl
      at (suc v) = refl

-- Two lists of literals: those behind place j decide, as long as those before it are the same.

module _ (f h : ℕ → said.Literal) where
  lengths_apart : (s t m n : ℕ) → (n ≡ m → ⊥) → false ≡ same_literals (span f s m) (span h t n)
  lengths_apart s t zero zero e = absurd (e refl)
  lengths_apart s t zero (suc n) e = refl
  lengths_apart s t (suc m) zero e = refl
  lengths_apart s t (suc m) (suc n) e =
      at (same_literal (f s) (h t)) (same_literals (span f (suc s) m) (span h (suc t) n))
      (lengths_apart (suc s) (suc t) m n (λ z. e (ap suc z)))
    where
      at : (a b : Bool) → false ≡ b → false ≡ (a && b)
      at true b x = x
      at false b x = refl

module _ (f h : ℕ → said.Literal) (j n : ℕ) (X : Bool) (left : same_literals (span f j (n - j)) (span h j (n - j)) ≡ X) where
  literals_again : j < n → same_literal (f j) (h j) ≡ true
      → same_literals (span f (j + 1) (n - (j + 1))) (span h (j + 1) (n - (j + 1))) ≡ X
  literals_again lt e = rw (span_left f j n j lt, span_left h j n j lt, e) at left

  literals_differ : j < n → same_literal (f j) (h j) ≡ false → false ≡ X
  literals_differ lt e = rw (span_left f j n j lt, span_left h j n j lt, e) at left

  literals_same : n ≤ j → true ≡ X
  literals_same ge = rw (span_done f j n j ge, span_done h j n j ge) at left

-- the literals of two clauses that are read
module _ (len kind goal want : List ℕ) (c d : ℕ) where
  abbrev of_c : ℕ → said.Literal
  of_c i = meant (literal_read kind goal want c i)

  abbrev of_d : ℕ → said.Literal
  of_d i = meant (literal_read kind goal want d i)

  abbrev pub literals_left : (count j : ℕ) → Bool
  literals_left count j = same_literals (span of_c j (count - j)) (span of_d j (count - j))

  abbrev pub LiteralsSame : Bool → Type 0
  LiteralsSame b = b ≡ same_literals (literals_read len kind goal want c) (literals_read len kind goal want d)

  module _ (count other : ℕ) (own : count ≡ entry 256 len c) (its : other ≡ entry 256 len d) where
    pub counts_apart : (other ≡ count → ⊥) → LiteralsSame false
    counts_apart apart = lengths_apart of_c of_d 0 0 (entry 256 len c) (entry 256 len d) (λ e. apart (its ∙ e ∙ sym own))

    pub all_left : other ≡ count
        → literals_left count 0 ≡ same_literals (literals_read len kind goal want c) (literals_read len kind goal want d)
    all_left e =
        let z : count - 0 ≡ count = omega arith in
        ap₂ (λ (m n : ℕ). same_literals (span of_c 0 m) (span of_d 0 n)) (z ∙ own) (z ∙ sym e ∙ its)

  module _ (count j : ℕ)
      (left : literals_left count j ≡ same_literals (literals_read len kind goal want c) (literals_read len kind goal want d)) where
    pub none_left : count ≤ j → LiteralsSame true
    none_left ge = literals_same of_c of_d j count _ left ge

    module _ (l m : Literal) (s : Bool) (lt : j < count) (own : l ≡ literal_read kind goal want c j)
        (its : m ≡ literal_read kind goal want d j)
        (says : s ≡ same_literal (meant l) (meant m)) where
      told : same_literal (of_c j) (of_d j) ≡ s
      told = ap₂ (λ (x y : Literal). same_literal (meant x) (meant y)) (sym own) (sym its) ∙ sym says

      pub more_left : not s ≡ false
          → literals_left count (j + 1) ≡ same_literals (literals_read len kind goal want c) (literals_read len kind goal want d)
      more_left e = literals_again of_c of_d j count _ left lt (told ∙ was_true s e)

      pub two_differ : not s ≡ true → LiteralsSame false
      two_differ e = literals_differ of_c of_d j count _ left lt (told ∙ was_false s e)

-- Two clauses that are read: by variant, flags and literals, in this order.
