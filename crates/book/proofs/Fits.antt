-- Laws of fitting: what holds of a literal of either sign.
use Prim.Native.Nat.{ℕ, zero, suc, ◌≤◌, ◌<◌}
use mathlib.Core.Path.{◌≡◌, refl, sym, ap, subst, ◌∙◌}
use mathlib.Core.Bool.{Bool, true, false, not, ◌||◌, ◌&&◌}
use lib.Dec.{leb}
use borrow.Author.Tests.{ne_eqb, le-leb, lt-leb}
use Rattle.definitions.specs.Book.{Want, low, high, bit0, bit1}
use Rattle.definitions.specs.Fitting.{gets_table, answer_fits}
use Rattle.book.specs.declared.Literal.{Literal}
use Rattle.book.specs.View.{wanted, bit2, signed, meant}

table_signed : (t : Bool) (goal : ℕ) (want : Want) (o : Bool) → not o ≡ gets_table (signed t goal want o)
table_signed true goal want o = refl
table_signed false goal want o = refl

pub table_of : (l : Literal) → not (bit0 l.kind) ≡ gets_table (meant l)
table_of l = table_signed (bit1 l.kind) l.goal (wanted (bit2 l.kind) l.want l.high) (bit0 l.kind)

-- the ends of what a literal wants

pub low_of : (ranged : Bool) (want most : ℕ) → want ≡ low (wanted ranged want most)
low_of true want most = refl
low_of false zero most = refl
low_of false (suc v) most = refl

-- an answer that is not for the goal as a whole, against a positive literal
module _ (l : Literal) (variant : ℕ) (s : bit1 l.kind ≡ false) (v : variant ≡ 0 → ⊥) where
  abbrev takes : Want
  takes = wanted (bit2 l.kind) l.want l.high

  by_ends : answer_fits (meant l) variant ≡ (leb (low takes) variant && leb variant (high takes))
  by_ends =
      ap (λ (t : Bool). answer_fits (signed t l.goal takes (bit0 l.kind)) variant) s
      ∙ ap (λ (t : Bool). t || (leb (low takes) variant && leb variant (high takes))) (ne_eqb variant 0 v)

  pub below_low : variant < l.want → false ≡ answer_fits (meant l) variant
  below_low h =
      sym (by_ends ∙ ap (λ (t : Bool). t && leb variant (high takes))
      (lt-leb (low takes) variant (subst (λ (n : ℕ). variant < n) (low_of (bit2 l.kind) l.want l.high) h)))

  pub above_low : l.want ≤ variant → (most : ℕ) → most ≡ high takes → leb variant most ≡ answer_fits (meant l) variant
  above_low h most e =
      ap (leb variant) e
      ∙ sym (by_ends ∙ ap (λ (t : Bool). t && leb variant (high takes))
      (le-leb (low takes) variant (subst (λ (n : ℕ). n ≤ variant) (low_of (bit2 l.kind) l.want l.high) h)))
