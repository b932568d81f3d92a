-- What a fit says (`fits_one`): an answer fits a positive literal just where its variant is 0 or lies from the want's low end to its high
-- one. It is one law for the three kinds of want: any, one variant, and a range. Assumes nothing.
use Prim.Native.Nat.{ℕ, ◌≤◌}
use mathlib.Core.Bool.{Bool, true, false, false≢true, ◌||◌, ◌&&◌, or-true}
use mathlib.Core.Path.{◌≡◌, refl, ap, ◌∙◌}
use mathlib.Core.Logic.{◌⊎◌, inl, inr}
use lib.Dec.{eqb, leb}
use borrow.Author.Tests.{eq-eqb, eqb-true, le-leb, leb-true}
use Rattle.definitions.specs.Book.{Want, low, high, Positive}
use Rattle.definitions.specs.Fitting.{answer_fits}

-- what the want takes: an answer for the goal as a whole, and those of its range
abbrev pub Takes : Want → (variant : ℕ) → Type 0
Takes want variant = (variant ≡ 0) ⊎ ((low want ≤ variant) × (variant ≤ high want))

tested : (want : Want) (v : ℕ) (whole above below : Bool) → eqb v 0 ≡ whole → leb (low want) v ≡ above → leb v (high want) ≡ below
    → (whole || (above && below)) ≡ true → Takes want v
tested want v true above below e f g x = inl (eqb-true v 0 e)
tested want v false true true e f g x = inr (leb-true (low want) v f, leb-true v (high want) g)
tested want v false true false e f g x = absurd (false≢true x)
tested want v false false below e f g x = absurd (false≢true x)

module _ (goal : ℕ) (want : Want) (outsized : Bool) (v : ℕ) where
  fits_within : answer_fits (Positive goal want outsized) v ≡ true → Takes want v
  fits_within = tested want v (eqb v 0) (leb (low want) v) (leb v (high want)) refl refl refl

  within_fits : Takes want v → answer_fits (Positive goal want outsized) v ≡ true
  within_fits (inl whole) = ap (λ (t : Bool). t || (leb (low want) v && leb v (high want))) (eq-eqb v 0 whole)
  within_fits (inr ends) =
      ap (λ (t : Bool). eqb v 0 || (t && leb v (high want))) (le-leb (low want) v ends.0)
      ∙ ap (λ (t : Bool). eqb v 0 || (true && t)) (le-leb v (high want) ends.1)
      ∙ or-true (eqb v 0)

  pub fits_one : (answer_fits (Positive goal want outsized) v ≡ true → Takes want v)
      × (Takes want v → answer_fits (Positive goal want outsized) v ≡ true)
  fits_one = (fits_within, within_fits)
