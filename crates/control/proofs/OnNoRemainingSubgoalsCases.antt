-- The ways out of `pursue_answer`, over variables: what a return says is the model at the tests that led there.
use Prim.Native.Nat.{ℕ}
use mathlib.Core.Bool.{Bool, true, false}
use mathlib.Core.Path.{◌≡◌, sym, ap, ◌∙◌}
use Rattle.definitions.specs.Lists.{is_empty}
use Rattle.strands.specs.declared.Answer.{Answer}
use Rattle.strands.specs.declared.Strand.{Strand}
use Rattle.strands.specs.View.{clause}
use Rattle.control.specs.OnNoRemainingSubgoals.{outsized, pursue_by, pursue_answer}

module _ (s : Strand) (was x : Answer) (is_new : Bool) (held : ℕ) where
  pub says_left : is_empty (clause s).subgoals ≡ false → pursue_by false
      (outsized s) is_new s was x held ≡ pursue_answer s was x is_new held
  says_left p = sym (ap (λ (b : Bool). pursue_by b (outsized s) is_new s was x held) p)

  pub says_pursued : (large new : Bool) → is_empty (clause s).subgoals ≡ true → outsized s ≡ large → is_new ≡ new
      → pursue_by true large new s was x held ≡ pursue_answer s was x is_new held
  says_pursued large new p q r =
      sym
      (ap (λ (b : Bool). pursue_by b (outsized s) is_new s was x held) p
      ∙ ap (λ (b : Bool). pursue_by true b is_new s was x held) q
      ∙ ap (λ (b : Bool). pursue_by true large b s was x held) r)
