-- The functions of create_refinement_strand.rt at their tests' answers.
use Prim.Native.Nat.{ℕ, ◌≤◌, ◌<◌}
use mathlib.Core.Bool.{Bool, true, false}
use mathlib.Core.Path.{◌≡◌, sym, ap, ◌∙◌}
use borrow.Author.Tests.{lt-ltb, le-ltb}
use Rattle.std.specs.Prelude.{Option, Some, None}
use Rattle.definitions.specs.{TimeStamp}
use Rattle.strands.specs.declared.Answer.{Answer}
use Rattle.strands.specs.declared.Strand.{Strand}
use Rattle.strands.specs.Making.{refine}
use Rattle.control.specs.declared.create_refinement_strand.Left.{Left}
use Rattle.control.specs.declared.decision.Deed.{Deed}
use Rattle.control.specs.CreateRefinementStrand.{left, answer_left_by, answer_left, gives_answer, strand_left_by, strand_left}

-- `answer_left`
module _ (x : Answer) (s : Strand) (depth : ℕ) (at : TimeStamp) where
  pub at_caller : 2 ≤ depth → left s at false ≡ answer_left depth x s at
  at_caller h = sym (ap (λ (b : Bool). answer_left_by b (refine x) s at) (le-ltb depth 2 h))

  at_root : depth < 2 → (r : Option Strand) → r ≡ refine x → answer_left_by true r s at ≡ answer_left depth x s at
  at_root h r e =
      ap (λ (q : Option Strand). answer_left_by true q s at) e
      ∙ sym (ap (λ (c : Bool). answer_left_by c (refine x) s at) (lt-ltb depth 2 h))

  pub refined : depth < 2 → (f : Strand) → Some f ≡ refine x → left f 0 true ≡ answer_left depth x s at
  refined h f e = at_root h (Some f) e

  pub unrefined : depth < 2 → None ≡ refine x → left s at false ≡ answer_left depth x s at
  unrefined h e = at_root h None e

  -- `strand_left`
  module _ (deed : Deed) (gives : Bool) (is : gives ≡ gives_answer deed) where
    pub left_answer : gives ≡ true → (r : Left) → r ≡ answer_left depth x s at → r ≡ strand_left deed depth x s at
    left_answer e r er = er ∙ ap (λ (b : Bool). strand_left_by b depth x s at) (sym e ∙ is)

    pub left_as_it_is : gives ≡ false → left s at false ≡ strand_left deed depth x s at
    left_as_it_is e = ap (λ (b : Bool). strand_left_by b depth x s at) (sym e ∙ is)
