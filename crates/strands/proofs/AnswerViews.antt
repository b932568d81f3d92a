-- What the answers made mean, and that they are sound.
use Prim.Native.Nat.{ℕ, ◌≤◌}
use native.Mathlib.Omega.{arith}
use mathlib.Core.Bool.{false}
use mathlib.Core.List.{List, []}
use mathlib.Core.Path.{◌≡◌, refl, ap, ◌∙◌}
use lib.ListN.{length, replicate, length-take, length-replicate}
use lib.Seq.{length-sets}
use Rattle.definitions.specs.Turn.{other_than}
use Rattle.definitions.proofs.Lists.{length_other_than}
use Rattle.laws.proofs.Takes.{take_sets}
use Rattle.strands.specs.declared.Strand.{Strand}
use Rattle.strands.specs.Answers.{blank_answer, answer_from, answer_of}
use Rattle.strands.specs.View.{SoundAnswer, clause, answer}

pub blank_answer_view : answer blank_answer ≡ record { variant = 0; delayed_subgoals = []; ambiguous = false }
blank_answer_view = refl

pub blank_answer_sound : SoundAnswer blank_answer
blank_answer_sound = record { delayed_long = length-replicate {A = ℕ} 8 0; few_delayed = omega arith }

module _ (s : Strand) (goal : ℕ) (long : length s.delayed ≡ 8) where
  abbrev others : List ℕ
  others = other_than goal (clause s).delayed_subgoals

  others_few : length others ≤ 8
  others_few = omega (arith, length_other_than goal (clause s).delayed_subgoals, length-take s.delayed_count s.delayed)

  pub answer_of_view : answer (answer_of s goal) ≡ answer_from s goal
  answer_of_view =
      let whole = length-replicate {A = ℕ} 8 0 in
      ap (λ (ds : List ℕ). record { variant = s.variant; delayed_subgoals = ds; ambiguous = s.ambiguous })
      (take_sets others (replicate 8 0) 0 (length others) (omega (arith, others_few)) (omega arith))

  pub answer_of_sound : SoundAnswer (answer_of s goal)
  answer_of_sound = record {
    delayed_long = length-sets (replicate 8 0) 0 others ∙ length-replicate {A = ℕ} 8 0;
    few_delayed = others_few;
  }
