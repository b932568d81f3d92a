-- The ways out of `take_answer`, from what its callees say: t is without the literal, and d has the goals delayed or is none.
use mathlib.Core.Path.{◌≡◌, sym, ap, ◌∙◌}
use borrow.Author.Tests.{eq-eqb, ne_eqb}
use Rattle.std.specs.Prelude.{false, Option, Some, None}
use Rattle.strands.specs.declared.Answer.{Answer}
use Rattle.strands.specs.declared.Strand.{Strand}
use Rattle.strands.specs.Delaying.{delay_goals}
use Rattle.strands.specs.Literals.{answered}
use Rattle.strands.specs.Merging.{ambiguous_too, take_by, goals_taken, take_answer}
use Rattle.strands.specs.View.{answer}

module _ (a : Answer) (s : Strand) where
  pub take_none : s.literal_count ≡ 0 → take_answer a s ≡ Some s
  take_none p = ap (λ b. take_by b a.ambiguous s (goals_taken a s)) (eq-eqb s.literal_count 0 p)

  says_taken : (t : Strand) (d : Option Strand) → t ≡ answered s → d ≡ delay_goals (answer a).delayed_subgoals t
      → (s.literal_count ≡ 0 → ⊥) → take_by false a.ambiguous s d ≡ take_answer a s
  says_taken t d t-is d-is some_left =
      let all : goals_taken a s ≡ d = sym (d-is ∙ ap (delay_goals (answer a).delayed_subgoals) t-is) in
      sym
      (ap (λ b. take_by b a.ambiguous s (goals_taken a s)) (ne_eqb s.literal_count 0 some_left)
      ∙ ap (take_by false a.ambiguous s) all)

  pub says_over : (t : Strand) → t ≡ answered s → None ≡ delay_goals (answer a).delayed_subgoals t
      → (s.literal_count ≡ 0 → ⊥) → None ≡ take_answer a s
  says_over t t-is d-is some_left = says_taken t None t-is d-is some_left

  pub says_room : (t u : Strand) → t ≡ answered s → Some u ≡ delay_goals (answer a).delayed_subgoals t
      → (s.literal_count ≡ 0 → ⊥) → Some (ambiguous_too a.ambiguous u) ≡ take_answer a s
  says_room t u t-is d-is some_left = says_taken t (Some u) t-is d-is some_left
