-- The ways out of the functions of on_subgoal_selected.rt, over variables: what a return says is the model at the tests that led there.
use Prim.Native.Nat.{ℕ}
use mathlib.Core.Bool.{Bool, true, false, not}
use mathlib.Core.List.{[], ◌∷◌}
use mathlib.Core.Path.{◌≡◌, sym, ap, ap₂, ◌∙◌}
use lib.Dec.{leb}
use borrow.Author.Tests.{eq-eqb, ne_eqb}
use Rattle.std.specs.Prelude.{Option, Some, None}
use Rattle.definitions.specs.Book.{goal_of}
use Rattle.definitions.specs.Fitting.{answer_fits, is_trivial}
use Rattle.book.specs.View.{meant}
use Rattle.book.specs.declared.Literal.{Literal}
use Rattle.strands.specs.declared.Answer.{Answer}
use Rattle.strands.specs.declared.Strand.{Strand}
use Rattle.strands.specs.Delaying.{delay_goals}
use Rattle.strands.specs.Literals.{last_removed}
use Rattle.strands.specs.Merging.{take_answer}
use Rattle.strands.specs.View.{is_negative}
use Rattle.control.specs.declared.decision.Deed.TheVariants.{Stop, GoesOn, GivesUp}
use Rattle.control.specs.Decision.{decided}
use Rattle.control.specs.OnSubgoalSelected.{deselected, coinductive_by, goal_delayed, coinductive, merge_not_by, merge_not}
use Rattle.control.specs.OnSubgoalSelected.{merge_into_by, merge_into, merge_positive_by, merge_positive}
use Rattle.control.specs.SelectSubgoal.{chosen}

module _ (s : Strand) (a : Answer) where
  -- An answer for a "not".

  pub says_delays : (a.delayed_count ≡ 0 → ⊥) → merge_not_by true a.ambiguous s a ≡ merge_not s a
  says_delays h = sym (ap (λ (b : Bool). merge_not_by (not b) a.ambiguous s a) (ne_eqb a.delayed_count 0 h))

  pub says_not : (ambiguous : Bool) → a.delayed_count ≡ 0 → a.ambiguous ≡ ambiguous → merge_not_by false ambiguous s a ≡ merge_not s a
  says_not ambiguous p q =
      sym
      (ap (λ (b : Bool). merge_not_by (not b) a.ambiguous s a) (eq-eqb a.delayed_count 0 p)
      ∙ ap (λ (b : Bool). merge_not_by false b s a) q)

  -- An answer for a positive literal.

  module _ (l : Literal) (copies : Bool) (copy : Strand) where
    into_by : (d : Option Strand) → d ≡ take_answer a (deselected s) → answer_fits (meant l) a.variant ≡ true
        → merge_into_by true d s a copies copy ≡ merge_into s a l copies copy
    into_by d d-is fits =
        sym
        (ap (λ (b : Bool). merge_into_by b (take_answer a (deselected s)) s a copies copy) fits
        ∙ ap (λ (e : Option Strand). merge_into_by true e s a copies copy) (sym d-is))

    pub says_over : None ≡ take_answer a (deselected s) → answer_fits (meant l) a.variant ≡ true
        → decided (Stop 24) false s s a ≡ merge_into s a l copies copy
    says_over d-is fits = into_by None d-is fits

    pub says_into : (t : Strand) → Some t ≡ take_answer a (deselected s) → answer_fits (meant l) a.variant ≡ true
        → decided GoesOn copies t copy a ≡ merge_into s a l copies copy
    says_into t d-is fits = into_by (Some t) d-is fits

    pub says_misfit : answer_fits (meant l) a.variant ≡ false → decided GivesUp copies s copy a ≡ merge_into s a l copies copy
    says_misfit fits = sym (ap (λ (b : Bool). merge_into_by b (take_answer a (deselected s)) s a copies copy) fits)

  module _ (l : Literal) (live : ℕ) where
    pub says_trivial : is_trivial a.variant ≡ true → merge_positive_by true (leb 256 live) s a l ≡ merge_positive s a l live
    says_trivial p = sym (ap (λ (b : Bool). merge_positive_by b (leb 256 live) s a l) p)

    pub says_other : (full : Bool) → is_trivial a.variant ≡ false → leb 256 live ≡ full
        → merge_positive_by false full s a l ≡ merge_positive s a l live
    says_other full p q =
        sym
        (ap (λ (b : Bool). merge_positive_by b (leb 256 live) s a l) p
        ∙ ap (λ (b : Bool). merge_positive_by false b s a l) q)

  -- A coinductive cycle: l is the literal that is chosen, t the strand without it, d has its goal delayed.

  pub says_coinductive_not : (l : Literal) → l ≡ chosen s → is_negative (meant l) ≡ true
      → decided (Stop 28) false s s a ≡ coinductive s a
  says_coinductive_not l l-is p =
      sym (ap (λ (b : Bool). coinductive_by b (goal_delayed s) s a) (ap (λ (m : Literal). is_negative (meant m)) (sym l-is) ∙ p))

  cycle_by : (l : Literal) (goal : ℕ) (t : Strand) (d : Option Strand) → l ≡ chosen s → goal ≡ goal_of (meant l)
      → t ≡ last_removed (deselected s) → d ≡ delay_goals (goal ∷ []) t → is_negative (meant l) ≡ false
      → coinductive_by false d s a ≡ coinductive s a
  cycle_by l goal t d l-is goal_is t-is d-is p =
      let goal-chosen : goal ≡ goal_of (meant (chosen s)) = goal_is ∙ ap (λ (m : Literal). goal_of (meant m)) l-is in
      let all : d ≡ goal_delayed s = d-is ∙ ap₂ (λ (g : ℕ) (r : Strand). delay_goals (g ∷ []) r) goal-chosen t-is in
      sym
      (ap (λ (b : Bool). coinductive_by b (goal_delayed s) s a) (ap (λ (m : Literal). is_negative (meant m)) (sym l-is) ∙ p)
      ∙ ap (λ (e : Option Strand). coinductive_by false e s a) (sym all))

  pub says_ninth : (l : Literal) (goal : ℕ) (t : Strand) → l ≡ chosen s → goal ≡ goal_of (meant l)
      → t ≡ last_removed (deselected s) → None ≡ delay_goals (goal ∷ []) t → is_negative (meant l) ≡ false
      → decided (Stop 24) false s s a ≡ coinductive s a
  says_ninth l goal t l-is goal_is t-is d-is p = cycle_by l goal t None l-is goal_is t-is d-is p

  pub says_delayed : (l : Literal) (goal : ℕ) (t u : Strand) → l ≡ chosen s → goal ≡ goal_of (meant l)
      → t ≡ last_removed (deselected s) → Some u ≡ delay_goals (goal ∷ []) t → is_negative (meant l) ≡ false
      → decided GoesOn false u u a ≡ coinductive s a
  says_delayed l goal t u l-is goal_is t-is d-is p = cycle_by l goal t (Some u) l-is goal_is t-is d-is p
