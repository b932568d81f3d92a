-- What the decisions about a selected subgoal carry is sound, and what they leave of the strand: nothing selected where it goes on, and
-- else the strand as it came. A copy is the strand as it came with the next answer index.
use Prim.Native.Nat.{ℕ}
use mathlib.Core.Bool.{Bool, true, false, not, ◌&&◌}
use mathlib.Core.List.{[], ◌∷◌}
use mathlib.Core.Path.{◌≡◌, refl}
use lib.Dec.{eqb, leb}
use Rattle.std.specs.Prelude.{Option, Some, None}
use Rattle.definitions.specs.Book.{goal_of}
use Rattle.definitions.specs.Fitting.{answer_fits, is_trivial}
use Rattle.book.specs.View.{meant}
use Rattle.book.specs.declared.Literal.{Literal}
use Rattle.strands.specs.declared.Answer.{Answer}
use Rattle.strands.specs.declared.Selected.TheVariants.{Nothing}
use Rattle.strands.specs.declared.Strand.{Strand}
use Rattle.strands.specs.Delaying.{strand_or}
use Rattle.strands.specs.Fields.{with_selected, with_ambiguous, next_of}
use Rattle.strands.specs.Floundering.{flounder}
use Rattle.strands.specs.Literals.{last_removed}
use Rattle.strands.specs.Merging.{take_answer}
use Rattle.strands.specs.View.{Sound, SoundAnswer, is_negative}
use Rattle.strands.proofs.DelayViews.{delay_kept, delay_sound}
use Rattle.strands.proofs.FieldViews.{kept_on, selected_sound, ambiguous_sound}
use Rattle.strands.proofs.FlounderViews.{flounder_kept, flounder_sound}
use Rattle.strands.proofs.LiteralViews.{last_removed_sound}
use Rattle.strands.proofs.MergeViews.{take_kept, take_sound}
use Rattle.control.specs.declared.decision.Deed.TheVariants.{GoesOn}
use Rattle.control.specs.declared.on_subgoal_selected.Look.TheVariants as looks
use Rattle.control.specs.declared.on_subgoal_selected.Look.{Look}
use Rattle.control.specs.Decision.{SoundDecision, Leaves}
use Rattle.control.specs.OnSubgoalSelected.{deselected, coinductive_by, goal_delayed, coinductive, merge_not_by, merge_into_by}
use Rattle.control.specs.OnSubgoalSelected.{merge_into, merge_positive_by, merge_literal_by, merge_answer_by, merge_answer}
use Rattle.control.specs.OnSubgoalSelected.{push_table, selected_deed}
use Rattle.control.specs.SelectSubgoal.{chosen}
use Rattle.control.proofs.Decisions.{alone_sound, alone_leaves}

module _ (s : Strand) (a : Answer) where
  -- Soundness.

  module _ (o : Sound s) (p : SoundAnswer a) where
    free : Sound (deselected s)
    free = selected_sound s Nothing o

    not_by_sound : (delays ambiguous : Bool) → SoundDecision (merge_not_by delays ambiguous s a)
    not_by_sound true ambiguous = alone_sound _ s a o p
    not_by_sound false true =
        alone_sound GoesOn (with_ambiguous (last_removed (deselected s)) true) a
        (ambiguous_sound (last_removed (deselected s)) true (last_removed_sound (deselected s) free)) p
    not_by_sound false false = alone_sound _ s a o p

    into_by_sound : (fits : Bool) (d : Option Strand) (copies : Bool) (copy : Strand) → Sound (strand_or (deselected s) d) → Sound copy
        → SoundDecision (merge_into_by fits d s a copies copy)
    into_by_sound true None copies copy q r = alone_sound _ s a o p
    into_by_sound true (Some t) copies copy q r = record { strand = q; copy = r; answer = p }
    into_by_sound false d copies copy q r = record { strand = o; copy = r; answer = p }

    into_sound : (l : Literal) (copies : Bool) (copy : Strand) → Sound copy → SoundDecision (merge_into s a l copies copy)
    into_sound l copies copy r =
        into_by_sound (answer_fits (meant l) a.variant) (take_answer a (deselected s)) copies copy (take_sound a (deselected s) free) r

    positive_by_sound : (trivial full : Bool) (l : Literal) → SoundDecision (merge_positive_by trivial full s a l)
    positive_by_sound true full l = into_sound l false s o
    positive_by_sound false true l = alone_sound _ s a o p
    positive_by_sound false false l = into_sound l true (with_selected s (next_of s.selected))
        (selected_sound s (next_of s.selected) o)

    literal_by_sound : (negative : Bool) (live : ℕ) → SoundDecision (merge_literal_by negative s a live)
    literal_by_sound true live = not_by_sound (not (eqb a.delayed_count 0)) a.ambiguous
    literal_by_sound false live = positive_by_sound (is_trivial a.variant) (leb 256 live) (chosen s)

    merge_by_sound : (unwanted : Bool) (live : ℕ) → SoundDecision (merge_answer_by unwanted s a live)
    merge_by_sound true live = alone_sound GoesOn (flounder (deselected s)) a (flounder_sound (deselected s) free) p
    merge_by_sound false live = literal_by_sound (is_negative (meant (chosen s))) live

    pub merge_answer_sound : (complete : Bool) (live : ℕ) → SoundDecision (merge_answer s a complete live)
    merge_answer_sound complete live = merge_by_sound (complete && a.ambiguous) live

    coinductive_by_sound : (negative : Bool) (d : Option Strand) → Sound (strand_or (last_removed (deselected s)) d)
        → SoundDecision (coinductive_by negative d s a)
    coinductive_by_sound true d q = alone_sound _ s a o p
    coinductive_by_sound false None q = alone_sound _ s a o p
    coinductive_by_sound false (Some t) q = alone_sound GoesOn t a q p

    pub coinductive_sound : SoundDecision (coinductive s a)
    coinductive_sound =
        let goals = goal_of (meant (chosen s)) ∷ [] in
        coinductive_by_sound (is_negative (meant (chosen s))) (goal_delayed s)
        (delay_sound goals (last_removed (deselected s)) (last_removed_sound (deselected s) free))

    push_sound : (late : Bool) (table : ℕ) → SoundDecision (push_table late table s a)
    push_sound true table = alone_sound _ s a o p
    push_sound false table = alone_sound _ s a o p

    pub selected_deed_sound : (look : Look) (complete : Bool) (live : ℕ) (late : Bool)
        → SoundDecision (selected_deed look s a complete live late)
    selected_deed_sound (looks.Answer place) complete live late = merge_answer_sound complete live
    selected_deed_sound looks.Coinductive complete live late = coinductive_sound
    selected_deed_sound (looks.Cycle height) complete live late = alone_sound _ s a o p
    selected_deed_sound (looks.Push table) complete live late = push_sound late table

  -- What is left of the strand.

  not_by_leaves : (delays ambiguous : Bool) → Leaves s a a (merge_not_by delays ambiguous s a)
  not_by_leaves true ambiguous = alone_leaves _ s s a a a refl refl
  not_by_leaves false true = alone_leaves GoesOn s (with_ambiguous (last_removed (deselected s)) true) a a a refl refl
  not_by_leaves false false = alone_leaves _ s s a a a refl refl

  into_by_leaves : (fits : Bool) (d : Option Strand) (copies : Bool) (copy : Strand) → (strand_or (deselected s) d).selected ≡ Nothing
      → (copies ≡ true → copy ≡ with_selected s (next_of s.selected)) → Leaves s a a (merge_into_by fits d s a copies copy)
  into_by_leaves true None copies copy q r = alone_leaves _ s s a a a refl refl
  into_by_leaves true (Some t) copies copy q r = record { strand = q; copy = r; answer = refl }
  into_by_leaves false d copies copy q r = record { strand = refl; copy = r; answer = refl }

  into_leaves : (l : Literal) (copies : Bool) (copy : Strand) → (copies ≡ true → copy ≡ with_selected s (next_of s.selected))
      → Leaves s a a (merge_into s a l copies copy)
  into_leaves l copies copy r =
      into_by_leaves (answer_fits (meant l) a.variant) (take_answer a (deselected s)) copies copy (take_kept a (deselected s)) r

  positive_by_leaves : (trivial full : Bool) (l : Literal) → Leaves s a a (merge_positive_by trivial full s a l)
  positive_by_leaves true full l = into_leaves l false s (λ never. cc)
  positive_by_leaves false true l = alone_leaves _ s s a a a refl refl
  positive_by_leaves false false l = into_leaves l true (with_selected s (next_of s.selected)) (λ always. refl)

  literal_by_leaves : (negative : Bool) (live : ℕ) → Leaves s a a (merge_literal_by negative s a live)
  literal_by_leaves true live = not_by_leaves (not (eqb a.delayed_count 0)) a.ambiguous
  literal_by_leaves false live = positive_by_leaves (is_trivial a.variant) (leb 256 live) (chosen s)

  merge_by_leaves : (unwanted : Bool) (live : ℕ) → Leaves s a a (merge_answer_by unwanted s a live)
  merge_by_leaves true live =
      let t : Strand = flounder (deselected s) in
      alone_leaves GoesOn s t a a a (flounder_kept (deselected s)) refl
  merge_by_leaves false live = literal_by_leaves (is_negative (meant (chosen s))) live

  pub merge_answer_leaves : (complete : Bool) (live : ℕ) → Leaves s a a (merge_answer s a complete live)
  merge_answer_leaves complete live = merge_by_leaves (complete && a.ambiguous) live

  coinductive_by_leaves : (negative : Bool) (d : Option Strand) → (strand_or (last_removed (deselected s)) d).selected ≡ Nothing
      → Leaves s a a (coinductive_by negative d s a)
  coinductive_by_leaves true d q = alone_leaves _ s s a a a refl refl
  coinductive_by_leaves false None q = alone_leaves _ s s a a a refl refl
  coinductive_by_leaves false (Some t) q = alone_leaves GoesOn s t a a a q refl

  pub coinductive_leaves : Leaves s a a (coinductive s a)
  coinductive_leaves =
      let goals = goal_of (meant (chosen s)) ∷ [] in
      let t : Strand = last_removed (deselected s) in
      coinductive_by_leaves (is_negative (meant (chosen s))) (goal_delayed s)
      (kept_on (deselected s) t (strand_or t (goal_delayed s)) refl (delay_kept goals t))

  push_leaves : (late : Bool) (table : ℕ) → Leaves s a a (push_table late table s a)
  push_leaves true table = alone_leaves _ s s a a a refl refl
  push_leaves false table = alone_leaves _ s s a a a refl refl

  pub selected_deed_leaves : (look : Look) (complete : Bool) (live : ℕ) (late : Bool)
      → Leaves s a a (selected_deed look s a complete live late)
  selected_deed_leaves (looks.Answer place) complete live late = merge_answer_leaves complete live
  selected_deed_leaves looks.Coinductive complete live late = coinductive_leaves
  selected_deed_leaves (looks.Cycle height) complete live late = alone_leaves _ s s a a a refl refl
  selected_deed_leaves (looks.Push table) complete live late = push_leaves late table
