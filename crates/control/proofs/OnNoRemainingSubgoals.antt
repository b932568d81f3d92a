-- What a strand with no literal left is decided to do means what crate `small_steps` decides, and keeps what it carries sound.
use Prim.Native.Nat.{ℕ}
use mathlib.Core.Bool.{Bool, true, false, not, ◌&&◌}
use mathlib.Core.Option.{Option, none, some}
use mathlib.Core.Path.{◌≡◌, refl, sym, ap, ◌∙◌}
use lib.Dec.{leb}
use Rattle.definitions.specs.{TimeStamp, is_complete}
use Rattle.definitions.specs as said
use Rattle.definitions.specs.Lists.{is_empty}
use Rattle.definitions.specs.Stop.{Stops, go, ◌>>◌, stop_if}
use Rattle.definitions.specs.Table.{Table, equal_answer}
use Rattle.small_steps.specs.Acts as split
use Rattle.small_steps.specs.Decide.{decide_answer, decide_no_remaining}
use Rattle.strands.specs.declared.Answer.{Answer}
use Rattle.strands.specs.declared.Strand.{Strand}
use Rattle.strands.specs.Answers.{answer_from, answer_of}
use Rattle.strands.specs.View.{Sound, SoundAnswer, seen, clause, answer}
use Rattle.strands.proofs.AnswerViews.{answer_of_view}
use Rattle.control.specs.Decision.{meaning, SoundDecision, Leaves}
use Rattle.control.specs.OnNoRemainingSubgoals.{outsized, empties, answer_again_by, answer_anew_by, pursue_by, pursue_answer}
use Rattle.control.specs.OnNoRemainingSubgoals.{no_remaining_by, no_remaining, Stored}
use Rattle.control.proofs.Decisions.{alone_sound, alone_leaves}

module _ (time : TimeStamp) (clock_at : ℕ → TimeStamp) (s : Strand) (was x : Answer) (held : ℕ) where
  -- A repeated answer, and a new one.

  again_by_view : (ambiguous was_ambiguous : Bool)
      → meaning time clock_at (answer_again_by ambiguous was_ambiguous s was) ≡
      (stop_if (was_ambiguous && not ambiguous) 26 >> go (split.gives_up none))
  again_by_view true true = refl
  again_by_view true false = refl
  again_by_view false true = refl
  again_by_view false false = refl

  anew_by_view : (full : Bool)
      → meaning time clock_at (answer_anew_by full s was x) ≡ (stop_if full 23 >> go (split.answers (answer x) (empties s)))
  anew_by_view true = refl
  anew_by_view false = refl

  -- `pursue_answer`, by the stored answer that is the same as y

  abbrev stored_by : said.Answer → Option said.Answer → Stops split.Deed
  stored_by y stored = elim stored [
    | some b ↦ stop_if (b.ambiguous && not s.ambiguous) 26 >> go (split.gives_up none)
    | none ↦ stop_if (leb 256 held) 23 >> go (split.answers y (empties s))
  ]

  abbrev pursued_by : (none_left large : Bool) → said.Answer → Option said.Answer → Stops split.Deed
  pursued_by none_left large y stored = stop_if (not none_left) 25 >> (elim large as (λ _. Stops split.Deed) [
    | true ↦ go split.flounders
    | false ↦ stored_by y stored
  ])

  module _ (table : Table) where
    pursue_by_view : (none_left large is_new : Bool) → Stored is_new was x table
        → meaning time clock_at (pursue_by none_left large is_new s was x held)
        ≡ pursued_by none_left large (answer x) (equal_answer (answer x) table.answers)
    pursue_by_view false large is_new h = refl
    pursue_by_view true true is_new h = refl
    pursue_by_view true false true h = anew_by_view (leb 256 held) ∙ ap (stored_by (answer x)) (sym h)
    pursue_by_view true false false h = again_by_view s.ambiguous was.ambiguous ∙ ap (stored_by (answer x)) (sym h)

    module _ (o : Sound s) (x_is : x ≡ answer_of s table.table_goal) (is_new : Bool) (h : Stored is_new was x table) where
      x_means : answer x ≡ answer_from s table.table_goal
      x_means = ap answer x_is ∙ answer_of_view s table.table_goal o.delayed_long

      pub pursue_answer_means : meaning time clock_at (pursue_answer s was x is_new held) ≡ decide_answer held (seen time s) table
      pursue_answer_means =
          pursue_by_view (is_empty (clause s).subgoals) (outsized s) is_new h
          ∙ ap (λ (y : said.Answer). pursued_by (is_empty (clause s).subgoals) (outsized s) y (equal_answer y table.answers)) x_means

      abbrev remaining_by : (puts_off : Bool) → Stops split.Deed
      remaining_by puts_off = elim puts_off [ true ↦ go (split.requeues (seen time s)) | false ↦ decide_answer held (seen time s) table ]

      no_remaining_by_view : (puts_off : Bool)
          → meaning time clock_at (no_remaining_by puts_off s was x is_new held) ≡ remaining_by puts_off
      no_remaining_by_view true = refl
      no_remaining_by_view false = pursue_answer_means

      pub no_remaining_means : (complete : Bool) → is_complete table.answer_mode ≡ complete
          → meaning time clock_at (no_remaining s was x is_new complete held) ≡ decide_no_remaining held (seen time s) table
      no_remaining_means complete e =
          no_remaining_by_view (complete && s.ambiguous) ∙ ap (λ (b : Bool). remaining_by (b && s.ambiguous)) (sym e)

-- What is carried is sound, and the strand is left as it came.
module _ (s : Strand) (was x : Answer) where
  module _ (o : Sound s) (p : SoundAnswer was) (q : SoundAnswer x) where
    again_by_sound : (ambiguous was_ambiguous : Bool) → SoundDecision (answer_again_by ambiguous was_ambiguous s was)
    again_by_sound true was_ambiguous = alone_sound _ s was o p
    again_by_sound false true = alone_sound _ s was o p
    again_by_sound false false = alone_sound _ s was o p

    anew_by_sound : (full : Bool) → SoundDecision (answer_anew_by full s was x)
    anew_by_sound true = alone_sound _ s was o p
    anew_by_sound false = alone_sound _ s x o q

    pursue_by_sound : (none_left large is_new : Bool) (held : ℕ) → SoundDecision (pursue_by none_left large is_new s was x held)
    pursue_by_sound false large is_new held = alone_sound _ s was o p
    pursue_by_sound true true is_new held = alone_sound _ s was o p
    pursue_by_sound true false true held = anew_by_sound (leb 256 held)
    pursue_by_sound true false false held = again_by_sound s.ambiguous was.ambiguous

    no_remaining_by_sound : (puts_off is_new : Bool) (held : ℕ) → SoundDecision (no_remaining_by puts_off s was x is_new held)
    no_remaining_by_sound true is_new held = alone_sound _ s was o p
    no_remaining_by_sound false is_new held = pursue_by_sound (is_empty (clause s).subgoals) (outsized s) is_new held

    pub no_remaining_sound : (is_new complete : Bool) (held : ℕ) → SoundDecision (no_remaining s was x is_new complete held)
    no_remaining_sound is_new complete held = no_remaining_by_sound (complete && s.ambiguous) is_new held

  again_by_leaves : (ambiguous was_ambiguous : Bool) → Leaves s was x (answer_again_by ambiguous was_ambiguous s was)
  again_by_leaves true was_ambiguous = alone_leaves _ s s was x was refl refl
  again_by_leaves false true = alone_leaves _ s s was x was refl refl
  again_by_leaves false false = alone_leaves _ s s was x was refl refl

  anew_by_leaves : (full : Bool) → Leaves s was x (answer_anew_by full s was x)
  anew_by_leaves true = alone_leaves _ s s was x was refl refl
  anew_by_leaves false = alone_leaves _ s s was x x refl refl

  pursue_by_leaves : (none_left large is_new : Bool) (held : ℕ) → Leaves s was x (pursue_by none_left large is_new s was x held)
  pursue_by_leaves false large is_new held = alone_leaves _ s s was x was refl refl
  pursue_by_leaves true true is_new held = alone_leaves _ s s was x was refl refl
  pursue_by_leaves true false true held = anew_by_leaves (leb 256 held)
  pursue_by_leaves true false false held = again_by_leaves s.ambiguous was.ambiguous

  no_remaining_by_leaves : (puts_off is_new : Bool) (held : ℕ) → Leaves s was x (no_remaining_by puts_off s was x is_new held)
  no_remaining_by_leaves true is_new held = alone_leaves _ s s was x was refl refl
  no_remaining_by_leaves false is_new held = pursue_by_leaves (is_empty (clause s).subgoals) (outsized s) is_new held

  pub no_remaining_leaves : (is_new complete : Bool) (held : ℕ) → Leaves s was x (no_remaining s was x is_new complete held)
  no_remaining_leaves is_new complete held = no_remaining_by_leaves (complete && s.ambiguous) is_new held
