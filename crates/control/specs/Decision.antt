-- What a decision means: the deed of crate `small_steps`, or a stop.
use Rattle.std.specs.Prelude.{ℕ, Bool, true, false, ◌≡◌}
use Rattle.std.proofs.Math.Option.{Option, none, some}
use Rattle.definitions.specs.{TimeStamp, MAX}
use Rattle.definitions.specs.Book as books
use Rattle.definitions.specs.Stop.{Stops, stop, go}
use Rattle.definitions.specs.Strand as held
use Rattle.definitions.specs.Slg.{next_subgoal_index}
use Rattle.small_steps.specs.Acts as split
use Rattle.small_steps.specs.Decide.{literal_at}
use Rattle.strands.specs.declared.Answer.{Answer}
use Rattle.strands.specs.declared.Selected.TheVariants.{Nothing}
use Rattle.strands.specs.declared.Strand.{Strand}
use Rattle.strands.specs.Fields.{with_selected, next_of}
use Rattle.strands.specs.View.{Sound, SoundAnswer, seen, clause, answer}
use Rattle.control.specs.declared.decision.Deed.{Deed}
use Rattle.control.specs.declared.decision.Deed.TheVariants.{Stop, GoesOn, GivesUp, Cycles, Pushes, Requeues, Flounders, Answers}
use Rattle.control.specs.declared.decision.Decision.{Decision}

abbrev pub decided : Deed → (copies : Bool) → (strand copy : Strand) → Answer → Decision
decided deed copies strand copy a = record { deed = deed; copies = copies; strand = strand; copy = copy; answer = a }

abbrev pub copy_by : (copies : Bool) → held.Strand → Option held.Strand
copy_by true s = some s
copy_by false s = none

-- the literal that is chosen: the last one
abbrev pub last_literal : Strand → books.Literal
last_literal s = literal_at (clause s) (next_subgoal_index (clause s))

-- THE MEANING of a decision about a strand pursued at this time; `clock_at` gives the clock of the entry at a height
module _ (time : TimeStamp) (clock_at : ℕ → TimeStamp) where
  abbrev pub meaning_by : Deed → (copy : Option held.Strand) → Strand → Answer → Stops split.Deed
  meaning_by (Stop n) copy s a = stop n
  meaning_by GoesOn copy s a = go (split.goes_on copy (seen time s))
  meaning_by GivesUp copy s a = go (split.gives_up copy)
  meaning_by (Cycles height) copy s a =
      go (split.cycles (seen time s) (last_literal s) (record { positive = clock_at height; negative = MAX }))
  meaning_by (Pushes t) copy s a = go (split.pushes (seen time s) t)
  meaning_by Requeues copy s a = go (split.requeues (seen time s))
  meaning_by Flounders copy s a = go split.flounders
  meaning_by (Answers empties) copy s a = go (split.answers (answer a) empties)

  abbrev pub meaning : Decision → Stops split.Deed
  meaning d = meaning_by d.deed (copy_by d.copies (seen time d.copy)) d.strand d.answer

-- What a decision carries is sound.
pub record SoundDecision (d : Decision) : Type 0 where
  pub strand : Sound d.strand
  pub copy : Sound d.copy
  pub answer : SoundAnswer d.answer

-- What a deed leaves of the strand s: one that goes on has nothing selected, and any other is as it came.
abbrev pub Left : Deed → (s t : Strand) → Type 0
Left (Stop n) s t = t ≡ s
Left GoesOn s t = t.selected ≡ Nothing
Left GivesUp s t = t ≡ s
Left (Cycles height) s t = t ≡ s
Left (Pushes table) s t = t ≡ s
Left Requeues s t = t ≡ s
Left Flounders s t = t ≡ s
Left (Answers empties) s t = t ≡ s

-- The answer that a deed carries: x where it is stored, and any other deed carries the one that it came with.
abbrev pub carried : Deed → (was x : Answer) → Answer
carried (Answers empties) was x = x
carried (Stop n) was x = was
carried GoesOn was x = was
carried GivesUp was x = was
carried (Cycles height) was x = was
carried (Pushes table) was x = was
carried Requeues was x = was
carried Flounders was x = was

-- what a decision about s leaves, so that the numbers beside it can be told
pub record Leaves (s : Strand) (was x : Answer) (d : Decision) : Type 0 where
  pub strand : Left d.deed s d.strand
  pub copy : d.copies ≡ true → d.copy ≡ with_selected s (next_of s.selected)
  pub answer : d.answer ≡ carried d.deed was x
