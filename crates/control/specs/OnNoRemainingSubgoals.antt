-- What a strand with no literal left is decided to do: x is the answer that it gives, `was` the stored one that is the same.
use Rattle.std.specs.Prelude.{ℕ, Bool, true, false, not, ◌&&◌, ◌≡◌, leb}
use Rattle.std.proofs.Math.Option.{none, some}
use Rattle.definitions.specs.Fitting.{is_trivial, is_outsized}
use Rattle.definitions.specs.Lists.{is_empty}
use Rattle.definitions.specs.Table.{Table, equal_answer}
use Rattle.strands.specs.declared.Answer.{Answer}
use Rattle.strands.specs.declared.Strand.{Strand}
use Rattle.strands.specs.View.{clause, answer}
use Rattle.control.specs.declared.decision.Deed.TheVariants.{Stop, GivesUp, Requeues, Flounders, Answers}
use Rattle.control.specs.declared.decision.Decision.{Decision}
use Rattle.control.specs.Decision.{decided}

abbrev pub outsized : Strand → Bool
outsized s = is_outsized (clause s).subst

-- whether the strand's answer empties the queue
abbrev pub empties : Strand → Bool
empties s = not s.ambiguous && is_trivial s.variant

abbrev pub answer_again_by : (ambiguous was_ambiguous : Bool) → Strand → Answer → Decision
answer_again_by true was_ambiguous s was = decided GivesUp false s s was
answer_again_by false true s was = decided (Stop 26) false s s was
answer_again_by false false s was = decided GivesUp false s s was

abbrev pub answer_again : Strand → Answer → Decision
answer_again s was = answer_again_by s.ambiguous was.ambiguous s was

abbrev pub answer_anew_by : (full : Bool) → Strand → (was x : Answer) → Decision
answer_anew_by true s was x = decided (Stop 23) false s s was
answer_anew_by false s was x = decided (Answers (empties s)) false s s x

abbrev pub answer_anew : Strand → (was x : Answer) → (held : ℕ) → Decision
answer_anew s was x held = answer_anew_by (leb 256 held) s was x

abbrev pub pursue_by : (none_left outsized is_new : Bool) → Strand → (was x : Answer) → (held : ℕ) → Decision
pursue_by false outsized is_new s was x held = decided (Stop 25) false s s was
pursue_by true true is_new s was x held = decided Flounders false s s was
pursue_by true false true s was x held = answer_anew s was x held
pursue_by true false false s was x held = answer_again s was

-- `pursue_answer`
abbrev pub pursue_answer : Strand → (was x : Answer) → (is_new : Bool) → (held : ℕ) → Decision
pursue_answer s was x is_new held = pursue_by (is_empty (clause s).subgoals) (outsized s) is_new s was x held

abbrev pub no_remaining_by : (puts_off : Bool) → Strand → (was x : Answer) → (is_new : Bool) → (held : ℕ) → Decision
no_remaining_by true s was x is_new held = decided Requeues false s s was
no_remaining_by false s was x is_new held = pursue_answer s was x is_new held

-- `on_no_remaining_subgoals`
abbrev pub no_remaining : Strand → (was x : Answer) → (is_new complete : Bool) → (held : ℕ) → Decision
no_remaining s was x is_new complete held = no_remaining_by (complete && s.ambiguous) s was x is_new held

-- what the table has stored of the answer x: nothing that is the same where x is new, and else `was`
abbrev pub Stored : (is_new : Bool) → (was x : Answer) → Table → Type 0
Stored true was x table = equal_answer (answer x) table.answers ≡ none
Stored false was x table = equal_answer (answer x) table.answers ≡ some (answer was)
