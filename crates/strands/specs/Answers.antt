-- What the functions on answers make and say.
use Rattle.std.specs.Prelude.{ℕ, Bool, false, ◌&&◌, List, eqb, length, replicate}
use Rattle.std.proofs.lemmas.List.Edits.{sets}
use Rattle.definitions.specs as said
use Rattle.definitions.specs.Lists.{same}
use Rattle.definitions.specs.Turn.{other_than}
use Rattle.strands.specs.declared.Answer.{Answer}
use Rattle.strands.specs.declared.Strand.{Strand}
use Rattle.strands.specs.View.{clause, answer}

abbrev pub blank_answer : Answer
blank_answer = record { variant = 0; ambiguous = false; delayed_count = 0; delayed = replicate 8 0 }

-- goals at the front of an array that is 0 behind them
abbrev pub goals_of : List ℕ → List ℕ
goals_of goals = sets (replicate 8 0) 0 goals

-- the answer that `pursue_answer` of the definitions makes of a strand, in the table of this goal; and the struct that says it
abbrev pub answer_from : Strand → (goal : ℕ) → said.Answer
answer_from s goal = record {
  variant = (clause s).subst.variant;
  delayed_subgoals = other_than goal (clause s).delayed_subgoals;
  ambiguous = (clause s).ambiguous;
}

abbrev pub answer_of : Strand → (goal : ℕ) → Answer
answer_of s goal =
    let others : List ℕ = other_than goal (clause s).delayed_subgoals in
    record { variant = s.variant; ambiguous = s.ambiguous; delayed_count = length others; delayed = goals_of others }

-- the test of `equal_answer` in the definitions, for the stored answer b
abbrev pub same_answer : Answer → Answer → Bool
same_answer a b = eqb (answer b).variant (answer a).variant && same (answer b).delayed_subgoals (answer a).delayed_subgoals
