-- Where a paper is not plain, as the programs say it behind the sentence of 37: a line such as `goal 3, clause 0, literal 1: a want`.
use Rattle.std.specs.Prelude.{ℕ, List, [], ◌++◌}
use Rattle.std.proofs.Math.Option.{Option, none, some}
use Rattle.definitions.specs.Text.{ascii, decimal}
use Rattle.papers.specs.NotPlain.{Fault, a_flag, a_variant, a_want, a_range, Place, in_goal, in_clause, in_literal}

abbrev pub fault_words : Option Fault → List ℕ
fault_words none = []
fault_words (some a_flag) = ascii ": a flag\n"
fault_words (some a_variant) = ascii ": a variant\n"
fault_words (some a_want) = ascii ": a want\n"
fault_words (some a_range) = ascii ": a range\n"

abbrev pub literal_words : (literal : ℕ) → Fault → List ℕ
literal_words j fault = (ascii ", literal " ++ decimal j) ++ fault_words (some fault)

abbrev pub clause_words : (clause : ℕ) → (behind : List ℕ) → List ℕ
clause_words k behind = (ascii ", clause " ++ decimal k) ++ behind

abbrev pub goal_words : (goal : ℕ) → (behind : List ℕ) → List ℕ
goal_words g behind = (ascii "goal " ++ decimal g) ++ behind

-- of no place nothing is said
abbrev pub place_line : Option Place → List ℕ
place_line none = []
place_line (some (in_goal g fault)) = goal_words g (fault_words (some fault))
place_line (some (in_clause g k fault)) = goal_words g (clause_words k (fault_words (some fault)))
place_line (some (in_literal g k j fault)) = goal_words g (clause_words k (literal_words j fault))
