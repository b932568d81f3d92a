-- lib.rs: the types that the other files share. A time stamp and a table index are numbers, a delayed goal is its number alone.
-- Constraints and environments are empty on books and left out.
use Rattle.std.specs.Prelude.{ℕ, min, Bool, true, false, List}
use Rattle.definitions.specs.Book.{Literal}
use Rattle.definitions.specs.Fitting.{Subst}
pub mod Refusal
pub mod Book
pub mod Mend
pub mod Fitting
pub mod Stop
pub mod Lists
pub mod Strand
pub mod Table
pub mod Tables
pub mod Stack
pub mod Slg
pub mod Logic
pub mod Turn
pub mod Forest
pub mod Desk
pub mod Calls
pub mod Text

abbrev pub TableIndex : Type 0
TableIndex = ℕ

abbrev pub TimeStamp : Type 0
TimeStamp = ℕ

-- `TimeStamp::MAX`: 2 ^ 64 - 1
abbrev pub MAX : TimeStamp
MAX = 18446744073709551615

-- `FlounderedSubgoal`
pub record FlounderedSubgoal : Type 0 where
  pub floundered_literal : Literal
  pub floundered_time : TimeStamp

-- `ExClause`: a clause being worked on. `ambiguous` begins as the clause's "cannot prove".
pub record ExClause : Type 0 where
  pub subst : Subst
  pub ambiguous : Bool
  pub subgoals : List Literal
  pub delayed_subgoals : List ℕ
  pub answer_time : TimeStamp
  pub floundered_subgoals : List FlounderedSubgoal

-- `Answer`: its `subst` is a variant and the delayed goals
pub record Answer : Type 0 where
  pub variant : ℕ
  pub delayed_subgoals : List ℕ
  pub ambiguous : Bool

-- `CompleteAnswer`
pub record CompleteAnswer : Type 0 where
  pub variant : ℕ
  pub ambiguous : Bool

-- `Minimums`
pub record Minimums : Type 0 where
  pub positive : TimeStamp
  pub negative : TimeStamp

-- `Minimums::MAX`
abbrev pub minimums_MAX : Minimums
minimums_MAX = record { positive = MAX; negative = MAX }

-- `Minimums::take_minimums`
abbrev pub take_minimums : Minimums → Minimums → Minimums
take_minimums m other = record { positive = min m.positive other.positive; negative = min m.negative other.negative }

-- `Minimums::minimum_of_pos_and_neg`
abbrev pub minimum_of_pos_and_neg : Minimums → TimeStamp
minimum_of_pos_and_neg m = min m.positive m.negative

-- `AnswerMode`
pub data AnswerMode : Type 0 where
  Complete : AnswerMode
  Ambiguous : AnswerMode

abbrev pub is_complete : AnswerMode → Bool
is_complete Complete = true
is_complete Ambiguous = false
