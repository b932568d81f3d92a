-- The refusals of a paper by their numbers.
use Rattle.std.specs.Prelude.{ℕ, Result, Ok, Err}
use Rattle.book.specs.declared.refusal.Refusal.{Refusal}
use Rattle.book.specs.declared.refusal.Refusal.TheVariants as why

abbrev pub number : Refusal → ℕ
number why.PartMissing = 1
number why.UnknownCommand = 2
number why.OutOfPlace = 3
number why.UnknownFlag = 4
number why.TooMany = 5
number why.NoSuchGoal = 6
number why.BehindEnd = 7
number why.NoGoal = 8
number why.CrossedRange = 32
number why.RepeatedClause = 36
number why.NotPlain = 37
number why.NotLevelled = 38
number why.NotText = 39

-- the number of a refusal, and 0 where there is none
module _ {A : Type 0} where
  abbrev pub fault_number : Result A Refusal → ℕ
  fault_number (Ok a) = 0
  fault_number (Err e) = number e
