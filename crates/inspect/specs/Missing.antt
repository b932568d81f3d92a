-- What `inspect` prints of a paper that is refused with 6: the book as it is read without that test, and a line for each literal that names
-- no goal of it.
use Rattle.std.specs.Prelude.{ℕ, suc, Bool, true, false, List, [], ◌∷◌, ◌++◌, length, eqb, ltb}
use Rattle.definitions.specs.Text.{ascii, decimal}
use Rattle.definitions.specs.Refusal.{Refusable, refused, accepted}
use Rattle.definitions.specs.Book.{Literal, goal_of, Clause, Goal, Book, read}
use Rattle.definitions.specs.Mend.{read_loosely}
use Rattle.inspect.specs.Words.{goals_words, reading_words}

-- the words of each member of a list, with its number from i on
module _ {A : Type 0} where
  unfoldable pub numbered_words : (ℕ → A → List ℕ) → (i : ℕ) → List A → List ℕ
  numbered_words words i [] = []
  numbered_words words i (a ∷ l) = words i a ++ numbered_words words (suc i) l

-- of a literal that names a goal which is there nothing is said
unfoldable pub missing_by : (there : Bool) → (goal clause literal named : ℕ) → List ℕ
missing_by true g k j named = []
missing_by false g k j named =
    (ascii "goal " ++ decimal g)
    ++ ((ascii ", clause " ++ decimal k)
    ++ ((ascii ", literal " ++ decimal j)
    ++ ((ascii ": no goal " ++ decimal named)
    ++ ascii "\n")))

abbrev pub missing_literal : (goals goal clause literal : ℕ) → Literal → List ℕ
missing_literal goals g k j l = missing_by (ltb (goal_of l) goals) g k j (goal_of l)

abbrev pub missing_clause : (goals goal clause : ℕ) → Clause → List ℕ
missing_clause goals g k c = numbered_words (missing_literal goals g k) 0 c.literals

abbrev pub missing_goal : (goals goal : ℕ) → Goal → List ℕ
missing_goal goals g h = numbered_words (missing_clause goals g) 0 h.clauses

abbrev pub missing_from : (goals : ℕ) → Book → List ℕ
missing_from goals book = numbered_words (missing_goal goals) 0 book

-- a book that was read without the test for 6
abbrev pub loose_words : Refusable Book → List ℕ
loose_words (refused n) = []
loose_words (accepted book) = goals_words 0 book ++ missing_from (length book) book

-- behind a refusal by 6 alone
abbrev pub behind_6 : (of_6 : Bool) → Refusable Book → List ℕ
behind_6 true loose = loose_words loose
behind_6 false loose = []

unfoldable pub behind_by : ℕ → Refusable Book → List ℕ
behind_by n loose = behind_6 (eqb n 6) loose

-- behind what reading gave
abbrev pub behind_words : Refusable Book → Refusable Book → List ℕ
behind_words (refused n) loose = behind_by n loose
behind_words (accepted book) loose = []

-- THE WORDS of a byte string
abbrev pub paper_words : (bytes : List ℕ) → List ℕ
paper_words bytes = reading_words (read bytes) ++ behind_words (read bytes) (read_loosely bytes)
