-- What is said of the goals of a paper, one after the other: the words of each, with what is known of it.
use Rattle.std.specs.Prelude.{ℕ, suc, List, [], ◌∷◌, ◌++◌}

-- from the goal g on
module _ {A : Type 0} where
  unfoldable pub words_from : ((goal : ℕ) → A → List ℕ) → ℕ → List A → List ℕ
  words_from words g [] = []
  words_from words g (a ∷ l) = words g a ++ words_from words (suc g) l
