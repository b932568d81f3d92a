-- What holds of each one of a list.
use Rattle.std.specs.Prelude.{List, [], ◌∷◌}

-- P holds of each one
pub data All {A : Type 0} (P : A → Type 0) : List A → Type 0 where
  end : All P []
  more : {a : A} {l : List A} → P a → All P l → All P (a ∷ l)
