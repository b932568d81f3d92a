-- Two lists place by place.
use Rattle.std.specs.Prelude.{List, [], ◌∷◌}

module _ {A B : Type 0} where
  -- what stands at each place of the one, with what the other has there, as far as both go
  abbrev pub paired : List A → List B → List (A × B)
  paired [] ys = []
  paired (x ∷ xs) [] = []
  paired (x ∷ xs) (y ∷ ys) = (x, y) ∷ paired xs ys
