-- A list of what a function gives at places side by side.
use Rattle.std.specs.Prelude.{ℕ, zero, suc, List, [], ◌∷◌}

module _ {A : Type 0} where
  -- f at n places from s on
  abbrev pub span : (ℕ → A) → (s n : ℕ) → List A
  span f s zero = []
  span f s (suc n) = f s ∷ span f (suc s) n
