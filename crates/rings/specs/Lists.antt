-- Lists and tests: where the first that passes a test stands, and how often a number stands in a list.
use Rattle.std.specs.Prelude.{ℕ, suc, ◌+◌, Bool, true, false, List, [], ◌∷◌, ◌++◌, ◌≡◌, length, take, drop, eqb}

abbrev pub stop : Bool → ℕ → ℕ
stop true n = 0
stop false n = suc n

module _ {A : Type 0} where
  -- how many stand before the first that passes the test; all of them where none does
  abbrev pub first_index : (A → Bool) → List A → ℕ
  first_index f [] = 0
  first_index f (x ∷ l) = stop (f x) (first_index f l)

abbrev pub one : Bool → ℕ
one true = 1
one false = 0

-- how often x stands in the list: distinct is "at most once", absent is "0 times"
abbrev pub times : ℕ → List ℕ → ℕ
times x [] = 0
times x (y ∷ l) = one (eqb x y) + times x l

-- a queue without the one at j: those behind it, and then those before it
module _ {A : Type 0} where
  abbrev pub turned : ℕ → List A → List A
  turned j l = drop (suc j) l ++ take j l

abbrev pub grown : Bool → ℕ → ℕ
grown true n = n + 1
grown false n = n

-- the length of an array: a lent `[u8; 256]` does not tell it
abbrev pub Full : List ℕ → Type 0
Full l = length l ≡ 256
