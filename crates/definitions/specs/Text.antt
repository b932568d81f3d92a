-- Text as bytes: words, numbers in decimal, and both in a column of some width.
use Rattle.std.specs.Prelude.{ℕ, zero, suc, ◌+◌, ◌-◌, ◌/◌, ◌%◌, List, [], ◌∷◌, ◌++◌, length, replicate}
use Prim.Native.Char.{code}
use Prim.Native.String.{String}
use Prim.Native.String as S

-- the codes of a text's characters: its bytes, where it is ASCII
abbrev pub ascii : String → List ℕ
ascii S.[] = []
ascii (S.◌∷◌ c s) = code c ∷ ascii s

-- the decimal digits of n, before those of `after`. The first number bounds them: a tenth of a number is below it.
abbrev pub digits : ℕ → ℕ → List ℕ → List ℕ
digits zero n after = after
digits (suc more) n after = elim (n / 10) [
  | zero ↦ (48 + n % 10) ∷ after
  | suc tens ↦ digits more (suc tens) ((48 + n % 10) ∷ after)
]

abbrev pub decimal : ℕ → List ℕ
decimal n = digits (suc n) n []

pub data Side : Type 0 where
  at_left : Side
  at_right : Side

abbrev pub blanks : ℕ → List ℕ
blanks n = replicate n 32

abbrev pub in_column : Side → (width : ℕ) → List ℕ → List ℕ
in_column at_left width bs = bs ++ blanks (width - length bs)
in_column at_right width bs = blanks (width - length bs) ++ bs
