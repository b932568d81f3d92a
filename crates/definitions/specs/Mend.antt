-- Reading without the test for 6, which is `read`'s last.
use Rattle.std.specs.Prelude.{ℕ, zero, suc, true, false, List, [], ◌∷◌, length, ltb, eqb}
use Rattle.definitions.specs.Refusal.{Refusable, refused, accepted, ◌refuses◌, unless}
use Rattle.definitions.specs.Book.{Book, command, width, whole_command, is_end}

abbrev pub loose_end : (after : List ℕ) → Book → Refusable Book
loose_end after book =
    unless
    (ltb 0 (length after) refuses 7
    ∷ eqb (length book) 0 refuses 8
    ∷ [])
    book

abbrev pub loose_from : List ℕ → (skip : ℕ) → Book → Refusable Book
loose_from [] skip book = refused 1
loose_from (b ∷ bs) (suc skip) book = loose_from bs skip book
loose_from (b ∷ bs) zero book = elim (is_end (command b)) [
  | true ↦ loose_end bs book
  | false ↦ elim (whole_command (command b) bs book) [
    | refused n ↦ refused n
    | accepted next ↦ loose_from bs (width (command b)) next
  ]
]

abbrev pub read_loosely : List ℕ → Refusable Book
read_loosely bytes = loose_from bytes 0 []
