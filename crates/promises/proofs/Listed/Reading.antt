-- The numbers by which a book is refused, at making and at the desk.
use Prim.Native.Nat.{ℕ}
use mathlib.Core.Bool.{Bool, true, false, ◌||◌}
use mathlib.Core.List.{List, [], ◌∷◌}
use mathlib.Core.Logic.{inl, inr}
use mathlib.Core.Path.{◌≡◌, refl}
use lib.Dec.{eqb, leb}
use Rattle.definitions.specs.{MAX}
use Rattle.definitions.specs.Book.{Book, read}
use Rattle.definitions.specs.Desk.{desk, make_at_desk}
use Rattle.definitions.specs.Forest.{make_of, make}
use Rattle.definitions.specs.Refusal.{Refusable, refused, accepted, ◌refuses◌, unless}
use Rattle.definitions.proofs.ReadNumbers.{RefusedBy, read_refused, desk_refused}
use Rattle.promises.proofs.Listed.Walk.{is_one_of, one_of}
use Rattle.promises.specs.Total.{book_numbers, making_numbers, desk_numbers, MakingListed}

-- a book is refused by one of these numbers, and a forest by one number more
made : (numbers : List ℕ) (r : Refusable Book) (limit : ℕ) → RefusedBy (is_one_of numbers) r → MakingListed (13 ∷ numbers) (make_of r limit)
made numbers (refused n) limit h = inr (one_of numbers n h)
made numbers (accepted book) limit h = on (eqb limit 0 || leb MAX limit)
  where
    on : (fails : Bool) → MakingListed (13 ∷ numbers) (unless (fails refuses 13 ∷ [])
        (record { book = book; clock_limit = limit; mark = 0; tables = []; clock = 0 }))
    on true = inl refl
    on false = refl

pub make_listed : (bytes : List ℕ) (limit : ℕ) → MakingListed making_numbers (make bytes limit)
make_listed bytes limit = made book_numbers (read bytes) limit
    (read_refused (is_one_of book_numbers) (refl, (refl, (refl, (refl, (refl, (refl, (refl, (refl, (refl, tt))))))))) bytes)

pub desk_listed : (bytes : List ℕ) (limit : ℕ) → MakingListed desk_numbers (make_at_desk bytes limit)
desk_listed bytes limit = made (36 ∷ book_numbers) (desk bytes) limit
    (desk_refused (is_one_of (36 ∷ book_numbers)) (refl, (refl, (refl, (refl, (refl, (refl, (refl, (refl, (refl, (refl, tt)))))))))) bytes)
