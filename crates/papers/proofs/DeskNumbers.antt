-- The desk's numbers are all below 37: so 37 and 38 are the own ones of the check of a paper. And none is 0: so whoever is told 0
-- knows that the paper was taken.
use Prim.Native.Nat.{ℕ, ◌<◌}
use mathlib.Core.Path.{◌≡◌, refl, subst}
use mathlib.Core.Bool.{Bool, ◌&&◌}
use mathlib.Core.List.{List}
use lib.Dec.{ltb}
use borrow.Author.Tests.{ltb-true}
use Rattle.definitions.specs.Refusal.{Refusable, refused, accepted}
use Rattle.definitions.specs.Book.{Book}
use Rattle.definitions.specs.Desk.{desk}
use Rattle.definitions.proofs.Desk.{and_both}
use Rattle.definitions.proofs.ReadNumbers.{RefusedBy, desk_refused}

-- if it is refused, then by a number from 1 to 36
pub data Below : Refusable Book → Type 0 where
  by_number : {n : ℕ} → 0 < n → n < 37 → Below (refused n)
  taken : {book : Book} → Below (accepted book)

abbrev within : ℕ → Bool
within n = ltb 0 n && ltb n 37

below : (r : Refusable Book) → RefusedBy within r → Below r
below (refused n) h = let x = and_both (ltb 0 n) (ltb n 37) h in by_number (ltb-true 0 n x.0) (ltb-true n 37 x.1)
below (accepted book) h = taken

pub desk_below : (bytes : List ℕ) → Below (desk bytes)
desk_below bytes = below (desk bytes)
    (desk_refused within (refl, (refl, (refl, (refl, (refl, (refl, (refl, (refl, (refl, (refl, tt)))))))))) bytes)

pub desk_numbered : (bytes : List ℕ) (n : ℕ) → desk bytes ≡ refused n → 0 < n
desk_numbered bytes n e = on (subst Below e (desk_below bytes))
  where
    on : Below (refused n) → 0 < n
    on (by_number p h) = p
