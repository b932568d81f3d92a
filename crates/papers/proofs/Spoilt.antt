-- As many goals as the book has are told spoilt or not, after any number of passes.
use Prim.Native.Nat.{ℕ, zero, suc}
use mathlib.Core.Path.{◌≡◌, refl, ap}
use mathlib.Core.Option.{Option}
use mathlib.Core.List.{List, [], ◌∷◌}
use lib.ListN.{length}
use Rattle.definitions.specs.Book.{Goal, Book}
use Rattle.papers.specs.Spoilt.{by_themselves, pass_from, spoilers_after}

length_themselves : (g : ℕ) (hs : List Goal) → length (by_themselves g hs) ≡ length hs
length_themselves g [] = refl
length_themselves g (h ∷ hs) = ap suc (length_themselves (suc g) hs)

length_passed : (ss : List (Option ℕ)) (g : ℕ) (hs : List Goal) → length (pass_from ss g hs) ≡ length hs
length_passed ss g [] = refl
length_passed ss g (h ∷ hs) = ap suc (length_passed ss (suc g) hs)

pub length_after : (n : ℕ) (book : Book) → length (spoilers_after n book) ≡ length book
length_after zero book = length_themselves 0 book
length_after (suc n) book = length_passed (spoilers_after n book) 0 book
