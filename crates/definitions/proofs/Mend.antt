-- Reading is reading loosely, and then the test for 6. Assumes nothing.
use Prim.Native.Nat.{ℕ, zero, suc}
use native.Mathlib.Omega.{arith}
use mathlib.Core.Path.{◌≡◌, refl, sym, ap, ◌∙◌}
use mathlib.Core.Bool.{Bool, true, false, not}
use mathlib.Core.List.{List, [], ◌∷◌}
use lib.Dec.{eqb, ltb}
use lib.ListN.{length}
use borrow.Author.Tests.{le-ltb}
use Rattle.definitions.specs.Refusal.{Refusable, refused, accepted, ◌refuses◌, unless}
use Rattle.definitions.specs.Book.{Book, Command, goal, clause, positive, ranged, negative, end, unknown, command, width, is_end}
use Rattle.definitions.specs.Book.{goals_name, whole_command, end_command, read_from}
use Rattle.definitions.specs.Mend.{loose_end, loose_from}

abbrev pub named : Refusable Book → Refusable Book
named (refused n) = refused n
named (accepted book) = unless (not (goals_name (length book) book) refuses 6 ∷ []) book

abbrev onward : Bool → List ℕ → ℕ → Refusable Book → Refusable Book
onward ends bs skip r = elim r [
  | refused n ↦ refused n
  | accepted next ↦ elim ends [ true ↦ accepted next | false ↦ read_from bs skip next ]
]

end_tests : (p q r : Bool) (book : Book) → not (goals_name (length book) book) ≡ r
    → onward true [] 0 (unless (p refuses 7 ∷ q refuses 8 ∷ r refuses 6 ∷ []) book) ≡ named (unless (p refuses 7 ∷ q refuses 8 ∷ []) book)
end_tests true q r book e = refl
end_tests false true r book e = refl
end_tests false false true book e = ap (λ (b : Bool). unless (b refuses 6 ∷ []) book) (sym e)
end_tests false false false book e = ap (λ (b : Bool). unless (b refuses 6 ∷ []) book) (sym e)

pub read_named : (bs : List ℕ) (skip : ℕ) (book : Book) → read_from bs skip book ≡ named (loose_from bs skip book)
read_named [] skip book = refl
read_named (b ∷ bs) (suc skip) book = read_named bs skip book
read_named (b ∷ bs) zero book = on (command b) (read_named bs)
  where
    going : (m : Command) → is_end m ≡ false → ((skip : ℕ) (g : Book) → read_from bs skip g ≡ named (loose_from bs skip g))
        → (r : Refusable Book)
        → onward (is_end m) bs (width m) r
        ≡ named (elim (is_end m) [
          | true ↦ loose_end bs book
          | false ↦ elim r [ refused n ↦ refused n | accepted next ↦ loose_from bs (width m) next ]
        ])
    going m z ih (refused n) =
        sym (ap (λ (c : Bool). named (elim c [ true ↦ loose_end bs book | false ↦ refused n ])) z)
    going m z ih (accepted next) =
        ap (λ (c : Bool). elim c [ true ↦ accepted next | false ↦ read_from bs (width m) next ]) z ∙ ih (width m) next
        ∙ sym (ap (λ (c : Bool). named (elim c [ true ↦ loose_end bs book | false ↦ loose_from bs (width m) next ])) z)

    on : (m : Command) → ((skip : ℕ) (g : Book) → read_from bs skip g ≡ named (loose_from bs skip g))
        → onward (is_end m) bs (width m) (whole_command m bs book)
        ≡ named (elim (is_end m) [
          | true ↦ loose_end bs book
          | false ↦ elim (whole_command m bs book) [ refused n ↦ refused n | accepted next ↦ loose_from bs (width m) next ]
        ])
    on goal ih = going goal refl ih (whole_command goal bs book)
    on clause ih = going clause refl ih (whole_command clause bs book)
    on positive ih = going positive refl ih (whole_command positive bs book)
    on ranged ih = going ranged refl ih (whole_command ranged bs book)
    on negative ih = going negative refl ih (whole_command negative bs book)
    on unknown ih = going unknown refl ih (whole_command unknown bs book)
    on end ih =
        ap (λ (c : Bool). onward true bs 0 (elim c [ true ↦ refused 1 | false ↦ end_command bs book ])) (le-ltb (length bs) 0 (omega arith))
        ∙ same (end_command bs book)
        ∙ end_tests (ltb 0 (length bs)) (eqb (length book) 0) (not (goals_name (length book) book)) book refl
      where
        same : (r : Refusable Book) → onward true bs 0 r ≡ onward true [] 0 r
        same (refused n) = refl
        same (accepted next) = refl
