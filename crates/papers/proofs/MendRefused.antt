-- A paper that isn't mended is refused by the desk's number, which is neither 6 nor 36; every other number of the desk is kept; and the
-- first 20,480 bytes settle all of it.
use Prim.Native.Nat.{ℕ, zero, suc, ◌+◌, ◌≤◌, ◌<◌}
use native.Mathlib.Omega.{arith}
use native.Mathlib.Decide.{dec_le}
use mathlib.Core.Path.{◌≡◌, refl, sym, ap, subst, ◌∙◌}
use mathlib.Core.Bool.{Bool, true, false, not, ◌&&◌, true≢false}
use mathlib.Core.List.{List, [], ◌∷◌}
use lib.ListN.{length, take}
use lib.Seq.{take_all}
use lib.Dec.{eqb, ltb}
use borrow.Author.Tests.{ltb-false}
use Rattle.definitions.specs.Refusal.{Refusable, refused, accepted, ◌refuses◌, unless}
use Rattle.sizes.specs.Limits.{read_ahead}
use Rattle.definitions.specs.Book.{Book, command, width, is_end, goals_name}
use Rattle.definitions.specs.Book.{whole_command, read}
use Rattle.definitions.specs.Mend.{loose_end, loose_from, read_loosely}
use Rattle.definitions.specs.Desk.{repeats, at_desk, desk}
use Rattle.definitions.proofs.Refusal.{not_accepted, same_accepted, same_refused, all_pass}
use Rattle.definitions.proofs.Book.{applied}
use Rattle.definitions.proofs.Mend.{named, read_named}
use Rattle.definitions.proofs.Prefix.{room, taken}
use Rattle.definitions.proofs.ReadNumbers.{RefusedBy, loosely_refused}
use Rattle.definitions.proofs.Desk.{desk_take, desk_unread}
use Rattle.papers.specs.Mend.{mended_book, Mended, mended_from, mend}
use Rattle.papers.proofs.Mend.{mended_accepted}

-- Loose reading has no 6 and no 36.

abbrev other : ℕ → Bool
other n = not (eqb n 6) && not (eqb n 36)

other_than : (n m : ℕ) → other m ≡ false → other n ≡ true → n ≡ m → ⊥
other_than n m is_not passes e = true≢false (sym passes ∙ ap other e ∙ is_not)

loose_other : (bytes : List ℕ) → RefusedBy other (read_loosely bytes)
loose_other bytes = loosely_refused other (refl, (refl, (refl, (refl, (refl, (refl, (refl, (refl, tt)))))))) bytes

-- THE THEOREMS.

-- a paper that isn't mended is refused by the desk's number, and that is neither 6 nor 36
pub mend_refused : (bytes : List ℕ) (n : ℕ) → mend bytes ≡ refused n → (desk bytes ≡ refused n) × (n ≡ 6 → ⊥) × (n ≡ 36 → ⊥)
mend_refused bytes n e = on (read_loosely bytes) refl (loose_other bytes) e
  where
    on : (r : Refusable Book) → read_loosely bytes ≡ r → RefusedBy other r → mended_from bytes r ≡ refused n
        → (desk bytes ≡ refused n) × (n ≡ 6 → ⊥) × (n ≡ 36 → ⊥)
    on (refused m) k o f =
        let s : m ≡ n = same_refused f in
        (desk_unread bytes n (read_named bytes 0 [] ∙ ap named k ∙ ap refused s), λ z. other_than m 6 refl o (s ∙ z), λ z. other_than m 36 refl o (s ∙ z))
    on (accepted book) k o f = absurd (not_accepted (sym f))

-- a paper that the desk refuses by another number than these two is refused by it
pub refused_mend : (bytes : List ℕ) (n : ℕ) → desk bytes ≡ refused n → (n ≡ 6 → ⊥) → (n ≡ 36 → ⊥) → mend bytes ≡ refused n
refused_mend bytes n e not_6 not-36 =
    ap (mended_from bytes) (loosely (read_loosely bytes) (sym (read_named bytes 0 []) ∙ at (read bytes) e))
  where
    by_one : (b : Bool) (m : ℕ) (book : Book) → unless (b refuses m ∷ []) book ≡ refused n → n ≡ m
    by_one true m book f = sym (same_refused f)
    by_one false m book f = absurd (not_accepted (sym f))

    at : (r : Refusable Book) → at_desk r ≡ refused n → r ≡ refused n
    at (refused m) f = f
    at (accepted book) f = absurd (not-36 (by_one (repeats book) 36 book f))

    loosely : (r : Refusable Book) → named r ≡ refused n → r ≡ refused n
    loosely (refused m) f = f
    loosely (accepted book) f = absurd (not_6 (by_one (not (goals_name (length book) book)) 6 book f))

-- what is mended is accepted by the desk, as the book without the clauses that go
pub mend_accepted : (bytes : List ℕ) (m : Mended) → mend bytes ≡ accepted m → (book : Book) → read_loosely bytes ≡ accepted book
    → desk m.bytes ≡ accepted (mended_book book)
mend_accepted bytes m e book k =
    subst (λ (x : Mended). desk x.bytes ≡ accepted (mended_book book)) (same_accepted (sym (ap (mended_from bytes) k) ∙ e))
    (mended_accepted bytes book k)

-- The first 20,480 bytes settle it.

-- what is read loosely is no longer than the room of a book, and the end command
pub loose_short : (bytes : List ℕ) (skip : ℕ) (book final : Book) → loose_from bytes skip book ≡ accepted final
    → length bytes ≤ room book + skip + 1
loose_short [] skip book final e = absurd (not_accepted e)
loose_short (b ∷ bs) (suc skip) book final e = omega (arith, loose_short bs skip book final e)
loose_short (b ∷ bs) zero book final e = on (is_end (command b)) refl (loose_short bs (width (command b))) e
  where
    given : (r : Refusable Book) → whole_command (command b) bs book ≡ r → is_end (command b) ≡ false
        → ((next f : Book) → loose_from bs (width (command b)) next ≡ accepted f → length bs ≤ room next + width (command b) + 1)
        → elim r [ refused n ↦ refused n | accepted next ↦ loose_from bs (width (command b)) next ] ≡ accepted final
        → length (b ∷ bs) ≤ room book + 0 + 1
    given (refused n) k z ih f = absurd (not_accepted f)
    given (accepted next) k z ih f =
        omega (arith, ih next final f, taken (command b) bs book next z (applied (command b) bs book next k))

    on : (ends : Bool) → is_end (command b) ≡ ends
        → ((next f : Book) → loose_from bs (width (command b)) next ≡ accepted f → length bs ≤ room next + width (command b) + 1)
        → elim ends [
          | true ↦ loose_end bs book
          | false ↦ elim (whole_command (command b) bs book) [
            | refused n ↦ refused n
            | accepted next ↦ loose_from bs (width (command b)) next
          ]
        ] ≡ accepted final → length (b ∷ bs) ≤ room book + 0 + 1
    on true z ih f =
        let a = all_pass (ltb 0 (length bs) refuses 7 ∷ eqb (length book) 0 refuses 8 ∷ []) book final f in
        omega (arith, ltb-false 0 (length bs) a.0.0)
    on false z ih f = given (whole_command (command b) bs book) refl z ih f

pub mend_take : (bytes : List ℕ) → mend (take read_ahead bytes) ≡ mend bytes
mend_take bytes = by_length (dec_le (length bytes) read_ahead)
  where
    long : read_ahead < length bytes → (r : Refusable Mended) → mend bytes ≡ r → mend (take read_ahead bytes) ≡ r
    long h (refused n) k =
        let m = mend_refused bytes n k in
        refused_mend (take read_ahead bytes) n (desk_take bytes ∙ m.0) m.1 m.2
    long h (accepted m) k = absurd (too_long (read_loosely bytes) refl k)
      where
        too_long : (r : Refusable Book) → read_loosely bytes ≡ r → mended_from bytes r ≡ accepted m → ⊥
        too_long (refused n) l f = not_accepted f
        too_long (accepted book) l f = omega (arith, loose_short bytes 0 [] book l)

    by_length : Dec (length bytes ≤ read_ahead) → mend (take read_ahead bytes) ≡ mend bytes
    by_length (yes h) = ap mend (take_all read_ahead bytes h)
    by_length (no h) = long (omega arith) (mend bytes) refl
