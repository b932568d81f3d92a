-- By which numbers bytes are refused: those of `loose_numbers` where they are read loosely, by 6 besides where they are read, and at the
-- desk by 36 too. It is stated of any test that these numbers pass, so that a bound or a list of numbers is had by computation. Assumes
-- nothing.
use Prim.Native.Nat.{ℕ, zero, suc}
use mathlib.Core.Path.{◌≡◌, refl, sym, subst}
use mathlib.Core.Bool.{Bool, true, false, not, true≢false}
use mathlib.Core.List.{List, [], ◌∷◌}
use lib.ListN.{length}
use lib.Dec.{eqb, ltb, leb}
use Rattle.definitions.specs.Lists.{Each}
use Rattle.definitions.specs.Refusal.{Refusable, refused, accepted, Test, ◌refuses◌, unless}
use Rattle.definitions.specs.Book.{Command, goal, clause, positive, ranged, negative, end, unknown, command, width, is_end}
use Rattle.definitions.specs.Book.{between, Literal, Positive, Negative, Book, clause_count, goals_name, crossed, want_of}
use Rattle.sizes.specs.Limits.{most_goals, most_clauses, most_literals}
use Rattle.definitions.specs.Book.{byte, u16, bit0, literals_so_far, add_literal}
use Rattle.definitions.specs.Book.{literal_command, apply_command, whole_command, read}
use Rattle.definitions.specs.Mend.{loose_end, loose_from, read_loosely}
use Rattle.definitions.specs.Desk.{repeats, at_desk, desk}
use Rattle.definitions.proofs.Mend.{named, read_named}

abbrev pub loose_numbers : List ℕ
loose_numbers = 1 ∷ 2 ∷ 3 ∷ 4 ∷ 5 ∷ 7 ∷ 8 ∷ 32 ∷ []

module _ (test : ℕ → Bool) where
  abbrev Pass : List ℕ → Type 0
  Pass numbers = Each (λ n. test n ≡ true) numbers

  -- if it is refused, then by a number that passes
  abbrev pub RefusedBy : Refusable Book → Type 0
  RefusedBy (refused n) = test n ≡ true
  RefusedBy (accepted book) = Unit {0}

  by_test : (fails : Bool) (n : ℕ) (rest : Refusable Book) → test n ≡ true → RefusedBy rest
      → RefusedBy (elim fails [ true ↦ refused n | false ↦ rest ])
  by_test true n rest h r = h
  by_test false n rest h r = r

  by_tests : (ts : List Test) (book : Book) → Each (λ t. test t.number ≡ true) ts → RefusedBy (unless ts book)
  by_tests [] book h = tt
  by_tests (t ∷ ts) book h = by_test t.fails t.number (unless ts book) h.0 (by_tests ts book h.1)

  goes_on : (r : Refusable Book) (then : Book → Refusable Book) → RefusedBy r → ((next : Book) → RefusedBy (then next))
      → RefusedBy (elim r [ refused n ↦ refused n | accepted next ↦ then next ])
  goes_on (refused n) then h f = h
  goes_on (accepted next) then h f = f next

  module _ (pass : Pass loose_numbers) where
    -- the numbers in their order
    by_1 : test 1 ≡ true
    by_1 = pass.0

    by_2 : test 2 ≡ true
    by_2 = pass.1.0

    by_3 : test 3 ≡ true
    by_3 = pass.1.1.0

    by_4 : test 4 ≡ true
    by_4 = pass.1.1.1.0

    by_5 : test 5 ≡ true
    by_5 = pass.1.1.1.1.0

    by_7 : test 7 ≡ true
    by_7 = pass.1.1.1.1.1.0

    by_8 : test 8 ≡ true
    by_8 = pass.1.1.1.1.1.1.0

    by_32 : test 32 ≡ true
    by_32 = pass.1.1.1.1.1.1.1.0

    literal_refused : (l : Literal) (flags : ℕ) (book : Book) → RefusedBy (literal_command l flags book)
    literal_refused l flags book =
        by_tests
        (eqb (clause_count book) 0 refuses 3
        ∷ ltb 1 flags refuses 4
        ∷ crossed l refuses 32
        ∷ leb most_literals (literals_so_far book) refuses 5
        ∷ [])
        (add_literal l book) (by_3, (by_4, (by_32, (by_5, tt))))

    apply_refused : (c : Command) (after : List ℕ) (book : Book) → is_end c ≡ false → RefusedBy (apply_command c after book)
    apply_refused goal after book z =
        by_tests (ltb 3 (byte after 0) refuses 4 ∷ leb most_goals (length book) refuses 5 ∷ []) _ (by_4, (by_5, tt))
    apply_refused clause after book z =
        by_tests (eqb (length book) 0 refuses 3 ∷ ltb 3 (byte after 2) refuses 4 ∷ leb most_clauses (clause_count book) refuses 5 ∷ [])
        _ (by_3, (by_4, (by_5, tt)))
    apply_refused positive after book z =
        literal_refused (Positive (u16 after 0) (want_of (u16 after 2)) (bit0 (byte after 4))) (byte after 4) book
    apply_refused ranged after book z =
        literal_refused (Positive (u16 after 0) (between (u16 after 2) (u16 after 4)) (bit0 (byte after 6))) (byte after 6) book
    apply_refused negative after book z = literal_refused (Negative (u16 after 0) (bit0 (byte after 2))) (byte after 2) book
    apply_refused end after book z = absurd (true≢false z)
    apply_refused unknown after book z = by_2

    end_refused : (after : List ℕ) (book : Book) → RefusedBy (loose_end after book)
    end_refused after book = by_tests (ltb 0 (length after) refuses 7 ∷ eqb (length book) 0 refuses 8 ∷ []) book (by_7, (by_8, tt))

    read_on : (bytes : List ℕ) (skip : ℕ) (book : Book) → RefusedBy (loose_from bytes skip book)
    read_on [] skip book = by_1
    read_on (b ∷ bs) (suc skip) book = read_on bs skip book
    read_on (b ∷ bs) zero book = on (is_end (command b)) refl (read_on bs (width (command b)))
      where
        on : (ends : Bool) → is_end (command b) ≡ ends → ((next : Book) → RefusedBy (loose_from bs (width (command b)) next))
            → RefusedBy (elim ends [
              | true ↦ loose_end bs book
              | false ↦ elim (whole_command (command b) bs book) [
                | refused n ↦ refused n
                | accepted next ↦ loose_from bs (width (command b)) next
              ]
            ])
        on true z ih = end_refused bs book
        on false z ih =
            goes_on (whole_command (command b) bs book) (loose_from bs (width (command b)))
            (by_test (ltb (length bs) (width (command b))) 1 (apply_command (command b) bs book) by_1
            (apply_refused (command b) bs book z))
            ih

    pub loosely_refused : (bytes : List ℕ) → RefusedBy (read_loosely bytes)
    loosely_refused bytes = read_on bytes 0 []

  pub read_refused : Pass (6 ∷ loose_numbers) → (bytes : List ℕ) → RefusedBy (read bytes)
  read_refused pass bytes = subst RefusedBy (sym (read_named bytes 0 [])) (on (read_loosely bytes) (loosely_refused pass.1 bytes))
    where
      on : (r : Refusable Book) → RefusedBy r → RefusedBy (named r)
      on (refused n) h = h
      on (accepted book) h = by_tests (not (goals_name (length book) book) refuses 6 ∷ []) book (pass.0, tt)

  pub desk_refused : Pass (36 ∷ 6 ∷ loose_numbers) → (bytes : List ℕ) → RefusedBy (desk bytes)
  desk_refused pass bytes = on (read bytes) (read_refused pass.1 bytes)
    where
      on : (r : Refusable Book) → RefusedBy r → RefusedBy (at_desk r)
      on (refused n) h = h
      on (accepted book) h = by_tests (repeats book refuses 36 ∷ []) book (pass.0, tt)
