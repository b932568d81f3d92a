-- The pages of change request 3: where every text fits its column a line has 26 bytes and a newline, and what is printed is whole pages of
-- 60 lines, none of them empty.
use Prim.Native.Nat.{ℕ, zero, suc, ◌+◌, ◌-◌, ◌*◌, ◌≤◌, ◌<◌}
use native.Mathlib.Omega.{arith}
use mathlib.Core.Path.{◌≡◌, refl}
use mathlib.Core.Bool.{Bool, true, false, ◌&&◌}
use mathlib.Core.List.{List, [], ◌∷◌, ◌++◌}
use lib.ListN.{length, length-append, length-replicate}
use lib.Dec.{ltb, leb}
use borrow.Author.Tests.{ltb-true, leb-true}
use Rattle.definitions.specs.Text.{ascii, decimal, Side, at_left, at_right, blanks, in_column}
use Rattle.definitions.specs.Logic.{NoMoreSolutions, Floundered, QuantumExceeded, NegativeCycle, InvalidAnswer}
use Rattle.definitions.specs.Turn.{Ending, found, fail, cut, stopped}
use Rattle.definitions.specs.Lists.{Each}
use Rattle.papers.specs.Levels.{each_passes}
use Rattle.papers.specs.Listing.{Line, word, number, Column, columns}
use Rattle.papers.specs.Listing.{across, width_of, page_line, blank_line, blank_lines, page_lines, lines_left, pages}
use Rattle.papers.specs.Pages.{FitsColumns, page_count}
use Rattle.definitions.proofs.Desk.{and_both}

in_column_long : (s : Side) (w : ℕ) (bs : List ℕ) → length bs ≤ w → length (in_column s w bs) ≡ w
in_column_long at_left w bs h = omega (arith, length-append bs (blanks (w - length bs)), length-replicate {A = ℕ} (w - length bs) 32)
in_column_long at_right w bs h = omega (arith, length-append (blanks (w - length bs)) bs, length-replicate {A = ℕ} (w - length bs) 32)

across_long : (cs : List Column) (l : Line) → FitsColumns cs l → length (across cs l) ≡ width_of cs
across_long [] l f = refl
across_long (c ∷ []) l f = in_column_long c.side c.width (c.shows l) f.0
across_long (c ∷ d ∷ cs) l f = omega (
  arith,
  length-append (in_column c.side c.width (c.shows l) ++ ascii " ") (across (d ∷ cs) l),
  length-append (in_column c.side c.width (c.shows l)) (ascii " "),
  in_column_long c.side c.width (c.shows l) f.0,
  across_long (d ∷ cs) l f.1,
)

-- every word has a letter, fits its column and has no blank within
abbrev pub is_word : List ℕ → Bool
is_word bs = ltb 0 (length bs) && (leb (length bs) 10 && each_passes (λ b. ltb 32 b) bs)

pub word_is : (e : Ending) (skipped : Bool) → is_word (word e skipped) ≡ true
word_is (found a) skipped = on a.ambiguous
  where
    on : (b : Bool) → is_word (elim b [ true ↦ ascii "maybe" | false ↦ ascii "yes" ]) ≡ true
    on true = refl
    on false = refl
word_is (fail NoMoreSolutions) true = refl
word_is (fail NoMoreSolutions) false = refl
word_is (fail Floundered) skipped = refl
word_is (fail QuantumExceeded) skipped = refl
word_is (fail NegativeCycle) skipped = refl
word_is (fail InvalidAnswer) skipped = refl
word_is cut skipped = refl
word_is (stopped n) skipped = refl

-- what the test finds
pub word_found : (bs : List ℕ) → is_word bs ≡ true
    → (0 < length bs) × (length bs ≤ 10) × (each_passes (λ b. ltb 32 b) bs ≡ true)
word_found bs e =
    let x = and_both (ltb 0 (length bs)) (leb (length bs) 10 && each_passes (λ b. ltb 32 b) bs) e in
    let y = and_both (leb (length bs) 10) (each_passes (λ b. ltb 32 b) bs) x.1 in
    (ltb-true 0 (length bs) x.0, leb-true (length bs) 10 y.0, y.1)

-- so a line fits where its numbers do
pub fits_columns : (l : Line) → length (decimal l.goal) ≤ 3 → length (decimal l.index) ≤ 5 → length (number l.ending) ≤ 5
    → FitsColumns columns l
fits_columns l goal index number =
    let x = (word_found (word l.ending l.skipped) (word_is l.ending l.skipped)).1 in
    (omega arith, (omega arith, (omega arith, (omega arith, tt))))

pub page_line_long : (l : Line) → FitsColumns columns l → length (page_line l) ≡ 27
page_line_long l f = omega (arith, length-append (across columns l) (ascii "\n"), across_long columns l f)

page_lines_long : (ls : List Line) → Each (FitsColumns columns) ls → length (page_lines ls) ≡ 27 * length ls
page_lines_long [] f = refl
page_lines_long (l ∷ ls) f =
    omega (arith, length-append (page_line l) (page_lines ls), page_line_long l f.0, page_lines_long ls f.1)

blank_lines_long : (n : ℕ) → length (blank_lines n) ≡ 27 * n
blank_lines_long zero = refl
blank_lines_long (suc n) = omega (arith, length-append blank_line (blank_lines n), blank_lines_long n)

-- whole pages, of 1,620 bytes each, and none of them empty
pub pages_long : (ls : List Line) → Each (FitsColumns columns) ls → length (pages ls) ≡ 1620 * page_count (length ls)
pages_long ls f =
    let n = length ls in
    let whole : n + lines_left n ≡ 60 * page_count n = omega arith in
    omega (
      arith,
      length-append (page_lines ls) (blank_lines (lines_left n)),
      page_lines_long ls f,
      blank_lines_long (lines_left n),
      whole,
    )
