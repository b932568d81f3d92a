-- That the columns of change request 3 hold every line of a listing, so that nothing is ever cut off, and that what is printed is whole
-- pages. In the definitions a byte may be any number: what is said of variants is said of bytes below 256.
use Rattle.std.specs.Prelude.{ℕ, ◌+◌, ◌-◌, ◌*◌, ◌/◌, ◌≤◌, ◌<◌, ◌≡◌, Bool, true, false, ◌&&◌, length, eqb}
use mathlib.Core.List.{List, [], ◌∷◌, Memᴰ}
use Rattle.std.proofs.Math.Option.{some}
use Rattle.std.proofs.Math.ListN.{get_elem?}
use Rattle.definitions.specs.{CompleteAnswer}
use Rattle.definitions.specs.Book.{Clause, Goal, Book}
use Rattle.definitions.specs.Refusal.{accepted}
use Rattle.definitions.specs.Turn.{found}
use Rattle.definitions.specs.Desk.{desk}
use Rattle.definitions.specs.Lists.{Each}
use Rattle.papers.specs.Listing.{Line, lines, Column, columns, lines_a_page, fields, listing}

-- no text is wider than its column
abbrev pub FitsColumns : List Column → Line → Type 0
FitsColumns cs l = Each (λ c. length (c.shows l) ≤ c.width) cs

-- as many pages as the lines take
abbrev pub page_count : (lines : ℕ) → ℕ
page_count n = (n + (lines_a_page - 1)) / lines_a_page

-- a clause of that goal has this variant
pub record OfClause (book : Book) (goal variant : ℕ) : Type 0 where
  pub own : Goal
  pub clause : Clause
  pub is_own : get_elem? book goal ≡ some own
  pub of_own : Memᴰ clause own.clauses
  pub same_variant : clause.variant ≡ variant

-- the variant of every yes and maybe is that of a clause of its goal
abbrev pub ListingVariants : Type 0
ListingVariants = (bytes : List ℕ) (book : Book) → desk bytes ≡ accepted book → (ls : List Line) → lines bytes ≡ accepted ls
    → Each (λ l. (a : CompleteAnswer) → l.ending ≡ found a → OfClause book l.goal a.variant) ls

-- what is printed of a paper that is taken, whose lines are these
pub record Paged (bytes : List ℕ) (ls : List Line) : Type 0 where
  pub fits : Each (FitsColumns columns) ls
  pub some_line : 1 ≤ length ls
  pub few_lines : length ls ≤ 64 * 257
  pub whole_pages : length (listing bytes) ≡ 1620 * page_count (length ls)

abbrev pub ListingPaged : Type 0
ListingPaged = (bytes : List ℕ) → Each (λ b. b < 256) bytes → (ls : List Line) → lines bytes ≡ accepted ls → Paged bytes ls

-- "the cases of 01 then give the fields": what a text says, its blanks aside. Blanks before and behind a line's words are left out, between
-- two words one is left, and a blank line is no line. `begun`: a word of the line has been met; `gap`: blanks stand behind it.
abbrev pub words_from : (begun gap : Bool) → List ℕ → List ℕ
words_from begun gap [] = []
words_from begun gap (b ∷ bs) = elim (eqb b 32) [
  | true ↦ words_from begun true bs
  | false ↦ elim (eqb b 10) [
    | true ↦ elim begun [ true ↦ 10 ∷ words_from false false bs | false ↦ words_from false false bs ]
    | false ↦ elim (begun && gap) [ true ↦ 32 ∷ b ∷ words_from true false bs | false ↦ b ∷ words_from true false bs ]
  ]
]

abbrev pub PagesSayFields : Type 0
PagesSayFields = (bytes : List ℕ) → words_from false false (listing bytes) ≡ fields bytes
