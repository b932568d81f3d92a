-- A plain paper: the book of a byte string that the desk takes, if it is plain.
use Rattle.std.specs.Prelude.{ℕ, true, false, List}
use Rattle.definitions.specs.Refusal.{Refusable, refused, accepted}
use Rattle.definitions.specs.Book.{Book}
use Rattle.definitions.specs.Desk.{desk}
use Rattle.papers.specs.Levels.{is_plain}

abbrev pub plain_book : Book → Refusable Book
plain_book book = elim (is_plain book) [ false ↦ refused 37 | true ↦ accepted book ]

-- 37 is tested after all numbers of the desk
abbrev pub plain_at_desk : Refusable Book → Refusable Book
plain_at_desk (refused n) = refused n
plain_at_desk (accepted book) = plain_book book

abbrev pub plain_paper : (bytes : List ℕ) → Refusable Book
plain_paper bytes = plain_at_desk (desk bytes)
