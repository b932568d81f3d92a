-- A plain paper, by its parts: what the desk gave, and whether the book is plain. What rests on plain books alone is told from it.
use Prim.Native.Nat.{ℕ}
use mathlib.Core.Path.{◌≡◌, refl, sym, ap, ◌∙◌}
use mathlib.Core.Bool.{Bool, true, false, not}
use mathlib.Core.List.{List}
use Rattle.std.proofs.Common.{Ok, Err}
use Rattle.laws.proofs.Bools.{was_true, was_false}
use Rattle.definitions.specs.Refusal.{Refusable, refused, accepted}
use Rattle.definitions.specs.Book as said
use Rattle.definitions.specs.Desk.{desk}
use Rattle.papers.specs.Levels.{is_plain, levels, levels_or_38, levels_at_desk, check_levels}
use Rattle.papers.specs.Xsb.{export, export_at_desk, check_export}
use Rattle.definitions.proofs.Refusal.{same_refused, not_accepted}
use Rattle.book.specs.declared.Book.{Book}
use Rattle.book.specs.declared.refusal.Refusal.{Refusal}
use Rattle.book.specs.declared.refusal.Refusal.TheVariants.{NotPlain}
use Rattle.book.specs.View.{view, Gives, Taken}
use Rattle.paper_checks.specs.Paper.{plain_at_desk, plain_paper}

-- What rests on it: a paper that is refused is refused by its number, and another has what its book has.
module _ {A : Type 0} (of_book : said.Book → Refusable A) where
  abbrev pub of_paper : Refusable said.Book → Refusable A
  of_paper (refused n) = refused n
  of_paper (accepted book) = of_book book

  by_test : (book : said.Book) (t : Bool)
      → elim t [ false ↦ refused 37 | true ↦ of_book book ] ≡ of_paper (elim t [ false ↦ refused 37 | true ↦ accepted book ])
  by_test book true = refl
  by_test book false = refl

abbrev pub levels_in : said.Book → Refusable (List ℕ)
levels_in book = levels_or_38 (levels book)

pub levels_of_paper : (bytes : List ℕ) → check_levels bytes ≡ of_paper levels_in (plain_paper bytes)
levels_of_paper bytes = on (desk bytes)
  where
    on : (d : Refusable said.Book) → levels_at_desk d ≡ of_paper levels_in (plain_at_desk d)
    on (refused n) = refl
    on (accepted book) = by_test levels_in book (is_plain book)

abbrev pub export_in : said.Book → Refusable (List ℕ)
export_in book = accepted (export book)

pub export_of_paper : (bytes : List ℕ) → check_export bytes ≡ of_paper export_in (plain_paper bytes)
export_of_paper bytes = on (desk bytes)
  where
    on : (d : Refusable said.Book) → export_at_desk d ≡ of_paper export_in (plain_at_desk d)
    on (refused n) = refl
    on (accepted book) = by_test export_in book (is_plain book)

-- The desk's book is the paper's; and a book that it took is refused with 37 alone.

plain_taken : (d : Refusable said.Book) (book : said.Book) → plain_at_desk d ≡ accepted book → d ≡ accepted book
plain_taken (refused n) book e = absurd (not_accepted e)
plain_taken (accepted b) book e = on (is_plain b) e
  where
    on : (t : Bool) → elim t [ false ↦ refused 37 | true ↦ accepted b ] ≡ accepted book → accepted b ≡ accepted book
    on true x = x
    on false x = absurd (not_accepted x)

pub paper_taken : (bytes : List ℕ) (book : said.Book) → plain_paper bytes ≡ accepted book → desk bytes ≡ accepted book
paper_taken bytes book e = plain_taken (desk bytes) book e

pub refused_taken : (bytes : List ℕ) (n : ℕ) (book : said.Book) → plain_paper bytes ≡ refused n → desk bytes ≡ accepted book → n ≡ 37
refused_taken bytes n book e took = on (is_plain book) (sym (ap plain_at_desk took) ∙ e)
  where
    on : (t : Bool) → ◌≡◌ {A = Refusable said.Book} (elim t [ false ↦ refused 37 | true ↦ accepted book ]) (refused n) → n ≡ 37
    on true x = absurd (not_accepted (sym x))
    on false x = sym (same_refused x)

-- From what the desk gave.

pub refused_gives : (bytes : List ℕ) (e : Refusal) → Taken bytes (Err e) → Gives (plain_paper bytes) (Err e)
refused_gives bytes e read = record { means = ap plain_at_desk read.means; sound = tt }

module _ (bytes : List ℕ) (book : Book) (read : Taken bytes (Ok book)) (plain : Bool) (told : plain ≡ is_plain (view book)) where
  by_plain : (t : Bool) → plain ≡ t → elim t [ false ↦ refused 37 | true ↦ accepted (view book) ] ≡ plain_paper bytes
  by_plain t e =
      ap (λ (b : Bool). elim b [ false ↦ refused 37 | true ↦ accepted (view book) ]) (sym e ∙ told) ∙ ap plain_at_desk read.means

  pub unplain_gives : not plain ≡ true → Gives (plain_paper bytes) (Err NotPlain)
  unplain_gives n = record { means = by_plain false (was_false plain n); sound = tt }

  pub plain_gives : not plain ≡ false → Gives (plain_paper bytes) (Ok book)
  plain_gives n = record { means = by_plain true (was_true plain n); sound = read.sound }
