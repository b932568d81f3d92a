-- What is read without the test for 6, with the count of goals that the test needs.
use Rattle.std.specs.Prelude.{ℕ, ◌≡◌, List, leb, Result, Ok, Err, IfOk}
use Rattle.definitions.specs.Book.{goals_name}
use Rattle.book.specs.declared.Book.{Book}
use Rattle.book.specs.declared.reader.Named.{Named}
use Rattle.book.specs.declared.refusal.Refusal.{Refusal}
use Rattle.book.specs.View.{view, ReadLoosely}

abbrev pub book_named : Result Named Refusal → Result Book Refusal
book_named (Ok m) = Ok m.book
book_named (Err e) = Err e

pub record ReadNamed (bytes : List ℕ) (r : Result Named Refusal) : Type 0 where
  pub reads : ReadLoosely bytes (book_named r)
  pub naming : IfOk r (λ m. (n : ℕ) → goals_name n (view m.book) ≡ leb m.named n)
