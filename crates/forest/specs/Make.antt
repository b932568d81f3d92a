-- What making says.
use Rattle.std.specs.Prelude.{ℕ, Bool, true, false, ◌||◌, List, ◌≡◌, eqb, leb, Result, Ok, Err, IfOk}
use Rattle.definitions.specs.{MAX}
use Rattle.definitions.specs.Book as said_book
use Rattle.definitions.specs.Desk.{make_at_desk}
use Rattle.definitions.specs.Forest as said
use Rattle.definitions.specs.Refusal.{Refusable, refused, accepted}
use Rattle.definitions.specs.Tables as tables
use Rattle.book.specs.View as books
use Rattle.book.specs.declared.Book.{Book}
use Rattle.book.specs.declared.refusal.Refusal.{Refusal}
use Rattle.book.specs.Refusals.{number}
use Rattle.stores.specs.declared.queue.Strands.{Strands}
use Rattle.stores.specs.declared.table.Answers.{Answers}
use Rattle.stores.specs.declared.tables.Tables.{Tables}
use Rattle.stores.specs.Queue.{blank_strands}
use Rattle.stores.specs.Stack.{blank_stack}
use Rattle.stores.specs.Table.{blank_answers}
use Rattle.stores.specs.Tables.{blank_tables}
use Rattle.control.specs.PerformStrand.{lent_of}
use Rattle.forest.specs.declared.Forest.{Forest}
use Rattle.forest.specs.declared.make.Begun.{Begun}
use Rattle.forest.specs.declared.make.Made.{Made}
use Rattle.forest.specs.declared.make.Making.{Making}
use Rattle.forest.specs.declared.make.Making.TheVariants as makings
use Rattle.forest.specs.View.{view, Sound, forest_by}

-- THE MODELS. A forest with this book and these stores.
abbrev pub forest_with : Book → Tables → Strands → Answers → (limit mark : ℕ) → Forest
forest_with b ts s a limit mark = forest_by b (lent_of ts s a blank_stack 0) limit mark

-- with blank stores
abbrev pub bare : Book → (limit mark : ℕ) → Forest
bare b limit mark = forest_with b blank_tables blank_strands blank_answers limit mark

-- `refused`: what a refusal with this number leaves
abbrev pub refused_with : (number : ℕ) → Book → Made
refused_with n b = record { making = makings.Refused n; forest = bare b 0 n }

-- what is begun with: the number by which no forest is made, if there is one
abbrev pub refused_by : (number : ℕ) → Begun
refused_by n = record { making = makings.Refused n; limit = 0; mark = n }

abbrev pub begin_by : (limited : Bool) → (limit : ℕ) → Begun
begin_by true limit = refused_by 13
begin_by false limit = record { making = makings.Made; limit = limit; mark = 0 }

abbrev pub begin : Result Book Refusal → (limit : ℕ) → Begun
begin (Err e) limit = refused_by (number e)
begin (Ok b) limit = begin_by (eqb limit 0 || leb MAX limit) limit

-- the book that is kept: a blank one where no forest is made
abbrev pub book_kept : Result Book Refusal → Making → Book
book_kept (Err e) m = books.blank
book_kept (Ok b) (makings.Refused n) = books.blank
book_kept (Ok b) makings.Made = b

-- what making came to, with the forest that it leaves
abbrev pub made_anew : Making → Forest → Made
made_anew x f = record { making = x; forest = f }

abbrev pub made_by : Making → tables.Forest → Refusable tables.Forest
made_by (makings.Refused n) f = refused n
made_by makings.Made f = accepted f

abbrev pub made_means : Made → Refusable tables.Forest
made_means r = made_by r.making (view r.forest)

-- THE CONTRACT, of a way in and for every byte string and every limit: the result is the definitions', the forest is sound, and where
-- none was made it has nothing in it, no book either, and is marked with the number, so that every later open, search and peek is refused.
pub record MadeSays (what : Refusable tables.Forest) (r : Made) : Type 0 where
  pub says : made_means r ≡ what
  pub sound : Sound r.forest
  pub marked : (n : ℕ) → r.making ≡ makings.Refused n → r.forest ≡ bare books.blank 0 n

-- `make`
abbrev pub MakeSays : (bytes : List ℕ) → (limit : ℕ) → Made → Type 0
MakeSays bytes limit r = MadeSays (said.make bytes limit) r

-- `make_at_desk`
abbrev pub MakeAtDeskSays : (bytes : List ℕ) → (limit : ℕ) → Made → Type 0
MakeAtDeskSays bytes limit r = MadeSays (make_at_desk bytes limit) r

-- A reading that stems from bytes: a book that it holds is sound, and one that `read` gives. Both entries leave such.
pub record Stems (r : Result Book Refusal) : Type 0 where
  pub sound : IfOk r books.Sound
  pub from : IfOk r (λ b. (bytes : List ℕ) × (said_book.read bytes ≡ accepted (books.view b)))

-- what is made of a reading: the two ways in differ in the reading alone
abbrev pub MakeOfSays : Result Book Refusal → (limit : ℕ) → Made → Type 0
MakeOfSays r limit m = MadeSays (said.make_of (books.seen r) limit) m
