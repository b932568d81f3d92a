-- What reading a text gives, by the definitions.
use Rattle.std.specs.Prelude.{ℕ, ◌≤◌, ◌≡◌, Bool, true, List, ◌++◌, length, take, Result, Ok, Err, IfOk, Some, None}
use Rattle.std.specs.declared.option.Option as found
use Rattle.std.proofs.Math.Option.{Option, none, some}
use Rattle.definitions.specs.Refusal.{Refusable, refused, accepted}
use Rattle.definitions.specs.Book.{Book}
use Rattle.definitions.specs.Desk.{desk}
use Rattle.papers.specs.Xsb.{State, start, run, check_import}
use Rattle.papers.specs.XsbForm.{broken}
use Rattle.book.specs.declared.refusal.Refusal.{Refusal}
use Rattle.book.specs.Refusals.{number}
use Rattle.xsb_import.specs.declared.Place.{Place}
use Rattle.xsb_import.specs.declared.Place.TheVariants.{Line, Fixed, Number, Literal, Behind}
use Rattle.xsb_import.specs.declared.Ended.{Ended}
use Rattle.xsb_import.specs.declared.Spot.{Spot}
use Rattle.xsb_import.specs.declared.Kept.{Kept}
use Rattle.xsb_import.specs.declared.Reader.{Reader}
use Rattle.xsb_import.specs.declared.Imported.{Imported}
use Rattle.xsb_import.specs.Keeping.{Keeps}
use Rattle.xsb_import.specs.Reading.{Follows, begun_rules}

pub record Held (st : State) (s : Spot) (kept : found.Option Kept) (bytes : List ℕ) : Type 0 where
  pub follows : Follows st s
  pub keeps : Keeps st.tables (begun_rules st) kept bytes

abbrev pub HoldsState : Option State → found.Option Spot → found.Option Kept → List ℕ → Type 0
HoldsState none None kept bytes = Unit {0}
HoldsState none (Some s) kept bytes = ⊥
HoldsState (some st) None kept bytes = ⊥
HoldsState (some st) (Some s) kept bytes = Held st s kept bytes

-- a spot and the bytes beside it are those of a text so far
abbrev pub Holds : (text : List ℕ) → found.Option Spot → found.Option Kept → List ℕ → Type 0
Holds text spot kept bytes = HoldsState (run text start) spot kept bytes

-- A READER of a text so far
abbrev pub Reads : (text : List ℕ) → Reader → Type 0
Reads text r = Holds text r.spot r.kept r.bytes

abbrev pub ended_by : found.Option Spot → found.Option Ended
ended_by None = None
ended_by (Some s) = s.ended

abbrev pub by_line : Spot → Place → found.Option Spot
by_line s Line = Some s
by_line s (Fixed k) = None
by_line s (Number w v) = None
by_line s Literal = None
by_line s Behind = None

-- a spot at which a text may end
abbrev pub line_of : found.Option Spot → found.Option Spot
line_of None = None
line_of (Some s) = by_line s s.place

-- WHETHER 39 IS SETTLED by a text so far: then it is said of the whole, whatever follows and however much
pub record Settles (text : List ℕ) (r : Bool) : Type 0 where
  pub is : r ≡ broken text
  pub for_good : r ≡ true → (more : List ℕ) → check_import (text ++ more) ≡ refused 39

abbrev pub imported : Result Imported Refusal → Refusable (List ℕ)
imported (Ok b) = accepted (take b.used b.bytes)
imported (Err e) = refused (number e)

-- bytes that the desk takes, or its number
abbrev pub taken_by : Refusable Book → (bytes : List ℕ) → Refusable (List ℕ)
taken_by (refused n) bytes = refused n
taken_by (accepted book) bytes = accepted bytes

abbrev pub Desks : (bytes : List ℕ) (used : ℕ) → Result Imported Refusal → Type 0
Desks bytes used r = imported r ≡ taken_by (desk (take used bytes)) (take used bytes)

-- of whichever reader
pub record Sized (b : Imported) : Type 0 where
  pub room : length b.bytes ≡ 13441
  pub inside : b.used ≤ 13441

-- THE IMPORT of a text
pub record Imports (text : List ℕ) (r : Result Imported Refusal) : Type 0 where
  pub means : imported r ≡ check_import text
  pub sized : IfOk r Sized
