-- What the code says of a text: 39 where it is not of the form, and there alone.
use Rattle.std.specs.Prelude.{Result}
use Prim.Native.Nat.{ℕ, ◌≤◌}
use mathlib.Core.Path.{◌≡◌, sym, ap, ◌∙◌}
use mathlib.Core.List.{List}
use lib.ListN.{length}
use Rattle.definitions.specs.Refusal.{Refusable, refused, accepted}
use Rattle.definitions.specs.Book as said
use Rattle.papers.specs.Xsb.{import, bytes_of}
use Rattle.papers.specs.XsbForm.{Form, most_bytes}
use Rattle.definitions.proofs.Refusal.{same_refused, not_accepted}
use Rattle.papers.proofs.XsbRefusals.{import_39}
use Rattle.book.specs.declared.refusal.Refusal.{Refusal}
use Rattle.xsb_import.specs.declared.Imported.{Imported}
use Rattle.xsb_import.specs.Importing.{imported, Imports}

bytes_refused : (r : Refusable said.Book) (n : ℕ) → refused n ≡ bytes_of r → r ≡ refused n
bytes_refused (refused m) n e = ap refused (sym (same_refused e))
bytes_refused (accepted book) n e = absurd (not_accepted e)

pub says_39 : (text : List ℕ) (r : Result Imported Refusal) → Imports text r → length text ≤ most_bytes
    → (imported r ≡ refused 39 → Form text → ⊥) × ((Form text → ⊥) → imported r ≡ refused 39)
says_39 text r h few = (
  λ e. (import_39 text few).0 (bytes_refused (import text) 39 (sym e ∙ h.means)),
  λ other. h.means ∙ ap bytes_of ((import_39 text few).1 other),
)
