-- What demand 3 supposes, in the link's terms: a sound book with its levels, and a clock limit that leaves room. Every theorem from
-- searches on is told under it.
use Prim.Native.Nat.{ℕ, ◌≤◌}
use lib.ListN.{length}
use Rattle.definitions.specs.{MAX}
use Rattle.definitions.specs.Book.{Book}
use Rattle.definitions.specs.Tables.{Tables, Forest}
use Rattle.laws.proofs.Sums.{sum}
use Rattle.promises.proofs.Plain.Model.{Levelled}
use Rattle.promises.proofs.Plain.Claim.{Inside}
use Rattle.promises.proofs.Plain.Machine as M
use Rattle.promises.proofs.Plain.Steps.{Setting}
use Rattle.promises.proofs.Plain.Whole.{setting}
use Rattle.promises.proofs.Link.Tables.{book_of, forest_of}
use Rattle.promises.proofs.Link.Making.{Sound}
use Rattle.promises.proofs.Link.Selected.{limits_of}

pub record Premises : Type 0 where
  pub book : Book
  pub sound : Sound book
  pub limit : ℕ
  pub level : ℕ → ℕ
  pub levelled : Levelled (book_of book) level
  pub inside : Inside (book_of book) (length book)
  pub room : limit ≤ MAX
  pub few : sum (length book) (λ g. length (book_of book g)) ≤ 256

-- the setting of the plain machine's theorems
abbrev pub setting_of : Premises → Setting
setting_of G = setting (book_of G.book) G.level (limits_of G.book G.limit) G.levelled G.inside G.room

abbrev pub limits_in : Premises → M.Limits
limits_in G = limits_of G.book G.limit

-- the definitions' forest with this mark, these tables and this clock
abbrev pub forest_in : Premises → (mark : ℕ) → Tables → (clock : ℕ) → Forest
forest_in G mark ts c = forest_of G.book G.limit mark ts c
