-- Where the copy of a paper stands, as the definitions have it.
use Rattle.std.specs.Prelude.{ℕ, ◌-◌, ◌≡◌, List, ◌∷◌}
use Rattle.std.specs.declared.option.Option as found
use Rattle.laws.specs.Spans.{span}
use Rattle.papers.specs.Mend as said
use Rattle.papers.specs.Mend.{if_stays, copy}
use Rattle.mending.specs.declared.copy.Copying.{Copying}
use Rattle.mending.specs.declared.reasons.Reason.{Reason}
use Rattle.mending.specs.Reasons.{reason_at}

-- the reasons of the clauses that are to come are those from its place on
abbrev pub copying : (reasons : List (found.Option Reason)) → Copying → said.Copying
copying reasons c = record {
  stays = c.stays;
  last_stays = c.last_stays;
  to_come = span (reason_at reasons) c.clauses (256 - c.clauses);
}

-- what is copied of some bytes from there on
abbrev pub copy_on : (reasons : List (found.Option Reason)) → Copying → (bytes : List ℕ) → List ℕ
copy_on reasons c bytes = copy bytes c.skip (copying reasons c)

-- a byte goes or stays, and the copy goes on behind it
abbrev pub Goes : (reasons : List (found.Option Reason)) → (from : Copying) → (byte : ℕ) → (to : Copying) → Type 0
Goes reasons c b d = (bytes : List ℕ) → copy_on reasons c (b ∷ bytes) ≡ if_stays d.stays b (copy_on reasons d bytes)
