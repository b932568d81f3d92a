-- What opening a goal says.
use Rattle.std.specs.Prelude.{ℕ, ◌≡◌}
use Rattle.definitions.specs.Forest as said
use Rattle.definitions.specs.Refusal.{Refusable, refused, accepted}
use Rattle.definitions.specs.Stop.{stop, go}
use Rattle.definitions.specs.Tables as tables
use Rattle.batch.specs.declared.calls.Said.{Said}
use Rattle.batch.specs.declared.calls.Said.TheVariants as saying
use Rattle.forest.specs.declared.Forest.{Forest}
use Rattle.forest.specs.declared.open.Opened.{Opened}
use Rattle.forest.specs.declared.open.Opening.{Opening}
use Rattle.forest.specs.declared.open.Opening.TheVariants as openings
use Rattle.forest.specs.View.{view, Sound}

abbrev pub opened_by : Opening → tables.Forest → Refusable said.Opened
opened_by (openings.Refused n) f = refused n
opened_by (openings.Table t) f = accepted (record { table = go t; forest = f })
opened_by (openings.Stopped n) f = accepted (record { table = stop n; forest = f })

abbrev pub opened_means : Opened → Refusable said.Opened
opened_means r = opened_by r.opening (view r.forest)

-- what an open came to, with the forest that it leaves
abbrev pub opened_to : Opening → Forest → Opened
opened_to x f = record { opening = x; forest = f }

-- THE CONTRACT. For every sound forest the result is the definitions' and the forest left is sound; and whatever the forest, a refused
-- call leaves it as it was, and a marked one is refused with 20.
pub record OpenSays (f : Forest) (goal : ℕ) (r : Opened) : Type 0 where
  pub says : Sound f → opened_means r ≡ said.open_goal (view f) goal
  pub sound : Sound f → Sound r.forest
  pub unchanged : (n : ℕ) → r.opening ≡ openings.Refused n → r.forest ≡ f
  pub marked : (f.mark ≡ 0 → ⊥) → r.opening ≡ openings.Refused 20

-- what an open came to, where calls are served; the last three are said of other calls
abbrev pub opening_of : Said → Opening
opening_of (saying.Refused n) = openings.Refused n
opening_of (saying.Table t) = openings.Table t
opening_of (saying.Stopped n) = openings.Stopped n
opening_of (saying.Future any) = openings.Refused 0
opening_of saying.Searched = openings.Refused 0
opening_of saying.Peeked = openings.Refused 0
