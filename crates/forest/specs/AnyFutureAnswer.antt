-- What `any_future_answer` says.
use Rattle.std.specs.Prelude.{ℕ, ◌≤◌, Bool, ◌≡◌}
use Rattle.definitions.specs.Forest as said
use Rattle.definitions.specs.Refusal.{Refusable, refused, accepted}
use Rattle.forest.specs.declared.Forest.{Forest}
use Rattle.forest.specs.declared.any_future_answer.Future.{Future}
use Rattle.forest.specs.declared.any_future_answer.Future.TheVariants as futures
use Rattle.forest.specs.View.{view, Sound}

abbrev pub future_means : Future → Refusable Bool
future_means (futures.Refused n) = refused n
future_means (futures.Found any) = accepted any

-- THE CONTRACT. For every sound forest, a marked one too, the result is the definitions'; and whatever the forest, a table that is not
-- made is refused with 10.
pub record FutureSays (f : Forest) (table index variant : ℕ) (r : Future) : Type 0 where
  pub says : Sound f → future_means r ≡ said.any_future_answer (view f) table index variant
  pub unmade : f.stores.tables.count ≤ table → r ≡ futures.Refused 10
