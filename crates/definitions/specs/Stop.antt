-- Stops by number (document 01, "Stopped by the state"): where the Rust would panic, or run out of the room that is set here. The
-- statements of the Rust follow one another by `do`; the first stop counts. Stop 0 is an assert, an `unwrap` or a bound of the
-- definitions that no call meets: it is no number of document 01, so that whoever meets it sees it.
use Rattle.std.specs.Prelude.{ℕ, Bool, true, false}
use Rattle.std.proofs.Math.Option.{Option, none, some}

pub data Stops (A : Type 0) : Type 0 where
  stop : ℕ → Stops A
  go : A → Stops A

module _ {A B : Type 0} where
  infixl 55 ◌>>=◌
  abbrev pub ◌>>=◌ : Stops A → (A → Stops B) → Stops B
  stop n >>= k = stop n
  go a >>= k = k a

module _ {B : Type 0} where
  infixl 55 ◌>>◌
  abbrev pub ◌>>◌ : Stops (Unit {0}) → Stops B → Stops B
  stop n >> k = stop n
  go a >> k = k

abbrev pub stop_if : Bool → ℕ → Stops (Unit {0})
stop_if true n = stop n
stop_if false n = go tt

-- `unwrap`
abbrev pub unwrap : {A : Type 0} → Option A → Stops A
unwrap none = stop 0
unwrap (some a) = go a
