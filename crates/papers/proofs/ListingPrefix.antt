-- How a byte string is listed is settled by its first 20,480 bytes, as how the desk takes it is.
use Prim.Native.Nat.{ℕ}
use mathlib.Core.List.{List}
use mathlib.Core.Path.{◌≡◌}
use lib.ListN.{take}
use Rattle.sizes.specs.Limits.{read_ahead}
use Rattle.definitions.specs.Desk.{make_at_desk}
use Rattle.papers.specs.Listing.{lines, listing}
use Rattle.definitions.proofs.Desk.{desk_take}

pub listing_take : (bytes : List ℕ) → listing (take read_ahead bytes) ≡ listing bytes
listing_take bytes = rw (listing, lines, make_at_desk, desk_take bytes)
