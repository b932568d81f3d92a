-- A byte as an index into an array of 256 structs, and as an offset in it.
use Prim.Native.Nat.{ℕ, ◌≤◌, ◌<◌, ◌*◌}
use native.Mathlib.Omega.{arith}
use mir.Val.{Fits}
use Rattle.definitions.specs.{MAX}
use mir.Syntax.{w8, w64}

pub wide_fits : (x : ℕ) → x < 18446744073709551616 → x ≤ MAX
wide_fits x h = omega arith
