-- `own`: at each turn the bytes so far are the same.
use mathlib.Core.Path.{◌≡◌}
use lib.ListN.{length, take}
use Rattle.xsb_import.proofs.import.own.Given as goal

abbrev pub invariant-loop-i : goal.invariant-loop-i
invariant-loop-i l = (length l.r ≡ 13441) × (length l.bytes ≡ 13441 → take l.i l.r ≡ take l.i l.bytes)
