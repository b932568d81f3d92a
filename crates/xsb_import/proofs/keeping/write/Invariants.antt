-- `write`: at each turn the bytes so far are written.
use mathlib.Core.Path.{◌≡◌}
use lib.ListN.{length, take}
use Rattle.xsb_import.specs.Keeping.{Writes}
use Rattle.xsb_import.proofs.keeping.write.Given as goal

abbrev pub invariant-loop-b : goal.invariant-loop-b
invariant-loop-b l = (length l.out ≡ length l.initial.out) × Writes l.initial.out l.used (take l.b-index l.more) l.out l.at
