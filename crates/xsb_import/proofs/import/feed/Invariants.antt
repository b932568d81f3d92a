-- `feed`: at each turn the bytes of the piece so far are read.
use Prim.Native.Nat.{ℕ}
use mathlib.Core.Path.{◌≡◌}
use mathlib.Core.List.{List, ◌++◌}
use lib.ListN.{length, take}
use Rattle.xsb_import.specs.Importing.{Holds}
use Rattle.xsb_import.proofs.import.feed.Given as goal

abbrev pub invariant-loop-b : goal.invariant-loop-b
invariant-loop-b l = (length l.bytes ≡ 13441)
    × ((text : List ℕ) → Holds text l.initial.spot l.initial.kept l.initial.bytes
    → Holds (text ++ take l.b-index l.piece) l.spot l.kept l.bytes)
