-- `read_named`: before each command the arrays hold what was read and the rest is still to be read (`SoFar`); each way through the loop
-- has its lemma in `Course`.
-- no refusal
use Prim.Native.Nat.{◌-◌}
use lib.ListN.{length}
use Rattle.book.proofs.Course.{SoFar}
use Rattle.book.proofs.reader.read_named.Given as goal

abbrev pub invariant-loop-o : goal.invariant-loop-o
invariant-loop-o l = SoFar l.bytes l.book l.literals l.named l.at

abbrev pub decreases-loop-o : goal.decreases-loop-o
decreases-loop-o l = length l.bytes - l.at
