-- The loop of `answer_of`: what is kept so far is what the definition keeps of the goals passed.
use Prim.Native.Nat.{◌≤◌}
use mathlib.Core.Path.{◌≡◌}
use lib.ListN.{length, take}
use Rattle.definitions.specs.Turn.{other_than}
use Rattle.strands.specs.Answers.{goals_of}
use Rattle.strands.proofs.answers.answer_of.Given as goal

abbrev pub invariant-loop-i : goal.invariant-loop-i
invariant-loop-i l = record {
  few : l.count ≤ l.i;
  long : length l.kept ≡ 8;
  counted : l.count ≡ length (other_than l.goal (take l.i l.s.delayed));
  kept : l.kept ≡ goals_of (other_than l.goal (take l.i l.s.delayed));
}
