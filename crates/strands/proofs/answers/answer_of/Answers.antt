-- The turn of the loop, by whether the goal is the table's own.
use native.Mathlib.Omega.{arith}
use mathlib.Core.Path.{◌≡◌, ap, ◌∙◌}
use lib.ListN.{length, get_or, length-set}
use borrow.Author.Rules.{rules}
use Rattle.strands.specs.Answers.{goals_of}
use Rattle.strands.proofs.AnswerCases.{turn_kept, turn_dropped}
use Rattle.strands.proofs.answers.answer_of.Goals as goal
use Rattle.strands.proofs.answers.answer_of.Goals.{then-s-i, else-s-i}

pub loop-i-preserved : goal.loop-i-preserved
loop-i-preserved c =
    let a = c.args in
    let l = c.loop-i in
    let long : length c.args.s.delayed ≡ 8 = search rules in
    elim c.if-s-i.branch [
      | then-s-i w ↦
          let turn = turn_kept a.goal l.i a.s.delayed (omega arith) l.kept l.count w.if-s-i.true l.invariant.counted l.invariant.kept in
          let size = length-set l.kept l.count (get_or a.s.delayed l.i 0) in
          record { few = omega arith; long = ap length w.kept-is ∙ size ∙ l.invariant.long; counted = w.count-is ∙ turn.0; kept = w.kept-is ∙ turn.1 }
      | else-s-i w ↦
          let same = turn_dropped a.goal l.i a.s.delayed (omega arith) w.if-s-i.false in
          record {
            few = omega arith;
            long = ap length w.kept-is ∙ l.invariant.long;
            counted = w.count-is ∙ l.invariant.counted ∙ ap length same;
            kept = w.kept-is ∙ l.invariant.kept ∙ ap goals_of same;
          }
    ]
