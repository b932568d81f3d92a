-- The goals that follow those held are those that the answer's view shows.
use native.Mathlib.Omega.{arith}
use mathlib.Core.Path.{◌≡◌, sym, ◌∙◌}
use lib.ListN.{length, take}
use borrow.Author.Rules.{rules}
use Rattle.laws.proofs.Takes.{take_min, length_take_min}
use Rattle.strands.proofs.DelayCases.{says_room}
use Rattle.strands.proofs.Lists.{copied}
use Rattle.strands.proofs.delaying.delay_answer.Goals as goal

pub returns : goal.returns
returns c =
    let s = c.args.s in
    let a = c.args.a in
    let n = c.within-n.result in
    let m = c.within-m.result in
    let held_long : length c.args.s.delayed ≡ 8 = search rules in
    let more_long : length c.args.a.delayed ≡ 8 = search rules in
    let size = length_take_min 8 a.delayed_count m a.delayed more_long c.within-m.ensures in
    let shown = take_min 8 a.delayed_count m a.delayed more_long c.within-m.ensures in
    let written = c.copy_from_slice.ensures.after ∙ shown in
    says_room s (take a.delayed_count a.delayed) n m c.within-n.ensures (sym size) _ (omega arith)
    (copied s.delayed _ (take a.delayed_count a.delayed) n _ written (omega arith) (omega arith))
