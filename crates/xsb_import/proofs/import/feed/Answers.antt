use Rattle.xsb_import.proofs.Feeding.{fed_next}
use borrow.Author.Rules.{rules}
use native.Mathlib.Omega.{arith}
use Rattle.xsb_import.proofs.import.feed.Goals as goal

pub loop-b-preserved : goal.loop-b-preserved
loop-b-preserved c =
    let l = c.loop-b in (
      omega arith,
      fed_next _ _ _ _ _ _ _ _ _ _ _ l.b-index _ (omega arith) c.step-spot.ensures (search rules) c.ended.ensures
          c.keep-kept.ensures l.invariant.1,
    )
