use Rattle.mending.proofs.Coding.{names_again}
use mathlib.Core.Path.{refl}
use Rattle.mending.proofs.reasons.names.Goals as goal

pub loop-j-preserved : goal.loop-j-preserved
loop-j-preserved c =
    let b = c.args.b.now in (
      c.loop-j.invariant.0,
      names_again b.clause_len b.literal_goal b.goals c.args.c _ _ c.loop-j.invariant.1 _ c.loop-j-test.true refl c.if-b-c.false,
    )
