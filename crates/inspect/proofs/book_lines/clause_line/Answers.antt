use native.Mathlib.Omega.{arith}
use Rattle.book.specs.View.{literal_viewed}
use Rattle.inspect.proofs.Lines.{literals_step, clause_said}
use Prim.Native.Nat.{◌*◌}
use Rattle.inspect.proofs.book_lines.clause_line.Goals as goal

pub loop-j-preserved : goal.loop-j-preserved
loop-j-preserved c = (
  omega arith,
  omega arith,
  omega arith,
  literals_step (literal_viewed c.args.book.now) (8 * c.args.c) c.wide-count.result c.loop-j.j _ _ _ _ (omega arith)
      c.loop-j.invariant.3
      c.between.ensures c.literal.ensures,
)

pub returns : goal.returns
returns c = search clause_said
