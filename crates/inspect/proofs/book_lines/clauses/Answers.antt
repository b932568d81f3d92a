use native.Mathlib.Omega.{arith}
use Rattle.inspect.proofs.Lines.{clauses_step, clauses_said, clauses_in}
use Rattle.inspect.proofs.book_lines.clauses.Goals as goal

pub clause_line-requires : goal.clause_line-requires
clause_line-requires c = record {
  formed = c.requires.formed;
  c_bound = omega (arith, clauses_in c.args.book.now c.args.g c.requires.formed c.requires.g_lt_goals);
}

pub loop-k-preserved : goal.loop-k-preserved
loop-k-preserved c = (omega arith, omega arith, omega arith, search clauses_step)

pub returns : goal.returns
returns c = search clauses_said
