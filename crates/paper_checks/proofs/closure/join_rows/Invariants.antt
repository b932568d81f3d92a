-- `join_rows`: the rows before i are joined.
use Rattle.paper_checks.specs.Reach.{Raised, Rows}
use Rattle.paper_checks.proofs.closure.join_rows.Given as goal

abbrev pub invariant-loop-i : goal.invariant-loop-i
invariant-loop-i l = Raised (Rows l.fn.m l.k l.i) l.fn.m l.m
