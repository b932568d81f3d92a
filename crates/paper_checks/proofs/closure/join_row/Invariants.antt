-- `join_row`: the columns before j are joined.
use Rattle.paper_checks.specs.Reach.{Raised}
use Rattle.paper_checks.proofs.Raising.{Steps}
use Rattle.paper_checks.proofs.Closing.{Joint}
use Rattle.paper_checks.proofs.closure.join_row.Given as goal

abbrev pub invariant-loop-j : goal.invariant-loop-j
invariant-loop-j l = Raised (Steps (Joint l.fn.m l.k l.i) l.j) l.fn.m l.m
