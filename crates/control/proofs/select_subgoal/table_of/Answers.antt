-- the number of a table that is to be made fits a byte
use native.Mathlib.Omega.{arith}
use Rattle.control.proofs.SelectCases.{noted_within}
use Rattle.control.proofs.select_subgoal.table_of.Goals as goal

pub overflow_add-result : goal.overflow_add-result
overflow_add-result c =
    let a = c.args in
    omega (arith, c.first_noted.ensures, noted_within a.g a.made)

pub overflow_cast-result-in-None : goal.overflow_cast-result-in-None
overflow_cast-result-in-None c =
    let a = c.args in
    omega (arith, c.first_noted.ensures, noted_within a.g a.made, c.upto.ensures)
