-- `run` meets its contract: a search that ends where it starts leaves only numbers, and any other is run by the loop.
use Rattle.forest.proofs.SearchesCases.{runs_started, runs_over}
use Rattle.forest.proofs.Forest.run.Goals as goal

pub returns-then-c : goal.returns-then-c
returns-then-c c =
    let a = c.args in
    let s = c.start-c in
    runs_started a.self.now a.asked a.index a.more c.first_course.result c.first_course.ensures s.result s.ensures _
    (runs_over a.self.now a.asked s.result c.if-c.true c.carry.new.self c.carry.ensures)
