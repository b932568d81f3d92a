-- `run_loop` meets its contract: the loop's own, from the stack that has the root's entry.
use mathlib.Core.Path.{refl}
use Rattle.stores.specs.declared.stack.Stack.{Stack}
use Rattle.forest.proofs.SearchesCases.{runs_loop}
use Rattle.forest.proofs.Forest.run_loop.Goals as goal

pub returns : goal.returns
returns c =
    let a = c.args in
    let p = c.push_entry.ensures in
    let n = c.push_entry.new in
    let k : Stack = record {
      depth = c.blank_stack-stack.result.depth;
      table = n.table;
      clock = n.clock;
      positive = n.positive;
      negative = n.negative;
      active = n.active;
    } in
    rw c.carry.ensures
    (runs_loop a.self.now a.asked a.c c.blank_stack-stack.result c.blank_stack-stack.ensures k p.1 p.2 p.3 p.4 p.5
    c.ensure_root_answer-course.result _ c.ensure_root_answer-course.new.stack c.ensure_root_answer-course.ensures.comes
    (record { book = refl; limit = refl; mark = refl; count = refl; clock = refl; used = refl; answer_used = refl }))
