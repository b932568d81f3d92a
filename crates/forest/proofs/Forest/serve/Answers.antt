-- `serve` meets its contract: the loop's own, from the forest's stage on.
use mathlib.Core.Path.{refl}
use Rattle.forest.specs.declared.Forest.{Forest}
use Rattle.forest.specs.Searches.{renumbered}
use Rattle.forest.proofs.ServeCallsCases.{calls_served}
use Rattle.forest.proofs.Forest.serve.Goals as goal

pub returns : goal.returns
returns c =
    let a = c.args in
    let f = a.self.now in
    let s = c.serve_all-s.result in
    let left : Forest = renumbered (record {
      book = f.book;
      stores = c.serve_all-s.new.stores;
      clock_limit = f.clock_limit;
      mark = f.mark;
      clock = f.clock;
    }) s.course in
    λ o. rw c.carry.ensures
    (calls_served f a.count c.at_most.result c.at_most.ensures a.calls.now a.replies.now
    c.all_fit.ensures c.first_serving-first.result c.first_serving-first.ensures c.blank_stack-stack.result c.blank_stack-stack.ensures
    s left c.serve_all-s.new.replies c.serve_all-s.new.stack c.serve_all-s.ensures.serves refl o)
