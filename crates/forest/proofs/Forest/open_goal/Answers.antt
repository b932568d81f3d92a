-- `open_goal` says what the definitions' `open_goal` says: the call is served by itself.
use mathlib.Core.List.{[]}
use mathlib.Core.Path.{refl}
use Rattle.stores.specs.Stack.{blank_stack}
use Rattle.forest.specs.declared.Forest.{Forest}
use Rattle.forest.specs.Searches.{renumbered}
use Rattle.forest.proofs.Opening.{open_served}
use Rattle.forest.proofs.Forest.open_goal.Goals as goal

pub returns : goal.returns
returns c =
    let f = c.args.self.now in
    let s = c.serve_open-s.result in
    let left : Forest = renumbered (record {
      book = f.book;
      stores = c.serve_open-s.new.stores;
      clock_limit = f.clock_limit;
      mark = f.mark;
      clock = f.clock;
    }) s.course in
    rw c.carry.ensures
    (open_served f c.args.goal_asked c.first_serving-first.result c.first_serving-first.ensures s left
    c.opening_of.result c.opening_of.ensures (c.serve_open-s.ensures.serves blank_stack f.clock []) refl)
