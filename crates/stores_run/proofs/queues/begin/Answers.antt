-- `begin` meets its contract: the model `fresh_each`, with the strands as they were.
use Rattle.stores_run.proofs.queues.begin.Goals as goal

pub returns : goal.returns
returns c =
    let a = c.args in
    c.fresh_places.ensures a.s.strands
