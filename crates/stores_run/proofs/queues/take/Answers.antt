-- `take` meets its contract: the model `taken_strand`.
use Rattle.stores_run.proofs.Owners.{take_of}
use Rattle.stores_run.proofs.queues.take.Goals as goal

pub returns : goal.returns
returns c =
    let a = c.args in
    let r = c.take_strand-q in
    take_of a.s a.t a.clock r.new.next r.new.tail r.new.len r.result r.ensures
