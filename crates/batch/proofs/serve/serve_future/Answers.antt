-- `serve_future` is its model: no such table, a variant that no number of 16 bits is, a stored answer, or the queue.
use Rattle.search.specs.Walk.{standing}
use Rattle.batch.proofs.ServeCases.{comes_large}
use Rattle.batch.proofs.serve.serve_future.Goals as goal

pub returns-then-call-gt65535 : goal.returns-then-call-gt65535
returns-then-call-gt65535 c =
    let a = c.args in
    λ stack clock replies. comes_large a.s (standing a.stores.now stack clock) replies
    a.call.a a.call.b a.call.c c.if-call-s.false c.if-call-gt65535.true c.all_small.ensures
    c.all_small-then-call-gt65535.ensures c.at_once-then-call-gt65535.result c.at_once-then-call-gt65535.ensures
