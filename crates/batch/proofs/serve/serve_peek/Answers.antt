-- `serve_peek` is its model at each way out.
use mathlib.Core.Path.{◌∙◌}
use Rattle.search.specs.Walk.{standing}
use Rattle.batch.proofs.ServeCases.{peeks_begun}
use Rattle.batch.proofs.serve.serve_peek.Goals as goal

pub returns-clause-serves : goal.returns-clause-serves
returns-clause-serves c =
    let a = c.args in
    λ clock replies. c.begin.ensures.serves clock replies
    ∙ peeks_begun a.s (standing a.stores.now a.stack.now clock) replies a.clock_limit
    a.call.a a.call.b c.refusal-n.result c.refusal-n.ensures a.call.c a.call.d
    c.if-n-gt0.false c.if-call-eq0.false c.if-call-eq0-2.false
