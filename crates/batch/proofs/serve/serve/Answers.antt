-- `serve` is its model: what the call came to is told, or the next one is begun.
use mathlib.Core.Path.{◌∙◌}
use Rattle.search.specs.Walk.{standing}
use Rattle.batch.proofs.ServeCases.{serves_opened, serves_searched, serves_peeked, serves_future}
use Rattle.batch.proofs.serve.serve.Goals as goal

pub returns-then-call-eq0-clause-serves : goal.returns-then-call-eq0-clause-serves
returns-then-call-eq0-clause-serves c =
    let a = c.args in
    c.serve_open.ensures.serves a.stack.now a.s.course.clock a.replies.now
    ∙ serves_opened a.s (standing a.stores.now a.stack.now a.s.course.clock) a.replies.now a.book.now a.clock_limit a.calls.now c.if-s.false
    c.call_at-call.result c.call_at-call.ensures c.if-call-eq0.true

pub returns-then-call-eq0-clause-counts_stay : goal.returns-then-call-eq0-clause-counts_stay
returns-then-call-eq0-clause-counts_stay c = c.serve_open.ensures.counts_stay c.args.stack.now

pub returns-then-call-eq1-clause-serves : goal.returns-then-call-eq1-clause-serves
returns-then-call-eq1-clause-serves c =
    let a = c.args in
    c.serve_search.ensures.serves a.s.course.clock a.replies.now
    ∙ serves_searched a.s (standing a.stores.now a.stack.now a.s.course.clock) a.replies.now a.book.now a.clock_limit a.calls.now c.if-s.false
    c.call_at-call.result c.call_at-call.ensures c.if-call-eq0.false c.if-call-eq1.true

pub returns-then-call-eq2-clause-serves : goal.returns-then-call-eq2-clause-serves
returns-then-call-eq2-clause-serves c =
    let a = c.args in
    c.serve_peek.ensures.serves a.s.course.clock a.replies.now
    ∙ serves_peeked a.s (standing a.stores.now a.stack.now a.s.course.clock) a.replies.now a.book.now a.clock_limit a.calls.now c.if-s.false
    c.call_at-call.result c.call_at-call.ensures c.if-call-eq0.false c.if-call-eq1.false c.if-call-eq2.true

pub returns-clause-serves : goal.returns-clause-serves
returns-clause-serves c =
    let a = c.args in
    c.serve_future.ensures a.stack.now a.s.course.clock a.replies.now
    ∙ serves_future a.s (standing a.stores.now a.stack.now a.s.course.clock) a.replies.now a.book.now a.clock_limit a.calls.now c.if-s.false
    c.call_at-call.result c.call_at-call.ensures c.if-call-eq0.false c.if-call-eq1.false c.if-call-eq2.false
