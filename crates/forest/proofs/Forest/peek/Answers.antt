-- `peek` says what the definitions' `peek` says, at each way out.
use native.Mathlib.Omega.{arith}
use mathlib.Core.Path.{sym, subst}
use Rattle.stores.specs.Stack.{blank_stack}
use Rattle.forest.specs.declared.searches.PeekReply.{PeekReply}
use Rattle.forest.specs.Searches.{PeekSays, peeked, ran}
use Rattle.forest.proofs.SearchPeekCases.{peek_refused, peek_rounds_none, peek_limit, peek_ran}
use borrow.Author.Rules.{rules}
use Rattle.forest.proofs.Forest.peek.Goals as goal

pub returns-then-n-gt0 : goal.returns-then-n-gt0
returns-then-n-gt0 c =
    let a = c.args in
    let f = a.self.now in
    subst (λ (r : PeekReply). PeekSays f a.table a.index a.rounds a.limit (peeked r f)) (sym c.peeking_refused.ensures)
    (peek_refused f a.table a.index a.rounds a.limit c.refusal-n.result c.refusal-n.ensures c.if-n-gt0.true)

pub returns-then-rounds-eq0 : goal.returns-then-rounds-eq0
returns-then-rounds-eq0 c =
    let a = c.args in
    let f = a.self.now in
    subst (λ (r : PeekReply). PeekSays f a.table a.index a.rounds a.limit (peeked r f)) (sym c.peeking_refused-then-rounds-eq0.ensures)
    (peek_rounds_none f a.table a.index a.rounds a.limit c.refusal-n.result c.refusal-n.ensures
    c.if-n-gt0.false c.if-rounds-eq0.true)

pub returns-then-limit-eq0 : goal.returns-then-limit-eq0
returns-then-limit-eq0 c =
    let a = c.args in
    let f = a.self.now in
    subst (λ (r : PeekReply). PeekSays f a.table a.index a.rounds a.limit (peeked r f)) (sym c.peeking_refused-then-limit-eq0.ensures)
    (peek_limit f a.table a.index a.rounds a.limit c.refusal-n.result c.refusal-n.ensures
    c.if-n-gt0.false c.if-rounds-eq0.false c.if-limit-eq0.true)

pub returns : goal.returns
returns c =
    let a = c.args in
    peek_ran a.self.now a.table a.index a.rounds a.limit c.refusal-n.result c.refusal-n.ensures c.if-n-gt0.false
    c.if-rounds-eq0.false c.if-limit-eq0.false (omega (arith, c.ranges.limit)) (omega (arith, c.ranges.rounds))
    blank_stack (λ o. o) (ran c.run-c.result c.run-c.new.self)
    c.run-c.ensures c.outcome_of.result c.outcome_of.ensures
