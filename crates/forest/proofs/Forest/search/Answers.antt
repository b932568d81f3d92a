-- `search` says what the definitions' `search` says, at each way out.
use native.Mathlib.Omega.{arith}
use mathlib.Core.Path.{sym, subst}
use Rattle.stores.specs.Stack.{blank_stack}
use Rattle.forest.specs.declared.searches.SearchReply.{SearchReply}
use Rattle.forest.specs.Searches.{SearchSays, searched, ran}
use Rattle.forest.proofs.SearchPeekCases.{search_refused, search_limit, search_ran}
use borrow.Author.Rules.{rules}
use Rattle.forest.proofs.Forest.search.Goals as goal

pub returns-then-n-gt0 : goal.returns-then-n-gt0
returns-then-n-gt0 c =
    let a = c.args in
    let f = a.self.now in
    subst (λ (r : SearchReply). SearchSays f a.table a.index a.limit (searched r f)) (sym c.searching_refused.ensures)
    (search_refused f a.table a.index a.limit c.refusal-n.result c.refusal-n.ensures c.if-n-gt0.true)

pub returns-then-limit-eq0 : goal.returns-then-limit-eq0
returns-then-limit-eq0 c =
    let a = c.args in
    let f = a.self.now in
    subst (λ (r : SearchReply). SearchSays f a.table a.index a.limit (searched r f)) (sym c.searching_refused-then-limit-eq0.ensures)
    (search_limit f a.table a.index a.limit c.refusal-n.result c.refusal-n.ensures c.if-n-gt0.false c.if-limit-eq0.true)

pub returns : goal.returns
returns c =
    let a = c.args in
    search_ran a.self.now a.table a.index a.limit c.refusal-n.result c.refusal-n.ensures c.if-n-gt0.false c.if-limit-eq0.false
    (omega (arith, c.ranges.limit)) blank_stack (λ o. o) (ran c.run-c.result c.run-c.new.self) c.run-c.ensures
    c.outcome_of.result c.outcome_of.ensures
