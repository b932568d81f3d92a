use Rattle.std.proofs.lemmas.Bool.{not_from_false, not_from_true}
use Rattle.book.proofs.SameClauses.{counts_apart, more_left, two_differ}
use Rattle.book.proofs.Book.same_literals.Goals as goal

pub returns-then-literal_count-count : goal.returns-then-literal_count-count
returns-then-literal_count-count c =
    let b = c.args.self.now in
    counts_apart b.clause_len b.literal_kind b.literal_goal b.literal_want c.args.c c.args.d _ _ c.literal_count-count.ensures
    c.literal_count.ensures c.if-literal_count-count.true

pub returns-then-not-same_literal : goal.returns-then-not-same_literal
returns-then-not-same_literal c =
    let b = c.args.self.now in
    two_differ b.clause_len b.literal_kind b.literal_goal b.literal_want c.args.c c.args.d _ _ c.loop-j.invariant _ _ _
    c.loop-j-test.true c.literal-l.ensures c.literal-m.ensures
    c.same_literal.ensures (not_from_false _ c.if-not-same_literal.true)

pub loop-j-preserved : goal.loop-j-preserved
loop-j-preserved c =
    let b = c.args.self.now in
    more_left b.clause_len b.literal_kind b.literal_goal b.literal_want c.args.c c.args.d _ _ c.loop-j.invariant _ _ _
    c.loop-j-test.true c.literal-l.ensures c.literal-m.ensures
    c.same_literal.ensures (not_from_true _ c.if-not-same_literal.false)
