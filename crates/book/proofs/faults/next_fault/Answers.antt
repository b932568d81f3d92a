-- `next_fault`: a lemma for each way out.
use mathlib.Core.Path.{◌∙◌}
use Rattle.book.specs.Faults.{counts}
use Rattle.book.proofs.Tests.{fault_literal}
use Rattle.book.proofs.faults.next_fault.Goals as goal

pub returns : goal.returns
returns c =
    let a = c.args in
    c.literal_fault.ensures
    ∙ fault_literal a.bytes.now a.at (counts a.goals a.clauses a.literals)
    c.if-at-bytes.false c.byte-b.result c.width-w.result c.byte-b.ensures c.width-w.ensures
    c.if-left-k.false c.byte-flags.result c.byte-flags.ensures c.is_crossed-crossed.result c.is_crossed-crossed.ensures
    c.if-w.false c.if-b-eq-GOAL.false c.if-b-eq-CLAUSE.false c.if-b-eq-END.false
