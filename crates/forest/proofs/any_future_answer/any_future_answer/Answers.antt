-- `any_future_answer` meets its contract: no such table, a variant that no number of 16 bits is, a stored answer, or the queue.
use Prim.Native.Nat.{◌%◌}
use mathlib.Core.Logic.{inl, inr}
use Rattle.forest.proofs.AnyFutureAnswerCases.{low_variant, says_unmade, says_large, says_stored, says_queued}
use Rattle.forest.proofs.any_future_answer.any_future_answer.Goals as goal
use Rattle.forest.proofs.any_future_answer.any_future_answer.Goals.{then-index-gt256, else-index-gt256}

pub returns-then-table-f : goal.returns-then-table-f
returns-then-table-f c =
    let a = c.args in
    says_unmade a.f a.table a.index a.variant c.if-table-f.true

pub returns-then-variant-gt65535 : goal.returns-then-variant-gt65535
returns-then-variant-gt65535 c =
    let a = c.args in
    says_large a.f a.table a.index a.variant c.if-table-f.false c.if-variant-gt65535.true c.all_small.ensures
    c.all_small-then-variant-gt65535.ensures

pub returns-then-any_answer : goal.returns-then-any_answer
returns-then-any_answer c =
    let a = c.args in
    says_stored a.f a.table a.index a.variant c.if-table-f.false (a.variant % 65536)
    (low_variant a.variant c.if-variant-gt65535.false) c.if-index-gt256.from
    (elim c.if-index-gt256.branch [
      | then-index-gt256 w ↦ inl (w.if-index-gt256.true, w.from-is)
      | else-index-gt256 w ↦ inr (w.if-index-gt256.false, w.from-is)
    ])
    c.any_answer.result c.any_answer.ensures c.if-any_answer.true

pub returns : goal.returns
returns c =
    let a = c.args in
    says_queued a.f a.table a.index a.variant c.if-table-f.false (a.variant % 65536)
    (low_variant a.variant c.if-variant-gt65535.false) c.if-index-gt256.from
    (elim c.if-index-gt256.branch [
      | then-index-gt256 w ↦ inl (w.if-index-gt256.true, w.from-is)
      | else-index-gt256 w ↦ inr (w.if-index-gt256.false, w.from-is)
    ])
    c.any_answer.result c.any_answer.ensures c.if-any_answer.false c.any_strand-any.result c.any_strand-any.ensures
