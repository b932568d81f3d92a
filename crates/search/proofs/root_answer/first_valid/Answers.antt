use Prim.Native.Nat.{ℕ, ◌+◌, ◌-◌, ◌<◌}
use native.Mathlib.Omega.{arith}
use mathlib.Core.Path.{◌≡◌, ap, ◌∙◌}
use lib.ListN.{get_or}
use Rattle.rings.specs.Rings.{walk}
use Rattle.search.specs.RootAnswer.{first_valid}
use Rattle.search.proofs.RootAnswerCases.{valid_before, valid_passed}
use Rattle.search.proofs.root_answer.first_valid.Goals as goal
use Rattle.search.proofs.root_answer.first_valid.Goals.{else-i-from-via-then-i-from+else-answers-wide-eq0, else-i-from-via-else-i-from}

pub loop-i-preserved : goal.loop-i-preserved
loop-i-preserved c =
    let a = c.args.answers.now in
    let l = c.loop-i in
    let n = c.from-count.result in
    let some : 0 < n - l.i = omega (arith, c.loop-i-test.true) in
    let less : n - (l.i + 1) ≡ n - l.i - 1 = omega arith in
    let rest : first_valid a.key c.args.from (l.i + 1) (walk (n - l.i - 1) a.places.next (get_or a.places.next c.wide.result 0))
    ≡ first_valid a.key c.args.from l.i (walk (n - l.i) a.places.next l.prev) =
    elim c.else-i-from.branch [
      | else-i-from-via-then-i-from+else-answers-wide-eq0 w ↦ valid_passed a.key c.args.from l.i a.places.next (n - l.i) l.prev c.wide.result
          c.wide.ensures.0 w.wide-then-i-from.result w.wide-then-i-from.ensures.0 some w.if-i-from.true w.if-answers-wide-eq0.false
      | else-i-from-via-else-i-from w ↦ valid_before a.key c.args.from l.i a.places.next (n - l.i) l.prev c.wide.result c.wide.ensures.0 some w.if-i-from.false
    ] in
    ap (λ (m : ℕ). first_valid a.key c.args.from (l.i + 1) (walk m a.places.next (get_or a.places.next c.wide.result 0))) less
    ∙ rest ∙ l.invariant
