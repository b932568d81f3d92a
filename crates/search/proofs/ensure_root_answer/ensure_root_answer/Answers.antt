use mathlib.Core.Path.{◌∙◌}
use Rattle.search.specs.Walk.{is_over}
use Rattle.search.proofs.Bytes.{wide_fits}
use Rattle.search.proofs.Looping.{still_on, now_over}
use Rattle.search.proofs.Settling.{settled_further, settled_falls}
use Rattle.search.proofs.ensure_root_answer.ensure_root_answer.Goals as goal

pub loop-course-smaller : goal.loop-course-smaller
loop-course-smaller c =
    let l = c.loop-course in
    let a = c.args in
    settled_falls a.book.now c.settle-course.ensures.settles (still_on l.course.over c.loop-course-test.true)
    c.look-l.result c.look-l.ensures c.pick-k.result c.pick-k.ensures _ c.pass-course.ensures.passes (wide_fits a.asked.limit c.well_formed.0.1.1.1.1.0.1)

pub loop-course-preserved : goal.loop-course-preserved
loop-course-preserved c =
    let l = c.loop-course in
    let a = c.args in (
      λ x h. l.invariant.0 x (settled_further a.book.now c.settle-course.ensures.settles (still_on l.course.over c.loop-course-test.true)
          c.look-l.result c.look-l.ensures c.pick-k.result c.pick-k.ensures _ c.pass-course.ensures.passes x h),
      c.pass-course.ensures.counts_stay ∙ c.settle-course.ensures.counts_stay ∙ l.invariant.1,
    )

pub returns-clause-comes : goal.returns-clause-comes
returns-clause-comes c =
    let l = c.loop-course in
    l.invariant.0 _ (is_over (now_over l.course.over c.loop-course-test.false))
