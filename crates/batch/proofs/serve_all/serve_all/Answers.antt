use native.Mathlib.Omega.{arith}
use mathlib.Core.Path.{sym, ◌∙◌}
use Rattle.search.specs.Walk.{standing}
use Rattle.search.proofs.Settling.{settled_further, settled_falls}
use Rattle.batch.specs.Serve.{stage}
use Rattle.batch.proofs.ServeAllCases.{runs_on, serves_call, serves_turn, serves_none, serve_falls, course_falls}
use Rattle.batch.proofs.serve_all.serve_all.Goals as goal

pub loop-s-smaller-then-not-runs : goal.loop-s-smaller-then-not-runs
loop-s-smaller-then-not-runs c =
    let l = c.loop-s in
    let a = c.args in
    serve_falls a.book.now a.clock_limit a.calls.now a.count (omega (arith, c.ranges.count.fits))
    (stage l.s (standing l.stores l.stack l.s.course.clock) l.replies) c.loop-s-test.true _ c.serve-s.ensures.serves

pub loop-s-preserved-then-not-runs : goal.loop-s-preserved-then-not-runs
loop-s-preserved-then-not-runs c =
    let l = c.loop-s in
    let a = c.args in
    let idle = sym c.runs.ensures.0 ∙ c.if-not-runs.true in (
      λ u h. l.invariant.0 u (serves_call a.book.now a.clock_limit a.calls.now a.count
          (stage l.s (standing l.stores l.stack l.s.course.clock) l.replies) c.loop-s-test.true idle _ c.serve-s.ensures.serves u h),
      c.serve-s.ensures.counts_stay ∙ l.invariant.1,
    )

pub loop-s-smaller : goal.loop-s-smaller
loop-s-smaller c =
    let l = c.loop-s in
    let on = sym c.runs.ensures.0 ∙ c.if-not-runs.false in
    let fits = c.runs.ensures.1 in
    course_falls c.args.count l.s on fits c.runs.ensures.2 c.pass-course.result
    (settled_falls c.args.book.now c.settle-c.ensures.settles (runs_on l.s.busy l.s.course.over on) c.look-l.result c.look-l.ensures
    c.pick-k.result c.pick-k.ensures _ c.pass-course.ensures.passes fits) c.with_course-s.result c.with_course-s.ensures

pub loop-s-preserved : goal.loop-s-preserved
loop-s-preserved c =
    let l = c.loop-s in
    let a = c.args in
    let on = sym c.runs.ensures.0 ∙ c.if-not-runs.false in
    let q = c.pass-course.result in
    let n = c.pass-course.new in (
      λ u h. l.invariant.0 u (serves_turn a.book.now a.clock_limit a.calls.now a.count
          (stage l.s (standing l.stores l.stack l.s.course.clock) l.replies) c.loop-s-test.true on q (standing n.stores n.stack q.clock)
          (λ x h'. settled_further a.book.now c.settle-c.ensures.settles (runs_on l.s.busy l.s.course.over on) c.look-l.result c.look-l.ensures
          c.pick-k.result c.pick-k.ensures _ c.pass-course.ensures.passes x h') c.with_course-s.result c.with_course-s.ensures u h),
      c.pass-course.ensures.counts_stay ∙ c.settle-c.ensures.counts_stay ∙ l.invariant.1,
    )

pub returns-clause-serves : goal.returns-clause-serves
returns-clause-serves c =
    let l = c.loop-s in
    let a = c.args in
    l.invariant.0 _ (serves_none a.book.now a.clock_limit a.calls.now a.count _ c.loop-s-test.false)
