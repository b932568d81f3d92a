use mathlib.Core.Path.{◌≡◌, refl, sym, ◌∙◌}
use Rattle.stores.specs.declared.Stores.{Stores}
use Rattle.stores.specs.declared.stack.Stack.{Stack}
use Rattle.search.proofs.Settling.{rest_none, rest_going, rest_settles, turn_settles, still_may, fewer}
use Rattle.search.proofs.Bytes.{wide_fits}
use Rattle.search.proofs.settle.settle.Goals as goal

pub loop-more-init : goal.loop-more-init
loop-more-init c = (
  λ e. sym c.may_settle-more.ensures ∙ e,
  λ u h. rest_settles c.args.asked _ c.may_settle-more.result c.may_settle-more.ensures u h,
  refl,
)

pub loop-more-preserved : goal.loop-more-preserved
loop-more-preserved c =
    let l = c.loop-more in
    let a = c.args in
    let r = c.number_turn-t.result in
    let n = c.number_turn-t.new in
    let s = l.stores in
    let s' : Stores = record {
      tables = s.tables;
      strands = record {
        strands = s.strands.strands;
        time = n.time;
        ambiguous = s.strands.ambiguous;
        variant = s.strands.variant;
        waits = s.strands.waits;
        wants = s.strands.wants;
        places = record { next = n.next; tail = n.tail; len = n.len; top = s.strands.places.top };
      };
      answers = s.answers;
    } in
    let k' : Stack = record {
      depth = l.stack.depth;
      table = n.entry_table;
      clock = n.entry_clock;
      positive = n.positive;
      negative = n.negative;
      active = n.active;
    } in (
      λ is. still_may r.settled a.asked c.done_after-done.result c.settles_on-more.result c.settles_on-more.ensures is,
      λ u h. l.invariant.1 u
          (rest_going l.more c.loop-more-test.true
          (turn_settles a.asked l.c s s' l.stack k'
          (l.invariant.0 c.loop-more-test.true) r.settled r.depth r.clock c.done_after-done.result
          c.flow_after-flow.result
          (c.number_turn-t.ensures l.c.count s.tables.goal s.strands.strands s.strands.variant l.c.used s.answers.answers s.answers.variant
          s.answers.key s.answers.ambiguous l.c.answer_used)
          c.done_after-done.ensures c.flow_after-flow.ensures c.settles_on-more.result c.settles_on-more.ensures u h)),
      l.invariant.2,
    )
