-- `turn` meets its contract: with nothing on the stack it stops; else the loop does one pass, and by whether that stops, the search is what
-- it was or what the pass left.
use Rattle.search.proofs.SolveStateCases.{turn_stopped, turn_left}
use Rattle.search.proofs.solve_state.turn.Goals as goal

pub returns-then-is_stop : goal.returns-then-is_stop
returns-then-is_stop c =
    turn_stopped c.args.s c.if-s-eq0.false c.ensure_root_answer-course.ensures.comes c.is_stop.result c.is_stop.ensures c.if-is_stop.true

pub returns : goal.returns
returns c =
    turn_left c.args.s c.if-s-eq0.false c.ensure_root_answer-course.ensures.comes c.is_stop.result
    c.is_stop.ensures c.if-is_stop.false c.one_more.result c.one_more.ensures
