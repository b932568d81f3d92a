-- How far a search has come: its small changes.
use Rattle.std.specs.Prelude.{Bool, true, false}
use Rattle.control.specs.declared.performed.Carried.{Carried}
use Rattle.control.specs.declared.performed.Flow.{Flow}
use Rattle.search.specs.declared.course.Course.{Course}
use Rattle.search.specs.declared.course.Ending.{Ending}
use Rattle.search.specs.declared.course.Mode.{Mode}
use Rattle.search.specs.declared.course.Mode.TheVariants as modes

abbrev pub is_turn : Mode → Bool
is_turn modes.Turn = true
is_turn modes.Search = false
is_turn modes.Peek = false

abbrev pub is_peek : Mode → Bool
is_peek modes.Turn = false
is_peek modes.Search = false
is_peek modes.Peek = true

abbrev pub ended : Ending → Course → Course
ended ending c = record {
  over = true;
  ending = ending;
  flow = c.flow;
  index = c.index;
  more = c.more;
  exceeded = c.exceeded;
  done = c.done;
  mark = c.mark;
  count = c.count;
  depth = c.depth;
  clock = c.clock;
  used = c.used;
  answer_used = c.answer_used;
}

abbrev pub carried : Course → Carried
carried c = record { count = c.count; depth = c.depth; clock = c.clock; used = c.used; answer_used = c.answer_used }

abbrev pub carry : Flow → Carried → Course → Course
carry f now c = record {
  over = c.over;
  ending = c.ending;
  flow = f;
  index = c.index;
  more = c.more;
  exceeded = c.exceeded;
  done = c.done;
  mark = c.mark;
  count = now.count;
  depth = now.depth;
  clock = now.clock;
  used = now.used;
  answer_used = now.answer_used;
}
