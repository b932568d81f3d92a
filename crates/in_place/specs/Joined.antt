-- What a call tells, put together with the search or the forest that it leaves.
use Rattle.control.specs.declared.performed.Flow.{Flow}
use Rattle.search.specs.declared.solve_state.Search.{Search}
use Rattle.search.specs.declared.solve_state.Turned.{Turned}
use Rattle.forest.specs.declared.Forest.{Forest}
use Rattle.forest.specs.declared.open.Opened.{Opened}
use Rattle.forest.specs.declared.open.Opening.{Opening}
use Rattle.forest.specs.declared.searches.Peeked.{Peeked}
use Rattle.forest.specs.declared.searches.Searched.{Searched}
use Rattle.forest.specs.declared.searches.SearchReply.{SearchReply}
use Rattle.forest.specs.declared.searches.PeekReply.{PeekReply}

abbrev pub turned : Flow → Search → Turned
turned flow s = record { flow = flow; search = s }

abbrev pub opened : Opening → Forest → Opened
opened o f = record { opening = o; forest = f }

abbrev pub searched : SearchReply → Forest → Searched
searched z f = record { outcome = z.outcome; turns = z.turns; forest = f }

abbrev pub peeked : PeekReply → Forest → Peeked
peeked z f = record { outcome = z.outcome; index = z.index; turns = z.turns; exceeded = z.exceeded; forest = f }
