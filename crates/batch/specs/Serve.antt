-- A call is begun, or what it came to is told: models over all that is lent.
use Rattle.std.specs.Prelude.{ℕ, ◌+◌, ◌-◌, ◌%◌, Bool, true, false, List, [], ◌∷◌, eqb, leb, ltb, drop, get_or}
use Rattle.definitions.specs.{MAX}
use Rattle.definitions.specs.Book.{bit1}
use Rattle.sizes.specs.Limits.{most_places}
use Rattle.rings.specs.Rings.{ring_of}
use Rattle.book.specs.Access.{entry}
use Rattle.book.specs.declared.Book.{Book}
use Rattle.stores.specs.Numbers.{free, first_at, within}
use Rattle.stores.specs.Places as stores
use Rattle.stores.specs.Places.{found_in}
use Rattle.stores.specs.Stack.{pushed}
use Rattle.control.specs.declared.performed.Flow.TheVariants as flow
use Rattle.control.specs.MakeTables.{Tabling, tabling, tables_from}
use Rattle.control.specs.PerformDeed.{bare}
use Rattle.control.specs.PerformStrand.{Lent, lent_of}
use Rattle.control.specs.SelectSubgoal.{strands_by}
use Rattle.search.specs.declared.course.Asked.{Asked}
use Rattle.search.specs.declared.course.Course.{Course}
use Rattle.search.specs.declared.course.Ending.TheVariants as endings
use Rattle.search.specs.declared.course.Mode.{Mode}
use Rattle.search.specs.declared.course.Mode.TheVariants as modes
use Rattle.search.specs.RootAnswer.{one_more, start}
use Rattle.search.specs.Walk.{numbered}
use Rattle.batch.specs.declared.calls.Call.{Call}
use Rattle.batch.specs.declared.calls.Said.{Said}
use Rattle.batch.specs.declared.calls.Said.TheVariants as saying
use Rattle.batch.specs.declared.calls.Serving.{Serving}
use Rattle.batch.specs.Calls.{call_at, reply_of, reply_put}
use Rattle.batch.specs.Refusal.{refusal_in}

-- HOW FAR THE CALLS ARE, and the stores as they are lent, with the numbers that the course at hand carries
pub record Stage : Type 0 where
  pub serving : Serving
  pub lent : Lent
  pub replies : List ℕ

abbrev pub stage : Serving → Lent → (replies : List ℕ) → Stage
stage s w replies = record { serving = s; lent = numbered s.course w; replies = replies }

-- a course that is over, with these numbers
abbrev pub over_with : (mark count used : ℕ) → Course → Course
over_with mark count used c = record {
  over = true;
  ending = c.ending;
  flow = c.flow;
  index = c.index;
  more = c.more;
  exceeded = c.exceeded;
  done = c.done;
  mark = mark;
  count = count;
  depth = c.depth;
  clock = c.clock;
  used = used;
  answer_used = c.answer_used;
}

-- the call at hand came to this, with no search
abbrev pub came_to : Said → Course → Serving → Serving
came_to said c s = record { at = s.at; busy = true; said = said; asked = s.asked; course = c }

abbrev pub said_at_once : Said → Serving → Serving
said_at_once said s =
    let c = s.course in
    came_to said (over_with c.mark c.count c.used c) s

-- OPENING
module _ (b : Book) where
  -- the table of this goal is made
  abbrev pub tables_made : (g : ℕ) → Lent → Tabling
  tables_made g w =
      tables_from b.goal_flags b.goal_first b.goal_len b.clause_variant b.clause_flags
      (g ∷ 0 ∷ 0 ∷ 0 ∷ 0 ∷ 0 ∷ 0 ∷ 0 ∷ []) 1 0 (tabling w.tables w.strands)

  abbrev pub opened_with : Tabling → Serving → Lent → (replies : List ℕ) → Stage
  opened_with m s w replies =
      let c = s.course in
      stage (came_to (saying.Table c.count) (over_with c.mark m.tables.count m.strands.places.top c) s)
      (lent_of m.tables m.strands w.answers w.stack w.clock) replies

  abbrev pub open_by : (marked missing there full : Bool) → (t g : ℕ) → Serving → Lent → (replies : List ℕ) → Stage
  open_by true missing there full t g s w replies = stage (said_at_once (saying.Refused 20) s) w replies
  open_by false true there full t g s w replies = stage (said_at_once (saying.Refused 9) s) w replies
  open_by false false true full t g s w replies = stage (said_at_once (saying.Table t) s) w replies
  open_by false false false true t g s w replies =
      let c = s.course in
      stage (came_to (saying.Stopped 22) (over_with 22 c.count c.used c) s) w replies
  open_by false false false false t g s w replies = opened_with (tables_made g w) s w replies

  abbrev pub table_of : (g : ℕ) → Lent → ℕ
  table_of g w = first_at (λ i. eqb (get_or w.tables.goal i 0) g) 0 (within w.tables.count)

  -- the strands that are live, and those that a table of the goal begins with
  abbrev pub live_with : (g : ℕ) → Lent → ℕ
  live_with g w =
      (w.strands.places.top - get_or w.strands.places.len free 0)
      + strands_by (bit1 (entry 64 b.goal_flags g)) (entry 64 b.goal_len g)

  abbrev pub opens : (goal : ℕ) → Stage → Stage
  opens goal v =
      let s = v.serving in
      let w = v.lent in
      let g = goal % 256 in
      open_by (ltb 0 s.course.mark) (leb b.goals goal) (ltb (table_of g w) s.course.count) (ltb 256 (live_with g w))
      (table_of g w) g s w v.replies

-- SEARCHING
abbrev pub first_course : (index more : ℕ) → Course → Course
first_course index more c = record {
  over = false;
  ending = endings.Cut;
  flow = flow.Continue;
  index = index;
  more = more;
  exceeded = 0;
  done = 0;
  mark = c.mark;
  count = c.count;
  depth = 0;
  clock = c.clock;
  used = c.used;
  answer_used = c.answer_used;
}

abbrev pub started : Asked → Lent → Course → Course
started asked w c =
    let a = w.answers in
    start asked w.tables.floundered a.places.next a.places.tail a.places.len a.variant a.key a.ambiguous c

-- the first search of the call is started, with the root's entry at the bottom of the stack
abbrev pub begun_with : Said → Asked → Course → Serving → Lent → (replies : List ℕ) → Stage
begun_with said asked c s w replies =
    stage (record { at = s.at; busy = true; said = said; asked = asked; course = c })
    (lent_of w.tables w.strands w.answers (pushed asked.table c.clock MAX (bare w.stack)) w.clock) replies

abbrev pub begins : Said → Asked → (index more : ℕ) → Stage → Stage
begins said asked index more v =
    begun_with said asked (started asked v.lent (first_course index more v.serving.course)) v.serving v.lent v.replies

abbrev pub refuses : (number : ℕ) → Stage → Stage
refuses n v = stage (said_at_once (saying.Refused n) v.serving) v.lent v.replies

abbrev pub asked_for : Mode → (table limit clock_limit : ℕ) → Asked
asked_for mode table limit clock_limit =
    record { mode = mode; table = table % 256; limit = limit; clock_limit = clock_limit }

abbrev pub refusal_at : (table index : ℕ) → Stage → ℕ
refusal_at table index v =
    let c = v.serving.course in
    refusal_in c.mark c.count v.lent.tables.floundered v.lent.answers.places.len table index

abbrev pub search_by : (refused none_asked : Bool) → (number clock_limit table index limit : ℕ) → Stage → Stage
search_by true none_asked n clock_limit table index limit v = refuses n v
search_by false true n clock_limit table index limit v = refuses 12 v
search_by false false n clock_limit table index limit v =
    begins saying.Searched (asked_for modes.Search table limit clock_limit) index 0 v

abbrev pub searches : (clock_limit table index limit : ℕ) → Stage → Stage
searches clock_limit table index limit v =
    search_by (ltb 0 (refusal_at table index v)) (eqb limit 0) (refusal_at table index v) clock_limit table index limit v

abbrev pub peek_by : (refused no_round none_asked : Bool) → (number clock_limit table index rounds limit : ℕ) → Stage → Stage
peek_by true no_round none_asked n clock_limit table index rounds limit v = refuses n v
peek_by false true none_asked n clock_limit table index rounds limit v = refuses 12 v
peek_by false false true n clock_limit table index rounds limit v = refuses 12 v
peek_by false false false n clock_limit table index rounds limit v =
    begins saying.Peeked (asked_for modes.Peek table limit clock_limit) index (rounds - 1) v

abbrev pub peeks : (clock_limit table index rounds limit : ℕ) → Stage → Stage
peeks clock_limit table index rounds limit v =
    peek_by (ltb 0 (refusal_at table index v)) (eqb rounds 0) (eqb limit 0) (refusal_at table index v) clock_limit table index rounds
    limit v

-- WHAT MAY COME
abbrev pub from_index : (above : Bool) → (index : ℕ) → ℕ
from_index true index = 256
from_index false index = index

abbrev pub future_by : (missing stored queued : Bool) → Said
future_by true stored queued = saying.Refused 10
future_by false true queued = saying.Future true
future_by false false queued = saying.Future queued

abbrev pub stored_from : (t from variant : ℕ) → Lent → Bool
stored_from t from variant w =
    let a = w.answers in
    ltb (found_in (stores.numbered false a.variant variant a.key 0)
    (drop from (ring_of a.places.next a.places.tail a.places.len t))) most_places

abbrev pub queued_in : (t variant : ℕ) → Lent → Bool
queued_in t variant w =
    let s = w.strands in
    ltb (found_in (stores.numbered false s.variant variant s.time 0)
    (ring_of s.places.next s.places.tail s.places.len t)) most_places

abbrev pub future_said : (table index variant : ℕ) → Stage → Said
future_said table index variant v =
    let w = v.lent in
    future_by (leb v.serving.course.count table) (stored_from (table % 256) (from_index (ltb 256 index) index) variant w)
    (queued_in (table % 256) variant w)

abbrev pub asks_future : (table index variant : ℕ) → Stage → Stage
asks_future table index variant v = stage (said_at_once (future_said table index variant v) v.serving) v.lent v.replies

-- TELLING: the reply is written, and the next call is at hand
abbrev pub next_call : Serving → Serving
next_call s = record { at = one_more s.at; busy = false; said = s.said; asked = s.asked; course = s.course }

abbrev pub told : Stage → Stage
told v =
    let s = v.serving in
    stage (next_call s) v.lent (reply_put s.at (reply_of s.said s.course) v.replies)

-- ONE OR THE OTHER
module _ (b : Book) (clock_limit : ℕ) where
  abbrev pub begun_by : (opening search peek : Bool) → Call → Stage → Stage
  begun_by true search peek k v = opens b k.a v
  begun_by false true peek k v = searches clock_limit k.a k.b k.c v
  begun_by false false true k v = peeks clock_limit k.a k.b k.c k.d v
  begun_by false false false k v = asks_future k.a k.b k.c v

  abbrev pub begun : Call → Stage → Stage
  begun k v = begun_by (eqb k.kind 0) (eqb k.kind 1) (eqb k.kind 2) k v

  module _ (calls : List ℕ) where
    abbrev pub served_by : (busy : Bool) → Stage → Stage
    served_by true v = told v
    served_by false v = begun (call_at calls v.serving.at) v

    abbrev pub served : Stage → Stage
    served v = served_by v.serving.busy v
