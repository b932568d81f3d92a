-- The loop of a search: what it goes over, one pass, and what it comes to.
use Rattle.std.specs.Prelude.{ℕ, ◌-◌, Bool, true, false, List, ◌≡◌, leb, ltb, get_or, set}
use Rattle.definitions.specs.{MAX}
use Rattle.book.specs.declared.Book.{Book}
use Rattle.strands.specs.declared.Answer.{Answer}
use Rattle.strands.specs.declared.Strand.{Strand}
use Rattle.stores.specs.declared.Stores.{Stores}
use Rattle.stores.specs.declared.stack.Stack.{Stack}
use Rattle.stores.specs.Numbers.{free, within}
use Rattle.stores.specs.Places.{places}
use Rattle.stores.specs.Queue.{store, with_places}
use Rattle.stores.specs.Stack.{pushed}
use Rattle.stores.specs.View.{unread_strand, unread_answer}
use Rattle.control.specs.declared.performed.Carried.{Carried}
use Rattle.control.specs.declared.performed.Flow.{Flow}
use Rattle.control.specs.declared.performed.Flow.TheVariants as flow
use Rattle.control.specs.Choose.{decide}
use Rattle.control.specs.MakeTables.{tables_of}
use Rattle.control.specs.Perform.{performed}
use Rattle.control.specs.PerformDeed.{stack_of, answers_of, bare}
use Rattle.control.specs.TurnWrites.{put}
use Rattle.control.specs.PerformStrand.{Lent, lent_of, TurnDone}
use Rattle.control.specs.UnwindStack.{all_back}
use Rattle.number_turns.specs.NumberTurn.{NumberTurn, number_turn}
use Rattle.search.specs.declared.course.Asked.{Asked}
use Rattle.search.specs.declared.course.Course.{Course}
use Rattle.search.specs.declared.ensure_root_answer.Looked.{Looked}
use Rattle.search.specs.declared.ensure_root_answer.Picked.{Picked}
use Rattle.search.specs.Course.{is_turn, carry}
use Rattle.search.specs.EnsureRootAnswer.{looked, picked}
use Rattle.search.specs.RootAnswer.{one_more, course_at, end_search}

-- THE WALK: how far it has come, and the stores as they are lent
pub record Walk : Type 0 where
  pub course : Course
  pub lent : Lent

-- what is lent, with the numbers that the course carries
abbrev pub numbered : Course → Lent → Lent
numbered c w =
    let ts = w.tables in
    let s = w.strands in
    let a = w.answers in
    let k = w.stack in
    lent_of (tables_of c.count ts.goal ts.coinductive ts.floundered ts.complete)
    (store s.strands s.time s.ambiguous s.variant s.waits s.wants
    (places s.places.next s.places.tail s.places.len c.used))
    (answers_of a.answers a.variant a.key a.ambiguous
    (places a.places.next a.places.tail a.places.len c.answer_used))
    (stack_of c.depth k.table k.clock k.positive k.negative k.active) c.clock

abbrev pub walk : Course → Lent → Walk
walk c w = record { course = c; lent = numbered c w }

-- what the stores and the stack hold, at this clock
abbrev pub standing : Stores → Stack → (clock : ℕ) → Lent
standing s k clock = lent_of s.tables s.strands s.answers k clock

-- THE WALK of a course through the stores: their own counts are the course's as long as it goes on
abbrev pub walking : Course → Stores → Stack → Walk
walking c s k = walk c (standing s k c.clock)

-- THE COUNTS that the stores and the stack have themselves: a course has its own in their place, and leaves these as they are
pub record Counts : Type 0 where
  pub tables : ℕ
  pub strands : ℕ
  pub answers : ℕ
  pub entries : ℕ

abbrev pub counts : Stores → Stack → Counts
counts s k = record {
  tables = s.tables.count;
  strands = s.strands.places.top;
  answers = s.answers.places.top;
  entries = k.depth;
}

-- the numbers that a turn leaves
abbrev pub numbers_of : Lent → Carried
numbers_of w = record {
  count = w.tables.count;
  depth = w.stack.depth;
  clock = w.clock;
  used = w.strands.places.top;
  answer_used = w.answers.places.top;
}

-- AFTER A TURN

-- a search that may go on: its turn did not end it, and one is left
abbrev pub goes_by : (turns : Bool) → Flow → (done limit : ℕ) → Bool
goes_by true f done limit = false
goes_by false flow.Continue done limit = ltb done limit
goes_by false flow.ReturnOk done limit = false
goes_by false flow.NoMoreSolutions done limit = false
goes_by false flow.QuantumExceeded done limit = false
goes_by false flow.NegativeCycle done limit = false
goes_by false (flow.Stop n) done limit = false

abbrev pub goes_on : Asked → Course → Bool
goes_on asked c = goes_by (is_turn asked.mode) c.flow (one_more c.done) asked.limit

-- one turn more is done
abbrev pub one_done : Course → Course
one_done c =
    course_at c.over c.ending c.index c.more c.exceeded (one_more c.done) c.mark c.depth c.clock c

-- one turn was asked for
abbrev pub turned : Course → Course
turned c = course_at true c.ending c.index c.more c.exceeded c.done c.mark c.depth c.clock c

-- the search has ended, and a peek has begun another one where it has one to do
abbrev pub course_ended : Asked → Lent → Course → Course
course_ended asked w c =
    let a = w.answers in
    end_search asked w.tables.floundered a.places.next a.places.tail a.places.len a.variant a.key a.ambiguous c

-- it is put back, and the root's entry stands at the bottom of the stack
abbrev pub put_back_in : (root clock : ℕ) → Lent → Lent
put_back_in root clock w =
    let k = w.stack in
    lent_of w.tables (with_places w.strands (all_back k.table k.active (within k.depth) w.strands.places)) w.answers
    (pushed root clock MAX (bare k)) w.clock

abbrev pub conclude_by : (goes turns : Bool) → Asked → Course → Lent → Walk
conclude_by true turns asked c w = walk (one_done c) w
conclude_by false true asked c w = walk (turned c) w
conclude_by false false asked c w =
    walk (course_ended asked w c) (put_back_in asked.table (course_ended asked w c).clock w)

abbrev pub conclude : Asked → Course → Lent → Walk
conclude asked c w = conclude_by (goes_on asked c) (is_turn asked.mode) asked c w

-- BY NUMBERS: a turn may be settled so where a search runs and this is not the last turn that is left to it

abbrev pub may_settle_by : (turns : Bool) → (done limit : ℕ) → Bool
may_settle_by true done limit = false
may_settle_by false done limit = ltb done limit

abbrev pub may_settle : Asked → (done : ℕ) → Bool
may_settle asked done = may_settle_by (is_turn asked.mode) (one_more done) asked.limit

abbrev pub settled_flow : (settled : Bool) → Flow → Flow
settled_flow true f = flow.Continue
settled_flow false f = f

abbrev pub settled_done : (settled : Bool) → (done : ℕ) → ℕ
settled_done true done = one_more done
settled_done false done = done

abbrev pub settles_on : (settled : Bool) → Asked → (done : ℕ) → Bool
settles_on true asked done = may_settle asked done
settles_on false asked done = false

-- TURN AFTER TURN BY NUMBERS, of a search that goes on after each
module _ (asked : Asked) where
  abbrev pub settles : Walk → NumberTurn
  settles v = number_turn (leb asked.clock_limit v.course.clock) v.lent

  -- whether the next turn may be settled so, and is
  abbrev pub settles_next : Walk → Bool
  settles_next v = settles_on (settles v).settled asked v.course.done

  abbrev pub settled_walk : Walk → Walk
  settled_walk v =
      let w = (settles v).lent in
      walk (one_done (carry flow.Continue (numbers_of w) v.course)) w

  -- what it comes to: whether the course is over is not asked
  pub data Settles : Walk → Walk → Type 0 where
    none_settles : {v : Walk} → settles_next v ≡ false → Settles v v
    next_settles : {v u : Walk} → settles_next v ≡ true → Settles (settled_walk v) u → Settles v u

-- ONE PASS: what was looked up and picked, and the answer that was read, are given
module _ (b : Book) (asked : Asked) where
  abbrev pub done_with : Course → Looked → Picked → Answer → Lent → TurnDone
  done_with c l k a w =
      performed b.goal_flags b.goal_first b.goal_len b.clause_variant b.clause_flags l.next l.top
      k.chosen.made
      (decide k.chosen a l.top.complete (leb asked.clock_limit c.clock)
      (w.answers.places.top - get_or w.answers.places.len free 0)) l.place k.hand k.chosen.place a l.idle w

  abbrev pub pass_with : Course → Looked → Picked → Answer → Lent → Walk
  pass_with c l k a w =
      let t = done_with c l k a w in
      conclude asked (carry t.flow (numbers_of t.lent) c) (put t)

  abbrev pub looked_in : Lent → Looked
  looked_in w =
      let k = w.stack in
      let s = w.strands in
      looked k.table k.clock k.positive k.negative k.active w.tables.complete s.places.next s.places.tail
      s.places.len s.time s.ambiguous s.waits s.wants k.depth

  abbrev pub picked_in : Looked → Lent → Picked
  picked_in l w =
      let s = w.strands in
      let a = w.answers in
      picked s.places.len w.tables.goal w.tables.coinductive w.tables.floundered w.stack.table a.places.next
      a.places.tail a.places.len a.variant a.key b.goal_flags b.goal_len b.clause_variant
      b.clause_flags b.clause_len b.literal_kind b.literal_goal b.literal_want s.places.top
      w.tables.count l (get_or s.strands l.place unread_strand)

  abbrev pub pass : Walk → Walk
  pass v =
      let w = v.lent in
      let l = looked_in w in
      let k = picked_in l w in
      pass_with v.course l k (get_or w.answers.answers k.chosen.place unread_answer) w

  -- WHAT IT COMES TO, pass after pass, until the course is over: a turn that numbers settle goes by with no pass
  pub data Comes : Walk → Walk → Type 0 where
    is_over : {v : Walk} → v.course.over ≡ true → Comes v v
    goes_further : {v u : Walk} → v.course.over ≡ false → settles_next asked v ≡ false → Comes (pass v) u → Comes v u
    goes_by_numbers : {v u : Walk} → v.course.over ≡ false → settles_next asked v ≡ true → Comes (settled_walk asked v) u → Comes v u
