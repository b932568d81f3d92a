-- One pass of the loop, for sound stores: its turn is the turn of the stores that are lent, and by how that ends the search stands a turn
-- later, or is put back as the definitions' step puts it back.
use Prim.Native.Nat.{ℕ, suc, ◌≤◌, ◌<◌}
use native.Mathlib.Omega.{arith}
use mathlib.Core.Bool.{Bool, true, false, false≢true}
use mathlib.Core.List.{[], ◌∷◌}
use mathlib.Core.Logic.{inr}
use mathlib.Core.Path.{◌≡◌, refl, sym, ap, subst, ◌∙◌}
use lib.ListN.{length, get_or}
use borrow.Author.Tests.{le-leb, lt-leb, lt-ltb, ltb-true, ltb-false}
use Rattle.definitions.specs.{MAX}
use Rattle.definitions.specs.Logic as logic
use Rattle.definitions.specs.Logic.{SolveState, with_forest, drop_state}
use Rattle.definitions.specs.Stack as said
use Rattle.definitions.specs.Stop.{Stops, stop, go}
use Rattle.definitions.specs.Table.{Table}
use Rattle.definitions.specs.Tables.{Forest, with_mark}
use Rattle.definitions.specs.Turn as turns
use Rattle.laws.proofs.Lists.{place_under}
use Rattle.laws.proofs.Options.{same_some}
use Rattle.laws.proofs.Spans.{length_span}
use Rattle.asserts.proofs.Safe.{Safe, goes}
use Rattle.asserts.proofs.Searches.{mark_kept}
use Rattle.asserts.proofs.Turns.{state_left, state_kept, state_forest}
use Rattle.asserts.proofs.Unwinding.{Ended}
use Rattle.small_steps.specs.Steps as steps
use Rattle.small_steps.specs.Steps.{Standing, Progress}
use Rattle.book.specs.declared.Book.{Book}
use Rattle.stores.specs.View.{held_table}
use Rattle.stores.proofs.TablesViews.{table_there}
use Rattle.control.specs.declared.performed.Flow.{Flow}
use Rattle.control.specs.declared.performed.Flow.TheVariants as ways
use Rattle.control.specs.InHand.{Sounds, flows}
use Rattle.control.specs.TurnWrites.{put, turn_done, turned, backed}
use Rattle.control.specs.PerformStrand.{Lent}
use Rattle.control.specs.Stores.{Stores, first_strands, forest, state, SoundStores}
use Rattle.control.proofs.PutBack.{backed_view, standing_drops}
use Rattle.control.proofs.Stores.{table_held}
use Rattle.control.proofs.TurnDoes.{turn_sounds, turn_goes_on, turn_answers, turn_finishes, turn_exceeds, turn_cycles, turn_stops}
use Rattle.search.specs.declared.course.Asked.{Asked}
use Rattle.search.specs.declared.course.Course.{Course}
use Rattle.search.specs.Course.{carry}
use Rattle.search.specs.Means.{ending_means, stores_of, searched_of, standing_of}
use Rattle.search.specs.RootAnswer.{one_more_by, one_more, marked, finish}
use Rattle.search.specs.Walk.{Walk, walk, numbers_of, goes_by, one_done, put_back_in, conclude, pass}
use Rattle.search.proofs.StoredAnswers.{stored_in, answers_counted, stored_is}

-- the turns that are done are numbers that can be counted on
pub counts : (n : ℕ) → n < MAX → one_more n ≡ suc n
counts n h = ap (λ (b : Bool). one_more_by b n) (lt-ltb n MAX h)

-- STORES WITH THIS MARK
abbrev pub marked_at : (mark : ℕ) → Stores → Stores
marked_at m z = record {
  book = z.book;
  tables = z.tables;
  strands = z.strands;
  answers = z.answers;
  stack = z.stack;
  clock_limit = z.clock_limit;
  mark = m;
  clock = z.clock;
}

marked_sounds : (m : ℕ) (z : Stores) → Sounds [] z → Sounds [] (marked_at m z)
marked_sounds m z o = record { tables = o.tables; strands = o.strands; answers = o.answers; stack = o.stack; made = o.made }

-- WHAT THE DEFINITIONS DO AFTER A TURN
abbrev pub stepped : Standing → Stops logic.Flow → Progress
stepped s r = elim r [ stop n ↦ steps.ended (steps.stop_short s n) | go flow ↦ steps.after_turn s flow ]

abbrev pub searched_so : turns.Ending → (done : ℕ) → Forest → turns.Searched
searched_so e n f = record { ending = e; turns = n; forest = f }

-- a search that can be put back
puts_back : (e : turns.Ending) (n : ℕ) (s : SolveState) (f : Forest) → drop_state s ≡ go f
    → steps.ended (turns.put_back e n s) ≡ steps.ended (searched_so e n f)
puts_back e n s f is = rw (turns.put_back, is)

used_up : (s : Standing) → s.limit ≤ s.done → steps.standing s ≡ steps.ended (steps.cut_short s)
used_up s h = rw (steps.standing, le-leb s.limit s.done h)

left_over : (s : Standing) → s.done < s.limit → steps.standing s ≡ steps.stands s
left_over s h = rw (steps.standing, lt-leb s.limit s.done h)

-- nothing is on the stack
module _ (f : Forest) where
  drops_none : (es : said.Stack) → es ≡ [] → drop_state (record { forest = f; stack = es }) ≡ go f
  drops_none [] e = refl
  drops_none (x ∷ es) e = absurd (omega (arith, ap length e))

  ok_none : (t i : ℕ) (es : said.Stack) → es ≡ [] → turns.stored_answer f t i ≡ turns.ok_ending (record { forest = f; stack = es }) t i
  ok_none t i [] e = refl
  ok_none t i (x ∷ es) e = absurd (omega (arith, ap length e))

module _ (b : Book) (asked : Asked) (c : Course) (w : Lent) where
  -- THE PASS, by how its turn ended

  -- the stores before the turn
  abbrev pub before : Stores
  before = stores_of b asked (walk c w)

  -- what is lent after it
  abbrev pub left : Lent
  left = put (turn_done before)

  -- the course after a turn that ended so
  abbrev pub after : Flow → Course
  after f = carry f (numbers_of left) c

  abbrev pub concluded : Flow → Walk
  concluded f = conclude asked (after f) left

  pub pass_is : pass b asked (walk c w) ≡ concluded (turn_done before).flow
  pass_is = refl

  -- the search a turn later
  abbrev pub further : Flow → Walk
  further f = walk (one_done (after f)) left

  pub further_stores : (f : Flow) → stores_of b asked (further f) ≡ turned before
  further_stores f = refl

  -- the search at its end, and put back, with the root's entry written at this clock
  abbrev pub finished : Flow → Course
  finished f = finish f (stored_in left.answers asked.table c.index) (after f)

  abbrev pub finished_walk : Flow → (clock : ℕ) → Walk
  finished_walk f clock = walk (finished f) (put_back_in asked.table clock left)

  -- the stores that the turn left, marked where it stopped
  abbrev pub noted : Flow → Stores
  noted f = marked_at (marked f c.mark) (turned before)

  pub finished_forest : (f : Flow) (clock : ℕ) → forest (stores_of b asked (finished_walk f clock)) ≡ forest (backed (noted f))
  finished_forest f clock = refl

  module _ (first : ℕ) (o : SoundStores asked.table c.index first (stores_of b asked (walk c w))) where
    abbrev t : ℕ
    t = asked.table

    abbrev i : ℕ
    i = c.index

    abbrev n : ℕ
    n = b.goals

    abbrev s'' : SolveState
    s'' = state (turned before)

    abbrev here : Standing
    here = standing_of b asked first (walk c w)

    sounds : Sounds [] (turned before)
    sounds = turn_sounds t i first before o

    -- WITH ITS ANSWER
    module _ (e : (turn_done before).flow ≡ ways.ReturnOk) where
      -- the root's table has the answers below the next index
      answered_ended : (j : ℕ) → j ≤ suc i → Ended n t j (forest (turned before))
      answered_ended j h =
          let x = turn_answers t i first before o e in
          let enough = x.rooted.enough in
          record { sound = x.sound_forest; own = x.rooted.own; is_made = x.rooted.is_made; reached = inr (omega arith) }

      pub answered_drops : (j : ℕ) → j ≤ suc c.index → Safe (Ended b.goals asked.table j) (drop_state (state (turned before)))
      answered_drops j h =
          subst (Safe (Ended n t j)) (sym (drops_none (forest (turned before)) s''.stack (turn_answers t i first before o e).no_entries))
          (goes (answered_ended j h))

      root_there : t < (turned before).tables.count
      root_there =
          let x = (turn_answers t i first before o e).rooted in
          let z = turned before in
          omega (
            arith,
            place_under (forest z).tables t x.own x.is_made,
            length_span (held_table (first_strands b) z.tables z.strands z.answers) 0 z.tables.count,
          )

      answer_there : i < get_or (turned before).answers.places.len t 0
      answer_there =
          let x = (turn_answers t i first before o e).rooted in
          let z = turned before in
          let same : x.own ≡ table_held z t =
          same_some (sym x.is_made ∙ table_there (first_strands b) z.tables z.strands z.answers t root_there) in
          let enough = x.enough in
          omega (arith, ap (λ (u : Table). length u.answers) same, answers_counted z sounds t root_there)

      answered_so : ending_means (stored_in left.answers t i) ≡ turns.ok_ending s'' t i
      answered_so =
          stored_is (turned before) sounds t root_there i answer_there
          ∙ ok_none (forest (turned before)) t i s''.stack (turn_answers t i first before o e).no_entries

    -- IT CAN BE PUT BACK, however the turn ended
    abbrev stopped_state : (m : ℕ) → SolveState → SolveState
    stopped_state m s = with_forest s (with_mark s.forest m)

    pub drops : (f : Flow) → (turn_done before).flow ≡ f → Safe (Ended b.goals asked.table c.index) (drop_state (state (noted f)))
    drops ways.Continue e = standing_drops t i first (turned before) (turn_goes_on t i first before o e)
    drops ways.ReturnOk e = answered_drops e i (omega arith)
    drops ways.NoMoreSolutions e = (turn_finishes t i first before o e).1
    drops ways.QuantumExceeded e = (turn_exceeds t i first before o e).1
    drops ways.NegativeCycle e = (turn_cycles t i first before o e).1
    drops (ways.Stop m) e =
        let sound = state_forest n t i first (state before) o.state in
        subst (λ (s : SolveState). Safe (Ended n t i) (drop_state (stopped_state m s))) (sym (turn_stops t i first before o m e).as_it_was)
        (state_left n t i first (stopped_state m (state before))
        (state_kept n t i first (state before) (with_mark (forest before) m) o.state (mark_kept m sound) refl)).1

    pub noted_sounds : (f : Flow) → Sounds [] (noted f)
    noted_sounds f = marked_sounds (marked f c.mark) (turned before) sounds

    dropped : (f : Flow) → (turn_done before).flow ≡ f → drop_state (state (noted f)) ≡ go (forest (backed (noted f)))
    dropped f e = backed_view (noted f) (noted_sounds f) (drops f e)

    -- THE SEARCH ENDED: what is put back is what the step puts back
    module _ (few : c.done < MAX) (clock : ℕ) where
      abbrev ends_so : turns.Ending → (done : ℕ) → Flow → Progress
      ends_so e m f = steps.ended (searched_so e m (forest (backed (noted f))))

      counted_one : (e : turns.Ending) (f : Flow) → ends_so e (one_more c.done) f ≡ ends_so e (suc c.done) f
      counted_one e f = ap (λ (m : ℕ). ends_so e m f) (counts c.done few)

      pub step_ends : (f : Flow) → (turn_done before).flow ≡ f → goes_by false f (one_more c.done) asked.limit ≡ false
          → steps.ended (searched_of b asked (finished_walk f clock))
          ≡ stepped (standing_of b asked first (walk c w)) (flows f (state (turned before)))
      step_ends ways.Continue e g =
          let most = ltb-false (one_more c.done) asked.limit g in
          let one = counts c.done few in
          counted_one turns.cut ways.Continue
          ∙ sym (puts_back turns.cut (suc c.done) s'' (forest (backed (noted ways.Continue))) (dropped ways.Continue e))
          ∙ sym (used_up (steps.gone_on here s'') (omega arith))
      step_ends ways.ReturnOk e g =
          ap (λ (x : turns.Ending). ends_so x (one_more c.done) ways.ReturnOk) (answered_so e)
          ∙ counted_one (turns.ok_ending s'' t i) ways.ReturnOk
          ∙ sym (puts_back (turns.ok_ending s'' t i) (suc c.done) s'' (forest (backed (noted ways.ReturnOk))) (dropped ways.ReturnOk e))
      step_ends ways.NoMoreSolutions e g =
          counted_one (turns.fail logic.NoMoreSolutions) ways.NoMoreSolutions
          ∙ sym (puts_back (turns.fail logic.NoMoreSolutions) (suc c.done) s'' (forest (backed (noted ways.NoMoreSolutions)))
          (dropped ways.NoMoreSolutions e))
      step_ends ways.QuantumExceeded e g =
          counted_one (turns.fail logic.QuantumExceeded) ways.QuantumExceeded
          ∙ sym (puts_back (turns.fail logic.QuantumExceeded) (suc c.done) s'' (forest (backed (noted ways.QuantumExceeded)))
          (dropped ways.QuantumExceeded e))
      step_ends ways.NegativeCycle e g =
          counted_one (turns.fail logic.NegativeCycle) ways.NegativeCycle
          ∙ sym (puts_back (turns.fail logic.NegativeCycle) (suc c.done) s'' (forest (backed (noted ways.NegativeCycle)))
          (dropped ways.NegativeCycle e))
      step_ends (ways.Stop m) e g =
          sym (puts_back (turns.stopped m) c.done (stopped_state m (state before)) (forest (backed (noted (ways.Stop m))))
          (ap (λ (s : SolveState). drop_state (stopped_state m s)) (sym (turn_stops t i first before o m e).as_it_was)
          ∙ dropped (ways.Stop m) e))

    -- THE SEARCH GOES ON
    module _ (few : c.done < MAX) where
      pub step_goes_on : (f : Flow) → (turn_done before).flow ≡ f → goes_by false f (one_more c.done) asked.limit ≡ true
          → steps.stands (standing_of b asked first (further f))
          ≡ stepped (standing_of b asked first (walk c w)) (flows f (state (turned before)))
      step_goes_on ways.Continue e g =
          let some_left = ltb-true (one_more c.done) asked.limit g in
          let one = counts c.done few in
          ap (λ (m : ℕ). steps.stands (record {
            state = s'';
            table = t;
            index = i;
            limit = asked.limit;
            done = m;
            first = first;
          })) one
          ∙ sym (left_over (steps.gone_on here s'') (omega arith))
      step_goes_on ways.ReturnOk e g = absurd (false≢true g)
      step_goes_on ways.NoMoreSolutions e g = absurd (false≢true g)
      step_goes_on ways.QuantumExceeded e g = absurd (false≢true g)
      step_goes_on ways.NegativeCycle e g = absurd (false≢true g)
      step_goes_on (ways.Stop m) e g = absurd (false≢true g)
