-- A search, pass after pass: one pass is one step of the definitions, and what the passes come to is what the steps come to.
use Prim.Native.Nat.{ℕ, ◌≤◌, ◌<◌}
use native.Mathlib.Omega.{arith}
use mathlib.Core.Bool.{Bool, true, false, true≢false, false≢true}
use mathlib.Core.Path.{◌≡◌, refl, sym, ap, subst, ◌∙◌}
use Rattle.definitions.specs.{MAX}
use Rattle.definitions.specs.Logic.{SolveState}
use Rattle.small_steps.specs.Steps as steps
use Rattle.small_steps.specs.Steps.{Standing, Progress, Ends, at_once, after_step}
use Rattle.book.specs.declared.Book.{Book}
use Rattle.control.specs.declared.performed.Flow.{Flow}
use Rattle.control.specs.InHand.{flows}
use Rattle.control.specs.TurnWrites.{turn_done, turned}
use Rattle.control.specs.PerformStrand.{Lent}
use Rattle.control.specs.Stores.{SoundStores, state}
use Rattle.control.proofs.TurnDoes.{turn_is}
use Rattle.search.specs.declared.course.Asked.{Asked}
use Rattle.search.specs.declared.course.Course.{Course}
use Rattle.search.specs.Course.{is_turn, is_peek}
use Rattle.search.specs.Means.{Rests, stores_of, searched_of, standing_of, progress_by, progress_of}
use Rattle.search.specs.Walk.{Walk, walk, put_back_in, course_ended, pass, settled_walk}
use Rattle.search.specs.Walk.{Comes, is_over, goes_further, goes_by_numbers}
use Rattle.search.proofs.RootAnswerCases.{next_none, end_over}
use Rattle.search.proofs.Passing.{before, left, after, concluded, further, finished, finished_walk, stepped, step_ends, step_goes_on}
use Rattle.search.proofs.PassingByNumbers.{settled_is_pass}
use Rattle.search.proofs.PassingSound.{goes, pass_further, pass_ended, further_sound, further_left, finished_rests}
use Rattle.search.proofs.StoredAnswers.{stored_in}

-- A WALK THAT STANDS in a search begun at this clock: the course's numbers are those of what is lent, and a turn is left
pub record Underway (b : Book) (asked : Asked) (first : ℕ) (v : Walk) : Type 0 where
  pub numbers : v ≡ walk v.course v.lent
  pub sound : SoundStores asked.table v.course.index first (stores_of b asked v)
  pub turn_left : v.course.done < asked.limit

-- or whose searches are over
abbrev pub Settled : (over : Bool) → Book → Asked → (first : ℕ) → Walk → Type 0
Settled true b asked first v = Rests (stores_of b asked v)
Settled false b asked first v = Underway b asked first v

module _ (b : Book) (asked : Asked) (few : asked.limit ≤ MAX) (no_turn : is_turn asked.mode ≡ false)
    (no_peek : is_peek asked.mode ≡ false) where
  -- ONE PASS
  module _ (c : Course) (w : Lent) (first : ℕ) (stands : c.over ≡ false)
      (o : SoundStores asked.table c.index first (stores_of b asked (walk c w))) (turn_left : c.done < asked.limit) where
    abbrev flow : Flow
    flow = (turn_done (before b asked c w)).flow

    abbrev here : Standing
    here = standing_of b asked first (walk c w)

    abbrev s'' : SolveState
    s'' = state (turned (before b asked c w))

    -- no other search follows
    is_finished : finished b asked c w flow ≡ course_ended asked (left b asked c w) (after b asked c w flow)
    is_finished =
        let l = left b asked c w in
        let a = l.answers in
        let m = finished b asked c w flow in
        end_over asked l.tables.floundered a.places.next a.places.tail a.places.len a.variant a.key a.ambiguous
        (after b asked c w flow) (stored_in a asked.table c.index) refl m refl m
        (next_none asked.mode m (is_peek asked.mode) refl no_peek) refl

    is_ended : goes b asked c w ≡ false → finished_walk b asked c w flow (finished b asked c w flow).clock ≡ concluded b asked c w flow
    is_ended g =
        ap (λ (d : Course). walk d (put_back_in asked.table d.clock (left b asked c w))) is_finished
        ∙ pass_ended b asked c w no_turn g

    by_goes : (g : Bool) → goes b asked c w ≡ g → progress_of b asked first (concluded b asked c w flow) ≡ stepped here (flows flow s'')
    by_goes true g =
        ap (progress_of b asked first) (sym (pass_further b asked c w no_turn g))
        ∙ ap (λ (over : Bool). progress_by b asked over first (further b asked c w flow)) stands
        ∙ step_goes_on b asked c w first o (omega arith) flow refl g
    by_goes false g =
        ap (progress_of b asked first) (sym (is_ended g))
        ∙ step_ends b asked c w first o (omega arith) (finished b asked c w flow).clock flow refl g

    -- A PASS IS A STEP
    pass_is_step : progress_of b asked first (pass b asked (walk c w)) ≡ steps.step (standing_of b asked first (walk c w))
    pass_is_step =
        by_goes (goes b asked c w) refl ∙ ap (stepped here) (turn_is asked.table c.index first (before b asked c w) o)

    abbrev Settles : Walk → Type 0
    Settles v = Settled v.course.over b asked first v

    settles_by : (g : Bool) → goes b asked c w ≡ g → Settles (concluded b asked c w flow)
    settles_by true g =
        subst Settles (pass_further b asked c w no_turn g)
        (subst (λ (over : Bool). Settled over b asked first (further b asked c w flow)) (sym stands) (record {
          numbers = refl;
          sound = further_sound b asked c w first o g;
          turn_left = further_left b asked c w first o g;
        }))
    settles_by false g =
        subst Settles (is_ended g) (finished_rests b asked c w first o flow refl (finished b asked c w flow).clock)

    pass_settles : Settles (pass b asked (walk c w))
    pass_settles = settles_by (goes b asked c w) refl

  module _ (first : ℕ) (v : Walk) (stands : v.course.over ≡ false) (u : Underway b asked first v) where
    -- the walk, by its course and what it lends
    sound_so : SoundStores asked.table v.course.index first (stores_of b asked (walk v.course v.lent))
    sound_so =
        subst (λ (x : Walk). SoundStores asked.table v.course.index first (stores_of b asked x)) u.numbers u.sound

    pub pass_steps : progress_of b asked first (pass b asked v) ≡ steps.step (standing_of b asked first v)
    pass_steps =
        subst (λ (x : Walk). progress_of b asked first (pass b asked x) ≡ steps.step (standing_of b asked first x)) (sym u.numbers)
        (pass_is_step v.course v.lent first stands sound_so u.turn_left)

    pub pass_keeps : Settled (pass b asked v).course.over b asked first (pass b asked v)
    pass_keeps =
        subst (λ (x : Walk). Settled (pass b asked x).course.over b asked first (pass b asked x)) (sym u.numbers)
        (pass_settles v.course v.lent first stands sound_so u.turn_left)

  -- WHAT THE PASSES COME TO
  pub record Searched (first : ℕ) (over : Bool) (v u : Walk) : Type 0 where
    pub ends : Ends (progress_by b asked over first v) (searched_of b asked u)
    pub is_over : u.course.over ≡ true
    pub rests : Rests (stores_of b asked u)

  pub search_comes : (first : ℕ) (over : Bool) {v u : Walk} → v.course.over ≡ over → Settled over b asked first v → Comes b asked v u
      → Searched first over v u
  search_comes first true e s (is_over x) = record { ends = at_once; is_over = x; rests = s }
  search_comes first false e s (is_over x) = absurd (true≢false (sym x ∙ e))
  search_comes first true e s (goes_further x n h) = absurd (false≢true (sym x ∙ e))
  search_comes first false {v = v} {u = u} e s (goes_further x n h) =
      let rest = search_comes first (pass b asked v).course.over refl (pass_keeps first v e s) h in
      record {
        ends = after_step (subst (λ (p : Progress). Ends p (searched_of b asked u)) (pass_steps first v e s) rest.ends);
        is_over = rest.is_over;
        rests = rest.rests;
      }
  search_comes first true e s (goes_by_numbers x n h) = absurd (false≢true (sym x ∙ e))
  search_comes first false {v = v} {u = u} e s (goes_by_numbers x n h) =
      let same = settled_is_pass b asked first v s.sound s.numbers n in
      let keeps = subst (λ (y : Walk). Settled y.course.over b asked first y) (sym same) (pass_keeps first v e s) in
      let rest = search_comes first (settled_walk asked v).course.over refl keeps h in
      record {
        ends = after_step (subst (λ (p : Progress). Ends p (searched_of b asked u))
            (ap (progress_of b asked first) same ∙ pass_steps first v e s) rest.ends);
        is_over = rest.is_over;
        rests = rest.rests;
      }

  -- A SEARCH that stands comes to what its steps come to.
  pub comes_search : (first : ℕ) {v u : Walk} → v.course.over ≡ false → Underway b asked first v → Comes b asked v u
      → Searched first false v u
  comes_search first e s h = search_comes first false e s h
