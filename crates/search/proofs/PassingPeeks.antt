-- A peek, pass after pass: one pass is one step of its search, and where that ended, all that a peek does before the first turn of the
-- next one. What the passes come to is what the peek's steps come to.
use Prim.Native.Nat.{ℕ, zero, suc, ◌+◌, ◌-◌, ◌≤◌, ◌<◌}
use native.Mathlib.Omega.{arith}
use mathlib.Core.Bool.{Bool, true, false, true≢false, false≢true}
use mathlib.Core.Path.{◌≡◌, refl, sym, ap, subst, ◌∙◌}
use lib.Dec.{leb, ltb}
use borrow.Author.Tests.{lt-ltb, ltb-true, ltb-false, leb-false}
use Rattle.definitions.specs.{MAX}
use Rattle.definitions.specs.Forest.{Peeked, peeked}
use Rattle.definitions.specs.Logic.{SolveState}
use Rattle.definitions.specs.Turn as turns
use Rattle.asserts.proofs.Unwinding.{Ended}
use Rattle.small_steps.specs.Steps as steps
use Rattle.small_steps.specs.Steps.{Standing, Progress, Peeks}
use Rattle.book.specs.declared.Book.{Book}
use Rattle.stores.specs.Numbers.{within}
use Rattle.stores.specs.Queue.{with_places}
use Rattle.control.specs.declared.performed.Flow.{Flow}
use Rattle.control.specs.declared.performed.Flow.TheVariants as ways
use Rattle.control.specs.InHand.{flows}
use Rattle.control.specs.TurnWrites.{turn_done, turned, backed}
use Rattle.control.specs.PerformStrand.{Lent, lent_of}
use Rattle.control.specs.Stores.{SoundStores, forest, state}
use Rattle.control.specs.UnwindStack.{all_back}
use Rattle.control.proofs.TurnDoes.{turn_is}
use Rattle.search.specs.declared.course.Asked.{Asked}
use Rattle.search.specs.declared.course.Course.{Course}
use Rattle.search.specs.declared.course.Ending.{Ending}
use Rattle.search.specs.Course.{is_turn, is_peek}
use Rattle.search.specs.Means.{Rests, stores_of, searched_of, standing_of, peeked_of, peeked_by, PeekedBy}
use Rattle.search.specs.RootAnswer.{stored_by, one_more, ending_of, is_invalid, is_exceeded, last_index, skip_by, round_by}
use Rattle.search.specs.RootAnswer.{next_search}
use Rattle.search.specs.Walk.{Walk, walk, put_back_in, course_ended, pass, settled_walk}
use Rattle.search.specs.Walk.{Comes, is_over, goes_further, goes_by_numbers}
use Rattle.search.proofs.Passing.{counts, before, left, after, concluded, further, finished, finished_walk, noted}
use Rattle.search.proofs.Passing.{stepped, step_ends, step_goes_on}
use Rattle.search.proofs.PassingByNumbers.{settled_is_pass}
use Rattle.search.proofs.PassingSearch.{Underway}
use Rattle.search.proofs.PassingSound.{goes, pass_further, pass_ended, further_sound, further_left, answered_ended, backed_ended}
use Rattle.search.proofs.PassingSound.{backed_rests, finished_rests}
use Rattle.search.proofs.RootAnswerCases.{next_skips, next_rounds, next_ends, end_over, end_starts}
use Rattle.search.proofs.Starting.{begun, started}
use Rattle.search.proofs.StartingSound.{start_rests, start_sound, start_left}
use Rattle.search.proofs.StartingValid.{invalid_means, exceeded_means, start_more, start_exceeded, started_peeks}
use Rattle.search.proofs.StoredAnswers.{stored_in}

-- AN INVALID ANSWER is one that was stored at an index below 256
stored_near : (far none delayed : Bool) (variant : ℕ) (ambiguous : Bool) → is_invalid (stored_by far none delayed variant ambiguous) ≡ true
    → far ≡ false
stored_near true none delayed variant ambiguous e = absurd (false≢true e)
stored_near false none delayed variant ambiguous e = refl

invalid_flow : (f : Flow) (stored : Ending) → is_invalid (ending_of f stored) ≡ true → (f ≡ ways.ReturnOk) × (is_invalid stored ≡ true)
invalid_flow ways.Continue stored e = absurd (false≢true e)
invalid_flow ways.ReturnOk stored e = (refl, e)
invalid_flow ways.NoMoreSolutions stored e = absurd (false≢true e)
invalid_flow ways.QuantumExceeded stored e = absurd (false≢true e)
invalid_flow ways.NegativeCycle stored e = absurd (false≢true e)
invalid_flow (ways.Stop n) stored e = absurd (false≢true e)

-- what is lent once the search is put back
abbrev lent_back : Lent → Lent
lent_back w =
    let k = w.stack in
    lent_of w.tables (with_places w.strands (all_back k.table k.active (within k.depth) w.strands.places)) w.answers k
    w.clock

-- A WALK THAT STANDS in a search of a peek: as many rounds as can be counted are left
pub record Peeking (b : Book) (asked : Asked) (first : ℕ) (v : Walk) : Type 0 where
  pub stands : Underway b asked first v
  pub few_rounds : v.course.exceeded + v.course.more < MAX

-- or whose searches are over
abbrev pub PeekSettled : (over : Bool) → Book → Asked → (first : ℕ) → Walk → Type 0
PeekSettled true b asked first v = Rests (stores_of b asked v)
PeekSettled false b asked first v = Peeking b asked first v

-- WHAT A PASS FROM v TO u IS TO A PEEK: what u comes to v does, and u is settled
pub record PeeksOn (b : Book) (asked : Asked) (first : ℕ) (v u : Walk) : Type 0 where
  pub next_first : ℕ
  pub leads : (p : Peeked) → PeekedBy b asked next_first u p → PeekedBy b asked first v p
  pub settled : PeekSettled u.course.over b asked next_first u

module _ (b : Book) (asked : Asked) (few : asked.limit ≤ MAX) (no_turn : is_turn asked.mode ≡ false)
    (peeks : is_peek asked.mode ≡ true) where
  abbrev t : ℕ
  t = asked.table

  -- A SEARCH STARTED leaves what is settled
  module _ (n : Course) (w : Lent) (o : Rests (stores_of b asked (walk n w)))
      (x : Ended b.goals asked.table n.index (forest (stores_of b asked (walk n w)))) (rounds : n.exceeded + n.more < MAX) where
    pub started_settled : (over : Bool) → (started asked w n).over ≡ over
        → PeekSettled over b asked (suc n.clock) (begun asked w (started asked w n))
    started_settled true e = start_rests b asked n w o x e
    started_settled false e = record {
      stands = record {
        numbers = refl;
        sound = start_sound b asked n w o x e;
        turn_left = start_left b asked n w o x e;
      };
      few_rounds = omega (arith, start_more asked w n, start_exceeded asked w n);
    }

  module _ (c : Course) (w : Lent) (first : ℕ) (stands : c.over ≡ false)
      (o : SoundStores asked.table c.index first (stores_of b asked (walk c w))) (turn_left : c.done < asked.limit)
      (rounds : c.exceeded + c.more < MAX) where
    abbrev flow : Flow
    flow = (turn_done (before b asked c w)).flow

    abbrev here : Standing
    here = standing_of b asked first (walk c w)

    abbrev s'' : SolveState
    s'' = state (turned (before b asked c w))

    abbrev now : Lent
    now = left b asked c w

    -- the course at the search's end
    abbrev d : Course
    d = finished b asked c w flow

    -- the search
    abbrev r : turns.Searched
    r = searched_of b asked (finished_walk b asked c w flow d.clock)

    abbrev From : Progress → Peeked → Type 0
    From g p = Peeks asked.limit t c.more c.exceeded c.index g p

    abbrev Passes : Walk → Type 0
    Passes u = PeeksOn b asked first (walk c w) u

    -- from the step's end on
    stepped_peeks : (p : Peeked) → From (stepped here (flows flow s'')) p → PeekedBy b asked first (walk c w) p
    stepped_peeks p h =
        subst (λ (over : Bool). peeked_by b asked over first (walk c w) p) (sym stands)
        (steps.goes_on (subst (λ (g : Progress). From g p)
        (ap (stepped here) (turn_is t c.index first (before b asked c w) o)) h))

    -- THE SEARCH GOES ON
    on_goes : goes b asked c w ≡ true → Passes (concluded b asked c w flow)
    on_goes g = subst Passes (pass_further b asked c w no_turn g) (record {
      next_first = first;
      leads = λ p h. stepped_peeks p (subst (λ (q : Progress). From q p) (step_goes_on b asked c w first o (omega arith) flow refl g)
          (subst (λ (over : Bool). peeked_by b asked over first (further b asked c w flow) p) stands h));
      settled = subst (λ (over : Bool). PeekSettled over b asked first (further b asked c w flow)) (sym stands) (record {
        stands = record {
          numbers = refl;
          sound = further_sound b asked c w first o g;
          turn_left = further_left b asked c w first o g;
        };
        few_rounds = rounds;
      });
    })

    -- THE SEARCH ENDED
    module _ (g : goes b asked c w ≡ false) where
      ended_peeks : (p : Peeked) → From (steps.ended r) p → PeekedBy b asked first (walk c w) p
      ended_peeks p h =
          stepped_peeks p (subst (λ (q : Progress). From q p) (step_ends b asked c w first o (omega arith) d.clock flow refl g) h)

      -- n is what comes after it
      module _ (n : Course) (is_n : n ≡ next_search asked.mode d) where
        abbrev with_entry : Course → Walk
        with_entry e = walk e (put_back_in t e.clock now)

        is_ended : (e : Course) → e ≡ course_ended asked now (after b asked c w flow) → with_entry e ≡ concluded b asked c w flow
        is_ended e is = ap with_entry is ∙ pass_ended b asked c w no_turn g

        comes_over : n.over ≡ true → with_entry n ≡ concluded b asked c w flow
        comes_over e =
            let a = now.answers in
            is_ended n
            (end_over asked now.tables.floundered a.places.next a.places.tail a.places.len a.variant a.key
            a.ambiguous (after b asked c w flow) (stored_in a t c.index) refl d refl n is_n e)

        comes_started : n.over ≡ false → begun asked (lent_back now) (started asked (lent_back now) n) ≡ concluded b asked c w flow
        comes_started e =
            let a = now.answers in
            is_ended (started asked (lent_back now) n)
            (end_starts asked now.tables.floundered a.places.next a.places.tail a.places.len a.variant a.key
            a.ambiguous (after b asked c w flow) (stored_in a t c.index) refl d refl n is_n e (started asked (lent_back now) n) refl)

      -- with an invalid answer, which is skipped
      module _ (e : is_invalid d.ending ≡ true) where
        abbrev skipped : Course
        skipped = skip_by true d

        stored_so : (flow ≡ ways.ReturnOk) × (is_invalid (stored_in now.answers t c.index) ≡ true)
        stored_so = invalid_flow flow (stored_in now.answers t c.index) e

        near : c.index < last_index
        near = leb-false 256 c.index (stored_near (leb 256 c.index) _ _ _ _ stored_so.1)

        is_skipped : skipped ≡ next_search asked.mode d
        is_skipped =
            ap (λ (below : Bool). skip_by below d) (sym (lt-ltb c.index last_index near))
            ∙ next_skips asked.mode d (is_peek asked.mode) refl peeks (is_invalid d.ending) refl e

        skip_rests : Rests (stores_of b asked (walk skipped (lent_back now)))
        skip_rests = backed_rests b asked c w first o flow refl

        skip_ended : Ended b.goals t (suc c.index) (forest (stores_of b asked (walk skipped (lent_back now))))
        skip_ended =
            subst (λ (f : Flow). Ended b.goals t (suc c.index) (forest (backed (noted b asked c w f)))) (sym stored_so.0)
            (answered_ended b asked c w first o stored_so.0)

        on_skips : Passes (concluded b asked c w flow)
        on_skips = subst Passes (comes_started skipped is_skipped refl) (record {
          next_first = suc skipped.clock;
          leads = λ p h. ended_peeks p (steps.skips (invalid_means d.ending ∙ e)
              (started_peeks b asked peeks skipped (lent_back now) skip_rests skip_ended p h));
          settled = started_settled skipped (lent_back now) skip_rests skip_ended rounds (started asked (lent_back now) skipped).over refl;
        })

      module _ (valid : is_invalid d.ending ≡ false) where
        -- QuantumExceeded, and a round is left
        module _ (e : is_exceeded d.ending ≡ true) (l : ltb 0 c.more ≡ true) where
          abbrev again : Course
          again = round_by true d

          is_again : again ≡ next_search asked.mode d
          is_again =
              ap (λ (some_left : Bool). round_by some_left d) (sym l)
              ∙ next_rounds asked.mode d (is_peek asked.mode) refl peeks (is_invalid d.ending) refl valid
              (is_exceeded d.ending) refl e

          again_rests : Rests (stores_of b asked (walk again (lent_back now)))
          again_rests = backed_rests b asked c w first o flow refl

          again_ended : Ended b.goals t c.index (forest (stores_of b asked (walk again (lent_back now))))
          again_ended = backed_ended b asked c w first o flow refl

          counted : one_more c.exceeded ≡ suc c.exceeded
          counted = counts c.exceeded (omega arith)

          fewer : suc (c.more - 1) ≡ c.more
          fewer = let some_left = ltb-true 0 c.more l in omega arith

          -- one is counted, and one is fewer
          round_peeks : (p : Peeked) → Peeks asked.limit t (c.more - 1) (one_more c.exceeded) c.index
              (steps.start asked.limit t c.index r.forest) p → From (steps.ended r) p
          round_peeks p h =
              subst (λ (m : ℕ). Peeks asked.limit t m c.exceeded c.index (steps.ended r) p) fewer
              (steps.next_round (exceeded_means d.ending ∙ e)
              (subst (λ (k : ℕ). Peeks asked.limit t (c.more - 1) k c.index (steps.start asked.limit t c.index r.forest) p)
              counted h))

          on_round : Passes (concluded b asked c w flow)
          on_round = subst Passes (comes_started again is_again refl) (record {
            next_first = suc again.clock;
            leads = λ p h. ended_peeks p (round_peeks p
                (started_peeks b asked peeks again (lent_back now) again_rests again_ended p h));
            settled = started_settled again (lent_back now) again_rests again_ended
                (let one = counted in let less = fewer in omega arith) (started asked (lent_back now) again).over refl;
          })

        -- or none
        module _ (e : is_exceeded d.ending ≡ true) (l : ltb 0 c.more ≡ false) where
          abbrev last : Course
          last = round_by false d

          is_last : last ≡ next_search asked.mode d
          is_last =
              ap (λ (some_left : Bool). round_by some_left d) (sym l)
              ∙ next_rounds asked.mode d (is_peek asked.mode) refl peeks (is_invalid d.ending) refl valid
              (is_exceeded d.ending) refl e

          none_left : zero ≡ c.more
          none_left = let most = ltb-false 0 c.more l in omega arith

          no_round_peeks : From (steps.ended r) (peeked c.index (one_more c.exceeded) r)
          no_round_peeks =
              subst (λ (m : ℕ). Peeks asked.limit t m c.exceeded c.index (steps.ended r)
              (peeked c.index (one_more c.exceeded) r)) none_left
              (subst (λ (k : ℕ). Peeks asked.limit t zero c.exceeded c.index (steps.ended r) (peeked c.index k r))
              (sym (counts c.exceeded (omega arith)))
              (steps.no_round (exceeded_means d.ending ∙ e)))

          on_last : Passes (concluded b asked c w flow)
          on_last = subst Passes (comes_over last is_last refl) (record {
            next_first = first;
            leads = λ p h. ended_peeks p (subst (From (steps.ended r)) (sym h) no_round_peeks);
            settled = finished_rests b asked c w first o flow refl d.clock;
          })

        -- any other ending ends the peek
        on_ends : is_exceeded d.ending ≡ false → Passes (concluded b asked c w flow)
        on_ends e =
            subst Passes (comes_over d
            (next_ends asked.mode d (is_peek asked.mode) refl peeks (is_invalid d.ending) refl valid (is_exceeded d.ending)
            refl e) refl) (record {
              next_first = first;
              leads = λ p h. ended_peeks p (subst (From (steps.ended r)) (sym h)
                  (steps.ends (invalid_means d.ending ∙ valid) (exceeded_means d.ending ∙ e)));
              settled = finished_rests b asked c w first o flow refl d.clock;
            })

        by_rounds : is_exceeded d.ending ≡ true → (l : Bool) → ltb 0 c.more ≡ l → Passes (concluded b asked c w flow)
        by_rounds e true l = on_round e l
        by_rounds e false l = on_last e l

        by_exceeded : (x : Bool) → is_exceeded d.ending ≡ x → Passes (concluded b asked c w flow)
        by_exceeded true e = by_rounds e (ltb 0 c.more) refl
        by_exceeded false e = on_ends e

      by_invalid : (x : Bool) → is_invalid d.ending ≡ x → Passes (concluded b asked c w flow)
      by_invalid true e = on_skips e
      by_invalid false e = by_exceeded e (is_exceeded d.ending) refl

    by_goes : (g : Bool) → goes b asked c w ≡ g → Passes (concluded b asked c w flow)
    by_goes true g = on_goes g
    by_goes false g = by_invalid g (is_invalid d.ending) refl

    -- A PASS
    pass_on : PeeksOn b asked first (walk c w) (pass b asked (walk c w))
    pass_on = by_goes (goes b asked c w) refl

  pub pass_peeks : (first : ℕ) (v : Walk) → v.course.over ≡ false → Peeking b asked first v → PeeksOn b asked first v (pass b asked v)
  pass_peeks first v stands u =
      subst (λ (x : Walk). PeeksOn b asked first x (pass b asked x)) (sym u.stands.numbers)
      (pass_on v.course v.lent first stands
      (subst (λ (x : Walk). SoundStores asked.table v.course.index first (stores_of b asked x)) u.stands.numbers
      u.stands.sound)
      u.stands.turn_left u.few_rounds)

  -- WHAT THE PASSES COME TO
  pub record PeekCame (first : ℕ) (over : Bool) (v u : Walk) : Type 0 where
    pub came : peeked_by b asked over first v (peeked_of b asked u)
    pub is_over : u.course.over ≡ true
    pub rests : Rests (stores_of b asked u)

  pub peek_comes : (first : ℕ) (over : Bool) {v u : Walk} → v.course.over ≡ over → PeekSettled over b asked first v → Comes b asked v u
      → PeekCame first over v u
  peek_comes first true e s (is_over x) = record { came = refl; is_over = x; rests = s }
  peek_comes first false e s (is_over x) = absurd (true≢false (sym x ∙ e))
  peek_comes first true e s (goes_further x n h) = absurd (false≢true (sym x ∙ e))
  peek_comes first false {v = v} {u = u} e s (goes_further x n h) =
      let on = pass_peeks first v e s in
      let rest = peek_comes on.next_first (pass b asked v).course.over refl on.settled h in
      record {
        came = subst (λ (over : Bool). peeked_by b asked over first v (peeked_of b asked u)) e
            (on.leads (peeked_of b asked u) rest.came);
        is_over = rest.is_over;
        rests = rest.rests;
      }
  peek_comes first true e s (goes_by_numbers x n h) = absurd (false≢true (sym x ∙ e))
  peek_comes first false {v = v} {u = u} e s (goes_by_numbers x n h) =
      let stands = s.stands in
      let same = settled_is_pass b asked first v stands.sound stands.numbers n in
      let on = subst (PeeksOn b asked first v) (sym same) (pass_peeks first v e s) in
      let rest = peek_comes on.next_first (settled_walk asked v).course.over refl on.settled h in
      record {
        came = subst (λ (over : Bool). peeked_by b asked over first v (peeked_of b asked u)) e
            (on.leads (peeked_of b asked u) rest.came);
        is_over = rest.is_over;
        rests = rest.rests;
      }

  -- A PEEK in a search that stands comes to what its steps come to.
  pub comes_peek : (first : ℕ) {v u : Walk} → v.course.over ≡ false → Peeking b asked first v → Comes b asked v u
      → PeekCame first false v u
  comes_peek first e s h = peek_comes first false e s h
