-- The ways out of the functions of a search by value, over variables: what a search put back is, and what one pass asked for comes to.
use Prim.Native.Nat.{ℕ}
use mathlib.Core.Bool.{Bool, true, false, false≢true}
use mathlib.Core.Path.{◌≡◌, refl, sym, ap, ◌∙◌}
use borrow.Author.Tests.{eq-eqb, ne_eqb}
use Rattle.book.specs.declared.Book.{Book}
use Rattle.stores.specs.declared.places.Places.{Places}
use Rattle.stores.specs.Numbers.{within}
use Rattle.stores.specs.Queue.{with_places}
use Rattle.control.specs.declared.performed.Flow.{Flow}
use Rattle.control.specs.declared.performed.Flow.TheVariants as flow
use Rattle.control.specs.InHand.{lent, with_lent}
use Rattle.control.specs.PerformDeed.{bare}
use Rattle.control.specs.PerformStrand.{lent_of}
use Rattle.control.specs.TurnWrites.{turn_done, turned}
use Rattle.control.specs.UnwindStack.{all_back}
use Rattle.search.specs.declared.course.Asked.{Asked}
use Rattle.search.specs.declared.course.Course.{Course}
use Rattle.search.specs.declared.course.Ending.TheVariants as endings
use Rattle.search.specs.declared.course.Mode.TheVariants as modes
use Rattle.search.specs.declared.solve_state.Search.{Search}
use Rattle.search.specs.declared.solve_state.Turned.{Turned}
use Rattle.search.specs.Course.{is_turn}
use Rattle.search.specs.Means.{stores_of}
use Rattle.search.specs.RootAnswer.{one_more}
use Rattle.search.specs.SolveState.{stores_in, with_stores, is_stop, left_by, turn_so, turn_by, turn_of, cut_of}
use Rattle.search.specs.Walk.{Walk, walk, may_settle_by, settles, settles_next, pass}
use Rattle.search.specs.Walk.{Comes, is_over, goes_further, goes_by_numbers}
use Rattle.search.proofs.Settling.{next_not}

-- A SEARCH PUT BACK, by the rings that are left
abbrev pub with_rings : Places → Search → Search
with_rings p s =
    let z = stores_in s in
    with_stores (with_lent (lent_of z.tables (with_places z.strands p) z.answers (bare z.stack) z.clock) z) s.done s

pub cut_is : (s : Search) (p : Places) → p ≡ all_back s.stack.table s.stack.active (within s.stack.depth) (stores_in s).strands.places
    → with_rings p s ≡ cut_of s
cut_is s p e = ap (λ (p : Places). with_rings p s) e

-- ONE PASS: what is over comes to itself, and where one turn was asked for and its pass ends it, to what that pass leaves
module _ (b : Book) (asked : Asked) where
  comes_itself : {v u : Walk} → Comes b asked v u → v.course.over ≡ true → v ≡ u
  comes_itself (is_over e) h = refl
  comes_itself (goes_further e n k) h = absurd (false≢true (sym e ∙ h))
  comes_itself (goes_by_numbers e n k) h = absurd (false≢true (sym e ∙ h))

  -- one turn is not settled by numbers
  none_settled : is_turn asked.mode ≡ true → (v : Walk) → settles_next asked v ≡ false
  none_settled turns v =
      next_not (settles asked v).settled asked v.course.done
      (ap (λ (b : Bool). may_settle_by b (one_more v.course.done) asked.limit) turns)

  pub comes_by_a_pass : {v u : Walk} → Comes b asked v u → is_turn asked.mode ≡ true → v.course.over ≡ false
      → (pass b asked v).course.over ≡ true → pass b asked v ≡ u
  comes_by_a_pass (is_over e) turns h over = absurd (false≢true (sym h ∙ e))
  comes_by_a_pass (goes_further e n k) turns h over = comes_itself k over
  comes_by_a_pass {v = v} (goes_by_numbers e n k) turns h over = absurd (false≢true (sym (none_settled turns v) ∙ n))

-- A TURN
module _ (s : Search) where
  abbrev pub asked_in : Asked
  asked_in = record { mode = modes.Turn; table = s.table; limit = s.limit; clock_limit = s.clock_limit }

  abbrev pub course_in : Course
  course_in = record {
    over = false;
    ending = endings.Cut;
    flow = flow.Continue;
    index = s.index;
    more = 0;
    exceeded = 0;
    done = s.done;
    mark = s.mark;
    count = s.stores.tables.count;
    depth = s.stack.depth;
    clock = s.clock;
    used = s.stores.strands.places.top;
    answer_used = s.stores.answers.places.top;
  }

  abbrev pub walk_in : Walk
  walk_in = walk course_in (lent (stores_in s))

  -- the search that a walk leaves
  abbrev pub search_at : Walk → (done : ℕ) → Search
  search_at v n = with_stores (stores_of s.book asked_in v) n s

  pub turns_once : {u : Walk} → Comes s.book asked_in walk_in u → pass s.book asked_in walk_in ≡ u
  turns_once k = comes_by_a_pass s.book asked_in k refl refl refl

  flow_is : {u : Walk} → Comes s.book asked_in walk_in u → (turn_done (stores_in s)).flow ≡ u.course.flow
  flow_is k = ap (λ (v : Walk). v.course.flow) (turns_once k)

  search_is : {u : Walk} → Comes s.book asked_in walk_in u
      → with_stores (turned (stores_in s)) (one_more s.done) s ≡ search_at u (one_more s.done)
  search_is k = ap (λ (v : Walk). search_at v (one_more s.done)) (turns_once k)

  -- by whether it stops
  as_it_was : (f : Flow) (stops : Bool) → stops ≡ is_stop f → stops ≡ true → s ≡ left_by (is_stop f) s
  as_it_was f stops e is = ap (λ (b : Bool). left_by b s) (sym is ∙ e)

  goes_on : (f : Flow) (stops : Bool) → stops ≡ is_stop f → stops ≡ false
      → with_stores (turned (stores_in s)) (one_more s.done) s ≡ left_by (is_stop f) s
  goes_on f stops e is = ap (λ (b : Bool). left_by b s) (sym is ∙ e)

  abbrev turned_with : Flow → Search → Turned
  turned_with f x = record { flow = f; search = x }

  -- else
  module _ (standing : s.stack.depth ≡ 0 → ⊥) where
    by_flow : (f : Flow) → (turn_done (stores_in s)).flow ≡ f → turn_so f s ≡ turn_of s
    by_flow f e = ap (λ (f : Flow). turn_so f s) (sym e) ∙ sym (ap (λ (empty : Bool). turn_by empty s) (ne_eqb s.stack.depth 0 standing))

    pub turn_stopped : {u : Walk} → Comes s.book asked_in walk_in u → (stops : Bool) → stops ≡ is_stop u.course.flow
        → stops ≡ true → turned_with u.course.flow s ≡ turn_of s
    turn_stopped {u} k stops e is =
        ap (turned_with u.course.flow) (as_it_was u.course.flow stops e is)
        ∙ by_flow u.course.flow (flow_is k)

    pub turn_left : {u : Walk} → Comes s.book asked_in walk_in u → (stops : Bool) → stops ≡ is_stop u.course.flow
        → stops ≡ false → (done : ℕ) → done ≡ one_more s.done → turned_with u.course.flow (search_at u done) ≡ turn_of s
    turn_left {u} k stops e is done d =
        ap (λ (n : ℕ). turned_with u.course.flow (search_at u n)) d
        ∙ ap (turned_with u.course.flow) (sym (search_is k) ∙ goes_on u.course.flow stops e is)
        ∙ by_flow u.course.flow (flow_is k)
