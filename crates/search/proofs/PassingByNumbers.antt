-- A turn that numbers settle is a pass of the loop: what is done by them is what the turn with the strand would have done, and the search
-- goes on after it.
use Prim.Native.Nat.{ℕ}
use mathlib.Core.Bool.{Bool, true, false, false≢true}
use mathlib.Core.Path.{◌≡◌, sym, ap, subst, ◌∙◌}
use Rattle.book.specs.declared.Book.{Book}
use Rattle.control.specs.declared.performed.Flow.TheVariants as ways
use Rattle.control.specs.TurnWrites.{turn_done}
use Rattle.control.specs.PerformStrand.{Lent}
use Rattle.control.specs.Stores.{SoundStores}
use Rattle.number_turns.proofs.NumberTurns.{number_turn_flows, number_turn_is}
use Rattle.search.specs.declared.course.Asked.{Asked}
use Rattle.search.specs.declared.course.Course.{Course}
use Rattle.search.specs.Course.{is_turn, carry}
use Rattle.search.specs.Means.{stores_of}
use Rattle.search.specs.RootAnswer.{one_more}
use Rattle.search.specs.Walk.{Walk, walk, numbers_of, goes_by, goes_on, conclude_by, may_settle_by, may_settle}
use Rattle.search.specs.Walk.{pass, settles, settles_next, settled_walk}
use Rattle.search.proofs.Passing.{before, left, after, concluded}
use Rattle.search.proofs.Settling.{next_settled}

-- a search that may settle a turn goes on after it
goes_settled : (turns : Bool) (done limit : ℕ) → may_settle_by turns done limit ≡ true → goes_by turns ways.Continue done limit ≡ true
goes_settled true done limit e = absurd (false≢true e)
goes_settled false done limit e = e

module _ (b : Book) (asked : Asked) (first : ℕ) (c : Course) (w : Lent)
    (o : SoundStores asked.table c.index first (stores_of b asked (walk c w)))
    (may : may_settle asked c.done ≡ true) (is_settled : (settles asked (walk c w)).settled ≡ true) where
  flows_on : (turn_done (before b asked c w)).flow ≡ ways.Continue
  flows_on = number_turn_flows asked.table c.index first (before b asked c w) o is_settled

  leaves_so : left b asked c w ≡ (settles asked (walk c w)).lent
  leaves_so = number_turn_is asked.table c.index first (before b asked c w) o is_settled

  -- the course after the turn
  abbrev course_of : Lent → Course
  course_of l = carry ways.Continue (numbers_of l) c

  goes : goes_on asked (course_of (left b asked c w)) ≡ true
  goes = goes_settled (is_turn asked.mode) (one_more c.done) asked.limit may

  pass_so : pass b asked (walk c w) ≡ settled_walk asked (walk c w)
  pass_so =
      ap (concluded b asked c w) flows_on
      ∙ ap (λ (g : Bool). conclude_by g (is_turn asked.mode) asked (course_of (left b asked c w)) (left b asked c w)) goes
      ∙ ap (λ (l : Lent). conclude_by true (is_turn asked.mode) asked (course_of l) l) leaves_so

pub settled_is_pass : (b : Book) (asked : Asked) (first : ℕ) (v : Walk)
    → SoundStores asked.table v.course.index first (stores_of b asked v) → v ≡ walk v.course v.lent
    → settles_next asked v ≡ true → settled_walk asked v ≡ pass b asked v
settled_is_pass b asked first v o numbers next =
    let both = next_settled (settles asked v).settled asked v.course.done next in
    subst (λ (y : Walk). settled_walk asked y ≡ pass b asked y) (sym numbers)
    (sym (pass_so b asked first v.course v.lent
    (subst (λ (y : Walk). SoundStores asked.table v.course.index first (stores_of b asked y)) numbers o) both.0
    (subst (λ (y : Walk). (settles asked y).settled ≡ true) numbers both.1)))
