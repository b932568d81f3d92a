-- The passes of the loop over variables: a pass more comes to what the walk comes to, and less is left after it. No array that is lent is
-- in sight.
use Prim.Native.Nat.{ℕ, suc, ◌-◌, ◌≤◌, ◌<◌}
use native.Mathlib.Omega.{arith}
use mathlib.Core.Bool.{Bool, true, false, not, false≢true}
use mathlib.Core.List.{List}
use mathlib.Core.Path.{◌≡◌, refl, sym, ap, ap₂, subst, ◌∙◌}
use lib.Dec.{ltb}
use lib.ListN.{get_or}
use borrow.Author.Tests.{ltb-true, ltb-false}
use Rattle.definitions.specs.{MAX}
use Rattle.book.specs.declared.Book.{Book}
use Rattle.strands.specs.declared.Answer.{Answer}
use Rattle.strands.specs.declared.Strand.{Strand}
use Rattle.stores.specs.Places.{places}
use Rattle.stores.specs.Queue.{store}
use Rattle.stores.specs.View.{unread_answer}
use Rattle.control.specs.declared.performed.Flow.{Flow}
use Rattle.control.specs.declared.performed.Flow.TheVariants as flow
use Rattle.control.specs.MakeTables.{tables_of}
use Rattle.control.specs.PerformDeed.{stack_of, answers_of}
use Rattle.control.specs.TurnWrites.{put}
use Rattle.control.specs.PerformStrand.{Lent, lent_of, TurnDone}
use Rattle.search.specs.declared.course.Asked.{Asked}
use Rattle.search.specs.declared.course.Course.{Course}
use Rattle.search.specs.declared.ensure_root_answer.Looked.{Looked}
use Rattle.search.specs.declared.ensure_root_answer.Picked.{Picked}
use Rattle.search.specs.Course.{is_turn, carry}
use Rattle.search.specs.Falls.{left_by, left_of}
use Rattle.search.specs.RootAnswer.{one_more_by, one_more}
use Rattle.search.specs.Walk.{Walk, numbers_of, goes_by, goes_on, conclude_by, conclude, settles_next, done_with, pass_with}
use Rattle.search.specs.Walk.{looked_in, picked_in, pass, Comes, goes_further}
use Rattle.search.proofs.RootAnswerFalls.{end_falls, done_falls}

-- the loop's test, `!over`
pub still_on : (over : Bool) → not over ≡ true → over ≡ false
still_on true e = absurd (false≢true e)
still_on false e = refl

pub now_over : (over : Bool) → not over ≡ false → over ≡ true
now_over true e = refl
now_over false e = absurd (false≢true (sym e))

module _ (b : Book) (asked : Asked) (v : Walk) (l : Looked) (el : l ≡ looked_in b asked v.lent) (k : Picked)
    (ek : k ≡ picked_in b asked l v.lent) where
  abbrev passes : Looked → Picked → Walk
  passes m p = pass_with b asked v.course m p (get_or v.lent.answers.answers p.chosen.place unread_answer) v.lent

  -- what the pass leaves is what the model's pass leaves
  pub passed_is : passes l k ≡ pass b asked v
  passed_is =
      ap (passes l) ek
      ∙ ap (λ (m : Looked). passes m (picked_in b asked m v.lent)) el

  pub further : (u x : Walk) → u ≡ passes l k → v.course.over ≡ false → settles_next asked v ≡ false → Comes b asked u x
      → Comes b asked v x
  further u x eu e n h = goes_further e n (subst (λ (y : Walk). Comes b asked y x) (eu ∙ passed_is) h)

-- A PASS LEAVES LESS
module _ (asked : Asked) (fits : asked.limit ≤ MAX) where
  -- where a search goes on, one turn more is done, and one is left
  continues : (f : Flow) (turns : Bool) (done limit : ℕ) → goes_by turns f done limit ≡ true → done < limit
  continues f true done limit e = absurd (false≢true e)
  continues flow.Continue false done limit e = ltb-true done limit e
  continues flow.ReturnOk false done limit e = absurd (false≢true e)
  continues flow.NoMoreSolutions false done limit e = absurd (false≢true e)
  continues flow.QuantumExceeded false done limit e = absurd (false≢true e)
  continues flow.NegativeCycle false done limit e = absurd (false≢true e)
  continues (flow.Stop n) false done limit e = absurd (false≢true e)

  more_by : (n : ℕ) (b : Bool) → ltb n MAX ≡ b → one_more_by b n < asked.limit → one_more_by b n ≡ suc n
  more_by n true e h = refl
  more_by n false e h = absurd (omega (arith, h, fits, ltb-false n MAX e))

  -- the course that the turn left, of which only the numbers and the flow are new
  module _ (c d : Course) (e : c.over ≡ false) (eo : d.over ≡ c.over) (ei : d.index ≡ c.index) (em : d.more ≡ c.more)
      (ed : d.done ≡ c.done) (w : Lent) where
    by_tests : (goes turns : Bool) → goes_on asked d ≡ goes → left_of asked (conclude_by goes turns asked d w).course < left_of asked c
    by_tests true turns eg =
        let less = continues d.flow (is_turn asked.mode) (one_more d.done) asked.limit eg in
        let is = more_by d.done (ltb d.done MAX) refl less in
        done_falls asked c (conclude_by true turns asked d w).course e ei em (is ∙ ap suc ed) (omega (arith, less, is, ed))
    by_tests false true eg =
        subst (λ (o : Bool). 0 < left_by o asked.limit c.more c.index c.done) (sym e) (omega arith)
    by_tests false false eg =
        let a = w.answers in
        end_falls asked w.tables.floundered a.places.next a.places.tail a.places.len a.variant a.key a.ambiguous
        c d e ei em

    pub concluded_falls : left_of asked (conclude asked d w).course < left_of asked c
    concluded_falls = by_tests (goes_on asked d) (is_turn asked.mode) refl

  pub falls : (b : Book) (v : Walk) (l : Looked) → l ≡ looked_in b asked v.lent → (k : Picked) → k ≡ picked_in b asked l v.lent
      → (u : Walk)
      → u ≡ pass_with b asked v.course l k (get_or v.lent.answers.answers k.chosen.place unread_answer) v.lent
      → v.course.over ≡ false → left_of asked u.course < left_of asked v.course
  falls b v l el k ek u eu e =
      let t : TurnDone = done_with b asked v.course l k (get_or v.lent.answers.answers k.chosen.place unread_answer) v.lent in
      subst (λ (y : Walk). left_of asked y.course < left_of asked v.course) (sym eu)
      (concluded_falls v.course (carry t.flow (numbers_of t.lent) v.course) e refl refl refl refl (put t))
