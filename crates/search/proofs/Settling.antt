-- Turns by numbers, one after the other, over variables: what the walk after one settles to, the walk before it does, and fewer are left.
-- What such turns come to is a walk that goes on by a pass, to what the walk before them comes to.
use Prim.Native.Nat.{ℕ, suc, ◌+◌, ◌*◌, ◌-◌, ◌≤◌, ◌<◌}
use native.Mathlib.Nat.{le_refl, le_trans, lt_of_lt_of_le}
use native.Mathlib.Omega.{arith}
use mathlib.Core.Bool.{Bool, true, false, false≢true}
use mathlib.Core.List.{List}
use mathlib.Core.Path.{◌≡◌, refl, sym, ap, ap₂, subst, ◌∙◌}
use lib.Dec.{leb, ltb}
use lib.ListN.{get_or}
use borrow.Author.Tests.{ltb-true, ltb-false}
use Rattle.definitions.specs.{MAX}
use Rattle.book.specs.declared.Book.{Book}
use Rattle.strands.specs.declared.Answer.{Answer}
use Rattle.strands.specs.declared.Strand.{Strand}
use Rattle.stores.specs.declared.Stores.{Stores}
use Rattle.stores.specs.declared.stack.Stack.{Stack}
use Rattle.stores.specs.View.{unread_answer}
use Rattle.control.specs.declared.performed.Flow.{Flow}
use Rattle.control.specs.declared.performed.Flow.TheVariants as flow
use Rattle.control.specs.declared.ensure_root_answer.Next.{Next}
use Rattle.control.specs.declared.ensure_root_answer.Top.{Top}
use Rattle.control.specs.PerformStrand.{Lent}
use Rattle.number_turns.specs.declared.number_turn.Move.{Move}
use Rattle.number_turns.specs.declared.number_turn.Move.TheVariants as move
use Rattle.number_turns.specs.NumberTurn.{NumberTurn, numbered_by, moves, lent_moved, next_in, top_in, move_in, number_turn}
use Rattle.search.specs.declared.course.Asked.{Asked}
use Rattle.search.specs.declared.course.Course.{Course}
use Rattle.search.specs.declared.ensure_root_answer.Looked.{Looked}
use Rattle.search.specs.declared.ensure_root_answer.Picked.{Picked}
use Rattle.search.specs.Course.{is_turn, carry}
use Rattle.search.specs.Falls.{left_by, left_of}
use Rattle.search.specs.RootAnswer.{one_more_by, one_more}
use Rattle.search.specs.Walk.{Walk, walk, standing, walking, numbered, numbers_of, one_done, may_settle_by, may_settle, settled_flow, settled_done}
use Rattle.search.specs.Walk.{settles_on, settles, settles_next, settled_walk, Settles, none_settles, next_settles}
use Rattle.search.specs.Walk.{pass_with, looked_in, picked_in, Comes, goes_by_numbers}
use Rattle.search.proofs.Looping.{further, falls}

-- `may_settle`
pub may_not : (asked : Asked) (done : ℕ) (b : Bool) → b ≡ is_turn asked.mode → b ≡ true → false ≡ may_settle asked done
may_not asked done b is e = ap (λ (t : Bool). may_settle_by t (one_more done) asked.limit) (sym e ∙ is)

-- `done_after`

-- `settles_on`

-- THE COURSE that turns by numbers leave, of which only these are new
abbrev pub course_so : Course → (depth clock done : ℕ) → Flow → Course
course_so c depth clock done f = record {
  over = c.over;
  ending = c.ending;
  flow = f;
  index = c.index;
  more = c.more;
  exceeded = c.exceeded;
  done = done;
  mark = c.mark;
  count = c.count;
  depth = depth;
  clock = clock;
  used = c.used;
  answer_used = c.answer_used;
}

-- A TURN THAT IS NOT SETTLED leaves all as it was
unmoved_by : (p : Next) (top : Top) (m : Move) (w : Lent) → moves m ≡ false → lent_moved p top m w ≡ w
unmoved_by p top move.Nothing w e = refl
unmoved_by p top (move.Pushes t) w e = absurd (false≢true (sym e))
unmoved_by p top (move.Cycles height) w e = absurd (false≢true (sym e))
unmoved_by p top move.Rejoins w e = absurd (false≢true (sym e))

unmoved : (late : Bool) (w : Lent) → (number_turn late w).settled ≡ false → (number_turn late w).lent ≡ w
unmoved late w e = unmoved_by (next_in w) (top_in w) (move_in late w) w e

-- WHETHER THE NEXT TURN IS SETTLED: it may be, and is; not so where it may not
pub next_settled : (settled : Bool) (asked : Asked) (done : ℕ) → settles_on settled asked done ≡ true
    → (may_settle asked done ≡ true) × (settled ≡ true)
next_settled true asked done e = (e, refl)
next_settled false asked done e = absurd (false≢true e)

pub next_not : (settled : Bool) (asked : Asked) (done : ℕ) → may_settle asked done ≡ false → settles_on settled asked done ≡ false
next_not true asked done e = e
next_not false asked done e = refl

-- WHAT IS LEFT TO SETTLE, by whether the loop goes on
abbrev pub rest_by : (more : Bool) → Asked → Walk → Walk → Type 0
rest_by true asked v u = Settles asked v u
rest_by false asked v u = v ≡ u

pub rest_none : (more : Bool) → more ≡ false → (asked : Asked) (v : Walk) → rest_by more asked v v
rest_none true e asked v = absurd (false≢true (sym e))
rest_none false e asked v = refl

pub rest_going : (more : Bool) → more ≡ true → {asked : Asked} {v u : Walk} → Settles asked v u → rest_by more asked v u
rest_going true e h = h
rest_going false e h = absurd (false≢true e)

-- it goes on where the next turn may be settled
pub rest_settles : (asked : Asked) (v : Walk) (more : Bool) → more ≡ may_settle asked v.course.done → (u : Walk)
    → rest_by more asked v u → Settles asked v u
rest_settles asked v true e u h = h
rest_settles asked v false e u h =
    subst (Settles asked v) h (none_settles (next_not (settles asked v).settled asked v.course.done (sym e)))

-- A TURN BY NUMBERS, by whether it is settled; `w` is what is lent before it and `w'` after it
module _ (asked : Asked) (c : Course) (w w' : Lent) where
  abbrev after : (settled : Bool) → Walk
  after settled =
      walk (course_so c w'.stack.depth w'.clock (settled_done settled c.done) (settled_flow settled c.flow)) w'

  module _ (may : may_settle asked c.done ≡ true) (again : Bool) (u : Walk) where
    settles_by : (settled : Bool) → numbered_by settled (numbered (after settled).course w') ≡ settles asked (walk c w)
        → again ≡ settles_on settled asked (settled_done settled c.done) → rest_by again asked (after settled) u
        → Settles asked (walk c w) u
    settles_by true is on h =
        next_settles (ap (λ (n : NumberTurn). settles_on n.settled asked c.done) (sym is) ∙ may)
        (rest_settles asked (settled_walk asked (walk c w)) again on u
        (subst (λ (y : Walk). rest_by again asked y u)
        (ap (λ (n : NumberTurn). walk (one_done (carry flow.Continue (numbers_of n.lent) c)) n.lent) is) h))
    settles_by false is on h =
        let same : numbered (after false).course w' ≡ numbered c w =
        ap (λ (n : NumberTurn). n.lent) is
        ∙ unmoved (leb asked.clock_limit c.clock) (numbered c w) (sym (ap (λ (n : NumberTurn). n.settled) is)) in
        let stays : after false ≡ walk c w =
        ap (λ (l : Lent). walk (course_so c l.stack.depth l.clock c.done c.flow) l) same in
        subst (Settles asked (walk c w)) (sym stays ∙ subst (λ (more : Bool). rest_by more asked (after false) u) on h)
        (none_settles (ap (λ (n : NumberTurn). settles_on n.settled asked c.done) (sym is)))

-- the stores and the stack before it and after it
module _ (asked : Asked) (c : Course) (s s' : Stores) (k k' : Stack) where
  pub turn_settles : may_settle asked c.done ≡ true → (settled : Bool) (depth clock done : ℕ) (f : Flow)
      → numbered_by settled (numbered (course_so c depth clock done f) (standing s' k' clock))
      ≡ number_turn (leb asked.clock_limit c.clock) (numbered c (standing s k c.clock))
      → done ≡ settled_done settled c.done → f ≡ settled_flow settled c.flow
      → (again : Bool) → again ≡ settles_on settled asked done → (u : Walk)
      → rest_by again asked (walking (course_so c depth clock done f) s' k') u → Settles asked (walking c s k) u
  turn_settles may settled depth clock done f is ed ef again on u h =
      settles_by asked c (standing s k c.clock) (numbered (course_so c depth clock done f) (standing s' k' clock)) may again u settled is
      (on ∙ ap (settles_on settled asked) ed)
      (subst (λ (y : Walk). rest_by again asked y u)
      (ap₂ (λ (n : ℕ) (g : Flow). walking (course_so c depth clock n g) s' k') ed ef) h)

-- WHAT TURNS BY NUMBERS COME TO
more_most : (n : ℕ) (b : Bool) → n ≤ one_more_by b n
more_most n true = omega arith
more_most n false = le_refl n

left_apart : (x k d n : ℕ) → d ≤ n → suc (x + (k - n)) ≤ suc (x + (k - d))
left_apart x k d n h = omega arith

less_left : (over : Bool) (limit more index d n : ℕ) → d ≤ n → left_by over limit more index n ≤ left_by over limit more index d
less_left true limit more index d n h = le_refl 0
less_left false limit more index d n h = left_apart ((more * 258 + (257 - index)) * suc limit) limit d n h

module _ {asked : Asked} where
  -- the next turn is not settled
  pub settles_last : {v u : Walk} → Settles asked v u → settles_next asked u ≡ false
  settles_last (none_settles e) = e
  settles_last (next_settles e h) = settles_last h

  -- no search ends, or is begun
  pub settles_over : {v u : Walk} → Settles asked v u → u.course.over ≡ v.course.over
  settles_over (none_settles e) = refl
  settles_over (next_settles e h) = settles_over h

  -- no turn is taken back
  pub settles_left : {v u : Walk} → Settles asked v u → left_of asked u.course ≤ left_of asked v.course
  settles_left {v} (none_settles e) = le_refl (left_of asked v.course)
  settles_left {v} (next_settles e h) =
      let c = v.course in
      le_trans (settles_left h)
      (less_left c.over asked.limit c.more c.index c.done (one_more c.done) (more_most c.done (ltb c.done MAX)))

  -- what the walk after them comes to, the walk before them comes to
  pub settles_comes : (b : Book) {v u : Walk} → Settles asked v u → v.course.over ≡ false → (x : Walk) → Comes b asked u x
      → Comes b asked v x
  settles_comes b (none_settles e) on x h = h
  settles_comes b (next_settles e s) on x h = goes_by_numbers on e (settles_comes b s on x h)

  -- A PASS AFTER THEM, of a walk `v` that came to `s`
  module _ (b : Book) {v s : Walk} (settled : Settles asked v s) (on : v.course.over ≡ false) (l : Looked)
      (el : l ≡ looked_in b asked s.lent) (k : Picked) (ek : k ≡ picked_in b asked l s.lent) (u : Walk)
      (eu : u ≡ pass_with b asked s.course l k (get_or s.lent.answers.answers k.chosen.place unread_answer) s.lent) where
    pub settled_further : (x : Walk) → Comes b asked u x → Comes b asked v x
    settled_further x h =
        settles_comes b settled on x (further b asked s l el k ek u x eu (settles_over settled ∙ on) (settles_last settled) h)

    pub settled_falls : asked.limit ≤ MAX → left_of asked u.course < left_of asked v.course
    settled_falls fits =
        lt_of_lt_of_le (falls asked fits b s l el k ek u eu (settles_over settled ∙ on)) (settles_left settled)

-- FEWER ARE LEFT after each, and none where no more is settled
abbrev pub turns_left : (more : Bool) → (limit done : ℕ) → ℕ
turns_left true limit done = suc (limit - done)
turns_left false limit done = 0

module _ (asked : Asked) (fits : asked.limit ≤ MAX) where
  one_by : (n : ℕ) (b : Bool) → ltb n MAX ≡ b → one_more_by b n < asked.limit → one_more_by b n ≡ suc n
  one_by n true e h = refl
  one_by n false e h = absurd (omega (arith, h, fits, ltb-false n MAX e))

  may_left : (turns : Bool) (n : ℕ) → may_settle_by turns n asked.limit ≡ true → n < asked.limit
  may_left true n e = absurd (false≢true e)
  may_left false n e = ltb-true n asked.limit e

  fewer_by : (again : Bool) (done : ℕ) → may_settle asked done ≡ true
      → turns_left again asked.limit (one_more done) < suc (asked.limit - done)
  fewer_by false done may = omega arith
  fewer_by true done may =
      let less = may_left (is_turn asked.mode) (one_more done) may in
      let one = one_by done (ltb done MAX) refl less in
      omega (arith, less, one)

  fewer_settled : (settled : Bool) (done : ℕ) → may_settle asked done ≡ true
      → turns_left (settles_on settled asked (settled_done settled done)) asked.limit (settled_done settled done)
      < suc (asked.limit - done)
  fewer_settled true done may = fewer_by (may_settle asked (one_more done)) done may
  fewer_settled false done may = omega arith

  pub fewer : (more : Bool) → more ≡ true → (done : ℕ) → may_settle asked done ≡ true → (settled : Bool)
      → (n : ℕ) → n ≡ settled_done settled done → (again : Bool) → again ≡ settles_on settled asked n
      → turns_left again asked.limit n < turns_left more asked.limit done
  fewer more em done may settled n en again ea =
      subst (λ (m : Bool). turns_left again asked.limit n < turns_left m asked.limit done) (sym em)
      (subst (λ (a : Bool). turns_left a asked.limit n < suc (asked.limit - done)) (sym ea)
      (subst (λ (m : ℕ). turns_left (settles_on settled asked m) asked.limit m < suc (asked.limit - done)) (sym en)
      (fewer_settled settled done may)))

-- where one more may be settled, it may
pub still_may : (settled : Bool) (asked : Asked) (done : ℕ) (more : Bool) → more ≡ settles_on settled asked done → more ≡ true
    → may_settle asked done ≡ true
still_may settled asked done more is e = (next_settled settled asked done (sym is ∙ e)).0
