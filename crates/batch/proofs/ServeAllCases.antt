-- The passes of the loop over variables: what is left to come after a pass was left to come before it, and less is left. No array that is
-- lent is in sight.
use Prim.Native.Nat.{ℕ, suc, ◌+◌, ◌*◌, ◌-◌, ◌%◌, min, ◌≤◌, ◌<◌}
use native.Mathlib.Nat.{mul-le-mul_left, mul-le-mul_right, le_trans}
use native.Mathlib.Omega.{arith}
use mathlib.Core.Bool.{Bool, true, false, not, false≢true}
use mathlib.Core.List.{List}
use mathlib.Core.Path.{◌≡◌, refl, sym, ap, subst, ◌∙◌}
use lib.Dec.{eqb, leb, ltb}
use borrow.Author.Tests.{lt-ltb, le-leb, leb-true}
use Rattle.definitions.specs.{MAX}
use Rattle.book.specs.declared.Book.{Book}
use Rattle.control.specs.PerformStrand.{Lent}
use Rattle.search.specs.declared.course.Course.{Course}
use Rattle.search.specs.Falls as falling
use Rattle.search.specs.Falls.{left_of}
use Rattle.search.specs.RootAnswer.{one_more_by, one_more}
use Rattle.search.specs.Walk.{Walk, walk, Comes, is_over}
use Rattle.batch.specs.declared.calls.Call.{Call}
use Rattle.batch.specs.declared.calls.Serving.{Serving}
use Rattle.batch.specs.Calls.{call_at}
use Rattle.batch.specs.Serve.{Stage, stage, open_by, table_of, live_with, opens, search_by, peek_by, refusal_at}
use Rattle.batch.specs.Serve.{begun_by, begun, told, served_by, served}
use Rattle.batch.specs.ServeAll.{runs_by, runs, walk_of, with_course, with_walk, Serves, all_told, hand_told, call_served}
use Rattle.batch.specs.ServeAll.{most_left, share_left, serving_left}

-- A CALL THAT IS BEGUN is at hand, and no other
abbrev AtHand : Stage → Stage → Type 0
AtHand v x = (x.serving.busy ≡ true) × (x.serving.at ≡ v.serving.at)

module _ (b : Book) (clock_limit : ℕ) (v : Stage) where
  open_at_hand : (marked missing there full : Bool) (t g : ℕ)
      → AtHand v (open_by b marked missing there full t g v.serving v.lent v.replies)
  open_at_hand true missing there full t g = (refl, refl)
  open_at_hand false true there full t g = (refl, refl)
  open_at_hand false false true full t g = (refl, refl)
  open_at_hand false false false true t g = (refl, refl)
  open_at_hand false false false false t g = (refl, refl)

  search_at_hand : (refused none_asked : Bool) (n table index limit : ℕ)
      → AtHand v (search_by refused none_asked n clock_limit table index limit v)
  search_at_hand true none_asked n table index limit = (refl, refl)
  search_at_hand false true n table index limit = (refl, refl)
  search_at_hand false false n table index limit = (refl, refl)

  peek_at_hand : (refused no_round none_asked : Bool) (n table index rounds limit : ℕ)
      → AtHand v (peek_by refused no_round none_asked n clock_limit table index rounds limit v)
  peek_at_hand true no_round none_asked n table index rounds limit = (refl, refl)
  peek_at_hand false true none_asked n table index rounds limit = (refl, refl)
  peek_at_hand false false true n table index rounds limit = (refl, refl)
  peek_at_hand false false false n table index rounds limit = (refl, refl)

  opens_at_hand : (goal : ℕ) → AtHand v (opens b goal v)
  opens_at_hand goal =
      let g = goal % 256 in
      let w = v.lent in
      open_at_hand (ltb 0 v.serving.course.mark) (leb b.goals goal) (ltb (table_of b g w) v.serving.course.count)
      (ltb 256 (live_with b g w)) (table_of b g w) g

  begun_by_at_hand : (opening search peek : Bool) (k : Call) → AtHand v (begun_by b clock_limit opening search peek k v)
  begun_by_at_hand true search peek k = opens_at_hand k.a
  begun_by_at_hand false true peek k =
      let n = refusal_at k.a k.b v in
      search_at_hand (ltb 0 n) (eqb k.c 0) n k.a k.b k.c
  begun_by_at_hand false false true k =
      let n = refusal_at k.a k.b v in
      peek_at_hand (ltb 0 n) (eqb k.c 0) (eqb k.d 0) n k.a k.b k.c k.d
  begun_by_at_hand false false false k = (refl, refl)

  begun_at_hand : (k : Call) → AtHand v (begun b clock_limit k v)
  begun_at_hand k = begun_by_at_hand (eqb k.kind 0) (eqb k.kind 1) (eqb k.kind 2) k

-- where no search runs, none is at hand or its course is over
runs_not : (busy over : Bool) → runs_by busy over ≡ false → busy ≡ true → over ≡ true
runs_not true true e q = refl
runs_not true false e q = absurd (false≢true (sym e))
runs_not false over e q = absurd (false≢true q)

pub runs_busy : (busy over : Bool) → runs_by busy over ≡ true → busy ≡ true
runs_busy true over e = refl
runs_busy false over e = absurd (false≢true e)

pub runs_on : (busy over : Bool) → runs_by busy over ≡ true → over ≡ false
runs_on true true e = absurd (false≢true e)
runs_on true false e = refl
runs_on false over e = absurd (false≢true e)

module _ (b : Book) (clock_limit : ℕ) (calls : List ℕ) (count : ℕ) where
  abbrev ComesTo : Stage → Stage → Type 0
  ComesTo v u = Serves b clock_limit calls count v u

  -- a call at hand, of those that were asked for, is told before all others
  hand_first : {v u : Stage} → ComesTo v u → v.serving.at < count → v.serving.busy ≡ true
      → (w : Walk) × Comes b v.serving.asked (walk_of v) w × ComesTo (told (with_walk v w)) u
  hand_first {v} (all_told e) more busy = absurd (omega (arith, more, leb-true count v.serving.at e))
  hand_first (hand_told {w = w} m e c h) more busy = (w, c, h)
  hand_first (call_served m e c h) more busy = absurd (false≢true (sym e ∙ busy))

  module _ (v : Stage) (more : v.serving.at < count) where
    -- SERVING
    module _ (idle : runs v.serving ≡ false) where
      told_by : (busy : Bool) → v.serving.busy ≡ busy → (u : Stage) → ComesTo (served_by b clock_limit calls busy v) u → ComesTo v u
      told_by true e u h =
          hand_told {w = walk_of v} (lt-ltb v.serving.at count more) e
          (is_over (runs_not v.serving.busy v.serving.course.over idle e)) h
      told_by false e u h =
          let x = begun_at_hand b clock_limit v (call_at calls v.serving.at) in
          let l = hand_first h (subst (λ (n : ℕ). n < count) (sym x.1) more) x.0 in
          call_served (lt-ltb v.serving.at count more) e l.1 l.2

      pub serves_call : (x : Stage) → x ≡ served b clock_limit calls v → (u : Stage) → ComesTo x u → ComesTo v u
      serves_call x e u h = told_by v.serving.busy refl u (subst (λ (y : Stage). ComesTo y u) e h)

    -- A TURN
    module _ (running : runs v.serving ≡ true) (c : Course) (w : Lent)
        (comes : (x : Walk) → Comes b v.serving.asked (walk c w) x → Comes b v.serving.asked (walk_of v) x) where
      pub serves_turn : (y : Serving) → y ≡ with_course c v.serving → (u : Stage) → ComesTo (stage y w v.replies) u → ComesTo v u
      serves_turn y e u h =
          let busy = runs_busy v.serving.busy v.serving.course.over running in
          let l = hand_first (subst (λ (s : Serving). ComesTo (stage s w v.replies) u) e h) more busy in
          hand_told (lt-ltb v.serving.at count more) busy (comes l.0 l.1) l.2

  -- THE END
  pub serves_none : (v : Stage) → count ≤ v.serving.at → ComesTo v v
  serves_none v past = all_told (le-leb count v.serving.at past)

-- LESS IS LEFT
least : (n : ℕ) → 0 ≤ n
least n = omega arith

one_above : {p q l m : ℕ} → p ≤ q → l ≤ m → suc (p + l) ≤ q + suc m
one_above h k = omega (arith, h, k)

fewer_turns : (limit done : ℕ) → limit ≤ MAX → limit - done ≤ 18446744073709551615
fewer_turns limit done h = omega (arith, h)

left_bound : (over : Bool) (limit more index done : ℕ) → limit ≤ MAX → more ≤ MAX
    → falling.left_by over limit more index done ≤ most_left
left_bound true limit more index done fits rounds = least most_left
left_bound false limit more index done fits rounds =
    let rounds_left = mul-le-mul_right (suc limit) (most_rounds more index rounds) in
    let turns_left = mul-le-mul_left (18446744073709551615 * 258 + 257) (most_turns limit fits) in
    one_above (le_trans rounds_left turns_left) (fewer_turns limit done fits)
  where
    most_rounds : (m i : ℕ) → m ≤ MAX → m * 258 + (257 - i) ≤ 18446744073709551615 * 258 + 257
    most_rounds m i h = omega (arith, h)

    most_turns : (n : ℕ) → n ≤ MAX → suc n ≤ 18446744073709551616
    most_turns n h = omega (arith, h)

-- one call more is told, a call is begun, and a turn more is done
call_falls : (d most left : ℕ) → d * (most + 3) + (most + 1) < suc d * (most + 3) + left
call_falls d most left = omega arith

begun_falls : (d most left : ℕ) → d + min left most < d + (most + 1)
begun_falls d most left = omega arith

turn_falls : (d most left after : ℕ) → left ≤ most → after < left → d + min after most < d + min left most
turn_falls d most left after h k = omega (arith, h, k)

one_more_is : (n m : ℕ) → n < m → m ≤ MAX → one_more n ≡ suc n
one_more_is n m h k = ap (λ (b : Bool). one_more_by b n) (lt-ltb n MAX (omega (arith, h, k)))

module _ (b : Book) (clock_limit : ℕ) (calls : List ℕ) (count : ℕ) (few : count ≤ MAX) (v : Stage)
    (more : v.serving.at < count) where
  told_by_falls : (n : ℕ) → n ≡ suc v.serving.at → (left : ℕ)
      → (count - n) * (most_left + 3) + (most_left + 1) < (count - v.serving.at) * (most_left + 3) + left
  told_by_falls n e left =
      subst (λ (d : ℕ). (count - n) * (most_left + 3) + (most_left + 1) < d * (most_left + 3) + left) (rest n v.serving.at e more)
      (call_falls (count - n) most_left left)
    where
      rest : (i j : ℕ) → i ≡ suc j → j < count → suc (count - i) ≡ count - j
      rest i j q h = omega (arith, q, h)

  falls_by : (busy : Bool) → v.serving.busy ≡ busy
      → serving_left count (served_by b clock_limit calls busy v).serving < serving_left count v.serving
  falls_by true e =
      told_by_falls (one_more v.serving.at) (one_more_is v.serving.at count more few)
      (share_left v.serving.busy (left_of v.serving.asked v.serving.course))
  falls_by false e =
      let x = (served_by b clock_limit calls false v).serving in
      let hand = begun_at_hand b clock_limit v (call_at calls v.serving.at) in
      let n = left_of x.asked x.course in
      subst (λ (y : ℕ). y < serving_left count v.serving) (sym (at_hand_left x v.serving.at hand.0 hand.1))
      (subst (λ (busy : Bool). (count - v.serving.at) * (most_left + 3) + min n most_left
      < (count - v.serving.at) * (most_left + 3) + share_left busy (left_of v.serving.asked v.serving.course)) (sym e)
      (begun_falls ((count - v.serving.at) * (most_left + 3)) most_left n))
    where
      at_hand_left : (x : Serving) (n : ℕ) → x.busy ≡ true → x.at ≡ n
          → serving_left count x ≡ (count - n) * (most_left + 3) + min (left_of x.asked x.course) most_left
      at_hand_left x n e q =
          ap (λ (i : ℕ). (count - i) * (most_left + 3) + share_left x.busy (left_of x.asked x.course)) q
          ∙ ap (λ (busy : Bool). (count - n) * (most_left + 3) + share_left busy (left_of x.asked x.course)) e

  pub serve_falls : (x : Stage) → x ≡ served b clock_limit calls v → serving_left count x.serving < serving_left count v.serving
  serve_falls x e =
      subst (λ (y : Stage). serving_left count y.serving < serving_left count v.serving) (sym e)
      (falls_by v.serving.busy refl)

-- a turn leaves less
pub course_falls : (count : ℕ) (s : Serving) → runs s ≡ true → s.asked.limit ≤ MAX → s.course.more ≤ MAX → (c : Course)
    → left_of s.asked c < left_of s.asked s.course → (y : Serving) → y ≡ with_course c s
    → serving_left count y < serving_left count s
course_falls count s running fits rounds c less y e =
    let busy = runs_busy s.busy s.course.over running in
    let x = s.course in
    let d = (count - s.at) * (most_left + 3) in
    subst (λ (z : Serving). serving_left count z < serving_left count s) (sym e)
    (subst (λ (at_hand : Bool). d + share_left at_hand (left_of s.asked c) < d + share_left at_hand (left_of s.asked x)) (sym busy)
    (turn_falls d most_left (left_of s.asked x) (left_of s.asked c)
    (left_bound x.over s.asked.limit x.more x.index x.done fits rounds) less))
