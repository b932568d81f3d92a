-- One call of those that are handed over, on a sound forest: what was begun and has come to an end is what the call's function may give.
use Prim.Native.Nat.{ℕ, ◌-◌, ◌%◌, ◌≤◌}
use mathlib.Core.Bool.{Bool, true, false, true≢false}
use mathlib.Core.List.{List}
use mathlib.Core.Logic.{inl, inr}
use mathlib.Core.Path.{◌≡◌, refl, sym, subst, ◌∙◌}
use lib.Dec.{eqb, leb, ltb}
use lib.ListN.{get_or}
use borrow.Author.Tests.{ltb-true, ltb-false, leb-true, leb-false, eqb-true, eqb-false}
use Rattle.definitions.specs.{MAX}
use Rattle.definitions.specs.Calls as said
use Rattle.book.specs.declared.Book.{Book}
use Rattle.stores.specs.declared.stack.Stack.{Stack}
use Rattle.stores.specs.Sound.{SoundStack}
use Rattle.stores.specs.View.{unread_answer}
use Rattle.control.specs.TurnWrites.{put}
use Rattle.control.specs.PerformStrand.{Lent}
use Rattle.search.specs.declared.course.Asked.{Asked}
use Rattle.search.specs.declared.course.Course.{Course}
use Rattle.search.specs.declared.course.Ending.{Ending}
use Rattle.search.specs.declared.course.Ending.TheVariants as endings
use Rattle.search.specs.declared.course.Mode.{Mode}
use Rattle.search.specs.declared.course.Mode.TheVariants as modes
use Rattle.search.specs.Course.{is_turn, carry}
use Rattle.search.specs.Means.{Rests}
use Rattle.search.specs.Walk.{Walk, numbered, numbers_of, goes_on, conclude_by, done_with, looked_in, picked_in, pass, settled_walk}
use Rattle.search.specs.Walk.{Comes, is_over, goes_further, goes_by_numbers}
use Rattle.batch.specs.declared.calls.Call.{Call}
use Rattle.batch.specs.declared.calls.Said.{Said}
use Rattle.batch.specs.declared.calls.Said.TheVariants as saying
use Rattle.batch.specs.declared.calls.Serving.{Serving}
use Rattle.batch.specs.Calls.{reply, word_of, value_of, reply_of}
use Rattle.batch.specs.Serve.{Stage, stage, said_at_once, refusal_at, begins, search_by, peek_by}
use Rattle.batch.specs.Serve.{from_index, future_by, stored_from, queued_in, begun_by}
use Rattle.batch.specs.ServeAll.{walk_of}
use Rattle.forest.specs.declared.Forest.{Forest}
use Rattle.forest.specs.declared.any_future_answer.Future.TheVariants as futures
use Rattle.forest.specs.declared.searches.Outcome.TheVariants as outcomes
use Rattle.forest.specs.declared.searches.Peeked.{Peeked}
use Rattle.forest.specs.declared.searches.Ran.{Ran}
use Rattle.forest.specs.Searches.{outcome_of}
use Rattle.forest.specs.ServeCalls.{means_by, outcome_numbers, numbers}
use Rattle.forest.specs.Sittings.{Told, opens, searches, peeks, asks_future, left, Gives, asked}
use Rattle.forest.specs.View.{book_in, stores_with, Sound}
use Rattle.forest.proofs.AnyFutureAnswerCases.{Within, says_unmade, says_stored, says_queued}
use Rattle.forest.proofs.Opening.{forest_of, forest_at, told_of, OpensBy, opened_so, open_told}
use Rattle.forest.proofs.Running.{rests_with, stack_left}
use Rattle.forest.proofs.SearchPeekCases.{asked_in, RunsFrom, search_refused, search_limit, searches_so, search_ran}
use Rattle.forest.proofs.SearchPeekCases.{peek_refused, peek_rounds_none, peek_limit, peeks_so, peek_ran}

-- a stack that nothing is on
pub record Idle (k : Stack) : Type 0 where
  pub sound : SoundStack k
  pub empty : k.depth ≡ 0

-- the forest that a call leaves is sound
pub left_sound : (f : Forest) (t : Told) → Sound f → Gives f t → Sound (left f t)
left_sound f (opens goal r) s g = g.sound s
left_sound f (searches table index limit r) s g = g.sound s
left_sound f (peeks table index rounds limit r) s g = g.sound s
left_sound f (asks_future table index variant r) s g = s

-- what is lent has the numbers that the course carries
abbrev Numbered : Walk → Type 0
Numbered v = v.lent ≡ numbered v.course v.lent

concluded : (a : Asked) (goes turns : Bool) (c : Course) (w : Lent) → Numbered (conclude_by goes turns a c w)
concluded a true turns c w = refl
concluded a false true c w = refl
concluded a false false c w = refl

passed : (b : Book) (a : Asked) (v : Walk) → Numbered (pass b a v)
passed b a v =
    let w = v.lent in
    let l = looked_in b a w in
    let k = picked_in b a l w in
    let t = done_with b a v.course l k (get_or w.answers.answers k.chosen.place unread_answer) w in
    let c = carry t.flow (numbers_of t.lent) v.course in
    concluded a (goes_on a c) (is_turn a.mode) c (put t)

-- WHAT A WALK COMES TO
module _ {b : Book} {a : Asked} where
  -- one that is over is not gone on with
  stays : {v u : Walk} → v.course.over ≡ true → Comes b a v u → u ≡ v
  stays e (is_over d) = refl
  stays e (goes_further d n h) = absurd (true≢false (sym e ∙ d))
  stays e (goes_by_numbers d n h) = absurd (true≢false (sym e ∙ d))

  stays_numbered : {v u : Walk} → Numbered v → Comes b a v u → Numbered u
  stays_numbered e (is_over d) = e
  stays_numbered {v} e (goes_further d n h) = stays_numbered {v = pass b a v} (passed b a v) h
  stays_numbered {v} e (goes_by_numbers d n h) = stays_numbered {v = settled_walk a v} refl h

-- how searches end, as numbers
ending_numbers : (i t e : ℕ) (d : Ending) → reply (word_of d) (value_of d) i t e ≡ outcome_numbers i t e (outcome_of d)
ending_numbers i t e (endings.Found variant ambiguous) = refl
ending_numbers i t e endings.NoMoreSolutions = refl
ending_numbers i t e endings.Floundered = refl
ending_numbers i t e endings.QuantumExceeded = refl
ending_numbers i t e endings.NegativeCycle = refl
ending_numbers i t e endings.InvalidAnswer = refl
ending_numbers i t e endings.Cut = refl
ending_numbers i t e (endings.Stopped n) = refl

-- the call of a stage v that was begun so came to x: it is told as this call of its function
pub record Came (f : Forest) (v : Stage) (call : said.Call) (begun : Stage) (x : Walk) : Type 0 where
  pub tells : Told
  pub gives : Gives (forest_at f v) tells
  pub asks : asked tells ≡ call
  pub replies : reply_of begun.serving.said x.course ≡ numbers tells
  pub leaves : forest_of f x.course x.lent ≡ left (forest_at f v) tells
  pub idle : Idle (stack_left x.course x.lent.stack)
  pub same_at : begun.serving.at ≡ v.serving.at
  pub same_replies : begun.replies ≡ v.replies

module _ (f : Forest) (s : Serving) (w : Lent) (l : List ℕ) where
  abbrev v : Stage
  v = stage s w l

  -- the forest at hand
  abbrev g : Forest
  g = forest_at f v

  module _ (o : Sound g) (idle : Idle v.lent.stack) where
    -- what was said at once
    at_once : {a : Asked} {call : said.Call} {begun : Stage} {x : Walk} → begun.serving.course.over ≡ true
        → Comes (book_in f) a (walk_of begun) x → (t : Told) → Gives g t → asked t ≡ call
        → reply_of begun.serving.said begun.serving.course ≡ numbers t → forest_at f begun ≡ left g t
        → Idle (stack_left begun.serving.course begun.lent.stack) → begun.serving.at ≡ s.at → begun.replies ≡ l
        → Came f v call begun x
    at_once {call = call} {begun = begun} e h t gives asks replies leaves i same_at same_replies =
        subst (λ (z : Walk). Came f v call begun z) (sym (stays e h))
        (record {
          tells = t;
          gives = gives;
          asks = asks;
          replies = replies;
          leaves = leaves;
          idle = i;
          same_at = same_at;
          same_replies = same_replies;
        })

    -- what was run
    ran_so : (said : Said) (mode : Mode) (table limit index more : ℕ) {x : Walk}
        → Comes (book_in f) (asked_in g mode table limit) (walk_of (begins said (asked_in g mode table limit) index more v)) x
        → RunsFrom g v.lent.stack (asked_in g mode table limit) index more
        (record { course = x.course; forest = forest_of f x.course x.lent })
    ran_so said mode table limit index more {x} h = record {
      stack = x.lent.stack;
      comes =
          let a = asked_in g mode table limit in
          subst (λ (z : Walk). Comes (book_in f) a (walk_of (begins said a index more v)) z)
          (λ i. record { course = x.course; lent = stays_numbered refl h i }) h;
      carries = record { book = refl; limit = refl; mark = refl; count = refl; clock = refl; used = refl; answer_used = refl };
    }

    -- OPENING
    module _ (goal : ℕ) where
      abbrev opened : (marked missing there full : Bool) → Stage
      opened marked missing there full = opened_so f s w l goal marked missing there full

      open_came : (marked missing there full : Bool) → OpensBy f s w goal marked missing there full → {x : Walk}
          → Comes (book_in f) (opened marked missing there full).serving.asked (walk_of (opened marked missing there full)) x
          → Came f v (said.opens goal) (opened marked missing there full) x
      open_came true missing there full e h =
          at_once refl h (opens goal (told_of f (opened true missing there full)))
          (open_told f s w l goal true missing there full e) refl refl refl idle refl refl
      open_came false true there full e h =
          at_once refl h (opens goal (told_of f (opened false true there full)))
          (open_told f s w l goal false true there full e) refl refl refl idle refl refl
      open_came false false true full e h =
          at_once refl h (opens goal (told_of f (opened false false true full)))
          (open_told f s w l goal false false true full e) refl refl refl idle refl refl
      open_came false false false true e h =
          at_once refl h (opens goal (told_of f (opened false false false true)))
          (open_told f s w l goal false false false true e) refl refl refl idle refl refl
      open_came false false false false e h =
          at_once refl h (opens goal (told_of f (opened false false false false)))
          (open_told f s w l goal false false false false e) refl refl refl idle refl refl

    -- SEARCHING
    abbrev k : Stack
    k = v.lent.stack

    rests : Sound g → Rests (stores_with g k)
    rests = rests_with g k idle.sound idle.empty

    module _ (table index : ℕ) where
      abbrev n : ℕ
      n = refusal_at table index v

      module _ (limit : ℕ) (few : limit ≤ MAX) where
        abbrev searched : (refused none_asked : Bool) → Stage
        searched refused none_asked = search_by refused none_asked n f.clock_limit table index limit v

        search_came : (refused none_asked : Bool) → ltb 0 n ≡ refused → eqb limit 0 ≡ none_asked → {x : Walk}
            → Comes (book_in f) (searched refused none_asked).serving.asked (walk_of (searched refused none_asked)) x
            → Came f v (said.searches table index limit) (searched refused none_asked) x
        unfolding ran_so
        search_came true none_asked e1 e2 h =
            at_once refl h (searches table index limit (record { outcome = outcomes.Refused n; turns = 0; forest = g }))
            (search_refused g table index limit n refl (ltb-true 0 n e1)) refl refl refl idle refl refl
        search_came false true e1 e2 h =
            at_once refl h (searches table index limit (record { outcome = outcomes.Refused 12; turns = 0; forest = g }))
            (search_limit g table index limit n refl (ltb-false 0 n e1) (eqb-true limit 0 e2)) refl refl refl idle refl refl
        search_came false false e1 e2 {x} h =
            let c = x.course in
            let r : Ran = record { course = c; forest = forest_of f c x.lent } in
            let ran = ran_so saying.Searched modes.Search table limit index 0 h in
            let z = (searches_so g table index limit n refl (ltb-false 0 n e1) (eqb-false limit 0 e2) few k rests r ran o).1 in
            record {
              tells = searches table index limit (record { outcome = outcome_of c.ending; turns = c.done; forest = r.forest });
              gives =
                  search_ran g table index limit n refl (ltb-false 0 n e1) (eqb-false limit 0 e2) few k rests r ran
                  (outcome_of c.ending) refl;
              asks = refl;
              replies = ending_numbers 0 c.done 0 c.ending;
              leaves = refl;
              idle = record { sound = z.sounds.stack; empty = z.empty };
              same_at = refl;
              same_replies = refl;
            }

      -- PEEKING
      module _ (rounds limit : ℕ) (few_rounds : rounds ≤ MAX) (few : limit ≤ MAX) where
        abbrev peeked : (refused no_round none_asked : Bool) → Stage
        peeked refused no_round none_asked = peek_by refused no_round none_asked n f.clock_limit table index rounds limit v

        abbrev refused_by : (number : ℕ) → Peeked
        refused_by number = record { outcome = outcomes.Refused number; index = index; turns = 0; exceeded = 0; forest = g }

        peek_came : (refused no_round none_asked : Bool) → ltb 0 n ≡ refused → eqb rounds 0 ≡ no_round → eqb limit 0 ≡ none_asked
            → {x : Walk}
            → Comes (book_in f) (peeked refused no_round none_asked).serving.asked (walk_of (peeked refused no_round none_asked)) x
            → Came f v (said.peeks table index rounds limit) (peeked refused no_round none_asked) x
        unfolding ran_so
        peek_came true no_round none_asked e1 e2 e3 h =
            at_once refl h (peeks table index rounds limit (refused_by n))
            (peek_refused g table index rounds limit n refl (ltb-true 0 n e1)) refl refl refl idle refl refl
        peek_came false true none_asked e1 e2 e3 h =
            at_once refl h (peeks table index rounds limit (refused_by 12))
            (peek_rounds_none g table index rounds limit n refl (ltb-false 0 n e1) (eqb-true rounds 0 e2)) refl refl refl idle refl refl
        peek_came false false true e1 e2 e3 h =
            at_once refl h (peeks table index rounds limit (refused_by 12))
            (peek_limit g table index rounds limit n refl (ltb-false 0 n e1) (eqb-false rounds 0 e2) (eqb-true limit 0 e3))
            refl refl refl idle refl refl
        peek_came false false false e1 e2 e3 {x} h =
            let c = x.course in
            let r : Ran = record { course = c; forest = forest_of f c x.lent } in
            let ran = ran_so saying.Peeked modes.Peek table limit index (rounds - 1) h in
            let z = (peeks_so g table index rounds limit n refl (ltb-false 0 n e1) (eqb-false rounds 0 e2) (eqb-false limit 0 e3) few
            few_rounds k rests r ran o).1 in
            record {
              tells = peeks table index rounds limit (record {
                outcome = outcome_of c.ending;
                index = c.index;
                turns = c.done;
                exceeded = c.exceeded;
                forest = r.forest;
              });
              gives =
                  peek_ran g table index rounds limit n refl (ltb-false 0 n e1) (eqb-false rounds 0 e2) (eqb-false limit 0 e3) few
                  few_rounds k rests r ran (outcome_of c.ending) refl;
              asks = refl;
              replies = ending_numbers c.index c.done c.exceeded c.ending;
              leaves = refl;
              idle = record { sound = z.sounds.stack; empty = z.empty };
              same_at = refl;
              same_replies = refl;
            }

      -- WHAT MAY COME
      module _ (variant : ℕ) where
        abbrev future_at : (missing stored queued : Bool) → Stage
        future_at missing stored queued = stage (said_at_once (future_by missing stored queued) s) v.lent l

        within_by : (far : Bool) → ltb 256 index ≡ far → Within index (from_index far index)
        within_by true e = inl (ltb-true 256 index e, refl)
        within_by false e = inr (ltb-false 256 index e, refl)

        future_came : (missing stored queued : Bool) → leb s.course.count table ≡ missing
            → stored_from (table % 256) (from_index (ltb 256 index) index) variant v.lent ≡ stored
            → queued_in (table % 256) variant v.lent ≡ queued → {x : Walk}
            → Comes (book_in f) s.asked (walk_of (future_at missing stored queued)) x
            → Came f v (said.asks_future table index variant) (future_at missing stored queued) x
        future_came true stored queued e1 e2 e3 h =
            at_once refl h (asks_future table index variant (futures.Refused 10))
            (says_unmade g table index variant (leb-true s.course.count table e1)) refl refl refl idle refl refl
        future_came false true queued e1 e2 e3 h =
            at_once refl h (asks_future table index variant (futures.Found true))
            (says_stored g table index variant (leb-false s.course.count table e1) variant refl (from_index (ltb 256 index) index)
            (within_by (ltb 256 index) refl) true (sym e2) refl) refl refl refl idle refl refl
        future_came false false queued e1 e2 e3 h =
            at_once refl h (asks_future table index variant (futures.Found queued))
            (says_queued g table index variant (leb-false s.course.count table e1) variant refl (from_index (ltb 256 index) index)
            (within_by (ltb 256 index) refl) false (sym e2) refl queued (sym e3)) refl refl refl idle refl refl

    -- WHATEVER THE CALL IS
    pub call_came : (opening searching peeking : Bool) (c : Call) → c.c ≤ MAX → c.d ≤ MAX → {x : Walk}
        → Comes (book_in f) (begun_by (book_in f) f.clock_limit opening searching peeking c (stage s w l)).serving.asked
        (walk_of (begun_by (book_in f) f.clock_limit opening searching peeking c (stage s w l))) x
        → Came f (stage s w l) (means_by opening searching peeking c)
        (begun_by (book_in f) f.clock_limit opening searching peeking c (stage s w l)) x
    call_came true searching peeking c few few' h = open_came c.a _ _ _ _ (refl, refl, refl, refl) h
    call_came false true peeking c few few' h = search_came c.a c.b c.c few _ _ refl refl h
    call_came false false true c few few' h = peek_came c.a c.b c.c c.d few few' _ _ _ refl refl refl h
    call_came false false false c few few' h = future_came c.a c.b c.c _ _ _ refl refl refl h
