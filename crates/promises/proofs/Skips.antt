-- `unsettled` is the word of one kind of line. A peek's index rises by the answers that it skips, in the searches that it makes; on the
-- page the lines before a line tell whether one was skipped; and on a plain levelled book none is.
use Prim.Native.Nat.{ℕ, zero, suc, ◌+◌, ◌-◌, ◌≤◌, ◌<◌}
use native.Mathlib.Omega.{arith}
use borrow.Author.Tests.{lt-ltb, le-ltb, leb-true, leb-false, eq-eqb}
use mathlib.Core.Path.{◌≡◌, refl, sym, ap, subst, ◌∙◌}
use mathlib.Core.Bool.{Bool, true, false, ◌||◌, true≢false, false≢true}
use mathlib.Core.Logic.{inr}
use mathlib.Core.Option.{some}
use mathlib.Core.List.{List, [], ◌∷◌, ◌++◌, append-nil}
use lib.ListN.{length, get_or, get_elem?}
use lib.Dec.{eqb, ltb}
use Rattle.definitions.specs.Text.{ascii}
use Rattle.definitions.specs.Calls.{Sitting, Call, opens, searches, peeks, asks_future, sitting, call, searches_made, calls}
use Rattle.papers.specs.Claim.{one_if}
use Rattle.definitions.specs.Desk.{make_at_desk}
use Rattle.definitions.specs.Forest.{is_marked, make_of, Opened, opened, not_made, index_above, is_invalid, is_exceeded, Peeked}
use Rattle.definitions.specs.Forest.{peeked, peek, peek_rounds, skip_invalid, peek_searches, most_passes}
use Rattle.papers.specs.Listing.{listing_rounds, listing_turns, listing_clock, Line, next_index, the_end, next}
use Rattle.papers.specs.Listing.{Listed, list_from, list_opened, list_goal, list_goals, lines, word}
use Rattle.definitions.specs.Logic.{NoMoreSolutions, Floundered, QuantumExceeded, NegativeCycle, InvalidAnswer}
use Rattle.definitions.specs.Lists.{Each}
use Rattle.definitions.specs.Refusal.{Refusable, refused, accepted, ◌refuses◌}
use Rattle.definitions.specs.Tables.{Forest}
use Rattle.definitions.specs.Turn.{Ending, found, fail, cut, stopped, root_answer}
use Rattle.definitions.proofs.Desk.{desk_reads}
use Rattle.definitions.proofs.Members.{each_append}
use Rattle.definitions.proofs.Refusal.{not_accepted, same_accepted, all_pass}
use Rattle.laws.proofs.Bools.{case_bool, both_false, not_zero}
use Rattle.definitions.proofs.ReadLimits.{book_good}
use Rattle.asserts.proofs.Peeks.{invalid_under}
use Rattle.asserts.proofs.Reading.{made_sound}
use Rattle.asserts.proofs.Safe.{case_stops}
use Rattle.asserts.proofs.Searches.{Well, root_answers}
use Rattle.asserts.specs.Sound.{SoundForest}
use Rattle.asserts.proofs.Theorem.{asked, call_keeps}
use Rattle.asserts.proofs.Unwinding.{Ended}
use Rattle.promises.proofs.Demand.{premises, starts}
use Rattle.promises.proofs.Link.Back.{table_here}
use Rattle.promises.proofs.Link.Peeks.{following, PeekIs, peek_is}
use Rattle.promises.proofs.Link.Naming.{Between, open_made, opened_is}
use Rattle.promises.proofs.Link.Premises.{Premises, setting_of, limits_in, forest_in}
use Rattle.promises.proofs.Link.Searches.{EndIs, found_is, none_is, again_is, cut_is, stopped_is}
use Rattle.promises.proofs.Link.Tables.{forest_of}
use Rattle.promises.proofs.Link.View.{answers_of}
use Rattle.promises.proofs.Listing.{case_next, next_found, index_goes_on, goal_goes_on}
use Rattle.promises.proofs.ListingStored.{answers_at, peek_stored}
use Rattle.promises.proofs.Plain.Machine as M
use Rattle.promises.proofs.Plain.Whole.{peek_ok}
use Rattle.promises.proofs.Total.{of_peek}
use Rattle.promises.specs.Skips.{UnsettledWord, skipped_among, RisesBySkips, IndexRisesBySkips, Counted, SkipsCounted, NeverUnsettled}

-- THE WORD: words differ in their first or second byte

abbrev byte_at : ℕ → List ℕ → ℕ
byte_at i bs = get_or bs i 0

-- two words that differ at a byte
differs : {A : Type 0} (i : ℕ) (w v : List ℕ) → eqb (byte_at i w) (byte_at i v) ≡ false → w ≡ v → A
differs i w v d e = absurd (true≢false (sym (eq-eqb (byte_at i w) (byte_at i v) (ap (byte_at i) e)) ∙ d))

found_word : {A : Type 0} (i : ℕ) (v : List ℕ) → eqb (byte_at i (ascii "maybe")) (byte_at i v) ≡ false
    → eqb (byte_at i (ascii "yes")) (byte_at i v) ≡ false
    → (b : Bool) → elim b [ true ↦ ascii "maybe" | false ↦ ascii "yes" ] ≡ v → A
found_word i v m y true e = differs i (ascii "maybe") v m e
found_word i v m y false e = differs i (ascii "yes") v y e

pub unsettled_word : UnsettledWord
unsettled_word = record { behind_a_skip = refl; behind_none = refl; unsettled_alone = unsettled; none_alone = none }
  where
    unsettled : (e : Ending) (skipped : Bool) → word e skipped ≡ ascii "unsettled" → (e ≡ fail NoMoreSolutions) × (skipped ≡ true)
    unsettled (found a) s q = found_word 0 (ascii "unsettled") refl refl a.ambiguous q
    unsettled (fail NoMoreSolutions) true q = (refl, refl)
    unsettled (fail NoMoreSolutions) false q = differs 0 (ascii "none") (ascii "unsettled") refl q
    unsettled (fail Floundered) s q = differs 0 (ascii "floundered") (ascii "unsettled") refl q
    unsettled (fail QuantumExceeded) s q = differs 0 (ascii "again") (ascii "unsettled") refl q
    unsettled (fail NegativeCycle) s q = differs 0 (ascii "negcycle") (ascii "unsettled") refl q
    unsettled (fail InvalidAnswer) s q = differs 0 (ascii "invalid") (ascii "unsettled") refl q
    unsettled cut s q = differs 0 (ascii "cut") (ascii "unsettled") refl q
    unsettled (stopped n) s q = differs 0 (ascii "stop") (ascii "unsettled") refl q

    none : (e : Ending) (skipped : Bool) → word e skipped ≡ ascii "none" → (e ≡ fail NoMoreSolutions) × (skipped ≡ false)
    none (found a) s q = found_word 1 (ascii "none") refl refl a.ambiguous q
    none (fail NoMoreSolutions) true q = differs 1 (ascii "unsettled") (ascii "none") refl q
    none (fail NoMoreSolutions) false q = (refl, refl)
    none (fail Floundered) s q = differs 1 (ascii "floundered") (ascii "none") refl q
    none (fail QuantumExceeded) s q = differs 1 (ascii "again") (ascii "none") refl q
    none (fail NegativeCycle) s q = differs 1 (ascii "negcycle") (ascii "none") refl q
    none (fail InvalidAnswer) s q = differs 1 (ascii "invalid") (ascii "none") refl q
    none cut s q = differs 1 (ascii "cut") (ascii "none") refl q
    none (stopped n) s q = differs 1 (ascii "stop") (ascii "none") refl q

-- A PEEK'S INDEX

-- what follows a search in a peek, by its ending
module _ (passes more limit t i : ℕ) (f : Forest) where
  invalid_follows : (e : Ending) → is_invalid e ≡ true → following passes more limit t i e f ≡ peek_searches passes more limit t (suc i) f
  invalid_follows (found a) q = absurd (false≢true q)
  invalid_follows (fail NoMoreSolutions) q = absurd (false≢true q)
  invalid_follows (fail Floundered) q = absurd (false≢true q)
  invalid_follows (fail QuantumExceeded) q = absurd (false≢true q)
  invalid_follows (fail NegativeCycle) q = absurd (false≢true q)
  invalid_follows (fail InvalidAnswer) q = refl
  invalid_follows cut q = absurd (false≢true q)
  invalid_follows (stopped n) q = absurd (false≢true q)

  exceeded_follows : (e : Ending) → is_exceeded e ≡ true
      → following passes more limit t i e f ≡ elim more [ zero ↦ [] | suc fewer ↦ peek_searches passes fewer limit t i f ]
  exceeded_follows (found a) q = absurd (false≢true q)
  exceeded_follows (fail NoMoreSolutions) q = absurd (false≢true q)
  exceeded_follows (fail Floundered) q = absurd (false≢true q)
  exceeded_follows (fail QuantumExceeded) q = refl
  exceeded_follows (fail NegativeCycle) q = absurd (false≢true q)
  exceeded_follows (fail InvalidAnswer) q = absurd (false≢true q)
  exceeded_follows cut q = absurd (false≢true q)
  exceeded_follows (stopped n) q = absurd (false≢true q)

  other_ends : (e : Ending) → is_invalid e ≡ false → is_exceeded e ≡ false → following passes more limit t i e f ≡ []
  other_ends (found a) v q = refl
  other_ends (fail NoMoreSolutions) v q = refl
  other_ends (fail Floundered) v q = refl
  other_ends (fail QuantumExceeded) v q = absurd (true≢false q)
  other_ends (fail NegativeCycle) v q = refl
  other_ends (fail InvalidAnswer) v q = absurd (true≢false v)
  other_ends cut v q = refl
  other_ends (stopped n) v q = refl

module _ (n t limit : ℕ) where
  -- One round, which ends with its last search. `left` are the passes for what follows that: one for each round, and one for each answer
  -- that may still be skipped, of which at most 256 are held.
  record RoundCounted (passes more i : ℕ) (f : Forest) (p : Peeked) : Type 0 where
    ended : Ended n t p.index p.forest
    valid : is_invalid p.ending ≡ false
    left : ℕ
    rounds_left : more ≤ left
    indices_left : 256 + more ≤ left + p.index
    counted :
        p.index + skipped_among (following left more limit t p.index p.ending p.forest)
        ≡ i + skipped_among (peek_searches passes more limit t i f)

  -- its last search
  last_counted : (passes more k i : ℕ) (f : Forest) → more ≤ passes → 256 + more ≤ passes + i → Well n t i (root_answer limit t i f)
      → is_invalid (root_answer limit t i f).ending ≡ false
      → RoundCounted (suc passes) more i f (peeked i k (root_answer limit t i f))
  last_counted passes more k i f enough all w valid =
      let r = root_answer limit t i f in
      let none = ap one_if valid in
      record {
        ended = w.ended;
        valid = valid;
        left = passes;
        rounds_left = enough;
        indices_left = all;
        counted = omega arith;
      }

  skip_counted : (m passes more k i : ℕ) (f : Forest) → Ended n t i f → 256 ≤ i + m → more < passes → 257 + more ≤ passes + i
      → RoundCounted passes more i f (skip_invalid m limit k t i f)
  skip_counted m zero more k i f x o enough all = absurd (omega arith)
  skip_counted zero (suc passes) more k i f x o enough all =
      let w = root_answers n t i limit f x in
      last_counted passes more k i f (omega arith) (omega arith) w (not_there w (is_invalid (root_answer limit t i f).ending) refl)
    where
      not_there : Well n t i (root_answer limit t i f) → (b : Bool) → is_invalid (root_answer limit t i f).ending ≡ b
          → is_invalid (root_answer limit t i f).ending ≡ false
      not_there w true e = let low = invalid_under n t limit i (root_answer limit t i f) w e in absurd (omega arith)
      not_there w false e = e
  skip_counted (suc m) (suc passes) more k i f x o enough all =
      let r = root_answer limit t i f in
      let w = root_answers n t i limit f x in
      case_bool (RoundCounted (suc passes) more i f) (is_invalid r.ending)
      (λ e.
      let y = w.when_invalid e in
      let low = invalid_under n t limit i r w e in
      let here : Ended n t (suc i) r.forest =
      record { sound = w.ended.sound; own = y.own; is_made = y.is_made; reached = inr y.enough } in
      let rest = skip_counted m passes more k (suc i) r.forest here (omega arith) (omega arith) (omega arith) in
      let one = ap one_if e in
      let then = ap skipped_among (invalid_follows passes more limit t i r.forest r.ending e) in
      let told = rest.counted in
      record {
        ended = rest.ended;
        valid = rest.valid;
        left = rest.left;
        rounds_left = rest.rounds_left;
        indices_left = rest.indices_left;
        counted = omega arith;
      })
      (λ e. last_counted passes more k i f (omega arith) (omega arith) w e)

  peek_counted : (more passes k i : ℕ) (f : Forest) → Ended n t i f → more < passes → 257 + more ≤ passes + i
      → (peek_rounds more limit k t i f).index ≡ i + skipped_among (peek_searches passes more limit t i f)
  peek_counted zero passes k i f x enough all =
      let p = skip_invalid 256 limit k t i f in
      let r = skip_counted 256 passes 0 k i f x (omega arith) enough all in
      let told = r.counted in
      case_bool (λ (q : Peeked). q.index ≡ i + skipped_among (peek_searches passes 0 limit t i f)) (is_exceeded p.ending)
      (λ e. let none = ap skipped_among (exceeded_follows r.left 0 limit t p.index p.forest p.ending e) in omega arith)
      (λ e. let none = ap skipped_among (other_ends r.left 0 limit t p.index p.forest p.ending r.valid e) in omega arith)
  peek_counted (suc more) passes k i f x enough all =
      let p = skip_invalid 256 limit k t i f in
      let r = skip_counted 256 passes (suc more) k i f x (omega arith) enough all in
      let told = r.counted in
      let in-rounds = r.rounds_left in
      let in_all = r.indices_left in
      case_bool (λ (q : Peeked). q.index ≡ i + skipped_among (peek_searches passes (suc more) limit t i f)) (is_exceeded p.ending)
      (λ e.
      let then = ap skipped_among (exceeded_follows r.left (suc more) limit t p.index p.forest p.ending e) in
      let rest = peek_counted more r.left (suc k) p.index p.forest r.ended (omega arith) (omega arith) in
      omega arith)
      (λ e. let none = ap skipped_among (other_ends r.left (suc more) limit t p.index p.forest p.ending r.valid e) in
      omega arith)

-- CALLS, on sound forests

module _ {n : ℕ} (at : Sitting) (s : SoundForest n at.forest) where
  peek_rises : (t i rounds limit : ℕ) (o : Refusable Peeked) → peek at.forest t i rounds limit ≡ o
      → RisesBySkips (peeks t i rounds limit) (of_peek at o).0
      (elim o [ refused k ↦ [] | accepted r ↦ peek_searches (most_passes rounds) (rounds - 1) limit t i at.forest ])
  peek_rises t i rounds limit (refused k) e = tt
  peek_rises t i rounds limit (accepted r) e =
      let f = at.forest in
      let a = all_pass (is_marked f refuses 20 ∷ not_made f t refuses 10 ∷ index_above f t
      i refuses 11 ∷ (eqb rounds 0 || eqb limit 0) refuses 12 ∷ []) (peek_rounds (rounds - 1) limit 0 t i f) r e in
      let here = asked at s t i a.0.1.0 a.0.1.1.0 in
      let some_rounds = not_zero rounds (both_false (eqb rounds 0) (eqb limit 0) a.0.1.1.1.0).0 in
      subst (λ (q : Peeked). q.index ≡ i + skipped_among (peek_searches (most_passes rounds) (rounds - 1) limit t i f)) a.1
      (peek_counted n t limit (rounds - 1) (most_passes rounds) 0 i f here (omega arith) (omega arith))

  call_rises : (c : Call) → RisesBySkips c (call at c).0 (searches_made at c)
  call_rises (opens goal) = tt
  call_rises (searches t i limit) = tt
  call_rises (peeks t i rounds limit) = peek_rises t i rounds limit (peek at.forest t i rounds limit) refl
  call_rises (asks_future t i v) = tt

calls_rise : (n : ℕ) (cs : List Call) (at : Sitting) → SoundForest n at.forest
    → Each (λ c. RisesBySkips c.asked c.reply (searches_made c.before c.asked)) (calls at cs)
calls_rise n [] at s = tt
calls_rise n (c ∷ cs) at s = (call_rises at s c, calls_rise n cs (call at c).1 (call_keeps at s c).1)

pub index_rises : IndexRisesBySkips
index_rises bytes limit f e cs = calls_rise (length f.book) cs (sitting f) (made_sound bytes limit f e)

-- ON THE PAGE

-- The index of a line is not below the count of lines before it, and above it just where an answer was skipped. `index` is the one asked
-- for, `at` where the peek ended.
skips_at : (skipped : Bool) (count index at : ℕ) → count ≤ index → index ≤ at → skipped ≡ ltb count index
    → (skipped || ltb index at) ≡ ltb count at
skips_at true count index at a b e = let o = leb-true (suc count) index (sym e) in sym (lt-ltb count at (omega arith))
skips_at false count index at a b e =
    let o = leb-false (suc count) index (sym e) in let same : index ≡ count = omega arith in ap (λ z. ltb z at) same

-- an index more and a line more
one_more : (count at : ℕ) → ltb count at ≡ ltb (suc count) (suc at)
one_more count at = on (ltb count at) refl
  where
    on : (b : Bool) → ltb count at ≡ b → b ≡ ltb (suc count) (suc at)
    on true e = let o = leb-true (suc count) at e in sym (lt-ltb (suc count) (suc at) (omega arith))
    on false e = let o = leb-false (suc count) at e in sym (le-ltb (suc count) (suc at) (omega arith))

-- lines of a goal, before those of the next goals
abbrev CountedBefore : (count : ℕ) → Listed → Type 0
CountedBefore count r = (rest : List Line) → Counted 0 rest → Counted count (r.lines ++ rest)

module _ (goal t : ℕ) where
  from_counted : (more count index : ℕ) (skipped : Bool) (f : Forest) → count ≤ index → skipped ≡ ltb count index
      → CountedBefore count (list_from more goal t index skipped f)
  from_counted zero count index skipped f o e rest x = (e, x)
  from_counted (suc more) count index skipped f o e rest x =
      let p = peek_rounds (listing_rounds - 1) listing_turns 0 t index f in
      let later = (peek_stored t listing_turns (listing_rounds - 1) 0 index f).not_before in
      let skips = skipped || ltb index p.index in
      let here = skips_at skipped count index p.index o later e in
      case_next (λ (r : Listed). Counted count (r.lines ++ rest)) (next p.ending)
      (λ q.
      let then = here ∙ one_more count p.index in
      (here, rw q (from_counted more (suc count) (suc p.index) skips p.forest (omega arith) then rest x)))
      (λ q. (here, rw q x))
      (λ q. (here, rw q x))

goal_counted : (goal : ℕ) (o : Opened) → CountedBefore 0 (list_opened goal o)
goal_counted goal o = case_stops (CountedBefore 0) o.table
    (λ n e rest x. (refl, x))
    (λ t e. from_counted goal t 257 0 0 false o.forest (omega arith) refl)

goals_counted : (left goal : ℕ) (f : Forest) → Counted 0 (list_goals left goal f)
goals_counted zero goal f = tt
goals_counted (suc left) goal f =
    let here = list_goal goal f in
    let x = goal_counted goal (opened 0 f goal) in
    case_bool (Counted 0) here.stops
    (λ e. subst (Counted 0) (append-nil here.lines) (x [] tt))
    (λ e. x (list_goals left (suc goal) here.forest) (goals_counted left (suc goal) here.forest))

pub skips_counted : SkipsCounted
skips_counted bytes ls = on (make_at_desk bytes listing_clock)
  where
    on : (r : Refusable Forest) → elim r [
      | refused n ↦ refused n
      | accepted f ↦ accepted (list_goals (length f.book) 0 f)
    ] ≡ accepted ls → Counted 0 ls
    on (refused n) e = absurd (not_accepted e)
    on (accepted f) e = subst (Counted 0) (same_accepted e) (goals_counted (length f.book) 0 f)

-- PLAIN LEVELLED BOOKS

abbrev Settled : Line → Type 0
Settled l = l.skipped ≡ false

stays_settled : (skipped : Bool) (index at : ℕ) → skipped ≡ false → at ≡ index → (skipped || ltb index at) ≡ false
stays_settled true index at e same = absurd (true≢false e)
stays_settled false index at e same = le-ltb index at (omega arith)

-- only a stop leaves a mark
unmarked : {limit c m : ℕ} {e : Ending} {o : M.Outcome} → EndIs limit c m e o → (next e ≡ the_end → ⊥) → m ≡ 0
unmarked found_is h = refl
unmarked none_is h = refl
unmarked again_is h = refl
unmarked cut_is h = refl
unmarked (stopped_is o) h = absurd (h refl)

module _ (G : Premises) where
  -- a forest with the table of a goal, which can be peeked at this index
  record Peekable (t g i : ℕ) (f : Forest) : Type 0 where
    p : M.Forest
    between : Between G f p
    at : get_elem? between.goals t ≡ some g
    within : i ≤ length (answers_of (p.answered g))

  -- what a peek leaves: it stays at its index, the forest is as the one before, and an answer that it found is stored
  record StaysAt (t g i : ℕ) (q : Peeked) : Type 0 where
    index_stays : q.index ≡ i
    left : (next q.ending ≡ the_end → ⊥) → Peekable t g 0 q.forest
    stored : next q.ending ≡ next_index → Peekable t g (suc q.index) q.forest

  peek_stays : (r n t g i : ℕ) (f : Forest) → Peekable t g i f → StaysAt t g i (peek_rounds r (suc n) 0 t i f)
  peek_stays r n t g i f x = subst (λ (z : Forest). StaysAt t g i (peek_rounds r (suc n) 0 t i z)) (sym b.is) (record {
    index_stays = s.index;
    left = λ h. after h 0 (omega arith);
    stored = λ e. after (λ h. index_goes_on (sym e ∙ h)) (suc q.index) (enough e);
  })
    where
      b : Between G f x.p
      b = x.between

      F : Forest
      F = forest_in G 0 b.tables x.p.clock

      q : Peeked
      q = peek_rounds r (suc n) 0 t i F

      p' : M.Forest
      p' = (M.rounds (limits_in G) (suc r) g i (suc n) x.p).2

      s : PeekIs G b.goals i 0 (peek_searches (suc r) r (suc n) t i F) q (M.rounds (limits_in G) (suc r) g i (suc n) x.p).0
          (M.rounds (limits_in G) (suc r) g i (suc n) x.p).1 p'
      s = peek_is G r b.goals b.tables x.p b.agree b.ready t g n i 0 x.at x.within (suc r) (omega arith)

      after : (next q.ending ≡ the_end → ⊥) → (j : ℕ) → j ≤ length (answers_of (p'.answered g)) → Peekable t g j q.forest
      after h j o = record {
        p = p';
        between = record {
          goals = s.goals;
          tables = s.after;
          is = s.forest ∙ ap (λ m. forest_in G m s.after p'.clock) (unmarked s.ends h);
          agree = s.agree;
          ready = (peek_ok (setting_of G) (suc r) g i (suc n) x.p b.ready).rest;
        };
        at = s.more t g x.at;
        within = o;
      }

      enough : next q.ending ≡ next_index → suc q.index ≤ length (answers_of (p'.answered g))
      enough e =
          let found_there = (peek_stored t (suc n) r 0 i F).when_found (next_found q.ending e) in
          let there = subst (λ (z : Forest). q.index < answers_at z t) s.forest found_there in
          rw (table_here s.agree t g (s.more t g x.at)).is at there

  -- the lines of a goal, and the forest behind them where nothing stopped
  record GoalSettled (r : Listed) : Type 0 where
    settled : Each Settled r.lines
    left : r.stops ≡ false → (p : M.Forest) × Between G r.forest p

  from_settled : (t g more i : ℕ) (skipped : Bool) (f : Forest) → skipped ≡ false → Peekable t g i f
      → GoalSettled (list_from more g t i skipped f)
  from_settled t g zero i skipped f e x = record { settled = (e, tt); left = λ z. absurd (true≢false z) }
  from_settled t g (suc more) i skipped f e x =
      let q = peek_rounds (listing_rounds - 1) listing_turns 0 t i f in
      let y = peek_stays (listing_rounds - 1) (listing_turns - 1) t g i f x in
      let here = stays_settled skipped i q.index e y.index_stays in
      case_next GoalSettled (next q.ending)
      (λ k.
      let rest = from_settled t g more (suc q.index) (skipped || ltb i q.index) q.forest here (y.stored k) in
      record { settled = (here, rest.settled); left = rest.left })
      (λ k. record {
        settled = (here, tt);
        left = λ z. let l = y.left (λ h. goal_goes_on (sym k ∙ h)) in (l.p, l.between);
      })
      (λ k. record { settled = (here, tt); left = λ z. absurd (true≢false z) })

  goal_settled : (goal : ℕ) (f : Forest) (p : M.Forest) → Between G f p → goal < length G.book → GoalSettled (list_goal goal f)
  goal_settled goal f p b lt =
      let m = open_made G b.agree b.ready goal lt in
      let made : Peekable m.place goal 0 (forest_in G 0 m.after p.clock) = record {
        p = M.make p goal;
        between = record {
          goals = m.goals;
          tables = m.after;
          is = refl;
          agree = m.agree;
          ready = record { fine = b.ready.fine; bound = b.ready.bound; live = b.ready.live };
        };
        at = m.at;
        within = omega arith;
      } in
      subst (λ (z : Forest). GoalSettled (list_goal goal z)) (sym b.is)
      (subst (λ (o : Opened). GoalSettled (list_opened goal o)) (sym (opened_is G b.agree b.ready goal lt))
      (from_settled m.place goal 257 0 false (forest_in G 0 m.after p.clock) refl made))

  goals_settled : (left goal : ℕ) (f : Forest) (p : M.Forest) → Between G f p → goal + left ≡ length G.book
      → Each Settled (list_goals left goal f)
  goals_settled zero goal f p b e = tt
  goals_settled (suc left) goal f p b e =
      let here = list_goal goal f in
      let x = goal_settled goal f p b (omega arith) in
      case_bool (Each Settled) here.stops
      (λ q. x.settled)
      (λ q.
      let l = x.left q in
      each_append Settled here.lines (list_goals left (suc goal) here.forest) x.settled
      (goals_settled left (suc goal) here.forest l.0 l.1 (omega arith)))

pub never_unsettled : NeverUnsettled
never_unsettled bytes book took plain level levelled ls e =
    let G = premises book listing_clock level (omega arith) (book_good bytes book (desk_reads bytes book took).0) plain levelled in
    let listed : lines bytes ≡ accepted (list_goals (length book) 0 (forest_of book listing_clock 0 [] 0)) =
    rw (took, lines, make_at_desk, make_of) in
    subst (Each Settled) (same_accepted (sym listed ∙ e))
    (goals_settled G (length book) 0 (forest_of book listing_clock 0 [] 0) _ (starts G) (omega arith))
