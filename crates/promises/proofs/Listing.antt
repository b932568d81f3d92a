-- The listing is whole. Each peek is made on a sound forest and ends neither in stop 0 nor in InvalidAnswer (`Asserts`); what it found is
-- stored (`ListingStored`), and at most 256 answers are held, so that 257 lines are enough for a goal. A stop has a listed
-- number (`Total`).
use Prim.Native.Nat.{ℕ, zero, suc, ◌+◌, ◌-◌, ◌*◌, ◌≤◌, ◌<◌}
use native.Mathlib.Omega.{arith}
use mathlib.Core.Path.{◌≡◌, refl, sym, subst, ◌∙◌}
use mathlib.Core.Bool.{Bool, true, false, ◌||◌, true≢false}
use mathlib.Core.Logic.{inr}
use mathlib.Core.List.{List, [], ◌∷◌, ◌++◌, append-nil}
use lib.ListN.{length, length-append}
use lib.Dec.{ltb}
use Rattle.definitions.specs.Refusal.{Refusable, refused, accepted}
use Rattle.definitions.specs.Stop.{stop}
use Rattle.definitions.specs.Book.{Book}
use Rattle.definitions.specs.Desk.{desk, make_at_desk}
use Rattle.definitions.specs.Tables.{Forest, with_mark}
use Rattle.definitions.specs.Turn.{Ending, found, fail, cut, stopped}
use Rattle.definitions.specs.Forest.{make_of, Opened, is_invalid, Peeked, peek_rounds}
use Rattle.papers.specs.Listing.{listing_rounds, listing_turns, listing_clock, Line, line, Next, next_index, next_goal, the_end, next}
use Rattle.papers.specs.Listing.{Listed, list_from, list_opened, list_goal, list_goals, lines}
use Rattle.definitions.specs.Lists.{Each}
use Rattle.definitions.proofs.Desk.{made_as_read}
use Rattle.definitions.proofs.Members.{each_append}
use Rattle.laws.proofs.Bools.{case_bool}
use Rattle.asserts.proofs.Safe.{NotZero, case_safe}
use Rattle.asserts.specs.Sound.{Reached, SoundForest}
use Rattle.asserts.proofs.Making.{makes}
use Rattle.asserts.proofs.Unwinding.{Ended}
use Rattle.asserts.proofs.Searches.{mark_kept}
use Rattle.asserts.proofs.Peeks.{PeekWell, peeks_well}
use Rattle.asserts.proofs.Bounds.{answers_at_most}
use Rattle.asserts.proofs.Reading.{made_sound}
use Rattle.promises.proofs.ListingStored.{is_found, PeekStored, peek_stored, peek_index}
use Rattle.promises.proofs.Listed.Searches.{Opens, rounds_end, opened_ends}
use Rattle.promises.proofs.Total.{table_listed, ending_listed}
use Rattle.promises.specs.Total.{StopNumber, EndingListed}
use Rattle.promises.specs.ListingWhole.{MayStand, StartsAt, Behind, InOrder, Whole, ListedAs, ListingWhole}

module _ {B : Type 0} (P : B → Type 0) where
  pub case_next : (x : Next) {a b c : B} → (x ≡ next_index → P a) → (x ≡ next_goal → P b) → (x ≡ the_end → P c) →
      P (elim x [ next_index ↦ a | next_goal ↦ b | the_end ↦ c ])
  case_next next_index p q r = p refl
  case_next next_goal p q r = q refl
  case_next the_end p q r = r refl

-- One goal.

pub next_found : (e : Ending) → next e ≡ next_index → is_found e ≡ true
next_found (found a) q = refl
next_found (fail e) q = let z : ◌≡◌ {A = ℕ} 0 1 = cc in absurd (omega arith)
next_found cut q = let z : ◌≡◌ {A = ℕ} 0 1 = cc in absurd (omega arith)
next_found (stopped n) q = let z : ◌≡◌ {A = ℕ} 0 1 = cc in absurd (omega arith)

-- the first line is of that goal, at that index or a later one
abbrev FirstAt : (goal index : ℕ) → List Line → Type 0
FirstAt goal index [] = ⊥
FirstAt goal index (l ∷ ls) = (l.goal ≡ goal) × (index ≤ l.index)

-- what may stand behind a goal's lines: nothing after a stop, else the lines of the goals after it
abbrev Follows : (goals goal : ℕ) → (stops : Bool) → List Line → Type 0
Follows goals goal true rest = rest ≡ []
Follows goals goal false rest = Whole goals (suc goal) rest

-- a stop has a listed number
stop_is_listed : (e : Ending) (left n : ℕ) → EndingListed e left → e ≡ stopped n → StopNumber n
stop_is_listed e left n x q = (subst (λ z. EndingListed z left) q x).0

-- and nothing else leaves a mark
stays_unmarked : (e : Ending) (left : ℕ) → EndingListed e left → (next e ≡ the_end → ⊥) → left ≡ 0
stays_unmarked (found a) left x h = x
stays_unmarked (fail r) left x h = x
stays_unmarked cut left x h = x
stays_unmarked (stopped n) left x h = absurd (h refl)

pub index_goes_on : next_index ≡ the_end → ⊥
index_goes_on q = let z : ◌≡◌ {A = ℕ} 0 1 = cc in omega arith

pub goal_goes_on : next_goal ≡ the_end → ⊥
goal_goes_on q = let z : ◌≡◌ {A = ℕ} 0 1 = cc in omega arith

-- the lines of a goal from an index on; the book has n goals
record GoalListed (n goal index : ℕ) (r : Listed) : Type 0 where
  sound : SoundForest n r.forest
  unmarked : r.stops ≡ false → r.forest.mark ≡ 0
  first : FirstAt goal index r.lines
  may_stand : Each (MayStand n) r.lines
  few : length r.lines + index ≤ 257
  in_order : (rest : List Line) → Follows n goal r.stops rest → InOrder n (r.lines ++ rest)

-- a line of the goal: its index, and that it may stand
record GoalLine (n goal index at : ℕ) (ending : Ending) (skipped : Bool) : Type 0 where
  not_before : index ≤ at
  stands : MayStand n (line goal at ending skipped)

module _ (n goal index at : ℕ) (ending : Ending) (skipped : Bool) (here : GoalLine n goal index at ending skipped) where
  -- after a yes or maybe: the lines from a later index on
  more_lines : next ending ≡ next_index → (r : Listed) → GoalListed n goal (suc at) r →
      GoalListed n goal index (record { lines = line goal at ending skipped ∷ r.lines; stops = r.stops; forest = r.forest })
  more_lines e r x = record {
    sound = x.sound;
    unmarked = x.unmarked;
    first = (refl, here.not_before);
    may_stand = (here.stands, x.may_stand);
    few = let a = x.few in let b = here.not_before in omega arith;
    in_order = λ rest y. (rw e (behind r.lines rest x.first), x.in_order rest y);
  }
    where
      behind : (ls rest : List Line) → FirstAt goal (suc at) ls → Behind n (line goal at ending skipped) next_index (ls ++ rest)
      behind [] rest f = absurd f
      behind (l ∷ ls) rest f = f

  one_line : 1 + index ≤ 257
  one_line = let a = here.not_before in let b = here.stands.few_indices in omega arith

  -- after a stop nothing, after any other ending the next goal
  last_line : (f : Forest) → SoundForest n f → f.mark ≡ 0 → next ending ≡ next_goal →
      GoalListed n goal index (record { lines = line goal at ending skipped ∷ []; stops = false; forest = f })
  last_line f s m e = record {
    sound = s;
    unmarked = λ q. m;
    first = (refl, here.not_before);
    may_stand = (here.stands, tt);
    few = one_line;
    in_order = λ rest y. (rw e y.starts, y.in_order);
  }

  stop_line : (f : Forest) → SoundForest n f → next ending ≡ the_end →
      GoalListed n goal index (record { lines = line goal at ending skipped ∷ []; stops = true; forest = f })
  stop_line f s e = record {
    sound = s;
    unmarked = λ q. absurd (true≢false q);
    first = (refl, here.not_before);
    may_stand = (here.stands, tt);
    few = one_line;
    in_order = λ rest y. rw (y, e) (tt, tt);
  }

module _ (n goal t : ℕ) where
  -- what an answer found by a peek leaves: it can be peeked at the next index, which is at most 256
  found_next : (index : ℕ) (p : Peeked) → PeekWell n t p → PeekStored t index p → next p.ending ≡ next_index →
      (suc p.index ≤ 256) × Ended n t (suc p.index) p.forest
  found_next index p w x e =
      let own = w.ended.own in
      let made = w.ended.is_made in
      let under : p.index < length own.answers = rw made at (x.when_found (next_found p.ending e)) in
      let most = answers_at_most w.ended.sound t own made in
      ((omega arith), record { sound = w.ended.sound; own = own; is_made = made; reached = inr (omega arith) })

  from_listed : (more index : ℕ) (skipped : Bool) (f : Forest) → goal < n → index ≤ 256 → 257 ≤ index + more → f.mark ≡ 0
      → Ended n t index f → GoalListed n goal index (list_from more goal t index skipped f)
  from_listed zero index skipped f lt few enough m x = absurd (omega arith)
  from_listed (suc more) index skipped f lt few enough m x =
      let p = peek_rounds (listing_rounds - 1) listing_turns 0 t index f in
      let skips = skipped || ltb index p.index in
      let w = peeks_well n t listing_turns (listing_rounds - 1) 0 index f x in
      let y = peek_stored t listing_turns (listing_rounds - 1) 0 index f in
      let ends = (rounds_end (listing_rounds - 1) listing_turns 0 t index f m).ends in
      let listed = ending_listed p.ending p.forest.mark ends w.fine in
      let later = y.not_before in
      let here : GoalLine n goal index p.index p.ending skips = record {
        not_before = later;
        stands = record {
          of_the_book = lt;
          few_indices = peek_index n t listing_turns (listing_rounds - 1) index f few x;
          stop_listed = λ k e. stop_is_listed p.ending p.forest.mark k listed e;
          not_invalid = λ e. true≢false (subst (λ z. is_invalid z ≡ false) e w.valid);
        };
      } in
      let stays = stays_unmarked p.ending p.forest.mark listed in
      case_next (GoalListed n goal index) (next p.ending)
      (λ e.
      let after = found_next index p w y e in
      let unmarked = stays (λ q. index_goes_on (sym e ∙ q)) in
      let rest = from_listed more (suc p.index) skips p.forest lt after.0 (omega arith) unmarked after.1 in
      more_lines n goal index p.index p.ending skips here e _ rest)
      (λ e.
      let unmarked = stays (λ q. goal_goes_on (sym e ∙ q)) in
      last_line n goal index p.index p.ending skips here p.forest w.ended.sound unmarked e)
      (λ e. stop_line n goal index p.index p.ending skips here p.forest w.ended.sound e)

module _ (n goal : ℕ) (f : Forest) (s : SoundForest n f) (lt : goal < n) where
  -- an open that stops does so with 22
  open_stops : (m : ℕ) → NotZero m → Opens 0 (stop m) m
      → GoalListed n goal 0 (list_opened goal (record { table = stop m; forest = with_mark f m }))
  open_stops m z h =
      let is = (table_listed (stop m) m h z).0 in
      stop_line n goal 0 0 (stopped m) false (record {
        not_before = omega arith;
        stands = record {
          of_the_book = lt;
          few_indices = omega arith;
          stop_listed = λ k e. stop_is_listed (stopped m) m k ((omega arith, omega arith), refl) e;
          not_invalid = λ e. true≢false (subst (λ z. is_invalid z ≡ false) e refl);
        };
      }) _ (mark_kept m s).sound refl

  goal_listed : f.mark ≡ 0 → GoalListed n goal 0 (list_goal goal f)
  goal_listed m =
      let few = s.few_strands in
      case_safe (λ (o : Opened). Opens 0 o.table o.forest.mark → GoalListed n goal 0 (list_opened goal o))
      (makes s 0 goal (omega arith) lt)
      (λ k z h. open_stops k z h)
      (λ r x h.
      let reached : Reached x.own 0 = inr (omega arith) in
      let made : Ended n r.0 0 r.1 = record { sound = x.kept.sound; own = x.own; is_made = x.is_made; reached = reached } in
      from_listed n goal r.0 257 0 false r.1 lt (omega arith) (omega arith) h made)
      (opened_ends f goal m)

-- All goals.

starts_first : (n goal index : ℕ) (ls rest : List Line) → FirstAt goal index ls → StartsAt n goal (ls ++ rest)
starts_first n goal index [] rest x = absurd x
starts_first n goal index (l ∷ ls) rest x = x.0

-- a goal's lines, and those behind them
goal_and_rest : (n goal : ℕ) (r : Listed) → GoalListed n goal 0 r → (rest : List Line) → Follows n goal r.stops rest
    → Each (MayStand n) rest → length rest + 257 * suc goal ≤ 257 * n → Whole n goal (r.lines ++ rest)
goal_and_rest n goal r x rest y m few = record {
  starts = starts_first n goal 0 r.lines rest x.first;
  in_order = x.in_order rest y;
  may_stand = each_append (MayStand n) r.lines rest x.may_stand m;
  few = let a = x.few in omega (arith, length-append r.lines rest);
}

goals_listed : (n left goal : ℕ) (f : Forest) → goal + left ≡ n → SoundForest n f → f.mark ≡ 0 → Whole n goal (list_goals left goal f)
goals_listed n zero goal f e s m = record { starts = omega arith; in_order = tt; may_stand = tt; few = omega arith }
goals_listed n (suc left) goal f e s m =
    let here = list_goal goal f in
    let x = goal_listed n goal f s (omega arith) m in
    case_bool (Whole n goal) here.stops
    (λ q. subst (Whole n goal) (append-nil here.lines) (goal_and_rest n goal here x [] (rw q refl) tt (omega arith)))
    (λ q.
    let rest = list_goals left (suc goal) here.forest in
    let y = goals_listed n left (suc goal) here.forest (omega arith) x.sound (x.unmarked q) in
    goal_and_rest n goal here x rest (rw q y) y.may_stand y.few)

pub listing_whole : ListingWhole
listing_whole bytes = on (desk bytes) refl
  where
    made_of : Book → Forest
    made_of book = record { book = book; clock_limit = listing_clock; mark = 0; tables = []; clock = 0 }

    on : (r : Refusable Book) → desk bytes ≡ r → ListedAs r (lines bytes)
    on (refused n) e = rw (e, lines, make_at_desk, make_of)
    on (accepted book) e =
        let made = made_as_read bytes listing_clock (made_of book) (rw (e, make_at_desk, make_of)) in
        let sound = made_sound bytes listing_clock (made_of book) made in
        rw (e, lines, make_at_desk, make_of) (goals_listed (length book) (length book) 0 (made_of book) (omega arith) sound refl)
