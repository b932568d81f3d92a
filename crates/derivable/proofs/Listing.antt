-- What is kept of every answer holds of every yes and maybe of the listing and its goal: the goal is opened, its table keeps its goal over
-- every peek, and what a peek finds is stored in that table. So every yes of a clean goal can be derived.
use Prim.Native.Nat.{ℕ, zero, suc, ◌-◌}
use mathlib.Core.Path.{◌≡◌, refl, sym, ap, subst, ◌∙◌}
use mathlib.Core.Bool.{Bool, true, false, ◌||◌, true≢false}
use mathlib.Core.Option.{none, some}
use mathlib.Core.List.{List, [], ◌∷◌}
use lib.ListN.{length, get_elem?}
use lib.Dec.{ltb}
use Rattle.definitions.specs.{Answer, CompleteAnswer, TableIndex}
use Rattle.definitions.specs.Book.{Book}
use Rattle.definitions.specs.Refusal.{Refusable, refused, accepted}
use Rattle.definitions.specs.Strand.{Strand}
use Rattle.definitions.specs.Tables.{Forest}
use Rattle.definitions.specs.Turn.{Ending, found, fail, cut, stopped}
use Rattle.definitions.specs.Forest.{make_of, Opened, Peeked, peek_rounds}
use Rattle.definitions.specs.Desk.{desk}
use Rattle.papers.specs.Listing.{listing_rounds, listing_turns, listing_clock, Line, line, next_index, next_goal, the_end, next}
use Rattle.papers.specs.Listing.{Listed, list_from, list_opened, list_goal, list_goals, lines}
use Rattle.definitions.specs.Lists.{Each}
use Rattle.papers.specs.Spoilt.{spoiler_in}
use Rattle.definitions.proofs.Members.{each_append, each_map}
use Rattle.definitions.proofs.Refusal.{not_accepted, same_accepted}
use Rattle.laws.proofs.Bools.{case_bool}
use Rattle.asserts.proofs.Reading.{bare}
use Rattle.derivable.specs.Listing.{ListingCertified, UnspoiltListing}
use Rattle.derivable.proofs.Fine.{case_fine}
use Rattle.derivable.proofs.Kept.{Closed, same_goal}
use Rattle.derivable.proofs.Choosing.{makes}
use Rattle.derivable.proofs.Calls.{Between, Says, Ends, EndsPeek, at_mark, peeks_kept, made_kept}
use Rattle.derivable.proofs.Derive.{closed}
use Rattle.derivable.proofs.Spoilt.{checked_clean}
use Rattle.derivable.proofs.Theorem.{made_is}

stop_found : {n : ℕ} {a : CompleteAnswer} → stopped n ≡ found a → ⊥
stop_found {n} {a} q = let z : ◌≡◌ {A = Bool} true false = cc in true≢false z

module _ {book : Book} {P : List ℕ → ℕ → Strand → Type 0} {Q : ℕ → Answer → Type 0} (kept : Closed book P Q) where
  -- what was found, as the table holds it
  abbrev pub LineKept : Line → Type 0
  LineKept l = (a : CompleteAnswer) → l.ending ≡ found a
      → Q l.goal (record { variant = a.variant; delayed_subgoals = []; ambiguous = a.ambiguous })

  -- a line behind which a peek of the goal's table left this forest
  line_kept : (gs : List ℕ) (goal index : ℕ) (t : TableIndex) (e : Ending) (skipped : Bool) (f : Forest) → Ends kept gs t e f
      → get_elem? gs t ≡ some goal → LineKept (line goal index e skipped)
  line_kept gs goal index t e skipped f w is a q =
      let x = subst (Says kept f t) q w.says in
      let same = same_goal w.between.kept t x.own x.is_made goal (w.within t goal is) in
      subst (λ (g : ℕ). Q g (record { variant = a.variant; delayed_subgoals = []; ambiguous = a.ambiguous })) (sym same) x.as_stored

  -- the lines of a goal, and the forest behind them where nothing stopped
  record GoalKept (r : Listed) : Type 0 where
    each : Each LineKept r.lines
    left : r.stops ≡ false → Between kept 0 r.forest

  from_kept : (more goal t index : ℕ) (skipped : Bool) (f : Forest) (b : Between kept 0 f) → get_elem? b.goals t ≡ some goal
      → GoalKept (list_from more goal t index skipped f)
  from_kept zero goal t index skipped f b is = record { each = ((λ a q. absurd (stop_found q)), tt); left = λ e. absurd (true≢false e) }
  from_kept (suc more) goal t index skipped f b is =
      by_ending p.ending w (λ c. from_kept more goal t (suc p.index) skips p.forest c)
    where
      p : Peeked
      p = peek_rounds (listing_rounds - 1) listing_turns 0 t index f

      skips : Bool
      skips = skipped || ltb index p.index

      w : EndsPeek kept b.goals t p
      w = peeks_kept kept (listing_rounds - 1) listing_turns 0 t index f b

      by_ending : (e : Ending) (w : Ends kept b.goals t e p.forest)
          → ((c : Between kept 0 p.forest) → get_elem? c.goals t ≡ some goal
          → GoalKept (list_from more goal t (suc p.index) skips p.forest))
          → GoalKept (elim (next e) [
            | next_index ↦ record {
              lines = line goal p.index e skips ∷ (list_from more goal t (suc p.index) skips p.forest).lines;
              stops = (list_from more goal t (suc p.index) skips p.forest).stops;
              forest = (list_from more goal t (suc p.index) skips p.forest).forest;
            }
            | next_goal ↦ record { lines = line goal p.index e skips ∷ []; stops = false; forest = p.forest }
            | the_end ↦ record { lines = line goal p.index e skips ∷ []; stops = true; forest = p.forest }
          ])
      by_ending (found a) w rest =
          let x = rest (at_mark kept (w.unless_stopped refl) w.between) (w.within t goal is) in
          record { each = (line_kept b.goals goal p.index t (found a) skips p.forest w is, x.each); left = x.left }
      by_ending (fail e) w rest = record {
        each = (line_kept b.goals goal p.index t (fail e) skips p.forest w is, tt);
        left = λ q. at_mark kept (w.unless_stopped refl) w.between;
      }
      by_ending cut w rest = record {
        each = (line_kept b.goals goal p.index t cut skips p.forest w is, tt);
        left = λ q. at_mark kept (w.unless_stopped refl) w.between;
      }
      by_ending (stopped n) w rest = record {
        each = (line_kept b.goals goal p.index t (stopped n) skips p.forest w is, tt);
        left = λ q. absurd (true≢false q);
      }

  goal_kept : (goal : ℕ) (f : Forest) → Between kept 0 f → GoalKept (list_goal goal f)
  goal_kept goal f b = case_fine (λ (o : Opened). GoalKept (list_opened goal o)) (makes kept b.kept 0 goal)
      (λ n. record { each = ((λ a q. absurd (stop_found q)), tt); left = λ e. absurd (true≢false e) })
      (λ r x. from_kept 257 goal r.0 0 false r.1 (record { goals = x.goals; kept = x.kept }) x.is_made)

  goals_kept : (left goal : ℕ) (f : Forest) → Between kept 0 f → Each LineKept (list_goals left goal f)
  goals_kept zero goal f b = tt
  goals_kept (suc left) goal f b =
      let x = goal_kept goal f b in
      case_bool (Each LineKept) (list_goal goal f).stops
      (λ e. x.each)
      (λ e. each_append LineKept (list_goal goal f).lines (list_goals left (suc goal) (list_goal goal f).forest) x.each
      (goals_kept left (suc goal) (list_goal goal f).forest (x.left e)))

  pub listing_kept : (bytes : List ℕ) → desk bytes ≡ accepted book → (ls : List Line) → lines bytes ≡ accepted ls → Each LineKept ls
  listing_kept bytes took ls e = on (make_of (desk bytes) listing_clock) refl e
    where
      on : (r : Refusable Forest) → make_of (desk bytes) listing_clock ≡ r → elim r [
        | refused n ↦ refused n
        | accepted f ↦ accepted (list_goals (length f.book) 0 f)
      ] ≡ accepted ls → Each LineKept ls
      on (refused n) q x = absurd (not_accepted x)
      on (accepted f) q x =
          let made = made_is (desk bytes) listing_clock f q in
          let is : f.book ≡ book = same_accepted (sym made.0 ∙ took) in
          subst (Each LineKept) (same_accepted x) (goals_kept (length f.book) 0 f
          (subst (Between kept 0) (ap (λ (z : Book). bare z listing_clock 0) (sym is) ∙ made.1) (made_kept kept listing_clock)))

-- of the goals of a clean set
pub listing_certified : ListingCertified
listing_certified bytes book took C clean ls e =
    each_map (λ l k c a q. (k a q c).1) ls (listing_kept (closed book C clean) bytes took ls e)

pub unspoilt_listing : UnspoiltListing
unspoilt_listing bytes book took ss e =
    listing_certified bytes book took (λ goal. spoiler_in ss goal ≡ none) (checked_clean bytes book took ss e)
