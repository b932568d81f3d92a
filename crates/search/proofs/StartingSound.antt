-- What is done before a search's first turn leaves sound stores: between two searches where the search is over already, else in a search
-- with a turn left.
use Prim.Native.Nat.{ℕ, suc, ◌+◌, ◌≤◌, ◌<◌}
use native.Mathlib.Omega.{arith}
use native.Mathlib.Nat.{le_refl}
use mathlib.Core.Bool.{Bool, true, false, true≢false}
use mathlib.Core.List.{List, [], ◌∷◌}
use mathlib.Core.Logic.{inl, inr}
use mathlib.Core.Option.{some}
use mathlib.Core.Path.{◌≡◌, refl, sym, ap, subst, ◌∙◌}
use lib.Dec.{eqb, leb, ltb}
use lib.ListN.{length, get_or, get_elem?}
use borrow.Author.Tests.{eqb-true, eqb-false, leb-false}
use Rattle.definitions.specs.{MAX, minimums_MAX}
use Rattle.definitions.specs.Stack.{push_entry}
use Rattle.definitions.specs.Table.{Table}
use Rattle.definitions.specs.Tables.{Forest, with_clock}
use Rattle.laws.specs.All.{end}
use Rattle.laws.proofs.Bools.{case_bool}
use Rattle.laws.proofs.Lists.{place_under}
use Rattle.laws.proofs.Options.{same_some}
use Rattle.laws.proofs.Spans.{length_span}
use Rattle.asserts.specs.Sound as asserts
use Rattle.asserts.specs.Sound.{Reached, SoundForest}
use Rattle.asserts.proofs.Searches.{mark_kept}
use Rattle.asserts.proofs.Unwinding.{Ended}
use Rattle.book.specs.declared.Book.{Book}
use Rattle.stores.specs.declared.stack.Stack.{Stack}
use Rattle.stores.specs.declared.table.Answers.{Answers}
use Rattle.stores.specs.Numbers.{flag_at}
use Rattle.stores.specs.Places.{ring}
use Rattle.stores.specs.Sound.{SoundStrands}
use Rattle.stores.specs.Stack.{pushed}
use Rattle.stores.specs.View.{FirstStrands, held_table, active_places}
use Rattle.stores.proofs.PlacesViews.{length_ring}
use Rattle.stores.proofs.StackCallers.{push_places}
use Rattle.stores.proofs.StackViews.{push_view, push_sound}
use Rattle.stores.proofs.TablesViews.{table_there}
use Rattle.control.specs.PerformDeed.{bare}
use Rattle.control.specs.PerformStrand.{Lent}
use Rattle.control.specs.Stores.{Stores, SoundStores, first_strands, forest}
use Rattle.control.proofs.Stores.{table_held}
use Rattle.search.specs.declared.course.Asked.{Asked}
use Rattle.search.specs.declared.course.Course.{Course}
use Rattle.search.specs.declared.course.Ending.{Ending}
use Rattle.search.specs.declared.course.Ending.TheVariants as endings
use Rattle.search.specs.Course.{is_peek}
use Rattle.search.specs.Means.{Rests, stores_of}
use Rattle.search.specs.RootAnswer.{first_valid, index_by, course_at, pushes_by, from_index}
use Rattle.search.specs.Walk.{walk}
use Rattle.search.proofs.RootAnswerCases.{start_floundered, start_new, start_stored}
use Rattle.search.proofs.Starting.{begun, started, first_index, is_flag, bare_sound}
use Rattle.search.proofs.StoredAnswers.{stored_in, answers_counted}

-- THE INDEX IS AT MOST THE NUMBER OF ANSWERS

module _ (key : List ℕ) (from : ℕ) where
  valid_few : (i : ℕ) (ps : List ℕ) → from ≤ i + length ps → first_valid key from i ps ≤ i + length ps
  valid_few i [] h = case_bool (λ n. n ≤ i + 0) (ltb i from) (λ e. h) (λ e. omega arith)
  valid_few i (p ∷ ps) h =
      let later : first_valid key from (suc i) ps ≤ i + suc (length ps) = omega (arith, valid_few (suc i) ps (omega arith)) in
      case_bool (λ n. n ≤ i + suc (length ps)) (leb from i)
      (λ e. case_bool (λ n. n ≤ i + suc (length ps)) (eqb (get_or key p 0) 0) (λ q. omega arith) (λ q. later))
      (λ e. later)

index_few : (peeks : Bool) (from valid n : ℕ) → from ≤ n → valid ≤ n → index_by peeks from valid ≤ n
index_few true from valid n h k = k
index_few false from valid n h k = h

-- the clock goes on
clocked : {n : ℕ} {f : Forest} → SoundForest n f → leb f.clock_limit f.clock ≡ false → SoundForest n (with_clock f (suc f.clock))
clocked {n} {f} s e = record {
  goals = s.goals;
  few_goals = s.few_goals;
  sound_book = s.sound_book;
  sound_tables = s.sound_tables;
  tables_apart = s.tables_apart;
  as_goals = s.as_goals;
  few_answers = s.few_answers;
  few_strands = s.few_strands;
  clock_within = leb-false f.clock_limit f.clock e;
  limit_within = s.limit_within;
}

unfloundered_few : (t : Table) (i : ℕ) → t.floundered ≡ false → Reached t i → i ≤ length t.answers
unfloundered_few t i u (inl e) = absurd (true≢false (sym e ∙ u))
unfloundered_few t i u (inr h) = h

module _ (b : Book) (asked : Asked) (c : Course) (w : Lent) (o : Rests (stores_of b asked (walk c w)))
    (x : Ended b.goals asked.table c.index (forest (stores_of b asked (walk c w)))) where
  abbrev z : Stores
  z = stores_of b asked (walk c w)

  abbrev t : ℕ
  t = asked.table

  abbrev f : Forest
  f = forest z

  abbrev fresh : FirstStrands
  fresh = first_strands b

  abbrev a : Answers
  a = w.answers

  abbrev count : ℕ
  count = get_or a.places.len t 0

  abbrev table : Table
  table = table_held z t

  -- the root's table is there
  pub root_there : asked.table < c.count
  root_there =
      omega (
        arith,
        place_under f.tables t x.own x.is_made,
        length_span (held_table fresh z.tables z.strands z.answers) 0 c.count,
      )

  made : get_elem? f.tables t ≡ some table
  made = table_there fresh z.tables z.strands z.answers t root_there

  counted : length table.answers ≡ count
  counted = answers_counted z o.sounds t root_there

  -- a table that is not floundered has the answers below the course's index
  pub index_within : flag_at asked.table w.tables.floundered ≡ false → c.index ≤ get_or w.answers.places.len asked.table 0
  index_within e =
      let r : Reached table c.index = subst (λ (u : Table). Reached u c.index) (same_some (sym x.is_made ∙ made)) x.reached in
      omega (arith, unfloundered_few table c.index (sym (is_flag b asked c w o root_there) ∙ e) r, counted)

  pub first_few : flag_at asked.table w.tables.floundered ≡ false
      → first_index asked w c ≤ get_or w.answers.places.len asked.table 0
  first_few e =
      let from = index_within e in
      let long = length_ring a.places t in
      let valid = valid_few a.key c.index 0 (ring a.places t) (omega arith) in
      index_few (is_peek asked.mode) c.index (first_valid a.key c.index 0 (ring a.places t)) count from (omega arith)

  -- WHAT IS LEFT of a course
  abbrev after : Course → Stores
  after d = stores_of b asked (begun asked w d)

  abbrev LeavesBy : (over : Bool) → Course → Type 0
  LeavesBy true d = Rests (after d) × Ended b.goals t d.index (forest (after d))
  LeavesBy false d = SoundStores t d.index (suc c.clock) (after d) × (d.done < asked.limit)

  abbrev Leaves : Course → Type 0
  Leaves d = LeavesBy d.over d

  no_strands : SoundStrands fresh z.strands c.count []
  no_strands =
      subst (λ (m : ℕ). SoundStrands fresh z.strands c.count (active_places w.stack.active m)) o.empty o.sounds.strands

  -- over: nothing is on the stack, whatever the root's entry says
  module _ (e : Ending) (i mark clock : ℕ) where
    abbrev over_at : Course
    over_at = course_at true e i c.more c.exceeded 0 mark c.depth clock c

    abbrev higher : Stack
    higher = pushed t clock MAX (bare w.stack)

    rests : SoundForest b.goals (forest (after over_at)) → Rests (after over_at)
    rests s =
        let none_there = o.empty in
        let k = push_sound fresh (bare w.stack) z.strands t clock MAX (bare_sound b asked c w o root_there) (omega arith) in
        record {
          book = o.book;
          sounds = record {
            tables = o.sounds.tables;
            strands = subst (λ (m : ℕ). SoundStrands fresh z.strands c.count (active_places higher.active m)) (sym o.empty)
                no_strands;
            answers = o.sounds.answers;
            stack = record {
              few = omega arith;
              long_table = k.long_table;
              long_clock = k.long_clock;
              long_positive = k.long_positive;
              long_negative = k.long_negative;
              long_active = k.long_active;
              places = λ j h. absurd (omega arith);
            };
            made = λ j h. absurd (omega arith);
          };
          empty = o.empty;
          forest = s;
        }

  -- in a search: the root's entry is on the stack
  module _ (i : ℕ) (enough : i ≤ length table.answers) (u : table.floundered ≡ false)
      (early : leb asked.clock_limit c.clock ≡ false) where
    abbrev stands_at : Course
    stands_at = course_at false endings.Cut i c.more c.exceeded 0 c.mark 1 (suc c.clock) c

    in_time : suc c.clock ≤ MAX
    in_time =
        let before = leb-false asked.clock_limit c.clock early in
        let below = o.forest.limit_within in
        omega arith

    sound_entry : asserts.SoundStack b.goals t i (suc c.clock) (forest (after stands_at))
        (push_entry t minimums_MAX (suc c.clock) [])
    sound_entry =
        let few = o.forest.few_strands in
        let most = in_time in (
          record {
            forest = clocked o.forest early;
            begun = le_refl (suc c.clock);
            rooted = record { own = table; is_made = made; enough = enough };
            standing = record {
              own = table;
              is_made = made;
              unfloundered = u;
              clock_late = le_refl (suc c.clock);
              positive_late = most;
              negative_late = most;
            };
            below = (refl, refl);
            off = end;
          },
          tt,
          omega arith,
        )

    searches : SoundStores t i (suc c.clock) (after stands_at)
    searches =
        let k : Stack = bare w.stack in
        let sound = bare_sound b asked c w o root_there in
        let time = suc c.clock in
        record {
          book = o.book;
          tables = o.sounds.tables;
          strands = subst (SoundStrands fresh z.strands c.count) (sym (push_places k t time MAX sound (omega arith))) no_strands;
          answers = o.sounds.answers;
          stack = push_sound fresh k z.strands t time MAX sound (omega arith);
          state = subst (asserts.SoundStack b.goals t i time (forest (after stands_at)))
              (sym (push_view fresh k z.strands t time MAX sound (omega arith))) sound_entry;
        }

  -- the table, which has these answers, is as it was
  still : {g : Forest} (i : ℕ) → SoundForest b.goals g → g.tables ≡ f.tables → i ≤ length table.answers → Ended b.goals t i g
  still i s e h = record { sound = s; own = table; is_made = ap (λ (l : List Table). get_elem? l t) e ∙ made; reached = inr h }

  -- THE FIRST PUSH
  by_push : (i : ℕ) (late none_left : Bool) → leb asked.clock_limit c.clock ≡ late → eqb asked.limit 0 ≡ none_left
      → i ≤ length table.answers → table.floundered ≡ false → Leaves (pushes_by late none_left (from_index i c))
  by_push i true none_left e n h u =
      let s = (mark_kept 21 o.forest).sound in
      (rests (endings.Stopped 21) i 21 c.clock s, still i s refl h)
  by_push i false true e n h u =
      let s = clocked o.forest e in
      (rests endings.Cut i c.mark (suc c.clock) s, still i s refl h)
  by_push i false false e n h u =
      let some_left : asked.limit ≡ 0 → ⊥ = eqb-false asked.limit 0 n in
      (searches i h u e, omega arith)

  -- ALL BEFORE THE FIRST TURN
  by_next : (sane : flag_at t w.tables.floundered ≡ false) (new : Bool) → eqb (first_index asked w c) count ≡ new
      → Leaves (started asked w c)
  by_next sane true e =
      let i = first_index asked w c in
      let h = first_few sane in
      subst Leaves
      (start_new asked w.tables.floundered a.places.next a.places.tail a.places.len a.variant a.key a.ambiguous c
      root_there (flag_at t w.tables.floundered) refl sane i refl count refl (eqb-true i count e))
      (by_push i (leb asked.clock_limit c.clock) (eqb asked.limit 0) refl refl (omega (arith, counted))
      (sym (is_flag b asked c w o root_there) ∙ sane))
  by_next sane false e =
      let i = first_index asked w c in
      let h = first_few sane in
      subst Leaves
      (start_stored asked w.tables.floundered a.places.next a.places.tail a.places.len a.variant a.key
      a.ambiguous c root_there (flag_at t w.tables.floundered) refl sane i refl count refl (eqb-false i count e)
      (stored_in a t i) refl)
      (rests (stored_in a t i) i c.mark c.clock o.forest, still i o.forest refl (omega (arith, counted)))

  by_floundered : (u : Bool) → flag_at t w.tables.floundered ≡ u → Leaves (started asked w c)
  by_floundered true e =
      subst Leaves
      (start_floundered asked w.tables.floundered a.places.next a.places.tail a.places.len a.variant a.key
      a.ambiguous c root_there (flag_at t w.tables.floundered) refl e)
      (rests endings.Floundered c.index c.mark c.clock o.forest, x)
  by_floundered false e = by_next e (eqb (first_index asked w c) count) refl

  leaves : (over : Bool) → (started asked w c).over ≡ over → LeavesBy over (started asked w c)
  leaves over e =
      subst (λ (d : Bool). LeavesBy d (started asked w c)) e (by_floundered (flag_at t w.tables.floundered) refl)

  pub start_rests : (started asked w c).over ≡ true → Rests (stores_of b asked (begun asked w (started asked w c)))
  start_rests e = (leaves true e).0

  pub start_ended : (started asked w c).over ≡ true
      → Ended b.goals asked.table (started asked w c).index (forest (stores_of b asked (begun asked w (started asked w c))))
  start_ended e = (leaves true e).1

  pub start_sound : (started asked w c).over ≡ false
      → SoundStores asked.table (started asked w c).index (suc c.clock) (stores_of b asked (begun asked w (started asked w c)))
  start_sound e = (leaves false e).0

  -- a turn is left
  pub start_left : (started asked w c).over ≡ false → (started asked w c).done < asked.limit
  start_left e = (leaves false e).1
