-- What is done before a search's first turn, for sound stores: it is what crate `small_steps` starts on the view.
use Prim.Native.Nat.{ℕ, suc, ◌<◌}
use native.Mathlib.Omega.{arith}
use mathlib.Core.Bool.{Bool, true, false}
use mathlib.Core.List.{[]}
use mathlib.Core.Option.{none, some}
use mathlib.Core.Path.{◌≡◌, refl, sym, ap, ◌∙◌}
use lib.Dec.{eqb, leb, ltb}
use lib.ListN.{get_or}
use borrow.Author.Tests.{le-leb, lt-leb, eq-eqb, ne_eqb, eqb-true, eqb-false, ltb-true, ltb-false}
use Rattle.definitions.specs.{Answer, MAX, minimums_MAX}
use Rattle.definitions.specs.Logic as logic
use Rattle.definitions.specs.Stack as said
use Rattle.definitions.specs.Stack.{push_entry}
use Rattle.definitions.specs.Stop.{go}
use Rattle.definitions.specs.Table.{Table, answer, next_answer_index}
use Rattle.definitions.specs.Tables.{Forest, with_mark, with_clock, table_at}
use Rattle.definitions.specs.Turn as turns
use Rattle.small_steps.specs.Steps as steps
use Rattle.small_steps.specs.Steps.{Progress, stands}
use Rattle.book.specs.declared.Book.{Book}
use Rattle.stores.specs.declared.table.Answers.{Answers}
use Rattle.stores.specs.Numbers.{flag_at}
use Rattle.stores.specs.Places.{ring}
use Rattle.stores.specs.Sound.{SoundStack}
use Rattle.stores.specs.Stack.{pushed}
use Rattle.stores.specs.View.{answer_at}
use Rattle.stores.proofs.StackViews.{push_view}
use Rattle.stores.proofs.TablesViews.{table_at_is, floundered_view}
use Rattle.control.specs.PerformDeed.{bare}
use Rattle.control.specs.PerformStrand.{Lent, lent_of}
use Rattle.control.specs.Stores.{Stores, first_strands, forest}
use Rattle.control.proofs.Stores.{table_held}
use Rattle.search.specs.declared.course.Asked.{Asked}
use Rattle.search.specs.declared.course.Course.{Course}
use Rattle.search.specs.declared.course.Ending.{Ending}
use Rattle.search.specs.declared.course.Ending.TheVariants as endings
use Rattle.search.specs.Course.{is_peek, ended}
use Rattle.search.specs.Means.{ending_means, Rests, stores_of, progress_of}
use Rattle.search.specs.RootAnswer.{index_by, index_from, first_valid, pushes_by, pushes_root, from_index, start}
use Rattle.search.specs.Walk.{Walk, walk}
use Rattle.search.proofs.RootAnswerCases.{start_floundered, start_new, start_stored}
use Rattle.search.proofs.StoredAnswers.{stored_in, answers_counted, answer_is, ok_is, answer_none, stored_past}

-- WHAT THE DEFINITIONS START, by their tests

-- over before a turn is done
abbrev pub ended_so : turns.Ending → Forest → Progress
ended_so e f = steps.ended (record { ending = e; turns = 0; forest = f })

-- a search at its first push
abbrev pushed_root : (limit t i : ℕ) → Forest → said.Stack → steps.Standing
pushed_root limit t i f es = record {
  state = record { forest = with_clock f (suc f.clock); stack = es };
  table = t;
  index = i;
  limit = limit;
  done = 0;
  first = suc f.clock;
}

module _ (limit t i : ℕ) (f : Forest) where
  abbrev root_entry : said.Stack
  root_entry = push_entry t minimums_MAX (suc f.clock) []

  pushes_late : leb f.clock_limit f.clock ≡ true → steps.pushes_root limit t i f ≡ ended_so (turns.stopped 21) (with_mark f 21)
  pushes_late e = rw (steps.pushes_root, e)

  pushes_standing : leb f.clock_limit f.clock ≡ false
      → steps.pushes_root limit t i f ≡ steps.standing (pushed_root limit t i f root_entry)
  pushes_standing e = rw (steps.pushes_root, e)

  pushes_cut : leb f.clock_limit f.clock ≡ false → limit ≡ 0
      → steps.pushes_root limit t i f ≡ ended_so turns.cut (with_clock f (suc f.clock))
  pushes_cut e z = pushes_standing e ∙ rw (steps.standing, le-leb limit 0 (omega arith))

  pushes_new : leb f.clock_limit f.clock ≡ false → (limit ≡ 0 → ⊥)
      → steps.pushes_root limit t i f ≡ stands (pushed_root limit t i f root_entry)
  pushes_new e n = pushes_standing e ∙ rw (steps.standing, lt-leb limit 0 (omega arith))

  module _ (table : Table) (is : table_at f t ≡ go table) where
    pub floundered_ends : table.floundered ≡ true → steps.start limit t i f ≡ ended_so (turns.fail logic.Floundered) f
    floundered_ends u = rw (steps.start, is, u)

    module _ (u : table.floundered ≡ false) where
      pub stored_ends : (a : Answer) → answer table i ≡ some a
          → steps.start limit t i f ≡ ended_so (turns.ok_ending (record { forest = f; stack = [] }) t i) f
      stored_ends a e = rw (steps.start, is, u, e)

      module _ (e : answer table i ≡ none) where
        next_pushes : next_answer_index table ≡ i → steps.start limit t i f ≡ steps.pushes_root limit t i f
        next_pushes n = rw (steps.start, is, u, e, eq-eqb (next_answer_index table) i n)

        past_ends : (next_answer_index table ≡ i → ⊥) → steps.start limit t i f ≡ ended_so (turns.stopped 0) f
        past_ends n = rw (steps.start, is, u, e, ne_eqb (next_answer_index table) i n)

-- THE WALK that a course stands for, with the root's entry written at the bottom of the stack
abbrev pub begun : Asked → Lent → Course → Walk
begun asked w c =
    walk c (lent_of w.tables w.strands w.answers (pushed asked.table c.clock MAX (bare w.stack)) w.clock)

-- the course before the first turn
abbrev pub started : Asked → Lent → Course → Course
started asked w c =
    let a = w.answers in
    start asked w.tables.floundered a.places.next a.places.tail a.places.len a.variant a.key a.ambiguous c

-- the index that it is for
abbrev pub first_index : Asked → Lent → Course → ℕ
first_index asked w c =
    let p = w.answers.places in
    index_from asked.mode p.next p.tail p.len w.answers.key asked.table c.index

module _ (b : Book) (asked : Asked) (c : Course) (w : Lent) (o : Rests (stores_of b asked (walk c w)))
    (there : asked.table < c.count) where
  abbrev z : Stores
  z = stores_of b asked (walk c w)

  abbrev t : ℕ
  t = asked.table

  abbrev f : Forest
  f = forest z

  abbrev count : ℕ
  count = get_or w.answers.places.len t 0

  abbrev table : Table
  table = table_held z t

  abbrev progress : Course → Progress
  progress d = progress_of b asked (suc c.clock) (begun asked w d)

  pub is_table : table_at (forest (stores_of b asked (walk c w))) asked.table
      ≡ go (table_held (stores_of b asked (walk c w)) asked.table)
  is_table = table_at_is (first_strands b) z.tables z.strands z.answers f refl t there

  pub is_flag : flag_at asked.table w.tables.floundered ≡ (table_held (stores_of b asked (walk c w)) asked.table).floundered
  is_flag = floundered_view (first_strands b) z.tables z.strands z.answers o.sounds.tables t there

  -- nothing is on the stack
  pub bare_sound : SoundStack (bare w.stack)
  bare_sound =
      let k = o.sounds.stack in
      record {
        few = omega arith;
        long_table = k.long_table;
        long_clock = k.long_clock;
        long_positive = k.long_positive;
        long_negative = k.long_negative;
        long_active = k.long_active;
        places = λ i h. absurd (omega arith);
      }

  -- THE FIRST PUSH
  by_push : (i : ℕ) (late none_left : Bool) → leb asked.clock_limit c.clock ≡ late → eqb asked.limit 0 ≡ none_left
      → progress (pushes_by late none_left (from_index i c)) ≡ steps.pushes_root asked.limit t i f
  by_push i true none_left e n = sym (pushes_late asked.limit t i f e)
  by_push i false true e n = sym (pushes_cut asked.limit t i f e (eqb-true asked.limit 0 n))
  by_push i false false e n =
      ap (λ (es : said.Stack). stands (pushed_root asked.limit t i f es))
      (push_view (first_strands b) (bare w.stack) z.strands t (suc c.clock) MAX bare_sound (omega arith))
      ∙ sym (pushes_new asked.limit t i f e (eqb-false asked.limit 0 n))

  pushes : (i : ℕ) → progress (pushes_root asked (from_index i c)) ≡ steps.pushes_root asked.limit t i f
  pushes i = by_push i (leb asked.clock_limit c.clock) (eqb asked.limit 0) refl refl

  -- ALL BEFORE THE FIRST TURN, for the answer at index i
  module _ (i : ℕ) (is_i : i ≡ first_index asked w c) where
    abbrev Starts : Course → Type 0
    Starts d = progress d ≡ steps.start asked.limit t i f

    -- the course comes to d
    comes : (d : Course) → d ≡ started asked w c → Starts d → Starts (started asked w c)
    comes d e h = sym (ap progress e) ∙ h

    module _ (sane : flag_at t w.tables.floundered ≡ false) where
      unfloundered : table.floundered ≡ false
      unfloundered = sym is_flag ∙ sane

      counted : next_answer_index table ≡ count
      counted = answers_counted z o.sounds t there

      abbrev a : Answers
      a = w.answers

      -- it is stored, or none has that index
      stored_starts : (i ≡ count → ⊥) → Starts (ended (stored_in a t i) (from_index i c)) → Starts (started asked w c)
      stored_starts d h =
          comes (ended (stored_in a t i) (from_index i c))
          (start_stored asked w.tables.floundered a.places.next a.places.tail a.places.len a.variant a.key
          a.ambiguous c there (flag_at t w.tables.floundered) refl sane i is_i count refl d (stored_in a t i) refl) h

      by_stored : (below : Bool) → ltb i count ≡ below → (i ≡ count → ⊥) → Starts (ended (stored_in a t i) (from_index i c))
      by_stored true e d =
          let h = ltb-true i count e in
          ap (λ (x : turns.Ending). ended_so x f) (ok_is z o.sounds t there i h)
          ∙ sym (stored_ends asked.limit t i f table is_table unfloundered (answer_at a (get_or (ring a.places t) i 0))
          (answer_is z o.sounds t there i h))
      by_stored false e d =
          let h = ltb-false i count e in
          ap (λ (x : Ending). ended_so (ending_means x) f) (stored_past z o.sounds t there i h)
          ∙ sym (past_ends asked.limit t i f table is_table unfloundered (answer_none z o.sounds t there i h)
          (λ n. d (sym n ∙ counted)))

      -- or it comes next
      by_next : (new : Bool) → eqb i count ≡ new → Starts (started asked w c)
      by_next true e =
          let n : i ≡ count = eqb-true i count e in
          comes (pushes_root asked (from_index i c))
          (start_new asked w.tables.floundered a.places.next a.places.tail a.places.len a.variant a.key
          a.ambiguous c there (flag_at t w.tables.floundered) refl sane i is_i count refl n)
          (pushes i ∙ sym (next_pushes asked.limit t i f table is_table unfloundered
          (answer_none z o.sounds t there i (omega arith)) (counted ∙ sym n)))
      by_next false e =
          let d : i ≡ count → ⊥ = eqb-false i count e in
          stored_starts d (by_stored (ltb i count) refl d)

    by_floundered : (u : Bool) → flag_at t w.tables.floundered ≡ u → Starts (started asked w c)
    by_floundered true e =
        let a = w.answers in
        comes (ended endings.Floundered (from_index c.index c))
        (start_floundered asked w.tables.floundered a.places.next a.places.tail a.places.len a.variant a.key
        a.ambiguous c there (flag_at t w.tables.floundered) refl e)
        (sym (floundered_ends asked.limit t i f table is_table (sym is_flag ∙ e)))
    by_floundered false e = by_next e (eqb i count) refl

    -- what is started is what the definitions start at this index
    pub start_at : progress_of b asked (suc c.clock) (begun asked w (started asked w c))
        ≡ steps.start asked.limit asked.table i (forest (stores_of b asked (walk c w)))
    start_at = by_floundered (flag_at t w.tables.floundered) refl

  -- A SEARCH that is no peek's is for the answer at its course's index
  pub start_is : is_peek asked.mode ≡ false
      → progress_of b asked (suc c.clock) (begun asked w (started asked w c))
      ≡ steps.start asked.limit asked.table c.index (forest (stores_of b asked (walk c w)))
  start_is e =
      let p = w.answers.places in
      start_at c.index
      (sym (ap (λ (peeks : Bool). index_by peeks c.index (first_valid w.answers.key c.index 0 (ring p t))) e))
