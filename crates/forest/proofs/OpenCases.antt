-- Opening a goal, for a sound forest: the definitions' table is found, or made where its strands have room; and the ways out of `open` over
-- variables.
use Prim.Native.Nat.{ℕ, zero, suc, ◌+◌, ◌-◌, ◌%◌, ◌≤◌, ◌<◌}
use native.Mathlib.Omega.{arith}
use mathlib.Core.Bool.{Bool, true, false, not}
use mathlib.Core.List.{List, [], ◌∷◌, map}
use mathlib.Core.Option.{Option, none, some}
use mathlib.Core.Path.{◌≡◌, refl, sym, ap, ap₂, subst, ◌∙◌}
use lib.Dec.{eqb, leb, ltb}
use lib.ListN.{length, get_or}
use borrow.Author.Tests.{le-leb, lt-leb, eq-eqb, ne_eqb, lt-ltb, le-ltb, ltb-false}
use Rattle.definitions.specs.{TableIndex}
use Rattle.definitions.specs.Book.{Book, Goal}
use Rattle.definitions.specs.Forest as said
use Rattle.definitions.specs.Forest.{opened}
use Rattle.definitions.specs.Logic.{initial_strand, build_table}
use Rattle.definitions.specs.Refusal.{Refusable, accepted, ◌refuses◌, unless}
use Rattle.definitions.specs.Stop.{Stops, stop, go, ◌>>=◌, ◌>>◌, stop_if, unwrap}
use Rattle.definitions.specs.Table.{Table, new, with_strands, mark_floundered}
use Rattle.definitions.specs.Tables as tables
use Rattle.definitions.specs.Tables.{index_of, insert_table, with_tables, with_mark, queued}
use Rattle.definitions.proofs.Refusal.{not_accepted}
use Rattle.laws.specs.All.{end, more}
use Rattle.laws.proofs.Lists.{at_place}
use Rattle.laws.proofs.Totals.{total_append}
use Rattle.asserts.proofs.Making.{makes}
use Rattle.asserts.proofs.Safe.{case_safe}
use Rattle.asserts.proofs.Searches.{mark_kept}
use Rattle.asserts.specs.Sound.{SoundForest}
use Rattle.small_steps.specs.Acts.{built}
use Rattle.stores.specs.Numbers.{free, first_at, within}
use Rattle.stores.proofs.ListsSpans.{first_if}
use Rattle.stores.proofs.PlacesViews.{in_use_is}
use Rattle.stores.proofs.QueueStores.{queued_is}
use Rattle.stores.proofs.TablesSearch.{index_of_view}
use Rattle.stores.specs.Stack.{blank_stack}
use Rattle.control.specs.declared.select_subgoal.Made.{Made}
use Rattle.control.specs.MakeTables.{Tabling, tabling, tables_from}
use Rattle.control.specs.PerformStrand.{lent_of}
use Rattle.control.specs.Stores.{Stores, first_strands}
use Rattle.control.proofs.ChooseRoom.{strands_for}
use Rattle.control.proofs.EffectMade.{Tabled, tabled, made_from, tables_for, built_counted}
use Rattle.control.proofs.SelectRoom.{room_for_noted}
use Rattle.control.proofs.SelectTables.{building, built_of, built_is}
use Rattle.forest.specs.declared.Forest.{Forest}
use Rattle.forest.specs.declared.open.Opening.{Opening}
use Rattle.forest.specs.declared.open.Opening.TheVariants as openings
use Rattle.forest.specs.Open.{opened_by, OpenSays}
use Rattle.forest.specs.View.{book_in, lent_with, stores_in, view, Sound, forest_by}
use Rattle.forest.proofs.Running.{tables_counted}

-- HOW A TABLE IS MADE

-- the forest's tables and strands
abbrev tabling_in : Forest → Tabling
tabling_in f = tabling (lent_with f blank_stack).tables (lent_with f blank_stack).strands

-- with the table of this goal
abbrev made_for : (g : ℕ) → Forest → Tabling
made_for g f =
    tables_from f.book.goal_flags f.book.goal_first f.book.goal_len f.book.clause_variant f.book.clause_flags
    (g ∷ 0 ∷ 0 ∷ 0 ∷ 0 ∷ 0 ∷ 0 ∷ 0 ∷ []) 1 0 (tabling_in f)

-- a forest with these tables and strands, and this mark
abbrev forest_with : Tabling → (mark : ℕ) → Forest → Forest
forest_with m mark f =
    forest_by (book_in f) (lent_of m.tables m.strands (lent_with f blank_stack).answers blank_stack f.clock) f.clock_limit
    mark

-- A TABLE THAT IS BUILT, where the book has the goal
module _ (book : Book) (goal : ℕ) where
  builds_by : (b : Bool) (t u : Table)
      → (elim b as (λ _. Stops Table) [ true ↦ go t | false ↦ go u ])
      ≡ go (built_of goal (elim b as (λ _. Stops Table) [ true ↦ go t | false ↦ go u ]))
  builds_by true t u = refl
  builds_by false t u = refl

  builds : goal < length book → build_table book goal ≡ go (built book goal)
  builds h =
      let x = at_place book goal h in
      ap (λ (o : Option Goal). unwrap o >>= building goal) x.1
      ∙ builds_by x.0.floundered (mark_floundered (new goal x.0.coinductive))
      (with_strands (new goal x.0.coinductive) (map initial_strand x.0.clauses))
      ∙ ap go (sym (built_is goal book x.0 x.1))

-- WHAT THE DEFINITIONS OPEN
module _ (f : tables.Forest) (goal : ℕ) where
  abbrev grown : tables.Forest
  grown = with_tables f (insert_table (built f.book goal) f.tables)

  abbrev opened_so : Stops (TableIndex × tables.Forest) → said.Opened
  opened_so r = elim r as (λ _. said.Opened) [
    | stop n ↦ record { table = stop n; forest = with_mark f n }
    | go x ↦ record { table = go x.0; forest = x.1 }
  ]

  abbrev created : Stops Table → Stops (TableIndex × tables.Forest)
  created r =
      r >>= λ t. stop_if (ltb 256 (0 + queued (with_tables f (insert_table t f.tables)))) 22
      >> go (length f.tables, with_tables f (insert_table t f.tables))

  abbrev found_or : Option TableIndex → Stops (TableIndex × tables.Forest)
  found_or o = elim o as (λ _. Stops (TableIndex × tables.Forest)) [
    | some t ↦ go (t, f)
    | none ↦ created (build_table f.book goal)
  ]

  found_is : (t : ℕ) → index_of goal f.tables ≡ some t → opened 0 f goal ≡ (record { table = go t; forest = f })
  found_is t e = ap (λ (o : Option TableIndex). opened_so (found_or o)) e

  module _ (e : index_of goal f.tables ≡ none) (h : goal < length f.book) where
    new_is : (full : Bool) → ltb 256 (0 + queued grown) ≡ full
        → opened 0 f goal ≡ opened_so (stop_if full 22 >> go (length f.tables, grown))
    new_is full q =
        ap (λ (o : Option TableIndex). opened_so (found_or o)) e
        ∙ ap (λ (r : Stops Table). opened_so (created r)) (builds f.book goal h)
        ∙ ap (λ (b : Bool). opened_so (stop_if b 22 >> go (length f.tables, grown))) q

-- whatever it is, what is left is sound
opened_sound : (n : ℕ) (f : tables.Forest) (goal : ℕ) → SoundForest n f → goal < n → SoundForest n (opened 0 f goal).forest
opened_sound n f goal s h =
    case_safe (λ (x : said.Opened). SoundForest n x.forest) (makes s 0 goal (omega (arith, s.few_strands)) h)
    (λ m z. (mark_kept m s).sound) (λ r x. x.kept.sound)

-- FOR A SOUND FOREST
module _ (f : Forest) (o : Sound f) (goal : ℕ) (named : goal < f.book.goals) where
  abbrev z : Stores
  z = stores_in f

  abbrev only : List ℕ
  only = goal ∷ 0 ∷ 0 ∷ 0 ∷ 0 ∷ 0 ∷ 0 ∷ 0 ∷ []

  goal_small : goal % 256 ≡ goal
  goal_small = omega (arith, o.book.few_goals)

  in_book : goal < length (view f).book
  in_book = omega (arith, o.forest.goals)

  -- it has a table, or none
  index_is : (t : ℕ) → t ≡ first_at (λ i. eqb (get_or f.stores.tables.goal i 0) (goal % 256)) 0 (within f.stores.tables.count)
      → index_of goal (view f).tables ≡ first_if (ltb t f.stores.tables.count) t
  index_is t e =
      index_of_view (first_strands z.book) z.tables z.strands z.answers goal t o.sounds.tables.few
      (e ∙ ap (λ (g : ℕ). first_at (λ i. eqb (get_or f.stores.tables.goal i 0) g) 0 (within f.stores.tables.count)) goal_small)

  -- the strands that are live with it
  live_counted : (live fresh : ℕ) → live ≡ f.stores.strands.places.top - get_or f.stores.strands.places.len free 0
      → fresh ≡ strands_for f.book.goal_flags f.book.goal_len (goal % 256)
      → live + fresh ≡ 0 + queued (grown (view f) goal)
  live_counted live fresh e q =
      let small = ap (strands_for f.book.goal_flags f.book.goal_len) goal_small in
      let used = in_use_is z.strands.places f.stores.tables.count [] o.sounds.strands.places in
      let waits = queued_is (first_strands z.book) z.tables z.strands z.answers in
      let one = built_counted z o.book [] o.sounds goal named in
      let all = total_append (λ (t : Table). length t.strands) (view f).tables (built (view f).book goal ∷ []) in
      omega arith

  -- it is made
  module _ (new : index_of goal (view f).tables ≡ none) where
    room : f.stores.tables.count + 1 ≤ 64
    room =
        let noted : Made = record { count = 1; goals = only } in
        let n = o.forest.goals in
        omega (
          arith,
          room_for_noted (view f) noted (subst (λ (k : ℕ). SoundForest k (view f)) (sym n) o.forest)
              (record { long = refl; few = omega arith; named = more in_book end; new = (new, tt); rest_floundered = end }),
          tables_counted f,
        )

    named_each : (j : ℕ) → 0 ≤ j → j < 0 + 1 → get_or only j 0 < f.book.goals
    named_each zero a b = named
    named_each (suc j) a b = absurd (omega arith)

    module _ (fits : queued (grown (view f) goal) ≤ 256) where
      made_tabled : Tabled [] z (made_from only 1 0 z) (tables_for only z.book 0 1)
      made_tabled =
          let waits = queued_is (first_strands z.book) z.tables z.strands z.answers in
          let one = built_counted z o.book [] o.sounds goal named in
          let all = total_append (λ (t : Table). length t.strands) (view f).tables (built (view f).book goal ∷ []) in
          tabled only [] 1 0 z o.book o.sounds named_each room (omega arith)

      made_view : view (forest_with (made_for goal f) f.mark f) ≡ grown (view f) goal
      made_view = ap (with_tables (view f)) made_tabled.means

-- THE WAYS OUT of `open`
never_refused : (x : Opening) (f : tables.Forest) (r : said.Opened) → opened_by x f ≡ accepted r → (n : ℕ) → x ≡ openings.Refused n → ⊥
never_refused x f r e n q = not_accepted (sym (ap (λ (y : Opening). opened_by y f) q) ∙ e)

module _ (f : Forest) (goal : ℕ) where
  abbrev unless_named : (marked missing : Bool) → Refusable said.Opened
  unless_named marked missing = unless (marked refuses 20 ∷ missing refuses 9 ∷ []) (opened 0 (view f) goal)

  pub open_marked : 0 < f.mark → OpenSays f goal (record { opening = openings.Refused 20; forest = f })
  open_marked h = record {
    says = λ o. sym (ap (λ (b : Bool). unless_named (not b) (leb (length (view f).book) goal)) (ne_eqb f.mark 0 (λ e. omega arith)));
    sound = λ o. o;
    unchanged = λ n e. refl;
    marked = λ m. refl;
  }

  module _ (unmarked : f.mark ≤ 0) where
    is_unmarked : eqb f.mark 0 ≡ true
    is_unmarked = eq-eqb f.mark 0 (omega arith)

    none_marked : {A : Type 0} → (f.mark ≡ 0 → ⊥) → A
    none_marked m = absurd (m (omega arith))

    tested : Sound f → (missing : Bool) → leb f.book.goals goal ≡ missing → said.open_goal (view f) goal ≡ unless_named false missing
    tested o missing e =
        ap₂ (λ (b : Bool) (n : ℕ). unless_named (not b) (leb n goal)) is_unmarked o.forest.goals ∙ ap (unless_named false) e

    pub open_missing : f.book.goals ≤ goal → OpenSays f goal (record { opening = openings.Refused 9; forest = f })
    open_missing h = record {
      says = λ o. sym (tested o true (le-leb f.book.goals goal h));
      sound = λ o. o;
      unchanged = λ n e. refl;
      marked = λ m. none_marked m;
    }

    module _ (named : goal < f.book.goals) where
      -- what is accepted is said where it is what the definitions open
      abbrev accepts : Opening → Forest → said.Opened → Type 0
      accepts x g r = opened_by x (view g) ≡ accepted r

      comes : (x : Opening) (g : Forest) (r : said.Opened) → accepts x g r → (Sound f → opened 0 (view f) goal ≡ r) → (Sound f → Sound g)
          → OpenSays f goal (record { opening = x; forest = g })
      comes x g r is e s = record {
        says = λ o. is ∙ ap accepted (sym (e o)) ∙ sym (tested o false (lt-leb f.book.goals goal named));
        sound = s;
        unchanged = λ n q. absurd (never_refused x (view g) r is n q);
        marked = λ m. none_marked m;
      }

      module _ (t : ℕ) (is : t ≡ first_at (λ i. eqb (get_or f.stores.tables.goal i 0) (goal % 256)) 0 (within f.stores.tables.count)) where
        pub open_found : t < f.stores.tables.count → OpenSays f goal (record { opening = openings.Table t; forest = f })
        open_found h =
            comes (openings.Table t) f (record { table = go t; forest = view f }) refl
            (λ o. found_is (view f) goal t (index_is f o goal named t is ∙ ap (λ (b : Bool). first_if b t) (lt-ltb t f.stores.tables.count h)))
            (λ o. o)

        module _ (past : f.stores.tables.count ≤ t) (live fresh : ℕ) (lives : live ≡ f.stores.strands.places.top - get_or f.stores.strands.places.len free 0)
            (begins : fresh ≡ strands_for f.book.goal_flags f.book.goal_len (goal % 256)) (full : Bool)
            (test : full ≡ ltb 256 (live + fresh)) where
          none_made : Sound f → index_of goal (view f).tables ≡ none
          none_made o = index_is f o goal named t is ∙ ap (λ (b : Bool). first_if b t) (le-ltb t f.stores.tables.count past)

          comes_to : Sound f → opened 0 (view f) goal
              ≡ opened_so (view f) goal (stop_if full 22 >> go (length (view f).tables, grown (view f) goal))
          comes_to o =
              new_is (view f) goal (none_made o) (in_book f o goal named) full
              (ap (ltb 256) (sym (live_counted f o goal named live fresh lives begins)) ∙ sym test)

          left_sound : (o : Sound f) (r : said.Opened) → opened 0 (view f) goal ≡ r → SoundForest f.book.goals r.forest
          left_sound o r e =
              subst (λ (x : said.Opened). SoundForest f.book.goals x.forest) e (opened_sound f.book.goals (view f) goal o.forest named)

          module _ (e : full ≡ true) where
            full_is : Sound f → opened 0 (view f) goal ≡ (record { table = stop 22; forest = with_mark (view f) 22 })
            full_is o =
                comes_to o
                ∙ ap (λ (b : Bool). opened_so (view f) goal (stop_if b 22 >> go (length (view f).tables, grown (view f) goal))) e

            stopped : OpenSays f goal (record { opening = openings.Stopped 22; forest = forest_with (tabling_in f) 22 f })
            stopped =
                comes (openings.Stopped 22) (forest_with (tabling_in f) 22 f) (record { table = stop 22; forest = with_mark (view f) 22 })
                refl full_is
                (λ o. record {
                  book = o.book;
                  sounds = record {
                    tables = o.sounds.tables;
                    strands = o.sounds.strands;
                    answers = o.sounds.answers;
                    stack = o.sounds.stack;
                    made = o.sounds.made;
                  };
                  empty = refl;
                  forest = left_sound o (record { table = stop 22; forest = with_mark (view f) 22 }) (full_is o);
                })

            pub open_full : (g : Forest) → g ≡ forest_with (tabling_in f) 22 f
                → OpenSays f goal (record { opening = openings.Stopped 22; forest = g })
            open_full g q =
                subst (λ (h : Forest). OpenSays f goal (record { opening = openings.Stopped 22; forest = h })) (sym q) stopped

          module _ (e : full ≡ false) where
            abbrev made : Forest
            made = forest_with (made_for goal f) f.mark f

            fits : (o : Sound f) → queued (grown (view f) goal) ≤ 256
            fits o =
                let few = ltb-false 256 (live + fresh) (sym test ∙ e) in
                omega (arith, live_counted f o goal named live fresh lives begins)

            made_is : Sound f → opened 0 (view f) goal ≡ (record { table = go f.stores.tables.count; forest = view made })
            made_is o =
                let counted = tables_counted f in
                let viewed = made_view f o goal named (none_made o) (fits o) in
                comes_to o
                ∙ ap (λ (b : Bool). opened_so (view f) goal (stop_if b 22 >> go (length (view f).tables, grown (view f) goal))) e
                ∙ ap₂ (λ (n : ℕ) (h : tables.Forest). opened_so (view f) goal (go (n, h))) counted (sym viewed)

            made_rests : Sound f → Sound made
            made_rests o = record {
              book = o.book;
              sounds = (made_tabled f o goal named (none_made o) (fits o)).sound;
              empty = refl;
              forest = left_sound o (record { table = go f.stores.tables.count; forest = view made }) (made_is o);
            }

            pub open_made : (g : Forest) → g ≡ forest_with (made_for (goal % 256) f) f.mark f
                → OpenSays f goal (record { opening = openings.Table f.stores.tables.count; forest = g })
            open_made g q =
                comes (openings.Table f.stores.tables.count) g (record { table = go f.stores.tables.count; forest = view g }) refl
                (λ o.
                made_is o ∙ ap (λ (h : Forest). opened_so (view f) goal (go (f.stores.tables.count, view h))) (sym (same o)))
                (λ o. subst Sound (sym (same o)) (made_rests o))
              where
                same : Sound f → g ≡ forest_with (made_for goal f) f.mark f
                same o = q ∙ ap (λ (j : ℕ). forest_with (made_for j f) f.mark f) (goal_small f o goal named)
