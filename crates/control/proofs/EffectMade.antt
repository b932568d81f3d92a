-- The tables of the goals noted are made, for sound stores: the state is the one with tables made that crate `small_steps` says, and what
-- is in hand or in an entry shows what it did. One table at a time from the stores' theorem on a table built; then the loop.
use Prim.Native.Nat.{ℕ, zero, suc, ◌+◌, ◌≤◌, ◌<◌}
use native.Mathlib.Omega.{arith}
use mathlib.Core.Bool.{Bool, true, false}
use mathlib.Core.List.{List, [], ◌∷◌, ◌++◌, map, append-nil, append_assoc}
use mathlib.Core.Path.{◌≡◌, refl, sym, ap, ap₂, subst, ◌∙◌}
use lib.ListN.{length, get_or, length-append}
use Rattle.definitions.specs.Book.{bit0, bit1}
use Rattle.definitions.specs.Lists.{total}
use Rattle.definitions.specs.Logic.{initial_strand, with_forest}
use Rattle.definitions.specs.Stack as stacks
use Rattle.definitions.specs.Stop.{Stops, go}
use Rattle.definitions.specs.Strand as held
use Rattle.definitions.specs.Table.{Table, new, with_strands, mark_floundered}
use Rattle.definitions.specs.Tables.{Forest}
use Rattle.definitions.specs.Tables as forests
use Rattle.laws.specs.All.{All}
use Rattle.laws.proofs.Spans.{length_span, map_span}
use Rattle.laws.specs.Spans.{span}
use Rattle.laws.proofs.Totals.{total_append}
use Rattle.rings.proofs.Counts.{times_append}
use Rattle.small_steps.specs.Acts.{built, with_made}
use Rattle.book.specs.Access.{entry}
use Rattle.book.specs.View as books
use Rattle.book.specs.declared.Book.{Book}
use Rattle.book.proofs.Looks.{entry_in, clauses_within}
use Rattle.stores.specs.Numbers.{within}
use Rattle.stores.specs.Queue.{clauses_from, fresh_each}
use Rattle.stores.specs.Sound.{waiting, SoundStrands, SoundAnswers}
use Rattle.stores.specs.Tables.{inserted}
use Rattle.stores.specs.View.{FirstStrands, held_table, tables, entries}
use Rattle.stores.proofs.ListsSpans.{span_at}
use Rattle.stores.proofs.QueueStores.{HeldStill, queued_is}
use Rattle.stores.proofs.StackCallers.{entered_holds}
use Rattle.stores.proofs.TablesBuilding as building
use Rattle.stores.proofs.TablesBuilding.{Built}
use Rattle.control.specs.declared.select_subgoal.Made.{Made}
use Rattle.control.specs.SelectSubgoal.{strands_by, noted_count, noted_down, noted_goals}
use Rattle.control.specs.MakeTables.{Tabling, tabling, table_made, tables_from}
use Rattle.control.specs.PerformStrand.{lent_of}
use Rattle.control.specs.InHand.{with_lent, Sounds, state_above}
use Rattle.control.specs.Stores.{Stores, first_strands, forest, held_places}
use Rattle.control.proofs.ChooseRoom.{strands_for}
use Rattle.control.proofs.SelectTables.{built_of, built_is, tables_noted, noted_each}

-- the stores with these tables and strands
abbrev pub with_tabling : Tabling → Stores → Stores
with_tabling m z = with_lent (lent_of m.tables m.strands z.answers z.stack z.clock) z

-- a table as it is built, by its goal's flags
abbrev table_by : (floundered : Bool) → (g : ℕ) → (coinductive : Bool) → List held.Strand → Table
table_by true g co l = mark_floundered (new g co)
table_by false g co l = with_strands (new g co) l

table_by_is : (b : Bool) (g : ℕ) (co : Bool) (l : List held.Strand)
    → built_of g (elim b as (λ _. Stops Table) [ true ↦ go (mark_floundered (new g co)) | false ↦ go (with_strands (new g co) l) ])
    ≡ table_by b g co l
table_by_is true g co l = refl
table_by_is false g co l = refl

strands_counted : (b : Bool) (g : ℕ) (co : Bool) (l : List held.Strand) (n : ℕ) → length l ≡ n
    → length (table_by b g co l).strands ≡ strands_by b n
strands_counted true g co l n e = refl
strands_counted false g co l n e = e

-- ONE TABLE
module _ (z : Stores) (sound : books.Sound z.book) (hand : List ℕ) (o : Sounds hand z) (g : ℕ) (h : g < z.book.goals) where
  abbrev fresh : FirstStrands
  fresh = first_strands z.book

  abbrev holding : List ℕ
  holding = hand ++ held_places z

  abbrev count : ℕ
  count = z.tables.count

  abbrev flags : ℕ
  flags = get_or z.book.goal_flags g 0

  abbrev first : ℕ
  first = get_or z.book.goal_first g 0

  abbrev len : ℕ
  len = get_or z.book.goal_len g 0

  few_clauses : first + len ≤ 256
  few_clauses = omega (arith, clauses_within z.book sound g (books.goal_viewed z.book g) h, sound.few_clauses)

  -- it is the definitions' table
  built_by_flag : built (books.view z.book) g ≡ table_by (bit1 flags) g (bit0 flags) (span fresh first len)
  built_by_flag =
      built_is g (books.view z.book) (books.goal_viewed z.book g) (span_at (books.goal_viewed z.book) z.book.goals g h)
      ∙ table_by_is (bit1 flags) g (bit0 flags) (map initial_strand (span (books.clause_viewed z.book) first len))
      ∙ ap (table_by (bit1 flags) g (bit0 flags)) (map_span initial_strand (books.clause_viewed z.book) first len)

  entry_is : (l : List ℕ) → entry 64 l g ≡ get_or l g 0
  entry_is l = entry_in 64 l g (omega (arith, h, sound.few_goals))

  pub built_counted : length (built (books.view z.book) g).strands ≡ strands_for z.book.goal_flags z.book.goal_len g
  built_counted =
      ap (λ (t : Table). length t.strands) built_by_flag
      ∙ strands_counted (bit1 flags) g (bit0 flags) (span fresh first len) len (length_span fresh first len)
      ∙ ap₂ (λ (x y : ℕ). strands_by (bit1 x) y) (sym (entry_is z.book.goal_flags)) (sym (entry_is z.book.goal_len))

  module _ (room : z.tables.count < 64)
      (fits : waiting z.strands.places z.tables.count + length (hand ++ held_places z)
      + strands_for z.book.goal_flags z.book.goal_len g ≤ 256) where
    abbrev made_with : (floundered : Bool) → (t first left : ℕ) → Tabling
    made_with b t c left = tabling (inserted g (bit0 flags) b z.tables)
        (fresh_each z.book.clause_variant z.book.clause_flags t left c z.strands)

    by_flag : (b : Bool) → waiting z.strands.places count + length holding + strands_by b len ≤ 256
        → Built fresh z.tables (made_with b count first (clauses_from first (strands_by b len))).tables z.strands
        (made_with b count first (clauses_from first (strands_by b len))).strands z.answers holding
        (table_by b g (bit0 flags) (span fresh first len))
    by_flag true all =
        let none_left : 0 ≡ clauses_from first 0 = omega arith in
        subst (λ (left : ℕ). Built fresh z.tables (made_with true count first left).tables z.strands
        (made_with true count first left).strands z.answers holding (mark_floundered (new g (bit0 flags)))) none_left
        (building.built_floundered fresh z.tables z.strands z.answers holding g (bit0 flags) o.tables o.strands
        o.answers room)
    by_flag false all =
        let whole : len ≡ clauses_from first len = omega (arith, few_clauses) in
        subst (λ (left : ℕ). Built fresh z.tables (made_with false count first left).tables z.strands
        (made_with false count first left).strands z.answers holding (with_strands (new g (bit0 flags)) (span fresh first len))) whole
        (building.built fresh z.tables z.strands z.answers holding g (bit0 flags) o.tables o.strands o.answers room
        z.book.clause_variant z.book.clause_flags first len
        (λ c a b. record { is_variant = refl; is_ambiguous = refl; is_unpursued = refl }) all)

    -- by the entries of the book's arrays
    abbrev made_at : (flags first len t : ℕ) → Tabling
    made_at x c n t = tabling (inserted g (bit0 x) (bit1 x) z.tables)
        (fresh_each z.book.clause_variant z.book.clause_flags t (clauses_from c (strands_by (bit1 x) n)) c z.strands)

    abbrev one : Tabling
    one = table_made z.book.goal_flags z.book.goal_first z.book.goal_len z.book.clause_variant
        z.book.clause_flags g (tabling z.tables z.strands)

    one_is : made_at flags first len count ≡ one
    one_is =
        let all : within count ≡ count = omega (arith, room) in
        sym (ap (λ (x : ℕ). made_at x (entry 64 z.book.goal_first g) (entry 64 z.book.goal_len g) (within count))
        (entry_is z.book.goal_flags)
        ∙ ap (λ (x : ℕ). made_at flags x (entry 64 z.book.goal_len g) (within count)) (entry_is z.book.goal_first)
        ∙ ap (λ (x : ℕ). made_at flags first x (within count)) (entry_is z.book.goal_len)
        ∙ ap (made_at flags first len) all)

    same_strands : strands_for z.book.goal_flags z.book.goal_len g ≡ strands_by (bit1 flags) len
    same_strands = ap₂ (λ (x y : ℕ). strands_by (bit1 x) y) (entry_is z.book.goal_flags) (entry_is z.book.goal_len)

    pub one_built : Built (first_strands z.book) z.tables
        (table_made z.book.goal_flags z.book.goal_first z.book.goal_len z.book.clause_variant
        z.book.clause_flags g (tabling z.tables z.strands)).tables
        z.strands
        (table_made z.book.goal_flags z.book.goal_first z.book.goal_len z.book.clause_variant
        z.book.clause_flags g (tabling z.tables z.strands)).strands
        z.answers (hand ++ held_places z) (built (books.view z.book) g)
    one_built =
        subst (λ (m : Tabling). Built fresh z.tables m.tables z.strands m.strands z.answers holding
        (built (books.view z.book) g)) one_is
        (subst (Built fresh z.tables (made_at flags first len count).tables z.strands (made_at flags first len count).strands
        z.answers holding) (sym built_by_flag) (by_flag (bit1 flags) (omega (arith, fits, same_strands))))

-- WHAT IS KNOWN when tables are made: these are new, behind those that were there
pub record Tabled (hand : List ℕ) (z : Stores) (m : Tabling) (more : List Table) : Type 0 where
  pub sound : Sounds hand (with_tabling m z)
  pub means : tables (first_strands z.book) m.tables m.strands z.answers ≡ (forest z).tables ++ more
  pub holds : HeldStill (first_strands z.book) z.strands m.strands (hand ++ held_places z)

module _ (z : Stores) (hand : List ℕ) where
  built_tabled : Sounds hand z → (m : Tabling) (t : Table)
      → Built (first_strands z.book) z.tables m.tables z.strands m.strands z.answers (hand ++ held_places z) t
      → Tabled hand z m (t ∷ [])
  built_tabled o m t b = record {
    sound = record {
      tables = b.tables_sound;
      strands = subst (λ (n : ℕ). SoundStrands (first_strands z.book) m.strands n (hand ++ held_places z)) (sym b.count)
          b.strands_sound;
      answers = subst (SoundAnswers z.answers) (sym b.count) b.answers_sound;
      stack = o.stack;
      made = λ i h. omega (arith, o.made i h, b.count);
    };
    means = b.means;
    holds = b.holds;
  }

  none_tabled : Sounds hand z → Tabled hand z (tabling z.tables z.strands) []
  none_tabled o = record { sound = o; means = sym (append-nil (forest z).tables); holds = λ q k. refl }

  -- and then others
  tabled_on : (m m' : Tabling) (t : Table) (more : List Table) → Tabled hand z m (t ∷ []) → Tabled hand (with_tabling m z) m' more
      → Tabled hand z m' (t ∷ more)
  tabled_on m m' t more a b = record {
    sound = b.sound;
    means =
        b.means ∙ ap (λ (l : List Table). l ++ more) a.means ∙ append_assoc (forest z).tables (t ∷ []) more;
    holds = λ q k. b.holds q k ∙ a.holds q k;
  }

  -- so many more strands wait
  pub tabled_waiting : (m : Tabling) (more : List Table) → Tabled hand z m more
      → waiting m.strands.places m.tables.count
      ≡ waiting z.strands.places z.tables.count + total (λ t. length t.strands) more
  tabled_waiting m more a =
      let was = queued_is (first_strands z.book) z.tables z.strands z.answers in
      let now = queued_is (first_strands z.book) m.tables m.strands z.answers in
      let both = ap (total (λ (t : Table). length t.strands)) a.means in
      let apart = total_append (λ (t : Table). length t.strands) (forest z).tables more in
      omega arith

-- THE LOOP, over the goals noted: the tables of those from i on, and the strands that they need
module _ (goals : List ℕ) where
  abbrev pub tables_for : Book → (i left : ℕ) → List Table
  tables_for b i left = span (λ j. built (books.view b) (get_or goals j 0)) i left

  abbrev pub needed : Book → (i left : ℕ) → ℕ
  needed b i zero = 0
  needed b i (suc left) = strands_for b.goal_flags b.goal_len (get_or goals i 0) + needed b (suc i) left

  abbrev pub made_from : (left i : ℕ) → Stores → Tabling
  made_from left i z =
      tables_from z.book.goal_flags z.book.goal_first z.book.goal_len z.book.clause_variant
      z.book.clause_flags goals left i (tabling z.tables z.strands)

  module _ (hand : List ℕ) where
    pub tabled : (left i : ℕ) (z : Stores) → books.Sound z.book → Sounds hand z
        → ((j : ℕ) → i ≤ j → j < i + left → get_or goals j 0 < z.book.goals) → z.tables.count + left ≤ 64
        → waiting z.strands.places z.tables.count + length (hand ++ held_places z) + needed z.book i left ≤ 256
        → Tabled hand z (made_from left i z) (tables_for z.book i left)
    tabled zero i z sound o named room fits = none_tabled z hand o
    tabled (suc left) i z sound o named room fits =
        let g : ℕ = get_or goals i 0 in
        let m : Tabling = made_from 1 i z in
        let t : Table = built (books.view z.book) g in
        let h : g < z.book.goals = named i (omega arith) (omega arith) in
        let b = one_built z sound hand o g h (omega arith) (omega arith) in
        let one : Tabled hand z m (t ∷ []) = built_tabled z hand o m t b in
        let counted : m.tables.count ≡ suc z.tables.count = b.count in
        let more = tabled_waiting z hand m (t ∷ []) one in
        let strands = built_counted z sound hand o g h in
        tabled_on z hand m (made_from left (suc i) (with_tabling m z)) t (tables_for z.book (suc i) left) one
        (tabled left (suc i) (with_tabling m z) sound one.sound (λ j a b. named j (omega arith) (omega arith))
        (omega (arith, room, counted)) (omega (arith, fits, more, strands)))

  -- the strands of the tables made are those needed
  tables_need : (z : Stores) → books.Sound z.book → (hand : List ℕ) → Sounds hand z → (left i : ℕ)
      → ((j : ℕ) → i ≤ j → j < i + left → get_or goals j 0 < z.book.goals)
      → total (λ t. length t.strands) (tables_for z.book i left) ≡ needed z.book i left
  tables_need z sound hand o zero i named = refl
  tables_need z sound hand o (suc left) i named =
      ap₂ (λ (x y : ℕ). x + y) (built_counted z sound hand o (get_or goals i 0) (named i (omega arith) (omega arith)))
      (tables_need z sound hand o left (suc i) (λ j a b. named j (omega arith) (omega arith)))

  -- counted from the last one, as they are noted
  needed_last : (b : Book) (left i : ℕ)
      → needed b i (suc left) ≡ needed b i left + strands_for b.goal_flags b.goal_len (get_or goals (i + left) 0)
  needed_last b zero i =
      let e : i ≡ i + 0 = omega arith in
      let same = ap (λ (j : ℕ). strands_for b.goal_flags b.goal_len (get_or goals j 0)) e in
      omega arith
  needed_last b (suc left) i =
      let e : suc i + left ≡ i + suc left = omega arith in
      let same = ap (λ (j : ℕ). strands_for b.goal_flags b.goal_len (get_or goals j 0)) e in
      let more = needed_last b left (suc i) in
      omega arith

  needed_noted : (b : Book) (n : ℕ)
      → needed b 0 n ≡ total (strands_for b.goal_flags b.goal_len) (noted_down n goals)
  needed_noted b zero = refl
  needed_noted b (suc n) =
      let e : 0 + n ≡ n = omega arith in
      let same = ap (λ (j : ℕ). strands_for b.goal_flags b.goal_len (get_or goals j 0)) e in
      let last = needed_last b n 0 in
      let rest = needed_noted b n in
      omega arith

-- making tables leaves all of a forest but its tables
made_tables_only : (f : Forest) (made : List ℕ) → with_made f made ≡ forests.with_tables f (with_made f made).tables
made_tables_only f [] = refl
made_tables_only f (g ∷ made) =
    ap (λ (h : Forest). forests.with_tables h (with_made f (g ∷ made)).tables) (made_tables_only f made)

-- WHAT MAKING RESTS ON: the goals noted are the book's, and there is room for their tables and strands
pub record Fits (hand : List ℕ) (made : Made) (z : Stores) : Type 0 where
  pub few : made.count ≤ 8
  pub named : All (λ g. g < z.book.goals) (noted_goals made)
  pub tables : z.tables.count + made.count ≤ 64
  pub places : waiting z.strands.places z.tables.count + length (hand ++ held_places z)
      + total (strands_for z.book.goal_flags z.book.goal_len) (noted_goals made) ≤ 256

-- THE TABLES ARE MADE
abbrev pub all_made : Made → Stores → Tabling
all_made made z = made_from made.goals (noted_count made) 0 z

module _ (made : Made) (hand : List ℕ) (z : Stores) (sound : books.Sound z.book) (o : Sounds hand z) (fits : Fits hand made z) where
  abbrev shows : FirstStrands
  shows = first_strands z.book

  abbrev more : List Table
  more = tables_for made.goals z.book 0 made.count

  each_named : (j : ℕ) → 0 ≤ j → j < 0 + made.count → get_or made.goals j 0 < z.book.goals
  each_named j a b = noted_each made.count j made.goals fits.named (omega arith)

  counts : made.count ≡ noted_count made
  counts = omega (arith, fits.few)

  all_tabled : Tabled hand z (all_made made z) more
  all_tabled =
      subst (λ (n : ℕ). Tabled hand z (made_from made.goals n 0 z) more) counts
      (tabled made.goals hand made.count 0 z sound o each_named fits.tables
      (omega (arith, fits.places, needed_noted made.goals z.book made.count)))

  pub made_sound : Sounds hand (with_tabling (all_made made z) z)
  made_sound = all_tabled.sound

  -- what is in hand or in an entry shows what it did
  pub made_holds : HeldStill (first_strands z.book) z.strands (all_made made z).strands (hand ++ held_places z)
  made_holds = all_tabled.holds

  pub made_hand : HeldStill (first_strands z.book) z.strands (all_made made z).strands hand
  made_hand q h = made_holds q (omega (arith, times_append q hand (held_places z)))

  -- so many strands wait then
  pub made_waiting : waiting (all_made made z).strands.places (all_made made z).tables.count
      ≡ waiting z.strands.places z.tables.count
      + total (strands_for z.book.goal_flags z.book.goal_len) (noted_goals made)
  made_waiting =
      let waits = tabled_waiting z hand (all_made made z) more all_tabled in
      let need = tables_need made.goals z sound hand o made.count 0 each_named in
      let noted = needed_noted made.goals z.book made.count in
      omega arith

  -- and so many tables are made
  pub made_count : (all_made made z).tables.count ≡ z.tables.count + made.count
  made_count =
      let was = length_span (held_table shows z.tables z.strands z.answers) 0 z.tables.count in
      let now = length_span (held_table shows (all_made made z).tables (all_made made z).strands z.answers) 0
      (all_made made z).tables.count in
      let new = length_span (λ j. built (books.view z.book) (get_or made.goals j 0)) 0 made.count in
      let both = ap length all_tabled.means in
      let apart = length-append (forest z).tables more in
      omega arith

  forest_made : forest (with_tabling (all_made made z) z) ≡ with_made (forest z) (noted_goals made)
  forest_made =
      ap (forests.with_tables (forest z)) (all_tabled.means ∙ sym (tables_noted (forest z) made.goals made.count))
      ∙ sym (made_tables_only (forest z) (noted_goals made))

  pub made_view : (n : ℕ) → z.stack.depth ≡ suc n
      → state_above n (with_tabling (all_made made z) z)
      ≡ with_forest (state_above n z) (with_made (state_above n z).forest (noted_goals made))
  made_view n d =
      ap₂ (λ (f : Forest) (es : stacks.Stack). record { forest = f; stack = es }) forest_made
      (ap (entries shows z.stack (all_made made z).strands) (sym d)
      ∙ entered_holds shows z.stack z.strands (all_made made z).strands
      (λ q k. made_holds q (omega (arith, times_append q hand (held_places z))))
      ∙ ap (entries shows z.stack z.strands) d)
