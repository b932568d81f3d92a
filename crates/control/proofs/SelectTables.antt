-- The forest with tables for the goals noted: where a goal has its table, whether a table is floundered, and how many strands a new one
-- has, by the lent numbers.
use Prim.Native.Nat.{ℕ, zero, suc, ◌+◌, ◌-◌, ◌≤◌, ◌<◌}
use native.Mathlib.Nat.{add-zero, sub-zero}
use native.Mathlib.Omega.{arith}
use mathlib.Core.Path.{◌≡◌, refl, sym, ap, ap₂, subst, ◌∙◌}
use mathlib.Core.Bool.{Bool, true, false}
use mathlib.Core.List.{List, [], ◌∷◌, ◌++◌, map, append-nil, append_assoc, map-append}
use mathlib.Core.Option.{Option, none, some}
use lib.Dec.{eqb, ltb}
use lib.ListN.{length, get_or, get_elem?, length-append, length-map}
use borrow.Author.Tests.{lt-ltb, le-ltb, ltb-true, ltb-false}
use Rattle.definitions.specs.Book.{Book, Goal, bit1}
use Rattle.definitions.specs.Lists.{position}
use Rattle.definitions.specs.Logic.{initial_strand}
use Rattle.definitions.specs.Stop.{Stops, stop, go, ◌>>=◌, unwrap}
use Rattle.definitions.specs.Table.{Table, new, with_strands, mark_floundered}
use Rattle.definitions.specs.Tables.{Tables, Forest, index_of}
use Rattle.small_steps.specs.Acts.{built, with_made}
use Rattle.small_steps.specs.Decide.{or, no_table, table_of}
use Rattle.small_steps.proofs.Reading.{there_still, same_book}
use Rattle.laws.proofs.Lists.{at_place}
use Rattle.laws.specs.All.{All}
use Rattle.laws.proofs.All.{all_first, all_rest}
use Rattle.laws.proofs.Spans.{length_span, span_ext, map_span}
use Rattle.laws.specs.Spans.{span}
use Rattle.book.specs.Access.{entry}
use Rattle.book.proofs.Looks.{entry_in}
use Rattle.stores.specs.Numbers.{within, first_at, flag_at}
use Rattle.stores.proofs.ListsSpans.{first_if, span_at, span_push}
use Rattle.stores.proofs.NumbersCases.{flag_near}
use Rattle.stores.proofs.NumbersSearch.{first_bound, position_from}
use Rattle.control.specs.declared.select_subgoal.Made.{Made}
use Rattle.control.specs.SelectSubgoal.{noted_count, table_by, table_number, floundered_by, table_floundered, strands_by, noted_down}
use Rattle.control.specs.SelectSubgoal.{noted_goals, TablesMean}

-- Laws of the search in a list.

-- found in front, or behind it
abbrev joined : Option ℕ → (before : ℕ) → Option ℕ → Option ℕ
joined o n p = elim o [ some i ↦ some i | none ↦ elim p [ none ↦ none | some j ↦ some (n + j) ] ]

module _ {A : Type 0} (test : A → Bool) where
  position_append : (l m : List A) → position test (l ++ m) ≡ joined (position test l) (length l) (position test m)
  position_append [] m = whole (position test m)
    where
      whole : (o : Option ℕ) → o ≡ joined none 0 o
      whole none = refl
      whole (some j) = let e : j ≡ 0 + j = omega arith in ap some e
  position_append (a ∷ l) m = at (test a) (position test l) (position test m) (position_append l m)
    where
      at : (b : Bool) (o p : Option ℕ) → position test (l ++ m) ≡ joined o (length l) p
          → ◌≡◌ {A = Option ℕ} (elim b [ true ↦ some 0 | false ↦ elim (position test (l ++ m)) [ none ↦ none | some i ↦ some (suc i) ] ])
          (joined (elim b [ true ↦ some 0 | false ↦ elim o [ none ↦ none | some i ↦ some (suc i) ] ]) (suc (length l)) p)
      at true o p e = refl
      at false (some i) p e = ap (λ (q : Option ℕ). elim q [ none ↦ none | some i ↦ some (suc i) ]) e
      at false none none e = ap (λ (q : Option ℕ). elim q [ none ↦ none | some i ↦ some (suc i) ]) e
      at false none (some j) e =
          let d : suc (length l + j) ≡ suc (length l) + j = omega arith in
          ap (λ (q : Option ℕ). elim q [ none ↦ none | some i ↦ some (suc i) ]) e ∙ ap some d

  position_map : {B : Type 0} (h : B → A) (l : List B) → position test (map h l) ≡ position (λ x. test (h x)) l
  position_map h [] = refl
  position_map h (x ∷ l) =
      ap (λ (o : Option ℕ). elim (test (h x)) [ true ↦ some 0 | false ↦ elim o [ none ↦ none | some i ↦ some (suc i) ] ]) (position_map h l)

module _ {A B : Type 0} (h : A → B) where
  -- a list by what stands at each place
  map_places : (g : ℕ → B) (s : ℕ) (l : List A) → ((i : ℕ) (a : A) → get_elem? l i ≡ some a → h a ≡ g (s + i))
      → map h l ≡ span g s (length l)
  map_places g s [] e = refl
  map_places g s (a ∷ l) e =
      ap₂ (λ (x : B) (r : List B). x ∷ r) (e 0 a refl ∙ ap g (add-zero s))
      (map_places g (suc s) l (λ i b d. let k : s + suc i ≡ suc s + i = omega arith in e (suc i) b d ∙ ap g k))

  -- what stands behind a list
  at_behind : (l m : List A) (i j : ℕ) → i ≡ length l + j → get_elem? (l ++ m) i ≡ get_elem? m j
  at_behind [] m i j e = let d : i ≡ j = omega arith in ap (get_elem? m) d
  at_behind (a ∷ l) m zero j e = absurd (omega arith)
  at_behind (a ∷ l) m (suc i) j e = at_behind l m i j (omega arith)

-- A table that is built.
module _ (goal : ℕ) where
  abbrev pub building : Goal → Stops Table
  building x = elim x.floundered [
    | true ↦ go (mark_floundered (new goal x.coinductive))
    | false ↦ go (with_strands (new goal x.coinductive) (map initial_strand x.clauses))
  ]

  abbrev pub built_of : Stops Table → Table
  built_of r = elim r [ stop n ↦ new goal false | go t ↦ t ]

  by_flag : (b : Bool) (t u : Table) → t.table_goal ≡ goal → u.table_goal ≡ goal
      → (built_of (elim b as (λ _. Stops Table) [ true ↦ go t | false ↦ go u ])).table_goal ≡ goal
  by_flag true t u p q = p
  by_flag false t u p q = q

  by_goal : (o : Option Goal) → (built_of (unwrap o >>= building)).table_goal ≡ goal
  by_goal none = refl
  by_goal (some x) = by_flag x.floundered (mark_floundered (new goal x.coinductive))
      (with_strands (new goal x.coinductive) (map initial_strand x.clauses)) refl refl

  pub built_goal : (book : Book) → (built book goal).table_goal ≡ goal
  built_goal book = by_goal (get_elem? book goal)

  module _ (book : Book) (x : Goal) (e : get_elem? book goal ≡ some x) where
    pub built_is : built book goal ≡ built_of (building x)
    built_is = ap (λ (o : Option Goal). built_of (unwrap o >>= building)) e

    flag_by : (b : Bool) (t u : Table) → t.floundered ≡ true → u.floundered ≡ false
        → (built_of (elim b as (λ _. Stops Table) [ true ↦ go t | false ↦ go u ])).floundered ≡ b
    flag_by true t u p q = p
    flag_by false t u p q = q

    pub built_floundered : (built book goal).floundered ≡ x.floundered
    built_floundered =
        ap (λ (t : Table). t.floundered) built_is
        ∙ flag_by x.floundered (mark_floundered (new goal x.coinductive))
        (with_strands (new goal x.coinductive) (map initial_strand x.clauses)) refl refl

    count_by : (b : Bool) (t u : Table) (n : ℕ) → length t.strands ≡ 0 → length u.strands ≡ n
        → length (built_of (elim b as (λ _. Stops Table) [ true ↦ go t | false ↦ go u ])).strands ≡ strands_by b n
    count_by true t u n p q = p
    count_by false t u n p q = q

    pub built_strands : length (built book goal).strands ≡ strands_by x.floundered (length x.clauses)
    built_strands =
        ap (λ (t : Table). length t.strands) built_is
        ∙ count_by x.floundered (mark_floundered (new goal x.coinductive))
        (with_strands (new goal x.coinductive) (map initial_strand x.clauses)) (length x.clauses) refl
        (length-map x.clauses initial_strand)

-- The tables noted stand behind those that are made.
module _ (f : Forest) (l : List ℕ) where
  abbrev table_for : ℕ → Table
  table_for j = built f.book (get_or l j 0)

  pub tables_noted : (n : ℕ) → (with_made f (noted_down n l)).tables ≡ f.tables ++ span table_for 0 n
  tables_noted zero = sym (append-nil f.tables)
  tables_noted (suc n) =
      ap₂ (λ (b : Book) (ts : Tables). ts ++ (built b (get_or l n 0) ∷ [])) (same_book f (noted_down n l)) (tables_noted n)
      ∙ append_assoc f.tables (span table_for 0 n) (table_for n ∷ [])
      ∙ ap (λ (ts : Tables). f.tables ++ ts) (sym (span_push table_for n))

  pub length_noted : (n : ℕ) → length (with_made f (noted_down n l)).tables ≡ length f.tables + n
  length_noted n =
      ap length (tables_noted n) ∙ length-append f.tables (span table_for 0 n)
      ∙ ap (λ (k : ℕ). length f.tables + k) (length_span table_for 0 n)

  pub noted_there : (n j t : ℕ) → t ≡ length f.tables + j → j < n → table_of (with_made f (noted_down n l)) t ≡ table_for j
  noted_there n j t e h =
      ap (λ (ts : Tables). or no_table (get_elem? ts t)) (tables_noted n)
      ∙ ap (or no_table) (at_behind (λ (x : Table). x) f.tables (span table_for 0 n) t j e ∙ span_at table_for n j h)

-- each goal noted
pub noted_each : {P : ℕ → Type 0} (n j : ℕ) (l : List ℕ) → All P (noted_down n l) → j < n → P (get_or l j 0)
noted_each zero j l a h = absurd (omega arith)
noted_each {P} (suc n) j l a h = at (ltb j n) refl (noted_each n j l (all_rest a))
  where
    at : (b : Bool) → ltb j n ≡ b → (j < n → P (get_or l j 0)) → P (get_or l j 0)
    at true e below = below (ltb-true j n e)
    at false e below = let k : n ≡ j = omega (arith, ltb-false j n e) in subst (λ (i : ℕ). P (get_or l i 0)) k (all_first a)

-- By the lent numbers.
module _ (goal floundered : List ℕ) (count : ℕ) (goal_flags goal_len : List ℕ) (f : Forest)
    (mean : TablesMean goal floundered count goal_flags goal_len f) where
  in_book : (g : ℕ) → g < length f.book → (l : List ℕ) → entry 64 l g ≡ get_or l g 0
  in_book g h l = entry_in 64 l g (omega (arith, mean.few_goals))

  module _ (g : ℕ) (h : g < length f.book) where
    -- a new table has its goal's flag
    pub new_flag : (built f.book g).floundered ≡ bit1 (entry 64 goal_flags g)
    new_flag =
        let x = at_place f.book g h in
        built_floundered g f.book x.0 x.1 ∙ mean.flagged g x.0 x.1 ∙ ap bit1 (sym (in_book g h goal_flags))

    -- and a strand for each clause, or none
    pub new_strands : length (built f.book g).strands ≡ strands_by (bit1 (entry 64 goal_flags g)) (entry 64 goal_len g)
    new_strands =
        let x = at_place f.book g h in
        built_strands g f.book x.0 x.1
        ∙ ap₂ strands_by (mean.flagged g x.0 x.1 ∙ ap bit1 (sym (in_book g h goal_flags)))
        (mean.clauses_counted g x.0 x.1 ∙ sym (in_book g h goal_len))

  module _ (m : Made) (few : m.count ≤ 8) where
    abbrev made : Forest
    made = with_made f (noted_goals m)

    -- `table_floundered` says what the table says
    flag_is : (t : ℕ) → t < count → flag_at t floundered ≡ (table_of made t).floundered
    flag_is t h =
        let n = mean.counted in
        let x = at_place f.tables t (omega arith) in
        sym (flag_near t floundered (omega (arith, mean.few))) ∙ sym (mean.flags t x.0 x.1)
        ∙ ap (λ (o : Option Table). (or no_table o).floundered) (sym (there_still f (noted_goals m) t x.0 x.1))

    goal_flag_is : All (λ g. g < length f.book) (noted_goals m) → (t : ℕ) → count ≤ t → t - count < m.count
        → bit1 (entry 64 goal_flags (get_or m.goals (t - count) 0)) ≡ (table_of made t).floundered
    goal_flag_is named t h k =
        let n = mean.counted in
        sym (new_flag (get_or m.goals (t - count) 0) (noted_each m.count (t - count) m.goals named k))
        ∙ ap (λ (x : Table). x.floundered) (sym (noted_there f m.goals m.count (t - count) t (omega arith) k))

    abbrev says : (n k : ℕ) → (t : ℕ) → Bool
    says n k t = floundered_by (ltb t n) (ltb (t - n) k) (flag_at t floundered) (bit1 (entry 64 goal_flags (get_or m.goals (t - n) 0)))

    pub table_flag : All (λ g. g < length f.book) (noted_goals m) → (t : ℕ) → t < count + m.count
        → table_floundered floundered count goal_flags t m ≡ (table_of made t).floundered
    table_flag named t h =
        let c : within count ≡ count = omega (arith, mean.few) in
        let k : noted_count m ≡ m.count = omega arith in
        ap₂ (λ (n j : ℕ). says n j t) c k ∙ at (ltb t count) refl
      where
        at : (b : Bool) → ltb t count ≡ b → says count m.count t ≡ (table_of made t).floundered
        at true e =
            ap (λ (b : Bool). floundered_by b (ltb (t - count) m.count) (flag_at t floundered)
            (bit1 (entry 64 goal_flags (get_or m.goals (t - count) 0)))) e
            ∙ flag_is t (ltb-true t count e)
        at false e =
            let le = ltb-false t count e in
            ap₂ (λ (b d : Bool). floundered_by b d (flag_at t floundered) (bit1 (entry 64 goal_flags (get_or m.goals (t - count) 0)))) e
            (lt-ltb (t - count) m.count (omega arith))
            ∙ goal_flag_is named t le (omega arith)

    -- `table_of` finds what `index_of` finds
    goals_are : map (λ t. t.table_goal) made.tables ≡ span (λ i. get_or goal i 0) 0 count ++ span (λ j. get_or m.goals j 0) 0 m.count
    goals_are =
        ap (map (λ t. t.table_goal)) (tables_noted f m.goals m.count)
        ∙ map-append (λ t. t.table_goal) f.tables (span (table_for f m.goals) 0 m.count)
        ∙ ap₂ (λ (a b : List ℕ). a ++ b)
        (map_places (λ t. t.table_goal) (λ i. get_or goal i 0) 0 f.tables
        (λ i t e. let z : i ≡ 0 + i = omega arith in mean.goals i t e ∙ ap (λ (k : ℕ). get_or goal k 0) z)
        ∙ ap (span (λ i. get_or goal i 0) 0) mean.counted)
        (map_span (λ t. t.table_goal) (table_for f m.goals) 0 m.count
        ∙ span_ext (λ j. (table_for f m.goals j).table_goal) (λ j. get_or m.goals j 0) 0 m.count
        (λ j a b. built_goal (get_or m.goals j 0) f.book))

    module _ (g : ℕ) where
      abbrev first : List ℕ → ℕ → ℕ
      first l n = first_at (λ i. eqb (get_or l i 0) g) 0 n

      position_is : (l : List ℕ) (n : ℕ) → position (λ x. eqb x g) (span (λ i. get_or l i 0) 0 n) ≡ first_if (ltb (first l n) n) (first l n)
      position_is l n =
          let z : 0 + n ≡ n = omega arith in
          position_from (λ i. get_or l i 0) (λ x. eqb x g) 0 n ∙ ap₂ (λ (k j : ℕ). first_if (ltb (first l n) k) j) z (sub-zero (first l n))

      abbrev number : (n k : ℕ) → ℕ
      number n k = table_by (ltb (first goal n) n) (first goal n) (n + first m.goals k)

      -- in front, behind, or nowhere
      found_by : (a b n k : ℕ) → a ≤ n → b ≤ k
          → joined (first_if (ltb a n) a) n (first_if (ltb b k) b)
          ≡ first_if (ltb (table_by (ltb a n) a (n + b)) (n + k)) (table_by (ltb a n) a (n + b))
      found_by a b n k p q = front (ltb a n) refl
        where
          behind : (d : Bool) → ltb b k ≡ d → n ≤ a
              → joined none n (first_if d b) ≡ first_if (ltb (n + b) (n + k)) (n + b)
          behind true e h = sym (ap (λ (x : Bool). first_if x (n + b)) (lt-ltb (n + b) (n + k) (omega (arith, ltb-true b k e))))
          behind false e h = sym (ap (λ (x : Bool). first_if x (n + b)) (le-ltb (n + b) (n + k) (omega (arith, ltb-false b k e))))

          front : (d : Bool) → ltb a n ≡ d
              → joined (first_if d a) n (first_if (ltb b k) b) ≡ first_if (ltb (table_by d a (n + b)) (n + k)) (table_by d a (n + b))
          front true e = sym (ap (λ (x : Bool). first_if x a) (lt-ltb a (n + k) (omega (arith, ltb-true a n e))))
          front false e = behind (ltb b k) refl (ltb-false a n e)

      number_is : table_number goal count g m ≡ number count m.count
      number_is =
          let c : within count ≡ count = omega (arith, mean.few) in
          let k : noted_count m ≡ m.count = omega arith in
          ap₂ number c k

      bound : (l : List ℕ) (n : ℕ) → first l n ≤ n
      bound l n = omega (arith, (first_bound (λ i. eqb (get_or l i 0) g) 0 n).1)

      pub table_found : index_of g made.tables
          ≡ first_if (ltb (table_number goal count g m) (count + m.count)) (table_number goal count g m)
      table_found =
          sym (position_map (λ x. eqb x g) (λ t. t.table_goal) made.tables)
          ∙ ap (position (λ x. eqb x g)) goals_are
          ∙ position_append (λ x. eqb x g) (span (λ i. get_or goal i 0) 0 count) (span (λ j. get_or m.goals j 0) 0 m.count)
          ∙ ap (λ (n : ℕ). joined (position (λ x. eqb x g) (span (λ i. get_or goal i 0) 0 count)) n
          (position (λ x. eqb x g) (span (λ j. get_or m.goals j 0) 0 m.count))) (length_span (λ i. get_or goal i 0) 0 count)
          ∙ ap₂ (λ (o p : Option ℕ). joined o count p) (position_is goal count) (position_is m.goals m.count)
          ∙ found_by (first goal count) (first m.goals m.count) count m.count (bound goal count) (bound m.goals m.count)
          ∙ ap (λ (t : ℕ). first_if (ltb t (count + m.count)) t) (sym number_is)

      -- a table that is to be made comes next
      pub table_next : count + m.count ≤ table_number goal count g m → table_number goal count g m ≡ count + m.count
      table_next h =
          let e = number_is in
          let r = by (ltb (first goal count) count) refl in
          omega arith
        where
          by : (d : Bool) → ltb (first goal count) count ≡ d
              → table_by d (first goal count) (count + first m.goals m.count) ≤ count + m.count
          by true e = omega (arith, ltb-true (first goal count) count e)
          by false e = omega (arith, bound m.goals m.count)
