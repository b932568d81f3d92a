-- What sound stores say, with n entries below the top: the top's table is made, the numbers that are lent are the tables' and the book's,
-- and how many strands are live and answers held is what the definitions count.
use Prim.Native.Nat.{ℕ, zero, suc, ◌+◌, ◌≤◌, ◌<◌}
use native.Mathlib.Omega.{arith}
use mathlib.Core.Bool.{Bool, true, false}
use mathlib.Core.List.{List, [], ◌∷◌}
use mathlib.Core.Option.{some}
use mathlib.Core.Path.{◌≡◌, refl, sym, ap, ap₂, subst, ◌∙◌}
use lib.Dec.{eqb, ltb}
use lib.ListN.{length, get_or, get_elem?}
use borrow.Author.Tests.{ltb-true, ltb-false, eqb-true, eqb-false}
use Rattle.definitions.specs.{is_complete}
use Rattle.definitions.specs.Book.{Goal}
use Rattle.definitions.specs.Stack as said
use Rattle.definitions.specs.Table.{Table}
use Rattle.definitions.specs.Tables.{queued, held}
use Rattle.asserts.specs.Sound as asserts
use Rattle.asserts.specs.Sound.{Searching, Below}
use Rattle.laws.proofs.Lists.{place_under}
use Rattle.laws.proofs.Options.{same_some}
use Rattle.laws.proofs.Spans.{length_span}
use Rattle.small_steps.specs.Acts.{with_made}
use Rattle.small_steps.specs.Decide.{or, no_table, table_of}
use Rattle.small_steps.proofs.Reading.{there_still}
use Rattle.book.specs.View.{clause_viewed, goal_viewed}
use Rattle.stores.specs.Numbers.{flag}
use Rattle.stores.specs.View.{FirstStrands, held_table, entry_at, entries}
use Rattle.stores.proofs.ListsSpans.{span_at}
use Rattle.stores.proofs.PlacesViews.{in_use_is}
use Rattle.stores.proofs.QueueStores.{queued_is}
use Rattle.stores.proofs.StackCallers.{active_is}
use Rattle.stores.proofs.TableViews.{held_is}
use Rattle.stores.proofs.TablesViews.{table_there, flag_at_is, mode_view}
use Rattle.control.specs.SelectSubgoal.{TablesMean}
use Rattle.control.specs.Stores.{Stores, first_strands, in_use, forest, entries_of, held_places, SoundStores}

pub below_next : (i m : ℕ) → i < suc m → (i ≡ m → ⊥) → i < m
below_next i m h d = at (ltb i m) refl
  where
    at : (b : Bool) → ltb i m ≡ b → i < m
    at true e = ltb-true i m e
    at false e = let k = ltb-false i m e in absurd (d (omega arith))

abbrev pub table_held : Stores → (t : ℕ) → Table
table_held z t = held_table (first_strands z.book) z.tables z.strands z.answers t

-- the top's entry, and those below it
module _ (z : Stores) (n : ℕ) where
  abbrev pub top_entry : said.StackEntry
  top_entry = entry_at (first_strands z.book) z.stack z.strands n

  abbrev pub entries_below : said.Stack
  entries_below = entries (first_strands z.book) z.stack z.strands n

module _ (root index first : ℕ) (z : Stores) (o : SoundStores root index first z) where
  abbrev fresh : FirstStrands
  fresh = first_strands z.book

  -- THE TABLES
  pub counted : length (forest z).tables ≡ z.tables.count
  counted = length_span (held_table fresh z.tables z.strands z.answers) 0 z.tables.count

  pub few_made : z.tables.count ≤ 64
  few_made = o.tables.few

  module _ (t : ℕ) (h : t < z.tables.count) where
    pub table_found : get_elem? (forest z).tables t ≡ some (table_held z t)
    table_found = table_there fresh z.tables z.strands z.answers t h

    -- tables that are to be made don't change those that are
    pub table_still : (made : List ℕ) → table_of (with_made (forest z) made) t ≡ table_held z t
    table_still made = ap (or no_table) (there_still (forest z) made t (table_held z t) table_found)

    pub mode_flag : is_complete (table_held z t).answer_mode ≡ flag (get_or z.tables.complete t 0)
    mode_flag =
        sym (mode_view fresh z.tables z.strands z.answers o.tables t h)
        ∙ flag_at_is fresh z.tables z.strands z.answers o.tables t h z.tables.complete

  there_is : (t : ℕ) (x : Table) → get_elem? (forest z).tables t ≡ some x → (t < z.tables.count) × (table_held z t ≡ x)
  there_is t x e =
      let h : t < z.tables.count = omega (arith, place_under (forest z).tables t x e, counted) in
      (h, same_some (sym (table_found t h) ∙ e))

  abbrev viewed : ℕ → Goal
  viewed g = goal_viewed z.book g

  goal_there : (g : ℕ) (x : Goal) → get_elem? (forest z).book g ≡ some x → viewed g ≡ x
  goal_there g x e =
      let h : g < z.book.goals = omega (arith, place_under (forest z).book g x e, length_span viewed 0 z.book.goals) in
      same_some (sym (span_at viewed z.book.goals g h) ∙ e)

  -- WHAT THE LENT NUMBERS MEAN
  pub numbers_mean : TablesMean z.tables.goal z.tables.floundered z.tables.count z.book.goal_flags z.book.goal_len
      (forest z)
  numbers_mean = record {
    counted = counted;
    few = few_made;
    goals = λ i t e. ap (λ (x : Table). x.table_goal) (sym (there_is i t e).1);
    flags = λ i t e. ap (λ (x : Table). x.floundered) (sym (there_is i t e).1);
    few_goals = omega (arith, length_span viewed 0 z.book.goals, o.book.few_goals);
    flagged = λ g x e. ap (λ (y : Goal). y.floundered) (sym (goal_there g x e));
    clauses_counted = λ g x e.
        ap (λ (y : Goal). length y.clauses) (sym (goal_there g x e))
        ∙ length_span (clause_viewed z.book) (get_or z.book.goal_first g 0) (get_or z.book.goal_len g 0);
  }

  pub book_goals : length (forest z).book ≡ z.book.goals
  book_goals = length_span viewed 0 z.book.goals

  -- ANSWERS HELD
  pub answers_held : in_use z.answers.places ≡ held (forest z)
  answers_held =
      omega (
        arith,
        in_use_is z.answers.places z.tables.count [] o.answers.places,
        held_is fresh z.tables z.strands z.answers,
      )

  -- THE STACK
  module _ (n : ℕ) (d : z.stack.depth ≡ suc n) where
    pub stack_is : entries_of z ≡ top_entry z n ∷ entries_below z n
    stack_is = ap (entries fresh z.stack z.strands) d

    pub sound_stack : asserts.SoundStack z.book.goals root index first (forest z) (top_entry z n ∷ entries_below z n)
    sound_stack = subst (asserts.SoundStack z.book.goals root index first (forest z)) stack_is o.state

    pub searching : Searching z.book.goals root index first (forest z) (top_entry z n).table (top_entry z n).clock
        (top_entry z n).cyclic_minimums (entries_below z n)
    searching = sound_stack.0

    pub table_made : (top_entry z n).table < z.tables.count
    table_made =
        let s = searching.standing in
        (there_is (top_entry z n).table s.own s.is_made).0

    -- and the tables of the entries below
    below_made : (m t c : ℕ) → Below z.book.goals (forest z).tables root first t c (entries_below z m) → (i : ℕ) → i < m
        → get_or z.stack.table i 0 < z.tables.count
    below_made zero t c b i h = absurd (omega arith)
    below_made (suc m) t c b i h =
        at (eqb i m) refl (below_made m (get_or z.stack.table m 0) (get_or z.stack.clock m 0) b.2 i)
      where
        at : (same : Bool) → eqb i m ≡ same → (i < m → get_or z.stack.table i 0 < z.tables.count)
            → get_or z.stack.table i 0 < z.tables.count
        at true e below =
            subst (λ (j : ℕ). get_or z.stack.table j 0 < z.tables.count) (sym (eqb-true i m e))
            (there_is (get_or z.stack.table m 0) b.0.own b.0.is_made).0
        at false e below = below (below_next i m h (eqb-false i m e))

    pub entries_made : (i : ℕ) → i < suc n → get_or z.stack.table i 0 < z.tables.count
    entries_made i h = at (eqb i n) refl
      where
        at : (same : Bool) → eqb i n ≡ same → get_or z.stack.table i 0 < z.tables.count
        at true e = subst (λ (j : ℕ). get_or z.stack.table j 0 < z.tables.count) (sym (eqb-true i n e)) table_made
        at false e =
            below_made n (top_entry z n).table (top_entry z n).clock searching.below i (below_next i n h (eqb-false i n e))

    -- LIVE STRANDS: queued, active or in hand
    pub strands_live : in_use z.strands.places ≡ queued (forest z) + said.active (top_entry z n ∷ entries_below z n)
    strands_live =
        in_use_is z.strands.places z.tables.count (held_places z) o.strands.places
        ∙ ap₂ (λ (x y : ℕ). x + y) (sym (queued_is fresh z.tables z.strands z.answers))
        (sym (active_is fresh z.stack z.strands z.stack.depth) ∙ ap said.active stack_is)
