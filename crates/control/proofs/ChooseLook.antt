-- What `choose` looks at for sound stores: the look at a selected table, made or to be made, means what the table and the stack hold for
-- the strand.
use Prim.Native.Nat.{ℕ, zero, suc, ◌-◌, ◌≤◌, ◌<◌}
use native.Mathlib.Omega.{arith}
use mathlib.Core.Bool.{Bool, true, false, ◌&&◌}
use mathlib.Core.List.{List, [], ◌∷◌, map}
use mathlib.Core.Option.{none, some}
use mathlib.Core.Path.{◌≡◌, refl, sym, ap, ap₂, subst, ◌∙◌}
use lib.Dec.{eqb, leb, ltb}
use lib.ListN.{length, get_or, get_elem?}
use borrow.Author.Tests.{lt-ltb, le-ltb, ltb-true, ltb-false, leb-true, leb-false, eqb-true, eqb-false}
use Rattle.definitions.specs as said_answers
use Rattle.definitions.specs.Stack as said
use Rattle.definitions.specs.Stop.{Stops, go, ◌>>=◌}
use Rattle.definitions.specs.Strand as held
use Rattle.definitions.specs.Table.{Table, answer}
use Rattle.definitions.specs.Tables.{Forest}
use Rattle.definitions.specs.Turn.{coinductive_entries}
use Rattle.laws.specs.All.{All, end, more}
use Rattle.laws.proofs.All.{all_first, all_rest, all_take}
use Rattle.small_steps.specs.Acts.{with_made}
use Rattle.small_steps.specs.Decide.{or, table_of, all_coinductive}
use Rattle.small_steps.proofs.Reading.{new_unanswered}
use Rattle.rings.specs.Rings.{place_if}
use Rattle.strands.specs.declared.Answer.{Answer}
use Rattle.strands.specs.View as view
use Rattle.stores.specs.Numbers.{within}
use Rattle.stores.specs.Places.{ring}
use Rattle.stores.specs.Sound.{Stored}
use Rattle.stores.specs.View.{FirstStrands, answer_at, entries, unread_answer}
use Rattle.stores.proofs.ListsAlike.{times_at}
use Rattle.stores.proofs.ListsSpans.{first_if}
use Rattle.stores.proofs.PlacesViews.{length_ring}
use Rattle.stores.proofs.StackSearch.{is_active_view, coinductive_from_view}
use Rattle.stores.proofs.TableViews.{answer_there, answer_past}
use Rattle.stores.proofs.TablesViews.{table_at_is}
use Rattle.control.specs.declared.on_subgoal_selected.Look.{Look}
use Rattle.control.specs.Choose.{height_of, answer_place, coinductive_from, on_stack_by, on_stack, look_by, look_at}
use Rattle.control.specs.OnSubgoalSelected.{LookMeans, holds_answer, all_are_coinductive, is_on_stack, is_to_push}
use Rattle.control.specs.Stores.{Stores, first_strands, forest, entries_of, SoundStores}
use Rattle.control.specs.TurnReads.{clock_at}
use Rattle.control.proofs.Stores.{below_next, few_made, table_still, counted, entries_made}

module _ (root index first : ℕ) (z : Stores) (o : SoundStores root index first z) (n : ℕ) (d : z.stack.depth ≡ suc n) where
  abbrev fresh : FirstStrands
  fresh = first_strands z.book

  few_entries : z.stack.depth ≤ 64
  few_entries = o.stack.few

  abbrev Made : said.StackEntry → Type 0
  Made e = e.table < z.tables.count

  all_made : (m : ℕ) → m ≤ suc n → All Made (entries fresh z.stack z.strands m)
  all_made zero h = end
  all_made (suc m) h = more (entries_made root index first z o n d m (omega arith)) (all_made m (omega arith))

  -- the clock of the entry at a height
  clock_there : (m i : ℕ) → i < m
      → get_elem? (map (λ e. e.clock) (entries fresh z.stack z.strands m)) (m - 1 - i) ≡ some (clock_at z i)
  clock_there zero i h = absurd (omega arith)
  clock_there (suc m) i h = at (eqb i m) refl (clock_there m i)
    where
      at : (same : Bool) → eqb i m ≡ same
          → (i < m → get_elem? (map (λ e. e.clock) (entries fresh z.stack z.strands m)) (m - 1 - i) ≡ some (clock_at z i))
          → get_elem? (map (λ e. e.clock) (entries fresh z.stack z.strands (suc m))) (suc m - 1 - i) ≡ some (clock_at z i)
      at true e below =
          let is : i ≡ m = eqb-true i m e in
          let zero_is : suc m - 1 - i ≡ 0 = omega arith in
          ap (get_elem? (map (λ e. e.clock) (entries fresh z.stack z.strands (suc m)))) zero_is
          ∙ ap (λ (j : ℕ). some (clock_at z j)) (sym is)
      at false e below =
          let less : i < m = below_next i m h (eqb-false i m e) in
          let next_is : suc m - 1 - i ≡ suc (m - 1 - i) = omega arith in
          ap (get_elem? (map (λ e. e.clock) (entries fresh z.stack z.strands (suc m)))) next_is ∙ below less

  -- THE STACK, with tables that are to be made
  module _ (made : List ℕ) where
    abbrev g : Forest
    g = with_made (forest z) made

    entries_go : (cs : said.Stack) → All Made cs → coinductive_entries (forest z) cs ≡ go (all_coinductive g cs)
    entries_go [] w = refl
    entries_go (c ∷ cs) w =
        ap₂ (λ (x : Stops Table) (y : Stops Bool). x >>= λ t. y >>= λ others. go (t.coinductive_goal && others))
        (table_at_is fresh z.tables z.strands z.answers (forest z) refl c.table (all_first w)) (entries_go cs (all_rest w))
        ∙ ap (λ (t : Table). go (t.coinductive_goal && all_coinductive g cs))
        (sym (table_still root index first z o c.table (all_first w) made))

    same_go : (a b : Bool) → ◌≡◌ {A = Stops Bool} (go a) (go b) → a ≡ b
    same_go a b e = cc

    module _ (t i : ℕ) where
      abbrev k : ℕ → held.SelectedSubgoal
      k literal = record { subgoal_index = literal; subgoal_table = t; answer_index = i }

      abbrev height : ℕ
      height = height_of z.stack.table z.stack.depth t

      abbrev back : ℕ
      back = z.stack.depth - 1 - height

      on_stack_at : (b : Bool) → ltb height z.stack.depth ≡ b → said.is_active t (entries_of z) ≡ first_if b back
      on_stack_at b e =
          is_active_view fresh z.stack z.strands t few_entries height refl ∙ ap (λ (c : Bool). first_if c back) e

      all_at_height : height < z.stack.depth
          → all_coinductive g (said.top_of_stack_from back (entries_of z)) ≡ coinductive_from z.stack.table z.tables.coinductive
          z.stack.depth height
      all_at_height h =
          let r = coinductive_from z.stack.table z.tables.coinductive z.stack.depth height in
          let whole : All Made (entries_of z) = all_made z.stack.depth (omega arith) in
          same_go (all_coinductive g (said.top_of_stack_from back (entries_of z))) r
          (sym (entries_go (said.top_of_stack_from back (entries_of z)) (all_take (suc back) whole))
          ∙ coinductive_from_view fresh z.stack z.strands z.tables z.answers (forest z) refl
          (few_made root index first z o) few_entries (λ j l. entries_made root index first z o n d j (omega arith)) height h r refl)

      module _ (a : Answer) (literal : ℕ) (unanswered : answer (table_of g t) i ≡ none) where
        abbrev Means : Look → Type 0
        Means look = LookMeans (clock_at z) g (entries_of z) (k literal) a look

        cycle_means : (all : Bool) → coinductive_from z.stack.table z.tables.coinductive z.stack.depth height ≡ all
            → height < z.stack.depth → Means (on_stack_by false all t height)
        cycle_means true e h =
            all_are_coinductive back unanswered (on_stack_at true (lt-ltb height z.stack.depth h)) (all_at_height h ∙ e)
        cycle_means false e h =
            is_on_stack back unanswered (on_stack_at true (lt-ltb height z.stack.depth h)) (all_at_height h ∙ e)
            (ap (or 0) (sym (clock_there z.stack.depth height h)))

        on_stack_means : (off : Bool) → leb (within z.stack.depth) height ≡ off
            → Means (on_stack_by off (coinductive_from z.stack.table z.tables.coinductive z.stack.depth height) t height)
        on_stack_means true e =
            is_to_push unanswered
            (on_stack_at false (le-ltb height z.stack.depth (omega (arith, leb-true (within z.stack.depth) height e, few_entries))))
            refl
        on_stack_means false e =
            cycle_means (coinductive_from z.stack.table z.tables.coinductive z.stack.depth height) refl
            (omega (arith, leb-false (within z.stack.depth) height e, few_entries))

      -- THE ANSWERS of a table, made or to be made
      abbrev pub wanted_place : ℕ
      wanted_place = answer_place z.answers.places.next z.answers.places.tail z.answers.places.len t i

      -- a table that is to be made has no answer
      no_place : z.tables.count ≤ t → t < 64 → wanted_place ≡ 256
      no_place h few =
          let none_there = ap length (o.answers.places.empty t h (λ e. omega arith)) in
          ap (λ (b : Bool). place_if b (get_or (ring z.answers.places t) i 0))
          (le-ltb i (get_or z.answers.places.len t 0) (omega (arith, length_ring z.answers.places t)))

      pub stored_there : t < 64 → wanted_place < 256 → Stored z.answers wanted_place
      stored_there few h = at (ltb t z.tables.count) refl
        where
          by_index : (b : Bool) → ltb i (get_or z.answers.places.len t 0) ≡ b → t < z.tables.count → Stored z.answers wanted_place
          by_index true e made =
              let within-ring : i < length (ring z.answers.places t) =
              omega (arith, length_ring z.answers.places t, ltb-true i (get_or z.answers.places.len t 0) e) in
              subst (Stored z.answers) (sym (ap (λ (b : Bool). place_if b (get_or (ring z.answers.places t) i 0)) e))
              (o.answers.stored t (get_or (ring z.answers.places t) i 0) made (times_at (ring z.answers.places t) i within-ring))
          by_index false e made =
              let far : wanted_place ≡ 256 = ap (λ (b : Bool). place_if b (get_or (ring z.answers.places t) i 0)) e in
              absurd (omega arith)

          at : (b : Bool) → ltb t z.tables.count ≡ b → Stored z.answers wanted_place
          at true e = by_index (ltb i (get_or z.answers.places.len t 0)) refl (ltb-true t z.tables.count e)
          at false e = absurd (omega (arith, no_place (ltb-false t z.tables.count e) few))

      answer_found : t < 64 → wanted_place < 256 → answer (table_of g t) i ≡ some (answer_at z.answers wanted_place)
      answer_found few h = at (ltb t z.tables.count) refl
        where
          at : (b : Bool) → ltb t z.tables.count ≡ b → answer (table_of g t) i ≡ some (answer_at z.answers wanted_place)
          at true e =
              ap (λ (x : Table). answer x i) (table_still root index first z o t (ltb-true t z.tables.count e) made)
              ∙ answer_there fresh z.tables z.strands z.answers t i wanted_place refl o.answers.places h
          at false e = absurd (omega (arith, no_place (ltb-false t z.tables.count e) few))

      answer_none : 256 ≤ wanted_place → answer (table_of g t) i ≡ none
      answer_none h = at (ltb t z.tables.count) refl
        where
          at : (b : Bool) → ltb t z.tables.count ≡ b → answer (table_of g t) i ≡ none
          at true e =
              ap (λ (x : Table). answer x i) (table_still root index first z o t (ltb-true t z.tables.count e) made)
              ∙ answer_past fresh z.tables z.strands z.answers t i wanted_place refl o.answers.places h
          at false e =
              ap (λ (l : List said_answers.Answer). get_elem? l i)
              (new_unanswered (forest z) made t (omega (arith, ltb-false t z.tables.count e, counted root index first z o)))

      -- THE LOOK, by the answer at the wanted_place that it names
      abbrev look : Look
      look =
          look_at z.stack.table z.tables.coinductive z.stack.depth z.answers.places.next z.answers.places.tail
          z.answers.places.len t i

      pub look_by_means : t < 64 → (literal : ℕ) (a : Answer) (b : Bool) → ltb wanted_place 256 ≡ b
          → (b ≡ true → a ≡ get_or z.answers.answers wanted_place unread_answer)
          → LookMeans (clock_at z) g (entries_of z) (k literal) a
          (look_by b wanted_place (on_stack z.stack.table z.tables.coinductive z.stack.depth t))
      look_by_means few literal a true e is =
          let h : wanted_place < 256 = ltb-true wanted_place 256 e in
          holds_answer (answer_found few h ∙ ap (λ (x : Answer). some (view.answer x)) (sym (is refl)))
      look_by_means few literal a false e is =
          on_stack_means a literal (answer_none (ltb-false wanted_place 256 e)) (leb (within z.stack.depth) height) refl
