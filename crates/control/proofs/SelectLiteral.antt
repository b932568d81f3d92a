-- A pass that takes the last literal: it gets no table and flounders, or its table is there, noted or to be made.
use Prim.Native.Nat.{ℕ, suc, ◌+◌, ◌<◌}
use native.Mathlib.Omega.{arith}
use mathlib.Core.Path.{◌≡◌, refl, sym, ap, ap₂, subst, ◌∙◌}
use mathlib.Core.Bool.{Bool, true, false}
use mathlib.Core.List.{List, ◌∷◌}
use mathlib.Core.Logic.{inr}
use mathlib.Core.Option.{Option, none, some}
use lib.Dec.{ltb}
use lib.ListN.{length, length-set}
use lib.Seq.{get_or-set_same}
use borrow.Author.Tests.{lt-ltb, lt-leb, le-leb, ltb-true, ltb-false}
use Rattle.definitions.specs.Book as books
use Rattle.definitions.specs.Fitting.{gets_table}
use Rattle.definitions.specs.Slg.{next_subgoal_index}
use Rattle.definitions.specs.Stop.{Stops, go, ◌>>=◌, ◌>>◌, stop_if}
use Rattle.definitions.specs.Strand as held
use Rattle.definitions.specs.Tables.{index_of}
use Rattle.laws.proofs.Lists.{at_place}
use Rattle.laws.specs.All.{All, more}
use Rattle.laws.proofs.All.{all_at}
use Rattle.small_steps.specs.Acts.{built, with_made}
use Rattle.small_steps.specs.Decide as split
use Rattle.small_steps.specs.Decide.{View, table_of, literal_at, with_literal_floundered, decide_table, decide_from}
use Rattle.book.specs.View.{meant}
use Rattle.strands.specs.declared.Selected.TheVariants.{Nothing, Subgoal}
use Rattle.strands.specs.declared.Selected.{Selected}
use Rattle.strands.specs.View.{selected}
use Rattle.strands.proofs.FieldViews.{selected_sound}
use Rattle.small_steps.proofs.Reading.{same_book}
use Rattle.stores.specs.Numbers.{within}
use Rattle.stores.proofs.ListsSpans.{first_if}
use Rattle.control.specs.declared.select_subgoal.Made.{Made}
use Rattle.control.specs.declared.select_subgoal.Selection.TheVariants as selection
use Rattle.control.specs.declared.select_subgoal.Choice.{Choice}
use Rattle.control.specs.SelectSubgoal.{chosen, noted_count, note_if, note, table_number, live_with, leaves, selects, made_by}
use Rattle.control.specs.SelectSubgoal.{found_by, found_for, taken_by, noted_goals, noted_view, FlounderedGoal, New, RestFloundered}
use Rattle.control.specs.SelectSubgoal.{Noted, clause_of, literals}
use Rattle.control.proofs.Seen.{chosen_means}
use Rattle.control.proofs.SelectKnown.{noted_more, Going, After, Setting, Leads, leads_from, seen_in, made_in, seen_as}
use Rattle.control.proofs.SelectKnown.{ends, chose}
use Rattle.control.proofs.SelectPasses.{floundered_keeps, floundered_is, noted_floundered, none_busy}
use Rattle.control.proofs.SelectTables.{length_noted, noted_there, new_strands, table_found, table_next}

module _ (z : Setting) (c : Choice) (g : Going z.forest z.start c) where
  module _ (is : c.strand.selected ≡ Nothing) where
    -- A literal is there: the last one is taken.
    module _ (some_left : 0 < literals c) where
      abbrev i : ℕ
      i = next_subgoal_index (clause_of c)

      last : suc i ≡ literals c
      last = omega arith

      abbrev its_goal : ℕ
      its_goal = books.goal_of (meant (chosen c.strand))

      abbrev number : ℕ
      number = table_number z.goal z.count its_goal c.made

      abbrev grown : ℕ
      grown = live_with z.goal_flags z.goal_len its_goal c.live

      goal_named : its_goal < length z.forest.book
      goal_named =
          let l = at_place (clause_of c).subgoals i (omega arith) in
          let e : books.goal_of l.0 ≡ its_goal = ap (λ (o : Option books.Literal). books.goal_of (split.or split.no_literal o))
          (sym l.1)
          ∙ ap books.goal_of (sym (chosen_means c.strand g.sound)) in
          subst (λ (n : ℕ). n < length z.forest.book) e (all_at i g.named.subgoals_named l.1)

      few_noted : c.made.count < 8
      few_noted = let b = none_busy z c g is in let r = g.room in omega arith

      -- the table is there
      selects_keeps : (t : ℕ) → t < length z.forest.tables + c.made.count
          → After z.forest z.start c (leaves selection.Again (selects t c.strand) c) selection.Again
      selects_keeps t h = (
        record {
          sound = selected_sound c.strand (Subgoal i t 0) g.sound;
          named = g.named;
          noted = g.noted;
          room = let b = none_busy z c g is in let r = g.room in omega arith;
          waits = (record { last = last; there = h; came = inr refl }, λ e. noted_floundered z c g is);
        },
        let b = none_busy z c g is in omega arith,
      )

      -- the table is to be made
      abbrev with_goal : Made
      with_goal = note_if true its_goal c.made

      with_goal_is : with_goal ≡ note its_goal c.made
      with_goal_is = ap (λ (b : Bool). note_if b its_goal c.made) (sym (lt-ltb c.made.count 8 few_noted))

      more_goals : noted_goals with_goal ≡ its_goal ∷ noted_goals c.made
      more_goals = noted_more its_goal c.made g.noted.long few_noted

      abbrev new : Choice
      new = record { selection = selection.Again; live = grown; made = with_goal; strand = selects number c.strand }

      new_noted : index_of its_goal (made_in z c).tables ≡ none → Noted z.forest with_goal
      new_noted fresh = record {
        long = length-set c.made.goals c.made.count its_goal ∙ g.noted.long;
        few = let h = few_noted in omega arith;
        named = subst (All (λ h. h < length z.forest.book)) (sym more_goals) (more goal_named g.noted.named);
        new = subst (New z.forest) (sym more_goals) (fresh, g.noted.new);
        rest_floundered = subst (RestFloundered z.forest) (sym more_goals) (noted_floundered z c g is);
      }

      new_table : number ≡ length z.forest.tables + c.made.count
          → (table_of (with_made z.forest (noted_goals with_goal)) number).floundered ≡ (built z.forest.book its_goal).floundered
      new_table e =
          ap (λ t. t.floundered) (noted_there z.forest with_goal.goals with_goal.count c.made.count number e (omega arith))
          ∙ ap (λ (h : ℕ). (built z.forest.book h).floundered)
          (get_or-set_same c.made.goals c.made.count its_goal 0 (let l = g.noted.long in let h = few_noted in omega arith))

      new_keeps : number ≡ length z.forest.tables + c.made.count → index_of its_goal (made_in z c).tables ≡ none
          → After z.forest z.start c new selection.Again
      new_keeps e fresh = (
        record {
          sound = selected_sound c.strand (Subgoal i number 0) g.sound;
          named = g.named;
          noted = new_noted fresh;
          room = let b = none_busy z c g is in let r = g.room in omega arith;
          waits = (
            record { last = last; there = omega arith; came = inr refl },
            λ d. subst (All (FlounderedGoal z.forest)) (sym more_goals) (more (sym (new_table e) ∙ d) (noted_floundered z c g is)),
          );
        },
        let b = none_busy z c g is in omega arith,
      )

      abbrev makes : (over : Bool) → (live table : ℕ) → Stops (Option ℕ × View)
      makes over live table = stop_if over 22 >> go (some table, record { live = live; made = its_goal ∷ noted_goals c.made })

      abbrev finds : Option ℕ → Stops (Option ℕ × View)
      finds o = elim o [
        | some table ↦ go (some table, noted_view c)
        | none ↦
            let live = c.live + length (built (made_in z c).book its_goal).strands in
            makes (ltb 256 live) live (length (made_in z c).tables)
      ]

      by_over : number ≡ length z.forest.tables + c.made.count → index_of its_goal (made_in z c).tables ≡ none → (b : Bool)
          → Leads z (λ p. makes b grown number >>= chose z c p) c (made_by b grown its_goal number c)
      by_over e fresh true = record { means = λ p. refl; keeps = ends z c g (selection.Stop 22) c.strand g.sound g.named refl }
      by_over e fresh false =
          let known : Leads z (λ p. makes false grown number >>= chose z c p) c new = record {
            means = λ p. ap (λ (l : List ℕ). decide_from p z.forest (record { live = grown; made = l })
                (held.with_selected (seen_in z c) (some (record { subgoal_index = i; subgoal_table = number; answer_index = 0 }))))
                (sym more_goals);
            keeps = new_keeps e fresh;
          } in
          subst (λ (m : Made). Leads z (λ p. makes false grown number >>= chose z c p) c
          (record { selection = selection.Again; live = grown; made = m; strand = selects number c.strand })) with_goal_is known

      abbrev all_tables : ℕ
      all_tables = z.count + c.made.count

      found : index_of its_goal (made_in z c).tables ≡ first_if (ltb number all_tables) number
      found = table_found z.goal z.floundered z.count z.goal_flags z.goal_len z.forest z.mean c.made
          g.noted.few its_goal

      live_is : c.live + length (built (made_in z c).book its_goal).strands ≡ grown
      live_is =
          ap (λ (b : books.Book). c.live + length (built b its_goal).strands) (same_book z.forest (noted_goals c.made))
          ∙ ap (λ (n : ℕ). c.live + n)
          (new_strands z.goal z.floundered z.count z.goal_flags z.goal_len z.forest z.mean its_goal goal_named)

      by_found : (b : Bool) → ltb number all_tables ≡ b → index_of its_goal (made_in z c).tables ≡ first_if b number
          → Leads z (λ p. finds (first_if b number) >>= chose z c p) c
          (found_for z.goal z.count z.goal_flags z.goal_len its_goal c)
      by_found true e o =
          let h = ltb-true number all_tables e in
          let n = z.mean.counted in
          let k = g.noted.few in
          let few = z.mean.few in
          subst (λ (b : Bool). Leads z (λ p. finds (some number) >>= chose z c p) c
          (found_by b z.goal_flags z.goal_len its_goal number c))
          (sym (lt-leb (within z.count + noted_count c.made) number (omega arith)))
          (record { means = λ p. refl; keeps = selects_keeps number (omega arith) })
      by_found false e o =
          let h = ltb-false number all_tables e in
          let n = z.mean.counted in
          let k = g.noted.few in
          let few = z.mean.few in
          let next : number ≡ all_tables = table_next z.goal z.floundered z.count z.goal_flags z.goal_len z.forest
          z.mean c.made g.noted.few its_goal h in
          let there : length z.forest.tables + c.made.count ≡ number = omega arith in
          let behind : length (made_in z c).tables ≡ number = length_noted z.forest c.made.goals c.made.count ∙ there in
          leads_from z (λ p. makes (ltb 256 grown) grown number >>= chose z c p)
          (λ p. ap₂ (λ (live table : ℕ). makes (ltb 256 live) live table >>= chose z c p) live_is behind)
          (subst (λ (b : Bool). Leads z (λ p. makes (ltb 256 grown) grown number >>= chose z c p) c
          (found_by b z.goal_flags z.goal_len its_goal number c))
          (sym (le-leb (within z.count + noted_count c.made) number (omega arith)))
          (by_over (omega arith) o (ltb 256 grown)))

      abbrev gets : Bool → Stops (Option ℕ × View)
      gets b = elim b [ false ↦ go (none, noted_view c) | true ↦ finds (index_of its_goal (made_in z c).tables) ]

      by_gets : (b : Bool)
          → Leads z (λ p. gets b >>= chose z c p) c (taken_by b z.goal z.count z.goal_flags z.goal_len its_goal c)
      by_gets true =
          leads_from z (λ p. finds (first_if (ltb number all_tables) number) >>= chose z c p)
          (λ p. ap (λ (o : Option ℕ). finds o >>= chose z c p) found)
          (by_found (ltb number all_tables) refl found)
      by_gets false = record {
        means = λ p. ap
            (λ (k : Selected). decide_from p z.forest (noted_view c)
            (seen_as z (with_literal_floundered (clause_of c) i) (selected k))) is
            ∙ ap (decide_from p z.forest (noted_view c))
            (floundered_is z c g c.strand refl g.sound is some_left (noted_floundered z c g is) i last);
        keeps = floundered_keeps z c g c.strand refl g.sound is some_left (noted_floundered z c g is);
      }

      pub takes : Leads z (λ p. decide_table z.forest (noted_view c) (literal_at (clause_of c) i) >>= chose z c p) c
          (taken_by (gets_table (meant (chosen c.strand))) z.goal z.count z.goal_flags z.goal_len its_goal c)
      takes =
          leads_from z (λ p. decide_table z.forest (noted_view c) (meant (chosen c.strand)) >>= chose z c p)
          (λ p. ap (λ (l : books.Literal). decide_table z.forest (noted_view c) l >>= chose z c p)
          (sym (chosen_means c.strand g.sound)))
          (by_gets (gets_table (meant (chosen c.strand))))
