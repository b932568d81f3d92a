-- What is chosen and decided for a strand in hand, for sound stores, means what crate `small_steps` decides: `decide_subgoal`, and then
-- `decide_deed`.
use Prim.Native.Nat.{ℕ, suc, ◌+◌, ◌≤◌, ◌<◌}
use native.Mathlib.Omega.{arith}
use mathlib.Core.Bool.{Bool, true, false, true≢false}
use mathlib.Core.List.{List, [], ◌∷◌}
use mathlib.Core.Logic.{◌⊎◌, inl, inr}
use mathlib.Core.Path.{◌≡◌, refl, sym, ap, ap₂, subst, ◌∙◌}
use lib.Dec.{eqb, leb, ltb}
use lib.ListN.{length, get_or}
use borrow.Author.Tests.{ltb-true}
use Rattle.std.specs.Prelude.{Option, Some, None}
use Rattle.definitions.specs.{TimeStamp, is_complete}
use Rattle.definitions.specs as said
use Rattle.definitions.specs.Stack.{Stack}
use Rattle.definitions.specs.Stack as said_stack
use Rattle.definitions.specs.Stop.{Stops, go, ◌>>=◌}
use Rattle.definitions.specs.Strand as held
use Rattle.definitions.specs.Table.{Table, equal_answer}
use Rattle.definitions.specs.Tables.{Forest}
use Rattle.definitions.specs.Tables as forests
use Rattle.definitions.specs.Turn.{other_than}
use Rattle.asserts.specs.Sound as asserts
use Rattle.asserts.specs.Sound.{SoundStrand, SoundForest, Selects}
use Rattle.laws.specs.All.{All, end, more}
use Rattle.laws.proofs.All.{all_first, all_rest}
use Rattle.laws.proofs.Totals.{total_one}
use Rattle.small_steps.specs.Acts as split
use Rattle.small_steps.specs.Acts.{Act, Origin, takes}
use Rattle.small_steps.specs.Decide.{or, no_table, table_of, Picked, decide_subgoal, decide_selected, decide_no_remaining, decide_deed}
use Rattle.small_steps.proofs.Reading.{there_still, same_clock}
use Rattle.rings.proofs.RingViews.{below_top}
use Rattle.strands.specs.declared.Answer.{Answer}
use Rattle.strands.specs.declared.Selected.TheVariants.{Subgoal}
use Rattle.strands.specs.declared.Selected.{Selected}
use Rattle.strands.specs.declared.Strand.{Strand}
use Rattle.strands.specs.Answers.{answer_of, blank_answer}
use Rattle.strands.specs.View.{Sound, SoundAnswer, clause, selected, seen, answer, is_negative}
use Rattle.strands.proofs.AnswerViews.{answer_of_view, answer_of_sound, blank_answer_sound}
use Rattle.book.specs.View.{meant}
use Rattle.stores.specs.Numbers.{flag, within}
use Rattle.stores.specs.Places.{ring}
use Rattle.stores.specs.Sound as sound_stores
use Rattle.stores.specs.Sound.{GoodAnswer}
use Rattle.stores.specs.Tables.{table_goal_at}
use Rattle.stores.specs.View.{FirstStrands, answer_at, unread_answer}
use Rattle.stores.proofs.ListsSpans.{all_times}
use Rattle.stores.proofs.TablePushViews.{found_if, equal_is}
use Rattle.stores.proofs.TablesViews.{goal_view}
use Rattle.control.specs.declared.choose.Chosen.{Chosen}
use Rattle.control.specs.declared.choose.Sight.{Sight}
use Rattle.control.specs.declared.choose.Sight.TheVariants as sights
use Rattle.control.specs.declared.ensure_root_answer.Top.{Top}
use Rattle.control.specs.declared.on_subgoal_selected.Look.{Look}
use Rattle.control.specs.declared.select_subgoal.Choice.{Choice}
use Rattle.control.specs.declared.select_subgoal.Selection.{Selection}
use Rattle.control.specs.declared.select_subgoal.Selection.TheVariants as selection
use Rattle.control.specs.Choose.{height_of, coinductive_from, on_stack_by, on_stack, look_by, look_place, same_by, same_at}
use Rattle.control.specs.Choose.{sight_for, sight_place, choose, decide_by, decide}
use Rattle.control.specs.Decision.{meaning}
use Rattle.control.specs.OnNoRemainingSubgoals.{no_remaining, Stored}
use Rattle.control.specs.OnSubgoalSelected as selecting
use Rattle.control.specs.OnSubgoalSelected.{coinductive_by, goal_delayed, push_table, selected_deed, LookMeans}
use Rattle.control.specs.SelectSubgoal.{chosen, select_subgoal, noted_goals, choice_means_by, choice_means, with_noted, Ready}
use Rattle.control.specs.SelectSubgoal.{Outcome, Ended}
use Rattle.control.specs.Stores.{Stores, first_strands, in_use, forest, entries_of, SoundStores}
use Rattle.control.specs.TurnReads.{clock_at}
use Rattle.control.proofs.ChooseLook.{wanted_place, look_by_means, stored_there}
use Rattle.control.proofs.EnsureRootAnswer.{top_read}
use Rattle.control.proofs.OnNoRemainingSubgoals.{no_remaining_means}
use Rattle.control.proofs.OnSubgoalSelected.{selected_means}
use Rattle.control.proofs.SelectRoom.{room_for_noted}
use Rattle.control.proofs.SelectSubgoal.{select_subgoal_means, select_subgoal_ends}
use Rattle.control.proofs.Stores.{top_entry, entries_below, table_held, table_still, mode_flag, numbers_mean, book_goals}
use Rattle.control.proofs.Stores.{answers_held, table_made, searching, stack_is, strands_live}

-- A look that names no answer is decided without one.
module _ (time : TimeStamp) (clocks : ℕ → TimeStamp) (s : Strand) (a b : Answer) where
  push_alike : (late : Bool) (t : ℕ) → meaning time clocks (push_table late t s a) ≡ meaning time clocks (push_table late t s b)
  push_alike true t = refl
  push_alike false t = refl

  coinductive_alike : (negative : Bool) (d : Option Strand)
      → meaning time clocks (coinductive_by negative d s a) ≡ meaning time clocks (coinductive_by negative d s b)
  coinductive_alike true d = refl
  coinductive_alike false None = refl
  coinductive_alike false (Some t) = refl

  look_alike : (off all : Bool) (t height : ℕ) (complete : Bool) (live : ℕ) (late : Bool)
      → meaning time clocks (selected_deed (on_stack_by off all t height) s a complete live late)
      ≡ meaning time clocks (selected_deed (on_stack_by off all t height) s b complete live late)
  look_alike true all t height complete live late = push_alike late t
  look_alike false true t height complete live late =
      coinductive_alike (is_negative (meant (chosen s))) (goal_delayed s)
  look_alike false false t height complete live late = refl

-- the goals of a book that has at most 64, without one of them
others_few : (m goal : ℕ) (ds : List ℕ) → m ≤ 64 → All (λ g. g < m) ds → All (λ g. g < 64) (other_than goal ds)
others_few m goal [] few w = end
others_few m goal (g ∷ ds) few w =
    let less = all_first w in
    at (eqb g goal) (other_than goal ds) (omega arith) (others_few m goal ds few (all_rest w))
  where
    at : (b : Bool) (l : List ℕ) → g < 64 → All (λ h. h < 64) l
        → All (λ h. h < 64) (elim b as (λ (c : Bool). List ℕ) [ true ↦ l | false ↦ g ∷ l ])
    at true l p r = r
    at false l p r = more p r

module _ (root index first : ℕ) (z : Stores) (o : SoundStores root index first z) (n : ℕ) (d : z.stack.depth ≡ suc n) where
  abbrev fresh : FirstStrands
  fresh = first_strands z.book

  abbrev f : Forest
  f = forest z

  abbrev t : ℕ
  t = (top_entry z n).table

  abbrev clock : TimeStamp
  clock = (top_entry z n).clock

  abbrev complete : Bool
  complete = flag (get_or z.tables.complete t 0)

  abbrev late : Bool
  late = leb z.clock_limit z.clock

  made : t < z.tables.count
  made = table_made root index first z o n d

  complete_is : is_complete (table_held z t).answer_mode ≡ complete
  complete_is = mode_flag root index first z o t made

  pub sound_forest : SoundForest (length f.book) f
  sound_forest =
      subst (λ (m : ℕ). SoundForest m f) (sym (book_goals root index first z o)) (searching root index first z o n d).forest

  -- WHAT IS DECIDED, of a choice that is known, for a strand that came with this subgoal of so many literals
  module _ (start : Selected) (literals : ℕ) (came : Selects f.tables literals (selected start)) (c : Choice)
      (known : Ended f start c) where
    abbrev g : Forest
    g = with_noted f c.made

    abbrev s : Strand
    s = c.strand

    -- the answer that the strand gives
    abbrev pub gives : Answer
    gives = answer_of s (table_goal_at t z.tables.goal)

    abbrev pub sight_by : Selection → Selected → Sight
    sight_by k selects =
        sight_for z.stack.table z.tables.coinductive z.stack.depth z.answers.places.next z.answers.places.tail
        z.answers.places.len z.answers.variant z.answers.key k selects t gives

    abbrev pub seeing : Selection → Sight → Chosen
    seeing k sight = record {
      selection = k;
      live = c.live;
      made = c.made;
      strand = s;
      gives = gives;
      sight = sight;
      place = sight_place sight;
    }

    abbrev deed_of : Selection → Sight → Stops split.Deed
    deed_of k sight =
        meaning clock (clock_at z) (decide_by sight (seeing k sight) (get_or z.answers.answers (sight_place sight) unread_answer) complete
        late (in_use z.answers.places))

    own_table : table_of g t ≡ table_held z t
    own_table = table_still root index first z o t made (noted_goals c.made)

    -- NO LITERAL IS LEFT

    delayed_few : All (λ h. h < 64) (answer gives).delayed_subgoals
    delayed_few =
        subst (λ (y : said.Answer). All (λ h. h < 64) y.delayed_subgoals)
        (sym (answer_of_view s (table_goal_at t z.tables.goal) known.sound.delayed_long))
        (others_few (length f.book) (table_goal_at t z.tables.goal) (clause s).delayed_subgoals
        sound_forest.few_goals known.named.delayed_named)

    pub gives_good : GoodAnswer gives
    gives_good = record { sound = answer_of_sound s (table_goal_at t z.tables.goal) known.sound.delayed_long; goals = delayed_few }

    abbrev same : ℕ
    same =
        same_at z.answers.places.next z.answers.places.tail z.answers.places.len z.answers.variant z.answers.key t
        gives

    abbrev answers : List ℕ
    answers = ring z.answers.places t

    same_is : equal_answer (answer gives) (table_held z t).answers ≡ found_if (ltb same 256) (answer_at z.answers same)
    same_is =
        equal_is gives gives_good z.answers answers
        (all_times (λ q. q < 256) answers
        (λ q h.
        let rings = o.answers.places.rings in
        let under = below_top z.answers.places.next z.answers.places.tail z.answers.places.len z.answers.places.top
        rings t q h in
        omega (arith, rings.room)))
        (all_times (sound_stores.Stored z.answers) answers (λ q h. o.answers.stored t q made h))

    gives_is : gives ≡ answer_of s (table_held z t).table_goal
    gives_is = ap (answer_of s) (goal_view fresh z.tables z.strands z.answers o.tables t made)

    remaining_at : (was : Answer) (is_new : Bool) → Stored is_new was gives (table_held z t)
        → meaning clock (clock_at z) (no_remaining s was gives is_new complete (in_use z.answers.places))
        ≡ decide_no_remaining (forests.held f) (seen clock s) (table_of g t)
    remaining_at was is_new stored =
        no_remaining_means clock (clock_at z) s was gives (in_use z.answers.places) (table_held z t) known.sound gives_is is_new
        stored complete complete_is
        ∙ ap₂ (λ (m : ℕ) (u : Table). decide_no_remaining m (seen clock s) u) (answers_held root index first z o) (sym own_table)

    remaining_by : (k : Selection) (b : Bool) → ltb same 256 ≡ b
        → deed_of k (same_by b same) ≡ decide_no_remaining (forests.held f) (seen clock s) (table_of g t)
    remaining_by k true e =
        remaining_at (get_or z.answers.answers same unread_answer) false
        (same_is ∙ ap (λ (b : Bool). found_if b (answer_at z.answers same)) e)
    remaining_by k false e =
        remaining_at (get_or z.answers.answers 0 unread_answer) true
        (same_is ∙ ap (λ (b : Bool). found_if b (answer_at z.answers same)) e)

    -- A SUBGOAL IS SELECTED
    module _ (r : Ready f start c) where
      abbrev u : ℕ
      u = r.table

      pub few_tables : u < 64
      few_tables =
          let there = r.awaits.there in
          let room = room_for_noted f c.made sound_forest known.noted in
          omega arith

      -- the answer's index: what the strand came with is within the answers, and any other is the first
      wanted_few : (start ≡ Subgoal r.index u r.answer) ⊎ (r.answer ≡ 0) → r.answer ≤ 256
      wanted_few (inl is) =
          let w = subst (λ (k : Selected). Selects f.tables literals (selected k)) is came in
          let few = sound_forest.few_answers in
          let one = total_one (λ v. length v.answers) f.tables u w.table w.is_made in
          by_reach w.table
          (ap (λ (v : Table). v.floundered) (sym (ap (or no_table) (there_still f (noted_goals c.made) u w.table w.is_made)))
          ∙ r.unfloundered) (omega arith) w.reached
        where
          by_reach : (v : Table) → v.floundered ≡ false → length v.answers ≤ 256 → asserts.Reached v r.answer → r.answer ≤ 256
          by_reach v not_floundered few (inl e) = absurd (true≢false (sym e ∙ not_floundered))
          by_reach v not_floundered few (inr h) = omega arith
      wanted_few (inr is) = omega arith

      abbrev k : held.SelectedSubgoal
      k = record { subgoal_index = r.index; subgoal_table = u; answer_index = r.answer }

      selects : selecting.Selects s k
      selects = record {
        selects = ap selected r.is_selected;
        is_last = r.awaits.last;
        goes_on = omega (arith, wanted_few r.awaits.came);
      }

      abbrev at_look : Answer → Look → Stops split.Deed
      at_look a look = meaning clock (clock_at z) (selected_deed look s a complete c.live late)

      look_decides : (a : Answer) → SoundAnswer a → (look : Look)
          → LookMeans (clock_at z) g (entries_of z) k a look
          → at_look a look ≡ decide_selected c.live g (top_entry z n) (entries_below z n) (seen clock s)
      look_decides a p look h =
          selected_means clock (clock_at z) s known.sound k selects a p c.live g (top_entry z n) (entries_below z n) complete late
          (ap (λ (v : Table). is_complete v.answer_mode) own_table ∙ complete_is) (same_clock f (noted_goals c.made)) look
          (subst (λ (es : Stack). LookMeans (clock_at z) g es k a look) (stack_is root index first z o n d) h)

      abbrev there : ℕ
      there = wanted_place root index first z o n d (noted_goals c.made) u r.answer

      abbrev else_look : Look
      else_look = on_stack z.stack.table z.tables.coinductive z.stack.depth u

      look_means : (a : Answer) (b : Bool) → ltb there 256 ≡ b → (b ≡ true → a ≡ get_or z.answers.answers there unread_answer)
          → LookMeans (clock_at z) g (entries_of z) k a (look_by b there else_look)
      look_means a b e is = look_by_means root index first z o n d (noted_goals c.made) u r.answer few_tables r.index a b e is

      looked_by : (b : Bool) → ltb there 256 ≡ b
          → deed_of selection.Selected (sights.Looks (look_by b there else_look))
          ≡ decide_selected c.live g (top_entry z n) (entries_below z n) (seen clock s)
      looked_by true e =
          let stored = stored_there root index first z o n d (noted_goals c.made) u r.answer few_tables (ltb-true there 256 e) in
          look_decides (get_or z.answers.answers there unread_answer) stored.good.sound (look_by true there else_look)
          (look_means (get_or z.answers.answers there unread_answer) true e (λ same. refl))
      looked_by false e =
          look_alike clock (clock_at z) s (get_or z.answers.answers (look_place else_look) unread_answer) blank_answer
          (leb (within z.stack.depth) (height_of z.stack.table z.stack.depth u))
          (coinductive_from z.stack.table z.tables.coinductive z.stack.depth
          (height_of z.stack.table z.stack.depth u)) u (height_of z.stack.table z.stack.depth u) complete c.live late
          ∙ look_decides blank_answer blank_answer_sound else_look
          (look_means blank_answer false e (λ never. absurd (true≢false (sym never))))

      looked : deed_of selection.Selected (sight_by selection.Selected s.selected)
          ≡ decide_selected c.live g (top_entry z n) (entries_below z n) (seen clock s)
      looked =
          ap (λ (j : Selected). deed_of selection.Selected (sight_by selection.Selected j)) r.is_selected
          ∙ looked_by (ltb there 256) refl

    -- THE ACT, by the selection; `origin` is where the strand was
    module _ (origin : Origin) where
      abbrev taking : List ℕ → Stops split.Deed → Stops Act
      taking goals deed = deed >>= λ y. go (takes origin goals y)

      abbrev then_deed : Stops Picked → Stops Act
      then_deed picks =
          picks >>= λ picked.
          taking picked.view.made (decide_deed (forests.held f) f (top_entry z n) (entries_below z n) picked)

      act_by : (k : Selection) → Outcome f start c k
          → taking (noted_goals c.made) (deed_of k (sight_by k s.selected)) ≡ then_deed (choice_means_by clock k c)
      act_by selection.Again known = absurd known
      act_by selection.Selected ready = ap (taking (noted_goals c.made)) (looked ready)
      act_by selection.NotSelected is = ap (taking (noted_goals c.made)) (remaining_by selection.NotSelected (ltb same 256) refl)
      act_by (selection.Stop m) is = refl

      act_is : taking (noted_goals c.made) (deed_of c.selection (sight_by c.selection s.selected))
          ≡ then_deed (choice_means clock c)
      act_is = act_by c.selection known.outcome

  -- THE WHOLE, of a strand in hand
  module _ (s : Strand) (sound : Sound s) (kept : SoundStrand z.book.goals f.tables (seen clock s)) (origin : Origin) where
    abbrev pub live : ℕ
    live = in_use z.strands.places

    pub kept_in_book : SoundStrand (length f.book) f.tables (seen clock s)
    kept_in_book =
        subst (λ (m : ℕ). SoundStrand m f.tables (seen clock s)) (sym (book_goals root index first z o)) kept

    abbrev pub choice : Choice
    choice =
        select_subgoal z.tables.goal z.tables.floundered z.tables.count z.book.goal_flags z.book.goal_len live s

    choice_is : choice_means clock choice ≡ decide_subgoal f (record { live = live; made = [] }) (seen clock s)
    choice_is =
        select_subgoal_means z.tables.goal z.tables.floundered z.tables.count z.book.goal_flags z.book.goal_len f
        (numbers_mean root index first z o) clock live s sound kept_in_book

    -- what is known of the choice
    pub choice_known : Ended f s.selected choice
    choice_known =
        select_subgoal_ends z.tables.goal z.tables.floundered z.tables.count z.book.goal_flags z.book.goal_len f
        (numbers_mean root index first z o) clock live s sound kept_in_book

    -- as crate `small_steps` decides, with so many live strands
    abbrev pub deciding : (m : ℕ) → Stops Act
    deciding m =
        decide_subgoal f (record { live = m; made = [] }) (seen clock s) >>= λ picked.
        decide_deed (forests.held f) f (top_entry z n) (entries_below z n) picked >>= λ deed.
        go (takes origin picked.view.made deed)

    -- as the code does, with the numbers of any top
    abbrev pub acting : Top → Stops Act
    acting x =
        let c = choose z.tables.goal z.tables.coinductive z.tables.floundered z.tables.count z.book.goal_flags
        z.book.goal_len z.stack.table z.answers.places.next z.answers.places.tail z.answers.places.len
        z.answers.variant z.answers.key x s live in
        meaning x.clock (clock_at z)
        (decide c (get_or z.answers.answers c.place unread_answer) x.complete late (in_use z.answers.places))
        >>= λ deed. go (takes origin (noted_goals c.made) deed)

    pub strand_decides : acting (top_read root index first z o n d)
        ≡ deciding (forests.queued f + said_stack.active (top_entry z n ∷ entries_below z n))
    strand_decides =
        act_is s.selected (length (clause s).subgoals) kept_in_book.1 choice choice_known origin
        ∙ ap (then_deed s.selected (length (clause s).subgoals) kept_in_book.1 choice choice_known origin) choice_is
        ∙ ap deciding (strands_live root index first z o n d)
