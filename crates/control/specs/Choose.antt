-- What a turn with a strand comes to: the choice, what the turn then sees, and with the answer that it looks at, the decision.
use Rattle.std.specs.Prelude.{ℕ, ◌-◌, Bool, true, false, List, eqb, leb, ltb, get_or}
use Rattle.sizes.specs.Limits.{most_places}
use Rattle.rings.specs.Rings.{ring_of, place_if}
use Rattle.strands.specs.declared.Answer.{Answer}
use Rattle.strands.specs.declared.Selected.TheVariants as selected
use Rattle.strands.specs.declared.Selected.{Selected}
use Rattle.strands.specs.declared.Strand.{Strand}
use Rattle.strands.specs.Answers.{answer_of}
use Rattle.strands.specs.View.{answer}
use Rattle.stores.specs.Numbers.{within, first_at, all_from}
use Rattle.stores.specs.Places.{numbered, found_in}
use Rattle.stores.specs.Stack.{coinductive_at}
use Rattle.stores.specs.Table.{key_of}
use Rattle.stores.specs.Tables.{table_goal_at}
use Rattle.control.specs.declared.choose.Chosen.{Chosen}
use Rattle.control.specs.declared.choose.Sight.TheVariants as sights
use Rattle.control.specs.declared.choose.Sight.{Sight}
use Rattle.control.specs.declared.decision.Deed.TheVariants.{Stop}
use Rattle.control.specs.declared.decision.Decision.{Decision}
use Rattle.control.specs.declared.ensure_root_answer.Top.{Top}
use Rattle.control.specs.declared.on_subgoal_selected.Look.TheVariants as looks
use Rattle.control.specs.declared.on_subgoal_selected.Look.{Look}
use Rattle.control.specs.declared.select_subgoal.Choice.{Choice}
use Rattle.control.specs.declared.select_subgoal.Selection.TheVariants as selection
use Rattle.control.specs.declared.select_subgoal.Selection.{Selection}
use Rattle.control.specs.Decision.{decided}
use Rattle.control.specs.OnNoRemainingSubgoals.{no_remaining}
use Rattle.control.specs.OnSubgoalSelected.{selected_deed}
use Rattle.control.specs.SelectSubgoal.{select_subgoal}

-- What a table holds for a strand that waits on it.

abbrev pub on_stack_by : (off_stack coinductive : Bool) → (t height : ℕ) → Look
on_stack_by true coinductive t height = looks.Push t
on_stack_by false true t height = looks.Coinductive
on_stack_by false false t height = looks.Cycle height

abbrev pub look_by : (stored : Bool) → (place : ℕ) → Look → Look
look_by true place look = looks.Answer place
look_by false place look = look

-- the lowest entry of table t
abbrev pub height_of : (entry_table : List ℕ) → (depth t : ℕ) → ℕ
height_of entry_table depth t = first_at (λ i. eqb (get_or entry_table i 0) t) 0 (within depth)

-- the place of the answer at an index of table t
abbrev pub answer_place : (answer_next answer_tail answer_len : List ℕ) → (t index : ℕ) → ℕ
answer_place answer_next answer_tail answer_len t index =
    place_if (ltb index (get_or answer_len t 0)) (get_or (ring_of answer_next answer_tail answer_len t) index 0)

module _ (entry_table coinductive : List ℕ) (depth : ℕ) where
  -- all entries from a height up to the top are of coinductive tables
  abbrev pub coinductive_from : (height : ℕ) → Bool
  coinductive_from height = all_from (coinductive_at entry_table coinductive) height (within depth - height)

  abbrev pub on_stack : (t : ℕ) → Look
  on_stack t =
      on_stack_by (leb (within depth) (height_of entry_table depth t)) (coinductive_from (height_of entry_table depth t)) t
      (height_of entry_table depth t)

  module _ (answer_next answer_tail answer_len : List ℕ) where
    abbrev pub look_at : (t index : ℕ) → Look
    look_at t index =
        look_by (ltb (answer_place answer_next answer_tail answer_len t index) most_places)
        (answer_place answer_next answer_tail answer_len t index) (on_stack t)

    abbrev pub selected_sight : Selected → Sight
    selected_sight selected.Nothing = sights.Nothing
    selected_sight (selected.Subgoal index table wanted) = sights.Looks (look_at table wanted)

-- Whether table t has the answer that the strand gives.

abbrev pub same_by : (stored : Bool) → (place : ℕ) → Sight
same_by true place = sights.Same place
same_by false place = sights.Fresh

module _ (answer_next answer_tail answer_len answer_variant answer_key : List ℕ) where
  abbrev pub same_at : (t : ℕ) → Answer → ℕ
  same_at t x = found_in (numbered true answer_variant x.variant answer_key (key_of (answer x).delayed_subgoals))
      (ring_of answer_next answer_tail answer_len t)

  abbrev pub answer_sight : (t : ℕ) → Answer → Sight
  answer_sight t x = same_by (ltb (same_at t x) most_places) (same_at t x)

-- What the turn sees, by the choice.
module _ (entry_table coinductive : List ℕ) (depth : ℕ) (answer_next answer_tail answer_len answer_variant answer_key : List ℕ) where
  abbrev pub sight_for : Selection → Selected → (t : ℕ) → Answer → Sight
  sight_for selection.Again k t x = answer_sight answer_next answer_tail answer_len answer_variant answer_key t x
  sight_for selection.Selected k t x = selected_sight entry_table coinductive depth answer_next answer_tail answer_len k
  sight_for selection.NotSelected k t x = answer_sight answer_next answer_tail answer_len answer_variant answer_key t x
  sight_for (selection.Stop n) k t x = sights.Nothing

abbrev pub look_place : Look → ℕ
look_place (looks.Answer place) = place
look_place looks.Coinductive = 0
look_place (looks.Cycle height) = 0
look_place (looks.Push table) = 0

abbrev pub sight_place : Sight → ℕ
sight_place sights.Nothing = 0
sight_place (sights.Looks look) = look_place look
sight_place (sights.Same place) = place
sight_place sights.Fresh = 0

-- `choose`, over the numbers that are lent
abbrev pub chosen_with : Choice → (gives : Answer) → Sight → Chosen
chosen_with c gives sight = record {
  selection = c.selection;
  live = c.live;
  made = c.made;
  strand = c.strand;
  gives = gives;
  sight = sight;
  place = sight_place sight;
}

module _ (goal coinductive floundered : List ℕ) (count : ℕ)
    (goal_flags goal_len entry_table answer_next answer_tail answer_len answer_variant answer_key : List ℕ) (top : Top) where
  abbrev pub gives_of : Choice → Answer
  gives_of c = answer_of c.strand (table_goal_at top.table goal)

  abbrev pub sight_of : Choice → Sight
  sight_of c =
      sight_for entry_table coinductive top.depth answer_next answer_tail answer_len answer_variant answer_key c.selection
      c.strand.selected top.table (gives_of c)

  abbrev pub chosen_of : Choice → Chosen
  chosen_of c = chosen_with c (gives_of c) (sight_of c)

  abbrev pub choose : Strand → (live : ℕ) → Chosen
  choose s live = chosen_of (select_subgoal goal floundered count goal_flags goal_len live s)

-- The decision, with the answer at the place named.

abbrev pub stop_of : Selection → ℕ
stop_of selection.Again = 0
stop_of selection.Selected = 0
stop_of selection.NotSelected = 0
stop_of (selection.Stop n) = n

abbrev pub decide_by : Sight → Chosen → Answer → (complete late : Bool) → (held : ℕ) → Decision
decide_by sights.Nothing c a complete late held = decided (Stop (stop_of c.selection)) false c.strand c.strand a
decide_by (sights.Looks look) c a complete late held = selected_deed look c.strand a complete c.live late
decide_by (sights.Same place) c a complete late held = no_remaining c.strand a c.gives false complete held
decide_by sights.Fresh c a complete late held = no_remaining c.strand a c.gives true complete held

abbrev pub decide : Chosen → Answer → (complete late : Bool) → (held : ℕ) → Decision
decide c a complete late held = decide_by c.sight c a complete late held
