-- There is room for the strands of the tables that are to be made, and for a copy where one is decided: the live strands that a choice
-- counts are those that were live and those of the goals noted, 256 at most, and fewer where a strand is copied. On every input.
use Prim.Native.Nat.{ℕ, zero, suc, ◌+◌, ◌≤◌, ◌<◌}
use native.Mathlib.Omega.{arith}
use mathlib.Core.Bool.{Bool, true, false, not, ◌&&◌, false≢true}
use mathlib.Core.List.{List}
use mathlib.Core.Path.{◌≡◌, refl, ap, ◌∙◌}
use lib.Dec.{eqb, leb, ltb}
use lib.ListN.{length, length-set}
use borrow.Author.Tests.{ltb-true, ltb-false, leb-false}
use Rattle.std.specs.Prelude.{Option, Some, None}
use Rattle.definitions.specs.Book.{bit1, goal_of}
use Rattle.definitions.specs.Fitting.{gets_table, answer_fits, is_trivial}
use Rattle.definitions.specs.Lists.{is_empty, total}
use Rattle.book.specs.Access.{entry}
use Rattle.book.specs.View.{meant}
use Rattle.book.specs.declared.Literal.{Literal}
use Rattle.strands.specs.declared.Answer.{Answer}
use Rattle.strands.specs.declared.Selected.TheVariants.{Nothing, Subgoal}
use Rattle.strands.specs.declared.Selected.{Selected}
use Rattle.strands.specs.declared.Strand.{Strand}
use Rattle.strands.specs.Fields.{with_selected, next_of}
use Rattle.strands.specs.Floundering.{reconsider}
use Rattle.strands.specs.Merging.{take_answer}
use Rattle.strands.specs.View.{clause, is_negative}
use Rattle.stores.specs.Numbers.{within}
use Rattle.control.specs.declared.choose.Chosen.{Chosen}
use Rattle.control.specs.declared.choose.Sight.TheVariants as sights
use Rattle.control.specs.declared.choose.Sight.{Sight}
use Rattle.control.specs.declared.decision.Decision.{Decision}
use Rattle.control.specs.declared.on_subgoal_selected.Look.TheVariants as looks
use Rattle.control.specs.declared.on_subgoal_selected.Look.{Look}
use Rattle.control.specs.declared.select_subgoal.Choice.{Choice}
use Rattle.control.specs.declared.select_subgoal.Selection.{Selection}
use Rattle.control.specs.Choose.{decide_by, decide}
use Rattle.control.specs.OnNoRemainingSubgoals.{outsized, answer_again_by, answer_anew_by, pursue_by, no_remaining_by, no_remaining}
use Rattle.control.specs.OnSubgoalSelected.{deselected, goal_delayed, merge_not_by, merge_into_by, merge_into, merge_positive_by}
use Rattle.control.specs.OnSubgoalSelected.{merge_literal_by, merge_answer_by, coinductive_by, push_table, selected_deed}
use Rattle.control.specs.SelectSubgoal.{chosen, noted_count, note_if, noted_goals, table_number, table_floundered}
use Rattle.control.specs.SelectSubgoal.{strands_by, live_with, leaves, selects, propagated_by, made_by, found_by, taken_by}
use Rattle.control.specs.SelectSubgoal.{reconsidered_by, held_by, goes_on, begun, idle_by, passed_by, passed, select_from}
use Rattle.control.specs.SelectSubgoal.{passes_for, select_subgoal}
use Rattle.control.proofs.SelectKnown.{noted_more}

-- how many strands a goal's table has when it is made, by the book's numbers
abbrev pub strands_for : (goal_flags goal_len : List ℕ) → (g : ℕ) → ℕ
strands_for goal_flags goal_len g = strands_by (bit1 (entry 64 goal_flags g)) (entry 64 goal_len g)

-- THE LIVE STRANDS of a choice, where so many were live before
pub record Counted (goal_flags goal_len : List ℕ) (live : ℕ) (c : Choice) : Type 0 where
  pub long : length c.made.goals ≡ 8
  pub all : live + total (strands_for goal_flags goal_len) (noted_goals c.made) ≤ c.live
  pub few : c.live ≤ 256

module _ (goal_flags goal_len : List ℕ) (live : ℕ) where
  abbrev Counts : Choice → Type 0
  Counts c = Counted goal_flags goal_len live c

  -- with no goal noted it is as it was
  still : (k : Selection) (s : Strand) (c : Choice) → Counts c → Counts (leaves k s c)
  still k s c o = record { long = o.long; all = o.all; few = o.few }

  -- A goal is noted.
  module _ (g : ℕ) (c : Choice) (o : Counts c) where
    abbrev after : ℕ
    after = live_with goal_flags goal_len g c.live

    abbrev strands : List ℕ → ℕ
    strands l = total (strands_for goal_flags goal_len) l

    noted_long : (b : Bool) → length (note_if b g c.made).goals ≡ 8
    noted_long true = length-set c.made.goals c.made.count g ∙ o.long
    noted_long false = o.long

    noted_all : (b : Bool) → ltb c.made.count 8 ≡ b → live + strands (noted_goals (note_if b g c.made)) ≤ after
    noted_all true e =
        let more = ap strands (noted_more g c.made o.long (ltb-true c.made.count 8 e)) in
        let before = o.all in
        omega arith
    noted_all false e = let before = o.all in omega arith

    made_counts : (b : Bool) → ltb 256 after ≡ b → (t : ℕ) → Counts (made_by b after g t c)
    made_counts true e t = still _ c.strand c o
    made_counts false e t = record {
      long = noted_long (ltb c.made.count 8);
      all = noted_all (ltb c.made.count 8) refl;
      few = ltb-false 256 after e;
    }

    found_counts : (new : Bool) (t : ℕ) → Counts (found_by new goal_flags goal_len g t c)
    found_counts true t = made_counts (ltb 256 after) refl t
    found_counts false t = still _ (selects t c.strand) c o

  -- A pass.
  module _ (goal floundered : List ℕ) (count : ℕ) (c : Choice) (o : Counts c) where
    taken_counts : (gets : Bool) (g : ℕ) → Counts (taken_by gets goal count goal_flags goal_len g c)
    taken_counts true g =
        found_counts g c o (leb (within count + noted_count c.made) (table_number goal count g c.made))
        (table_number goal count g c.made)
    taken_counts false g = still _ _ c o

    again_counts : (none_floundered none_back : Bool) → Counts (reconsidered_by none_floundered none_back c)
    again_counts true none_back = still _ _ c o
    again_counts false true = still _ _ c o
    again_counts false false = still _ _ c o

    stuck_counts : (negative : Bool) → Counts (propagated_by negative c)
    stuck_counts true = still _ _ c o
    stuck_counts false = still _ _ c o

    held_counts : (b : Bool) → Counts (held_by b c)
    held_counts true = stuck_counts (is_negative (meant (chosen c.strand)))
    held_counts false = still _ _ c o

    idle_counts : (no_literal : Bool) → Counts (idle_by goal floundered count goal_flags goal_len no_literal c)
    idle_counts true =
        again_counts (is_empty (clause c.strand).floundered_subgoals) (is_empty (clause (reconsider c.strand)).subgoals)
    idle_counts false = taken_counts (gets_table (meant (chosen c.strand))) (goal_of (meant (chosen c.strand)))

    pass_counts : (k : Selected) → Counts (passed_by goal floundered count goal_flags goal_len k c)
    pass_counts Nothing = idle_counts (is_empty (clause c.strand).subgoals)
    pass_counts (Subgoal index table answer) = held_counts (table_floundered floundered count goal_flags table c.made)

  -- The loop.
  module _ (goal floundered : List ℕ) (count : ℕ) where
    abbrev pass : Choice → Choice
    pass c = passed goal floundered count goal_flags goal_len c

    abbrev chosen_in : ℕ → Choice → Choice
    chosen_in p c = select_from goal floundered count goal_flags goal_len p c

    loop_counts : (p : ℕ) (c : Choice) → Counts c → Counts (chosen_in p c)
    loop_counts zero c o = still _ c.strand c o
    loop_counts (suc p) c o =
        on (goes_on (pass c).selection) (pass_counts goal floundered count c o c.strand.selected) (loop_counts p (pass c))
      where
        on : (b : Bool) → Counts (pass c) → (Counts (pass c) → Counts (chosen_in p (pass c)))
            → Counts (elim b as (λ _. Choice) [ true ↦ chosen_in p (pass c) | false ↦ pass c ])
        on true y more = more y
        on false y more = y

    pub choice_counts : live ≤ 256 → (s : Strand)
        → Counted goal_flags goal_len live (select_subgoal goal floundered count goal_flags goal_len live s)
    choice_counts h s =
        loop_counts (passes_for s) (begun live s) (record { long = refl; all = omega arith; few = h })

-- A COPY is decided only where fewer than 256 strands are live.
module _ (s : Strand) (a : Answer) (live : ℕ) where
  abbrev Room : Decision → Type 0
  Room d = d.copies ≡ true → live < 256

  none_copied : false ≡ true → live < 256
  none_copied e = absurd (false≢true e)

  not_room : (delays ambiguous : Bool) → Room (merge_not_by delays ambiguous s a)
  not_room true ambiguous = none_copied
  not_room false true = none_copied
  not_room false false = none_copied

  into_room_by : (fits : Bool) (d : Option Strand) (copies : Bool) (copy : Strand) → (copies ≡ true → live < 256)
      → Room (merge_into_by fits d s a copies copy)
  into_room_by true None copies copy h = none_copied
  into_room_by true (Some t) copies copy h = h
  into_room_by false d copies copy h = h

  into_room : (l : Literal) (copies : Bool) (copy : Strand) → (copies ≡ true → live < 256) → Room (merge_into s a l copies copy)
  into_room l copies copy h = into_room_by (answer_fits (meant l) a.variant) (take_answer a (deselected s)) copies copy h

  positive_room : (trivial full : Bool) → leb 256 live ≡ full → (l : Literal) → Room (merge_positive_by trivial full s a l)
  positive_room true full e l = into_room l false s none_copied
  positive_room false true e l = none_copied
  positive_room false false e l =
      into_room l true (with_selected s (next_of s.selected)) (λ copied. leb-false 256 live e)

  literal_room : (negative : Bool) → Room (merge_literal_by negative s a live)
  literal_room true = not_room (not (eqb a.delayed_count 0)) a.ambiguous
  literal_room false = positive_room (is_trivial a.variant) (leb 256 live) refl (chosen s)

  merge_room : (unwanted : Bool) → Room (merge_answer_by unwanted s a live)
  merge_room true = none_copied
  merge_room false = literal_room (is_negative (meant (chosen s)))

  coinductive_room : (negative : Bool) (d : Option Strand) → Room (coinductive_by negative d s a)
  coinductive_room true d = none_copied
  coinductive_room false None = none_copied
  coinductive_room false (Some t) = none_copied

  push_room : (late : Bool) (t : ℕ) → Room (push_table late t s a)
  push_room true t = none_copied
  push_room false t = none_copied

  selected_room : (look : Look) (complete late : Bool) → Room (selected_deed look s a complete live late)
  selected_room (looks.Answer place) complete late = merge_room (complete && a.ambiguous)
  selected_room looks.Coinductive complete late =
      coinductive_room (is_negative (meant (chosen s))) (goal_delayed s)
  selected_room (looks.Cycle height) complete late = none_copied
  selected_room (looks.Push table) complete late = push_room late table

  -- with no literal left none is copied
  again_room : (ambiguous was_ambiguous : Bool) → Room (answer_again_by ambiguous was_ambiguous s a)
  again_room true was_ambiguous = none_copied
  again_room false true = none_copied
  again_room false false = none_copied

  anew_room : (full : Bool) (x : Answer) → Room (answer_anew_by full s a x)
  anew_room true x = none_copied
  anew_room false x = none_copied

  pursue_room : (none_left large is_new : Bool) (x : Answer) (held : ℕ) → Room (pursue_by none_left large is_new s a x held)
  pursue_room false large is_new x held = none_copied
  pursue_room true true is_new x held = none_copied
  pursue_room true false true x held = anew_room (leb 256 held) x
  pursue_room true false false x held = again_room s.ambiguous a.ambiguous

  remaining_room_by : (puts_off is_new : Bool) (x : Answer) (held : ℕ) → Room (no_remaining_by puts_off s a x is_new held)
  remaining_room_by true is_new x held = none_copied
  remaining_room_by false is_new x held = pursue_room (is_empty (clause s).subgoals) (outsized s) is_new x held

  remaining_room : (is_new complete : Bool) (x : Answer) (held : ℕ) → Room (no_remaining s a x is_new complete held)
  remaining_room is_new complete x held = remaining_room_by (complete && s.ambiguous) is_new x held

module _ (c : Chosen) (a : Answer) (complete late : Bool) (held : ℕ) where
  room_by : (sight : Sight) → (decide_by sight c a complete late held).copies ≡ true → c.live < 256
  room_by sights.Nothing = none_copied c.strand a c.live
  room_by (sights.Looks look) = selected_room c.strand a c.live look complete late
  room_by (sights.Same place) = remaining_room c.strand a c.live false complete c.gives held
  room_by sights.Fresh = remaining_room c.strand a c.live true complete c.gives held

  pub copy_room : (decide c a complete late held).copies ≡ true → c.live < 256
  copy_room = room_by c.sight
