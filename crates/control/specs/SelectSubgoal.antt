-- What each function of select_subgoal.rt leaves, in the order of the code, by clauses on its tests' answers; then what a choice means,
-- what the lent numbers mean, and what is known of a choice.
use Rattle.std.specs.Prelude.{ℕ, zero, suc, ◌+◌, ◌*◌, ◌-◌, ◌≤◌, ◌<◌, min, Bool, true, false, List, [], ◌∷◌, ◌⊎◌, ◌≡◌, eqb, leb, ltb, length, get_or, set, replicate, Option, Some, None}
use Rattle.std.proofs.Math.Option.{none, some}
use Rattle.std.proofs.Math.ListN.{get_elem?}
use Rattle.definitions.specs.{TimeStamp, ExClause}
use Rattle.definitions.specs.Book.{Goal, bit1, goal_of}
use Rattle.definitions.specs.Fitting.{gets_table}
use Rattle.definitions.specs.Lists.{is_empty}
use Rattle.definitions.specs.Logic as logic
use Rattle.definitions.specs.Slg.{next_subgoal_index}
use Rattle.definitions.specs.Stop.{Stops, stop, go}
use Rattle.definitions.specs.Table.{Table}
use Rattle.definitions.specs.Tables.{Forest, index_of}
use Rattle.laws.specs.All.{All}
use Rattle.asserts.specs.Sound.{SoundClause}
use Rattle.small_steps.specs.Acts.{built, with_made}
use Rattle.small_steps.specs.Decide.{View, Picked, picking, table_of}
use Rattle.book.specs.Access.{entry}
use Rattle.book.specs.View.{meant}
use Rattle.book.specs.declared.Literal.{Literal}
use Rattle.strands.specs.declared.Selected.TheVariants.{Nothing, Subgoal}
use Rattle.strands.specs.declared.Selected.{Selected}
use Rattle.strands.specs.declared.Strand.{Strand}
use Rattle.strands.specs.Fields.{no_literal, with_selected, with_ambiguous}
use Rattle.strands.specs.Floundering.{flounder, reconsider}
use Rattle.strands.specs.Literals.{subgoal_at}
use Rattle.strands.specs.View.{Sound, seen, clause, is_negative}
use Rattle.stores.specs.Numbers.{within, first_at, flag, flag_at}
use Rattle.control.specs.declared.select_subgoal.Made.{Made}
use Rattle.control.specs.declared.select_subgoal.Selection.TheVariants as selection
use Rattle.control.specs.declared.select_subgoal.Selection.{Selection}
use Rattle.control.specs.declared.select_subgoal.Choice.{Choice}

-- the literal that is chosen, the last one; past the end of an array where there is none
abbrev pub chosen_by : Option Literal → Literal
chosen_by None = no_literal
chosen_by (Some l) = l

abbrev pub chosen : Strand → Literal
chosen s = chosen_by (subgoal_at s (next_subgoal_index (clause s)))

-- The goals noted.

abbrev pub noted_count : Made → ℕ
noted_count m = min m.count 8

abbrev pub note_if : (room : Bool) → (goal : ℕ) → Made → Made
note_if true g m = record { count = m.count + 1; goals = set m.goals m.count g }
note_if false g m = m

abbrev pub note : (goal : ℕ) → Made → Made
note g m = note_if (ltb m.count 8) g m

-- where a goal is noted first
abbrev pub noted_at : (goal : ℕ) → Made → ℕ
noted_at g m = first_at (λ i. eqb (get_or m.goals i 0) g) 0 (noted_count m)

-- Tables, made or noted.

-- where a goal stands first among the tables made
abbrev pub made_at : (goal : List ℕ) → (count : ℕ) → (g : ℕ) → ℕ
made_at goal count g = first_at (λ i. eqb (get_or goal i 0) g) 0 (within count)

abbrev pub table_by : (made : Bool) → (i next : ℕ) → ℕ
table_by true i next = i
table_by false i next = next

abbrev pub table_number : (goal : List ℕ) → (count : ℕ) → (g : ℕ) → Made → ℕ
table_number goal count g m = table_by (ltb (made_at goal count g) (within count)) (made_at goal count g) (within count + noted_at g m)

abbrev pub floundered_by : (made noted : Bool) → (as_table as_goal : Bool) → Bool
floundered_by true noted as_table as_goal = as_table
floundered_by false true as_table as_goal = as_goal
floundered_by false false as_table as_goal = false

abbrev pub table_floundered : (floundered : List ℕ) → (count : ℕ) → (goal_flags : List ℕ) → (t : ℕ) → Made → Bool
table_floundered floundered count goal_flags t m =
    floundered_by (ltb t (within count)) (ltb (t - within count) (noted_count m)) (flag_at t floundered)
    (bit1 (entry 64 goal_flags (get_or m.goals (t - within count) 0)))

abbrev pub strands_by : (floundered : Bool) → (clauses : ℕ) → ℕ
strands_by true n = 0
strands_by false n = n

abbrev pub live_with : (goal_flags goal_len : List ℕ) → (g live : ℕ) → ℕ
live_with goal_flags goal_len g live = live + strands_by (bit1 (entry 64 goal_flags g)) (entry 64 goal_len g)

-- Steps of a pass.

abbrev pub leaves : Selection → Strand → Choice → Choice
leaves k s c = record { selection = k; live = c.live; made = c.made; strand = s }

abbrev pub selects : (table : ℕ) → Strand → Strand
selects t s = with_selected s (Subgoal (next_subgoal_index (clause s)) t 0)

abbrev pub propagated_by : (negative : Bool) → Choice → Choice
propagated_by true c = leaves selection.NotSelected (with_selected c.strand Nothing) c
propagated_by false c = leaves selection.Again (flounder (with_selected c.strand Nothing)) c

abbrev pub propagated : Choice → Choice
propagated c = propagated_by (is_negative (meant (chosen c.strand))) c

abbrev pub made_by : (over : Bool) → (live g table : ℕ) → Choice → Choice
made_by true live g t c = leaves (selection.Stop 22) c.strand c
made_by false live g t c =
    record { selection = selection.Again; live = live; made = note g c.made; strand = selects t c.strand }

abbrev pub made_for : (goal_flags goal_len : List ℕ) → (g table : ℕ) → Choice → Choice
made_for goal_flags goal_len g t c =
    made_by (ltb 256 (live_with goal_flags goal_len g c.live)) (live_with goal_flags goal_len g c.live) g t c

abbrev pub found_by : (new : Bool) → (goal_flags goal_len : List ℕ) → (g table : ℕ) → Choice → Choice
found_by true goal_flags goal_len g t c = made_for goal_flags goal_len g t c
found_by false goal_flags goal_len g t c = leaves selection.Again (selects t c.strand) c

abbrev pub found_for : (goal : List ℕ) → (count : ℕ) → (goal_flags goal_len : List ℕ) → (g : ℕ) → Choice → Choice
found_for goal count goal_flags goal_len g c =
    found_by (leb (within count + noted_count c.made) (table_number goal count g c.made)) goal_flags goal_len g
    (table_number goal count g c.made) c

abbrev pub taken_by : (gets_table : Bool) → (goal : List ℕ) → (count : ℕ) → (goal_flags goal_len : List ℕ) → (g : ℕ) → Choice → Choice
taken_by true goal count goal_flags goal_len g c = found_for goal count goal_flags goal_len g c
taken_by false goal count goal_flags goal_len g c = leaves selection.Again (flounder c.strand) c

abbrev pub literal_taken : (goal : List ℕ) → (count : ℕ) → (goal_flags goal_len : List ℕ) → Choice → Choice
literal_taken goal count goal_flags goal_len c =
    taken_by (gets_table (meant (chosen c.strand))) goal count goal_flags goal_len (goal_of (meant (chosen c.strand))) c

abbrev pub reconsidered_by : (none_floundered none_back : Bool) → Choice → Choice
reconsidered_by true none_back c = leaves selection.NotSelected c.strand c
reconsidered_by false true c = leaves selection.NotSelected (with_ambiguous (reconsider c.strand) true) c
reconsidered_by false false c = leaves selection.Again (reconsider c.strand) c

abbrev pub reconsidered : Choice → Choice
reconsidered c =
    reconsidered_by (is_empty (clause c.strand).floundered_subgoals) (is_empty (clause (reconsider c.strand)).subgoals) c

abbrev pub held_by : (floundered : Bool) → Choice → Choice
held_by true c = propagated c
held_by false c = leaves selection.Selected c.strand c

abbrev pub held_against : (floundered : List ℕ) → (count : ℕ) → (goal_flags : List ℕ) → (table : ℕ) → Choice → Choice
held_against floundered count goal_flags t c = held_by (table_floundered floundered count goal_flags t c.made) c

abbrev pub goes_on : Selection → Bool
goes_on selection.Again = true
goes_on selection.Selected = false
goes_on selection.NotSelected = false
goes_on (selection.Stop n) = false

-- twice the literals, floundered or not, and four more
abbrev pub passes_for : Strand → ℕ
passes_for s = 2 * (min s.literal_count 8 + min s.floundered_count 8) + 4

-- before the first pass: no goal is noted
abbrev pub begun : (live : ℕ) → Strand → Choice
begun live s = record { selection = selection.Again; live = live; made = record { count = 0; goals = replicate 8 0 }; strand = s }

-- The pass and the loop, over the numbers that are lent.
module _ (goal floundered : List ℕ) (count : ℕ) (goal_flags goal_len : List ℕ) where
  abbrev pub idle_by : (no_literal : Bool) → Choice → Choice
  idle_by true c = reconsidered c
  idle_by false c = literal_taken goal count goal_flags goal_len c

  abbrev pub passed_by : Selected → Choice → Choice
  passed_by Nothing c = idle_by (is_empty (clause c.strand).subgoals) c
  passed_by (Subgoal index table answer) c = held_against floundered count goal_flags table c

  abbrev pub passed : Choice → Choice
  passed c = passed_by c.strand.selected c

  -- with so many passes left
  abbrev pub select_from : (passes : ℕ) → Choice → Choice
  select_from zero c = leaves selection.NotSelected c.strand c
  select_from (suc passes) c = elim (goes_on (passed c).selection) [ true ↦ select_from passes (passed c) | false ↦ passed c ]

  abbrev pub select_subgoal : (live : ℕ) → Strand → Choice
  select_subgoal live s = select_from (passes_for s) (begun live s)

-- WHAT A CHOICE MEANS.

-- the first n goals noted, the last one first
abbrev pub noted_down : (n : ℕ) → List ℕ → List ℕ
noted_down zero l = []
noted_down (suc n) l = get_or l n 0 ∷ noted_down n l

abbrev pub noted_goals : Made → List ℕ
noted_goals m = noted_down m.count m.goals

abbrev pub noted_view : Choice → View
noted_view c = record { live = c.live; made = noted_goals c.made }

-- of a strand that is pursued at this time
module _ (time : TimeStamp) where
  abbrev pub picks : logic.SubGoalSelection → Choice → Stops Picked
  picks k c = go (picking k (seen time c.strand) (noted_view c))

  abbrev pub choice_means_by : Selection → Choice → Stops Picked
  choice_means_by selection.Again c = picks logic.NotSelected c
  choice_means_by selection.Selected c = picks logic.Selected c
  choice_means_by selection.NotSelected c = picks logic.NotSelected c
  choice_means_by (selection.Stop n) c = stop n

  abbrev pub choice_means : Choice → Stops Picked
  choice_means c = choice_means_by c.selection c

-- WHAT THE LENT NUMBERS MEAN: the forest's tables by number, and the goals of its book.
pub record TablesMean (goal floundered : List ℕ) (count : ℕ) (goal_flags goal_len : List ℕ) (f : Forest) : Type 0 where
  pub counted : length f.tables ≡ count
  pub few : count ≤ 64
  pub goals : (i : ℕ) (t : Table) → get_elem? f.tables i ≡ some t → t.table_goal ≡ get_or goal i 0
  pub flags : (i : ℕ) (t : Table) → get_elem? f.tables i ≡ some t → t.floundered ≡ flag (get_or floundered i 0)
  pub few_goals : length f.book ≤ 64
  pub flagged : (g : ℕ) (x : Goal) → get_elem? f.book g ≡ some x → x.floundered ≡ bit1 (get_or goal_flags g 0)
  pub clauses_counted : (g : ℕ) (x : Goal) → get_elem? f.book g ≡ some x → length x.clauses ≡ get_or goal_len g 0

-- WHAT IS KNOWN of a choice once the loop is done. First of the goals noted.

-- the forest with tables for them
abbrev pub with_noted : Forest → Made → Forest
with_noted f m = with_made f (noted_goals m)

abbrev pub FlounderedGoal : Forest → ℕ → Type 0
FlounderedGoal f g = (built f.book g).floundered ≡ true

-- each is the goal of no table that is made, and of none noted before it
abbrev pub New : Forest → List ℕ → Type 0
New f [] = Unit {0}
New f (g ∷ made) = (index_of g (with_made f made).tables ≡ none) × New f made

-- all but the last one
abbrev pub RestFloundered : Forest → List ℕ → Type 0
RestFloundered f [] = Unit {0}
RestFloundered f (g ∷ made) = All (FlounderedGoal f) made

pub record Noted (f : Forest) (m : Made) : Type 0 where
  pub long : length m.goals ≡ 8
  pub few : m.count ≤ 8
  pub named : All (λ g. g < length f.book) (noted_goals m)
  pub new : New f (noted_goals m)
  pub rest_floundered : RestFloundered f (noted_goals m)

-- Then of the subgoal that a strand has selected: it is the last literal, its table is made or noted, and the answer's index is the one
-- that it came with, or 0.
pub record Awaits (f : Forest) (start : Selected) (m : Made) (literals index table answer : ℕ) : Type 0 where
  pub last : suc index ≡ literals
  pub there : table < length f.tables + m.count
  pub came : (start ≡ Subgoal index table answer) ⊎ (answer ≡ 0)

abbrev pub clause_of : Choice → ExClause
clause_of c = clause c.strand

abbrev pub literals : Choice → ℕ
literals c = length (clause_of c).subgoals

-- the subgoal selected, whose table is not floundered
pub record Ready (f : Forest) (start : Selected) (c : Choice) : Type 0 where
  pub index : ℕ
  pub table : ℕ
  pub answer : ℕ
  pub is_selected : c.strand.selected ≡ Subgoal index table answer
  pub awaits : Awaits f start c.made (literals c) index table answer
  pub unfloundered : (table_of (with_noted f c.made) table).floundered ≡ false

abbrev pub Outcome : Forest → (start : Selected) → Choice → Selection → Type 0
Outcome f start c selection.Again = ⊥
Outcome f start c selection.Selected = Ready f start c
Outcome f start c selection.NotSelected = c.strand.selected ≡ Nothing
Outcome f start c (selection.Stop n) = n ≡ 22

-- the whole
pub record Ended (f : Forest) (start : Selected) (c : Choice) : Type 0 where
  pub sound : Sound c.strand
  pub named : SoundClause (length f.book) (clause_of c)
  pub noted : Noted f c.made
  pub outcome : Outcome f start c c.selection
