-- What a strand that has selected its last literal is decided to do, by what the selected table holds for it.
use Rattle.std.specs.Prelude.{ℕ, suc, ◌<◌, Bool, true, false, not, ◌&&◌, [], ◌∷◌, map, ◌≡◌, eqb, leb, length, Option, Some, None}
use Rattle.std.proofs.Math.Option.{none, some}
use Rattle.std.proofs.Math.ListN.{get_elem?}
use Rattle.definitions.specs.{TimeStamp}
use Rattle.definitions.specs.Book.{goal_of}
use Rattle.definitions.specs.Fitting.{answer_fits, is_trivial}
use Rattle.definitions.specs.Stack.{Stack, is_active, top_of_stack_from}
use Rattle.definitions.specs.Strand as held
use Rattle.definitions.specs.Table as tables
use Rattle.definitions.specs.Tables.{Forest}
use Rattle.small_steps.specs.Decide.{or, table_of, all_coinductive}
use Rattle.book.specs.View.{meant}
use Rattle.book.specs.declared.Literal.{Literal}
use Rattle.strands.specs.declared.Answer.{Answer}
use Rattle.strands.specs.declared.Selected.TheVariants as selection
use Rattle.strands.specs.declared.Strand.{Strand}
use Rattle.strands.specs.Delaying.{delay_goals}
use Rattle.strands.specs.Fields.{with_selected, with_ambiguous, next_of}
use Rattle.strands.specs.Floundering.{flounder}
use Rattle.strands.specs.Literals.{last_removed}
use Rattle.strands.specs.Merging.{take_answer}
use Rattle.strands.specs.View.{clause, selected, answer, is_negative}
use Rattle.control.specs.declared.decision.Deed.TheVariants.{Stop, GoesOn, GivesUp, Cycles, Pushes}
use Rattle.control.specs.declared.decision.Decision.{Decision}
use Rattle.control.specs.declared.on_subgoal_selected.Look.TheVariants as looks
use Rattle.control.specs.declared.on_subgoal_selected.Look.{Look}
use Rattle.control.specs.Decision.{decided}
use Rattle.control.specs.SelectSubgoal.{chosen}

abbrev pub deselected : Strand → Strand
deselected s = with_selected s selection.Nothing

-- An answer for a "not", by whether it has delayed goals and whether it is ambiguous.

abbrev pub merge_not_by : (delays ambiguous : Bool) → Strand → Answer → Decision
merge_not_by true ambiguous s a = decided (Stop 27) false s s a
merge_not_by false true s a =
    let t : Strand = with_ambiguous (last_removed (deselected s)) true in
    decided GoesOn false t t a
merge_not_by false false s a = decided GivesUp false s s a

abbrev pub merge_not : Strand → Answer → Decision
merge_not s a = merge_not_by (not (eqb a.delayed_count 0)) a.ambiguous s a

-- An answer for a positive literal: d is the strand that has taken it, or none, and the copy is made before.

abbrev pub merge_into_by : (fits : Bool) → (d : Option Strand) → (s : Strand) → Answer → (copies : Bool) → (copy : Strand) → Decision
merge_into_by true None s a copies copy = decided (Stop 24) false s s a
merge_into_by true (Some t) s a copies copy = decided GoesOn copies t copy a
merge_into_by false d s a copies copy = decided GivesUp copies s copy a

abbrev pub merge_into : Strand → Answer → Literal → (copies : Bool) → (copy : Strand) → Decision
merge_into s a l copies copy = merge_into_by (answer_fits (meant l) a.variant) (take_answer a (deselected s)) s a copies copy

abbrev pub merge_positive_by : (trivial full : Bool) → Strand → Answer → Literal → Decision
merge_positive_by true full s a l = merge_into s a l false s
merge_positive_by false true s a l = decided (Stop 22) false s s a
merge_positive_by false false s a l = merge_into s a l true (with_selected s (next_of s.selected))

abbrev pub merge_positive : Strand → Answer → Literal → (live : ℕ) → Decision
merge_positive s a l live = merge_positive_by (is_trivial a.variant) (leb 256 live) s a l

-- By the literal's sign, and the whole.

abbrev pub merge_literal_by : (negative : Bool) → Strand → Answer → (live : ℕ) → Decision
merge_literal_by true s a live = merge_not s a
merge_literal_by false s a live = merge_positive s a (chosen s) live

abbrev pub merge_literal : Strand → Answer → (live : ℕ) → Decision
merge_literal s a live = merge_literal_by (is_negative (meant (chosen s))) s a live

abbrev pub merge_answer_by : (floundering : Bool) → Strand → Answer → (live : ℕ) → Decision
merge_answer_by true s a live =
    let t : Strand = flounder (deselected s) in
    decided GoesOn false t t a
merge_answer_by false s a live = merge_literal s a live

-- `merge_answer_into_strand`
abbrev pub merge_answer : Strand → Answer → (complete : Bool) → (live : ℕ) → Decision
merge_answer s a complete live = merge_answer_by (complete && a.ambiguous) s a live

-- `on_coinductive_subgoal`: d is the strand whose goal is delayed, or none.

abbrev pub coinductive_by : (negative : Bool) → (d : Option Strand) → (s : Strand) → Answer → Decision
coinductive_by true d s a = decided (Stop 28) false s s a
coinductive_by false None s a = decided (Stop 24) false s s a
coinductive_by false (Some t) s a = decided GoesOn false t t a

abbrev pub goal_delayed : Strand → Option Strand
goal_delayed s = delay_goals (goal_of (meant (chosen s)) ∷ []) (last_removed (deselected s))

abbrev pub coinductive : Strand → Answer → Decision
coinductive s a = coinductive_by (is_negative (meant (chosen s))) (goal_delayed s) s a

-- `on_subgoal_selected`

abbrev pub push_table : (late : Bool) → (table : ℕ) → Strand → Answer → Decision
push_table true table s a = decided (Stop 21) false s s a
push_table false table s a = decided (Pushes table) false s s a

abbrev pub selected_deed : Look → Strand → Answer → (complete : Bool) → (live : ℕ) → (late : Bool) → Decision
selected_deed (looks.Answer place) s a complete live late = merge_answer s a complete live
selected_deed looks.Coinductive s a complete live late = coinductive s a
selected_deed (looks.Cycle height) s a complete live late = decided (Cycles height) false s s a
selected_deed (looks.Push table) s a complete live late = push_table late table s a

-- The strand has selected k, which is its last literal; and the index after the answer's is still one of a u16.
pub record Selects (s : Strand) (k : held.SelectedSubgoal) : Type 0 where
  pub selects : selected s.selected ≡ some k
  pub is_last : suc k.subgoal_index ≡ length (clause s).subgoals
  pub goes_on : k.answer_index < 65535

-- WHAT A LOOK MEANS for a strand that has selected k, in the forest f with this stack: a is the answer at the place that it names, and
-- `clock_at` gives the clock of the entry at a height.
module _ (clock_at : ℕ → TimeStamp) (f : Forest) (stack : Stack) (k : held.SelectedSubgoal) (a : Answer) where
  abbrev pub NoAnswer : Type 0
  NoAnswer = tables.answer (table_of f k.subgoal_table) k.answer_index ≡ none

  pub data LookMeans : Look → Type 0 where
    holds_answer : {place : ℕ} → tables.answer (table_of f k.subgoal_table) k.answer_index ≡ some (answer a)
        → LookMeans (looks.Answer place)
    all_are_coinductive : (depth : ℕ) → NoAnswer → is_active k.subgoal_table stack ≡ some depth
        → all_coinductive f (top_of_stack_from depth stack) ≡ true → LookMeans looks.Coinductive
    is_on_stack : {height : ℕ} (depth : ℕ) → NoAnswer → is_active k.subgoal_table stack ≡ some depth
        → all_coinductive f (top_of_stack_from depth stack) ≡ false → clock_at height ≡ or 0 (get_elem? (map (λ e. e.clock) stack) depth)
        → LookMeans (looks.Cycle height)
    is_to_push : {table : ℕ} → NoAnswer → is_active k.subgoal_table stack ≡ none → table ≡ k.subgoal_table
        → LookMeans (looks.Push table)
