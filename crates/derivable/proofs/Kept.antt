-- Invariance, strand by strand: where P holds of fresh strands and Q and P are kept by what a turn does to one strand or one answer, P
-- holds of every strand and Q of every answer in every state. `P gs goal s`: of a strand of that goal's table, where gs are the goals of
-- the tables by their numbers; `Q goal a`: of an answer of that goal's table.
use Prim.Native.Nat.{ℕ, suc}
use mathlib.Core.Path.{◌≡◌, refl, sym, subst, ◌∙◌}
use mathlib.Core.Bool.{Bool, true, false, not, ◌&&◌, ◌||◌}
use mathlib.Core.Option.{Option, none, some}
use mathlib.Core.List.{List, [], ◌∷◌, ◌++◌, map, Memᴰ}
use lib.ListN.{get_elem?, set}
use Rattle.definitions.specs.{ExClause, FlounderedSubgoal, Answer}
use Rattle.definitions.specs.Book.{Literal, Positive, Negative, Want, Clause, Goal, Book, goal_of}
use Rattle.definitions.specs.Fitting.{gets_table, answer_fits}
use Rattle.definitions.specs.Lists.{push, remove, swap_remove, is_empty}
use Rattle.definitions.specs.Strand.{SelectedSubgoal, Strand, with_ex_clause, with_selected, with_pursued}
use Rattle.definitions.specs.Strand.{with_subgoals, with_ambiguous, with_answer_time, with_floundered, with_delayed}
use Rattle.definitions.specs.Table.{Table, enqueue_strand}
use Rattle.definitions.specs.Tables.{Tables, Forest, with_tables, change_table}
use Rattle.definitions.specs.Stack.{StackEntry}
use Rattle.definitions.specs.Logic.{SolveState, initial_strand, next_answer_strand}
use Rattle.definitions.specs.Turn.{other_than, create_refinement_strand}
use Rattle.definitions.proofs.Lists.{all_push}
use Rattle.laws.proofs.Options.{same_some}
use Rattle.laws.specs.All.{All}
use Rattle.laws.proofs.All.{all_at, all_set}
use Rattle.laws.proofs.Maps.{map_at, map_set_alike}
use Rattle.derivable.proofs.Fine.{Fine, goes, unwrapping}

-- what stood at a place stands there
abbrev pub Within : List ℕ → List ℕ → Type 0
Within gs gs' = (i g : ℕ) → get_elem? gs i ≡ some g → get_elem? gs' i ≡ some g

-- a literal put to the floundered ones, and one brought back
abbrev pub floundered_at : ExClause → ℕ → Literal → ExClause
floundered_at x i l = with_floundered x (remove x.subgoals i)
    (push x.floundered_subgoals (record { floundered_literal = l; floundered_time = x.answer_time }))

abbrev pub returned_at : ExClause → ℕ → FlounderedSubgoal → ExClause
returned_at x i l = with_floundered x (push x.subgoals l.floundered_literal) (swap_remove x.floundered_subgoals i)

-- the selected literal is taken away
abbrev pub without : Strand → SelectedSubgoal → Strand
without s selected = with_ex_clause (with_selected s none)
    (with_subgoals s.ex_clause (remove s.ex_clause.subgoals selected.subgoal_index))

-- an answer taken into a strand
abbrev pub merged_with : Answer → Strand → Strand
merged_with a s =
    let x = with_delayed s.ex_clause (s.ex_clause.delayed_subgoals ++ a.delayed_subgoals) in
    with_ex_clause s (with_answer_time (with_ambiguous x (x.ambiguous || a.ambiguous)) (suc x.answer_time))

abbrev pub answer_of : (goal : ℕ) → ExClause → Answer
answer_of goal x = record {
  variant = x.subst.variant;
  delayed_subgoals = other_than goal x.delayed_subgoals;
  ambiguous = x.ambiguous;
}

-- THE LOCAL STEPS, a row for each
pub record Closed (book : Book) (P : List ℕ → ℕ → Strand → Type 0) (Q : ℕ → Answer → Type 0) : Type 0 where
  -- tables are made, never taken away
  pub more_tables : {gs gs' : List ℕ} {g : ℕ} (s : Strand) → Within gs gs' → P gs g s → P gs' g s
  -- a strand of a table just built
  pub fresh : {gs : List ℕ} {g : ℕ} (own : Goal) → get_elem? book g ≡ some own → own.floundered ≡ false → (c : Clause)
      → Memᴰ c own.clauses → P gs g (initial_strand c)
  pub pursued : {gs : List ℕ} {g : ℕ} (s : Strand) (time : ℕ) → P gs g s → P gs g (with_pursued s time)
  pub unselected : {gs : List ℕ} {g : ℕ} (s : Strand) → P gs g s → P gs g (with_selected s none)
  -- choosing a literal
  pub flounders : {gs : List ℕ} {g : ℕ} (s : Strand) (i : ℕ) (l : Literal) → s.selected_subgoal ≡ none
      → get_elem? s.ex_clause.subgoals i ≡ some l → P gs g s → P gs g (with_ex_clause s (floundered_at s.ex_clause i l))
  pub returns : {gs : List ℕ} {g : ℕ} (s : Strand) (i : ℕ) (l : FlounderedSubgoal) → s.selected_subgoal ≡ none
      → get_elem? s.ex_clause.floundered_subgoals i ≡ some l → P gs g s → P gs g (with_ex_clause s (returned_at s.ex_clause i l))
  pub stuck : {gs : List ℕ} {g : ℕ} (s : Strand) → s.selected_subgoal ≡ none → P gs g s
      → P gs g (with_ex_clause s (with_ambiguous s.ex_clause true))
  pub selects : {gs : List ℕ} {g : ℕ} (s : Strand) (i t : ℕ) (l : Literal) → s.selected_subgoal ≡ none
      → get_elem? s.ex_clause.subgoals i ≡ some l → gets_table l ≡ true → get_elem? gs t ≡ some (goal_of l) → P gs g s
      → P gs g (with_selected s (some (record { subgoal_index = i; subgoal_table = t; answer_index = 0 })))
  -- an answer for the selected literal, h being the goal of the table that it is from
  pub next_answer : {gs : List ℕ} {g : ℕ} (s : Strand) (selected : SelectedSubgoal) → s.selected_subgoal ≡ some selected → P gs g s
      → P gs g (next_answer_strand s selected)
  pub takes : {gs : List ℕ} {g : ℕ} (s : Strand) (selected : SelectedSubgoal) (h goal : ℕ) (want : Want) (outsized : Bool) (a : Answer)
      → s.selected_subgoal ≡ some selected
      → get_elem? s.ex_clause.subgoals selected.subgoal_index ≡ some (Positive goal want outsized)
      → get_elem? gs selected.subgoal_table ≡ some h → Q h a → answer_fits (Positive goal want outsized) a.variant ≡ true
      → P gs g s → P gs g (merged_with a (without s selected))
  -- a "not" whose goal has an ambiguous answer, and one whose goal has none
  pub not_ambiguous : {gs : List ℕ} {g : ℕ} (s : Strand) (selected : SelectedSubgoal) (goal : ℕ) (outsized : Bool)
      → s.selected_subgoal ≡ some selected
      → get_elem? s.ex_clause.subgoals selected.subgoal_index ≡ some (Negative goal outsized) → P gs g s
      → P gs g (with_ex_clause (without s selected) (with_ambiguous (without s selected).ex_clause true))
  pub not_there : {gs : List ℕ} {g : ℕ} (s : Strand) (selected : SelectedSubgoal) (goal : ℕ) (outsized : Bool)
      → s.selected_subgoal ≡ some selected
      → get_elem? s.ex_clause.subgoals selected.subgoal_index ≡ some (Negative goal outsized) → P gs g s
      → P gs g (without s selected)
  -- a coinductive cycle: the literal's goal is delayed
  pub delays : {gs : List ℕ} {g : ℕ} (own : Goal) → get_elem? book g ≡ some own → own.coinductive ≡ true → (s : Strand)
      (selected : SelectedSubgoal) (goal : ℕ) (want : Want) (outsized : Bool) → s.selected_subgoal ≡ some selected
      → get_elem? s.ex_clause.subgoals selected.subgoal_index ≡ some (Positive goal want outsized) → P gs g s
      → P gs g (with_ex_clause (without s selected)
      (with_delayed (without s selected).ex_clause (s.ex_clause.delayed_subgoals ++ (goal ∷ []))))
  -- answers
  pub answers : {gs : List ℕ} {g : ℕ} (s : Strand) → s.ex_clause.subgoals ≡ []
      → (not (is_empty s.ex_clause.floundered_subgoals) && not s.ex_clause.ambiguous) ≡ false
      → s.ex_clause.subst.outsized ≡ false → P gs g s → Q g (answer_of g s.ex_clause)
  pub refines : {gs : List ℕ} {g : ℕ} (a : Answer) (s : Strand) → create_refinement_strand a ≡ some s → Q g a → P gs g s

-- THE STATES

abbrev pub goals_of : Tables → List ℕ
goals_of ts = map (λ t. t.table_goal) ts

module _ (book : Book) (P : List ℕ → ℕ → Strand → Type 0) (Q : ℕ → Answer → Type 0) where
  pub record KeptTable (gs : List ℕ) (t : Table) : Type 0 where
    pub kept_strands : All (P gs t.table_goal) t.strands
    pub kept_answers : All (Q t.table_goal) t.answers
    pub as_goal : t.coinductive_goal ≡ true → (own : Goal) × (get_elem? book t.table_goal ≡ some own) × (own.coinductive ≡ true)

  pub record KeptForest (gs : List ℕ) (mark : ℕ) (f : Forest) : Type 0 where
    pub book_is : f.book ≡ book
    pub mark_is : f.mark ≡ mark
    pub goals_are : goals_of f.tables ≡ gs
    pub kept_tables : All (KeptTable gs) f.tables

  abbrev pub KeptActive : List ℕ → (goal : ℕ) → Option Strand → Type 0
  KeptActive gs g none = Unit {0}
  KeptActive gs g (some s) = P gs g s

  pub record KeptEntry (gs : List ℕ) (e : StackEntry) : Type 0 where
    pub goal : ℕ
    pub is_made : get_elem? gs e.table ≡ some goal
    pub kept_active : KeptActive gs goal e.active_strand

  pub record KeptState (gs : List ℕ) (mark : ℕ) (s : SolveState) : Type 0 where
    pub kept_forest : KeptForest gs mark s.forest
    pub kept_stack : All (KeptEntry gs) s.stack

-- Tables and their goals.

module _ {book : Book} {P : List ℕ → ℕ → Strand → Type 0} {Q : ℕ → Answer → Type 0} where
  pub table_goal_at : {gs : List ℕ} {m : ℕ} {f : Forest} → KeptForest book P Q gs m f → (i : ℕ) (t : Table) → get_elem?
      f.tables i ≡ some t
      → get_elem? gs i ≡ some t.table_goal
  table_goal_at {gs} {m} {f} k i t e = subst (λ (z : List ℕ). get_elem? z i ≡ some t.table_goal) k.goals_are
      (map_at (λ (u : Table). u.table_goal) f.tables i t e)

  -- the goal of a table, told twice
  pub same_goal : {gs : List ℕ} {m : ℕ} {f : Forest} → KeptForest book P Q gs m f → (i : ℕ) (t : Table) → get_elem? f.tables i ≡ some t
      → (g : ℕ) → get_elem? gs i ≡ some g → g ≡ t.table_goal
  same_goal k i t e g q = same_some (sym q ∙ table_goal_at k i t e)

  -- a table changed
  pub changed : {gs : List ℕ} {m : ℕ} {f : Forest} → KeptForest book P Q gs m f → (i : ℕ) (t t' : Table) → get_elem? f.tables i ≡ some t
      → t'.table_goal ≡ t.table_goal → KeptTable book P Q gs t' → KeptForest book P Q gs m (with_tables f (set f.tables i t'))
  changed {gs} {m} {f} k i t t' e q x = record {
    book_is = k.book_is;
    mark_is = k.mark_is;
    goals_are = map_set_alike (λ (u : Table). u.table_goal) f.tables i t t' e q ∙ k.goals_are;
    kept_tables = all_set i k.kept_tables x;
  }

  pub changes : {gs : List ℕ} {m : ℕ} {f : Forest} → KeptForest book P Q gs m f → (i : ℕ) (change : Table → Table)
      → ((t : Table) → get_elem? f.tables i ≡ some t → KeptTable book P Q gs t
      → ((change t).table_goal ≡ t.table_goal) × KeptTable book P Q gs (change t))
      → Fine (KeptForest book P Q gs m) (change_table f i change)
  changes {gs} {m} {f} k i change h = unwrapping (get_elem? f.tables i)
      (λ t e. let x = h t e (all_at i k.kept_tables e) in goes (changed k i t (change t) e x.0 x.1))

  pub enqueues : {gs : List ℕ} {m : ℕ} {f : Forest} → KeptForest book P Q gs m f → (i g : ℕ) → get_elem? gs i ≡ some g → (s : Strand)
      → P gs g s → Fine (KeptForest book P Q gs m) (change_table f i (enqueue_strand s))
  enqueues {gs} {m} {f} k i g q s p = changes k i (enqueue_strand s) (λ t e x. (
    refl,
    record {
      kept_strands = all_push x.kept_strands (subst (λ (z : ℕ). P gs z s) (same_goal k i t e g q) p);
      kept_answers = x.kept_answers;
      as_goal = x.as_goal;
    },
  ))
