-- What is known of a choice before a pass and after the last one; and what is to be shown of a pass: what is left for the definitions to
-- decide is what is left to do for the choice that it leaves, and what is known of that.
use Prim.Native.Nat.{ℕ, zero, suc, ◌+◌, ◌*◌, ◌≤◌, ◌<◌, min}
use native.Mathlib.Numerals.{add-one}
use native.Mathlib.Omega.{arith}
use mathlib.Core.Path.{◌≡◌, refl, ap, ap₂, ◌∙◌}
use mathlib.Core.Bool.{Bool, true, false}
use mathlib.Core.List.{List, ◌∷◌}
use mathlib.Core.Option.{Option, none, some}
use lib.ListN.{length, set}
use lib.Seq.{get_or-set_same, get_or-set_other}
use Rattle.definitions.specs.{TimeStamp, ExClause}
use Rattle.definitions.specs.Book as books
use Rattle.definitions.specs.Lists.{is_empty}
use Rattle.definitions.specs.Logic as logic
use Rattle.definitions.specs.Slg.{next_subgoal_index}
use Rattle.definitions.specs.Stop.{Stops, stop, go, ◌>>=◌}
use Rattle.definitions.specs.Strand as held
use Rattle.definitions.specs.Tables.{Forest}
use Rattle.laws.specs.All.{All}
use Rattle.asserts.specs.Sound.{SoundClause}
use Rattle.asserts.proofs.Returning.{lates}
use Rattle.small_steps.specs.Decide.{View, Picked, picking, table_of, literal_at, with_literal_floundered, decide_table, decide_from}
use Rattle.strands.specs.declared.Selected.TheVariants.{Nothing, Subgoal}
use Rattle.strands.specs.declared.Selected.{Selected}
use Rattle.strands.specs.declared.Strand.{Strand}
use Rattle.strands.specs.View.{Sound, seen, clause, selected}
use Rattle.control.specs.declared.select_subgoal.Made.{Made}
use Rattle.control.specs.declared.select_subgoal.Selection.TheVariants as selection
use Rattle.control.specs.declared.select_subgoal.Selection.{Selection}
use Rattle.control.specs.declared.select_subgoal.Choice.{Choice}
use Rattle.control.specs.SelectSubgoal.{note_if, leaves, noted_down, noted_goals, noted_view, picks, TablesMean, with_noted}
use Rattle.control.specs.SelectSubgoal.{FlounderedGoal, Noted, Awaits, clause_of, literals, Outcome, Ended}

-- One more goal noted.

down_set : (k n : ℕ) (l : List ℕ) (g : ℕ) → k ≤ n → noted_down k (set l n g) ≡ noted_down k l
down_set zero n l g h = refl
down_set (suc k) n l g h =
    ap₂ (λ (x : ℕ) (r : List ℕ). x ∷ r) (get_or-set_other l n k g 0 (λ e. omega arith)) (down_set k n l g (omega arith))

pub noted_more : (g : ℕ) (m : Made) → length m.goals ≡ 8 → m.count < 8 → noted_goals (note_if true g m) ≡ g ∷ noted_goals m
noted_more g m long h =
    ap (λ (k : ℕ). noted_down k (set m.goals m.count g)) (add-one m.count)
    ∙ ap₂ (λ (x : ℕ) (r : List ℕ). x ∷ r) (get_or-set_same m.goals m.count g 0 (omega arith))
    (down_set m.count m.count m.goals g (omega arith))

-- 1 where something is selected
abbrev pub busy : Selected → ℕ
busy Nothing = 0
busy (Subgoal index table answer) = 1

abbrev pub Waits : Forest → (start : Selected) → Choice → Selected → Type 0
Waits f start c Nothing = All (FlounderedGoal f) (noted_goals c.made)
Waits f start c (Subgoal i t a) =
    Awaits f start c.made (literals c) i t a
    × ((table_of (with_noted f c.made) t).floundered ≡ true → All (FlounderedGoal f) (noted_goals c.made))

-- before a pass: each literal that may still be selected has room among the goals noted
pub record Going (f : Forest) (start : Selected) (c : Choice) : Type 0 where
  pub sound : Sound c.strand
  pub named : SoundClause (length f.book) (clause_of c)
  pub noted : Noted f c.made
  pub room : c.made.count + (literals c + lates (clause_of c)) ≤ 8 + busy c.strand.selected
  pub waits : Waits f start c c.strand.selected

-- the passes that are still needed, but for the one that selects where something is selected already
abbrev pub needs : Choice → ℕ
needs c = 2 * literals c + 2 * lates (clause_of c) + min 1 (lates (clause_of c))

abbrev pub After : Forest → (start : Selected) → (c c' : Choice) → Selection → Type 0
After f start c c' selection.Again = Going f start c' × (needs c' + busy c.strand.selected < needs c + busy c'.strand.selected)
After f start c c' selection.Selected = Ended f start c'
After f start c c' selection.NotSelected = Ended f start c'
After f start c c' (selection.Stop n) = Ended f start c'

-- Sums of the counts, over variables.

pub room_less : (k l l' a a' b b' : ℕ) → suc l' ≡ l → a' ≡ a → b ≤ 1 → k + (l + a) ≤ 8 + b → k + (l' + a') ≤ 8 + b'
room_less k l l' a a' b b' e d one h = omega arith

pub falls_less : (l l' a a' b b' : ℕ) → suc l' ≡ l → a' ≡ a → b ≤ 1 → 2 * l' + 2 * a' + min 1 a' + b < 2 * l + 2 * a + min 1 a + b'
falls_less l l' a a' b b' e d one = omega arith

pub falls_back : (l l' a a' b b' : ℕ) → l ≡ 0 → 0 < l' → l' ≡ l + a → a' ≡ 0 → b ≡ 0 → b' ≡ 0
    → 2 * l' + 2 * a' + min 1 a' + b < 2 * l + 2 * a + min 1 a + b'
falls_back l l' a a' b b' z some_back e d q r = omega arith

pub room_back : (k l l' a a' b b' : ℕ) → l' ≡ l + a → a' ≡ 0 → b ≡ 0 → k + (l + a) ≤ 8 + b → k + (l' + a') ≤ 8 + b'
room_back k l l' a a' b b' e d z h = omega arith

pub busy_once : (k : Selected) → busy k ≤ 1
busy_once Nothing = omega arith
busy_once (Subgoal i t a) = omega arith

-- WHAT A PASS IS HELD AGAINST: the lent numbers with the forest that they mean, the strand's time, and what it came with.
pub record Setting : Type 0 where
  pub goal : List ℕ
  pub floundered : List ℕ
  pub count : ℕ
  pub goal_flags : List ℕ
  pub goal_len : List ℕ
  pub forest : Forest
  pub mean : TablesMean goal floundered count goal_flags goal_len forest
  pub time : TimeStamp
  pub start : Selected

module _ (z : Setting) where
  -- what is left to decide with so many passes
  abbrev pub from : ℕ → Choice → Stops Picked
  from p c = decide_from p z.forest (noted_view c) (seen z.time c.strand)

  -- the same after a pass, by how it ended
  abbrev pub goes : Selection → ℕ → Choice → Stops Picked
  goes selection.Again p c = from p c
  goes selection.Selected p c = picks z.time logic.Selected c
  goes selection.NotSelected p c = picks z.time logic.NotSelected c
  goes (selection.Stop n) p c = stop n

  -- a pass leads from c to c', where the definitions have `left` to decide
  pub record Leads (left : ℕ → Stops Picked) (c c' : Choice) : Type 0 where
    pub means : (p : ℕ) → left p ≡ goes c'.selection p c'
    pub keeps : After z.forest z.start c c' c'.selection

  pub leads_from : {left : ℕ → Stops Picked} (right : ℕ → Stops Picked) {c c' : Choice} → ((p : ℕ) → left p ≡ right p)
      → Leads right c c' → Leads left c c'
  leads_from right e x = record { means = λ p. e p ∙ x.means p; keeps = x.keeps }

  -- what the definitions have for a choice: the strand, and the forest with tables for the goals noted
  abbrev pub seen_in : Choice → held.Strand
  seen_in c = seen z.time c.strand

  abbrev pub made_in : Choice → Forest
  made_in c = with_noted z.forest c.made

  -- the strand's view with this clause and this selected
  abbrev pub seen_as : ExClause → Option held.SelectedSubgoal → held.Strand
  seen_as y k = record { ex_clause = y; selected_subgoal = k; last_pursued_time = z.time }

  -- the last pass leaves the strand t, and the goals noted as they are
  pub ends : (c : Choice) → Going z.forest z.start c → (k : Selection) (t : Strand) → Sound t
      → SoundClause (length z.forest.book) (clause t) → Outcome z.forest z.start (leaves k t c) k
      → Ended z.forest z.start (leaves k t c)
  ends c g k t o y w = record { sound = o; named = y; noted = g.noted; outcome = w }

-- THE DEFINITIONS' PASS, taken apart.
module _ (z : Setting) (c : Choice) where
  -- the selected literal flounders, or is stuck
  abbrev pub propagated_as : (index : ℕ) → books.Literal → Bool × held.Strand
  propagated_as i l = elim l [
    | books.Positive goal want outsized ↦ (
      false,
      held.with_ex_clause (held.with_selected (seen_in z c) none) (with_literal_floundered (clause_of c) i),
    )
    | books.Negative goal outsized ↦ (true, held.with_selected (seen_in z c) none)
  ]

  abbrev pub stuck : ℕ → (index : ℕ) → books.Literal → Stops Picked
  stuck p i l = elim (propagated_as i l).0 [
    | true ↦ go (picking logic.NotSelected (propagated_as i l).1 (noted_view c))
    | false ↦ decide_from p z.forest (noted_view c) (propagated_as i l).1
  ]

  abbrev pub held_as : ℕ → (index : ℕ) → (floundered : Bool) → Stops Picked
  held_as p i b = elim b [ false ↦ picks z.time logic.Selected c | true ↦ stuck p i (literal_at (clause_of c) i) ]

  -- the clause as it was looked at again
  abbrev pub looked : ℕ → ExClause → (none_back : Bool) → Stops Picked
  looked p y b = elim b [
    | true ↦ go (picking logic.NotSelected (held.with_ex_clause (seen_in z c) (held.with_ambiguous y true)) (noted_view c))
    | false ↦ decide_from p z.forest (noted_view c) (held.with_ex_clause (seen_in z c) y)
  ]

  abbrev pub none_left : ℕ → (none_floundered : Bool) → Stops Picked
  none_left p b =
      let y = logic.reconsider_floundered_subgoals (clause_of c) in
      elim b [ true ↦ picks z.time logic.NotSelected c | false ↦ looked p y (is_empty y.subgoals) ]

  -- the literal was looked for in the tables
  abbrev pub chose : ℕ → Option ℕ × View → Stops Picked
  chose p found =
      let i = next_subgoal_index (clause_of c) in
      elim found.0 [
        | some table ↦ decide_from p z.forest found.1
            (held.with_selected (seen_in z c) (some (record { subgoal_index = i; subgoal_table = table; answer_index = 0 })))
        | none ↦ decide_from p z.forest (noted_view c)
            (held.with_ex_clause (seen_in z c) (with_literal_floundered (clause_of c) i))
      ]

  abbrev pub idle_as : ℕ → (no_literal : Bool) → Stops Picked
  idle_as p b = elim b [
    | true ↦ none_left p (is_empty (clause_of c).floundered_subgoals)
    | false ↦ decide_table z.forest (noted_view c) (literal_at (clause_of c) (next_subgoal_index (clause_of c))) >>= chose p
  ]

  abbrev pub step : ℕ → Selected → Stops Picked
  step p k = elim (selected k) [
    | some y ↦ held_as p y.subgoal_index (table_of (made_in z c) y.subgoal_table).floundered
    | none ↦ idle_as p (is_empty (clause_of c).subgoals)
  ]
