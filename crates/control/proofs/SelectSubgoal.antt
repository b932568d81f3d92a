-- `select_subgoal` chooses what `decide_subgoal` of crate `small_steps` decides. Pass by pass: what is left for the definitions to decide
-- is what is left to do for the choice in hand; what the strand and the goals noted are known to be is kept; and the passes are enough.
use Prim.Native.Nat.{ℕ, zero, suc, ◌+◌, ◌*◌, ◌<◌}
use native.Mathlib.Omega.{arith}
use mathlib.Core.Path.{◌≡◌, refl, sym, ap, ◌∙◌}
use mathlib.Core.Bool.{Bool, true, false}
use mathlib.Core.List.{List, []}
use mathlib.Core.Logic.{inl}
use lib.ListN.{length}
use Rattle.definitions.specs.{TimeStamp}
use Rattle.definitions.specs.Lists.{is_empty}
use Rattle.definitions.specs.Tables.{Forest}
use Rattle.laws.specs.All.{end}
use Rattle.laws.proofs.Lists.{place_under}
use Rattle.definitions.proofs.Lists.{not_nil}
use Rattle.asserts.specs.Sound.{Selects, SoundStrand}
use Rattle.asserts.proofs.Choosing.{lates_few}
use Rattle.small_steps.specs.Decide.{decide_from, decide_subgoal}
use Rattle.strands.specs.declared.Selected.TheVariants.{Nothing, Subgoal}
use Rattle.strands.specs.declared.Selected.{Selected}
use Rattle.strands.specs.declared.Strand.{Strand}
use Rattle.strands.specs.View as strands
use Rattle.strands.specs.View.{Sound, seen, clause, selected}
use Rattle.laws.specs.Pairs.{paired}
use Rattle.laws.proofs.Pairs.{length_paired}
use Rattle.strands.proofs.Lists.{length_view}
use Rattle.strands.proofs.LiteralCases.{count_is}
use Rattle.control.specs.declared.select_subgoal.Selection.TheVariants as selection
use Rattle.control.specs.declared.select_subgoal.Selection.{Selection}
use Rattle.control.specs.declared.select_subgoal.Choice.{Choice}
use Rattle.control.specs.SelectSubgoal.{goes_on, passes_for, begun, idle_by, passed_by, passed, select_from, select_subgoal}
use Rattle.control.specs.SelectSubgoal.{choice_means_by, choice_means, TablesMean, Noted, clause_of, Ended}
use Rattle.control.proofs.SelectKnown.{busy, Waits, Going, needs, After, Setting, from, goes, Leads, idle_as, step}
use Rattle.control.proofs.SelectPasses.{by_none, holds}
use Rattle.control.proofs.SelectLiteral.{takes}

-- THE PASS.
module _ (z : Setting) (c : Choice) (g : Going z.forest z.start c) where
  idles : c.strand.selected ≡ Nothing → (b : Bool) → is_empty (clause_of c).subgoals ≡ b
      → Leads z (λ p. idle_as z c p b) c (idle_by z.goal z.floundered z.count z.goal_flags z.goal_len b c)
  idles is true e = by_none z c g is e (is_empty (clause_of c).floundered_subgoals)
  idles is false e = takes z c g is (not_nil (clause_of c).subgoals e)

  by_selected : (k : Selected) → c.strand.selected ≡ k
      → Leads z (λ p. step z c p k) c (passed_by z.goal z.floundered z.count z.goal_flags z.goal_len k c)
  by_selected Nothing is = idles is (is_empty (clause_of c).subgoals) refl
  by_selected (Subgoal i t a) is = holds z c g i t a is

  passes : Leads z (λ p. from z (suc p) c) c (passed z.goal z.floundered z.count z.goal_flags z.goal_len c)
  passes = by_selected c.strand.selected refl

-- THE LOOP.
module _ (z : Setting) where
  abbrev chosen_in : ℕ → Choice → Choice
  chosen_in p c = select_from z.goal z.floundered z.count z.goal_flags z.goal_len p c

  none_left_over : (c : Choice) (k : Selected) → Waits z.forest z.start c k → needs c < 0 + busy k → ⊥
  none_left_over c Nothing w h = omega arith
  none_left_over c (Subgoal i t a) w h = let l = w.0.last in omega arith

  abbrev Chooses : (p : ℕ) → Type 0
  Chooses p = (c : Choice) → Going z.forest z.start c → needs c < p + busy c.strand.selected
      → (choice_means z.time (chosen_in p c) ≡ from z p c) × Ended z.forest z.start (chosen_in p c)

  abbrev on_by : ℕ → Choice → Bool → Choice
  on_by p c b = elim b [ true ↦ chosen_in p c | false ↦ c ]

  goes_further : (p : ℕ) → Chooses p → (c c' : Choice) → needs c < suc p + busy c.strand.selected → (k : Selection) → c'.selection ≡ k
      → from z (suc p) c ≡ goes z k p c' → After z.forest z.start c c' k
      → (choice_means z.time (on_by p c' (goes_on k)) ≡ from z (suc p) c) × Ended z.forest z.start (on_by p c' (goes_on k))
  goes_further p ih c c' enough selection.Again e m y =
      let r = ih c' y.0 (let falls = y.1 in omega arith) in
      (r.0 ∙ sym m, r.1)
  goes_further p ih c c' enough selection.Selected e m y = (ap (λ (k : Selection). choice_means_by z.time k c') e ∙ sym m, y)
  goes_further p ih c c' enough selection.NotSelected e m y = (ap (λ (k : Selection). choice_means_by z.time k c') e ∙ sym m, y)
  goes_further p ih c c' enough (selection.Stop n) e m y = (ap (λ (k : Selection). choice_means_by z.time k c') e ∙ sym m, y)

  chooses : (p : ℕ) → Chooses p
  chooses zero c g enough = absurd (none_left_over c c.strand.selected g.waits enough)
  chooses (suc p) c g enough =
      let y = passes z c g in
      let c' = passed z.goal z.floundered z.count z.goal_flags z.goal_len c in
      goes_further p (chooses p) c c' enough c'.selection refl (y.means p) y.keeps

-- THE THEOREM.

module _ (goal floundered : List ℕ) (count : ℕ) (goal_flags goal_len : List ℕ) (f : Forest)
    (mean : TablesMean goal floundered count goal_flags goal_len f) (time : TimeStamp) (live : ℕ) (s : Strand) (o : Sound s)
    (ss : SoundStrand (length f.book) f.tables (seen time s)) where
  abbrev pub chosen_for : Choice
  chosen_for = select_subgoal goal floundered count goal_flags goal_len live s

  none_noted : Noted f (begun live s).made
  none_noted = record { long = refl; few = omega arith; named = end; new = tt; rest_floundered = tt }

  starts : (k : Selected) → Selects f.tables (length (clause s).subgoals) (selected k) → s.selected ≡ k
      → Waits f s.selected (begun live s) k
  starts Nothing w e = end
  starts (Subgoal i t a) w e = (
    record { last = w.is_last; there = let h = place_under f.tables t w.table w.is_made in omega arith; came = inl e },
    λ z. end,
  )

  going : Going f s.selected (begun live s)
  going = record {
    sound = o;
    named = ss.0;
    noted = none_noted;
    room = let few = ss.0.few_literals in let l = lates_few (clause s) in omega arith;
    waits = starts s.selected ss.1 refl;
  }

  passes_are : passes_for s ≡ 2 * (length (clause s).subgoals + length (clause s).floundered_subgoals) + 4
  passes_are =
      let a = count_is s o.literals_long in
      let b = length_view strands.floundered s.floundered_count (paired s.floundered s.floundered_time) in
      let c = length_paired 8 s.floundered s.floundered_time o.floundered_long o.times_long in
      omega arith

  enough : needs (begun live s) < passes_for s + busy s.selected
  enough = let e = passes_are in let l = lates_few (clause s) in omega arith

  abbrev setting : Setting
  setting = record {
    goal = goal;
    floundered = floundered;
    count = count;
    goal_flags = goal_flags;
    goal_len = goal_len;
    forest = f;
    mean = mean;
    time = time;
    start = s.selected;
  }

  -- what the code chooses is what is decided
  pub select_subgoal_means : choice_means time chosen_for ≡ decide_subgoal f (record { live = live; made = [] }) (seen time s)
  select_subgoal_means =
      (chooses setting (passes_for s) (begun live s) going enough).0
      ∙ ap (λ (p : ℕ). decide_from p f (record { live = live; made = [] }) (seen time s)) passes_are

  -- and what it leaves is known
  pub select_subgoal_ends : Ended f s.selected chosen_for
  select_subgoal_ends =
      (chooses setting (passes_for s) (begun live s) going enough).1
