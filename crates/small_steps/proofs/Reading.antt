-- What code may use to read a forest with tables that are still to be made: those that are there are read as they are, and a selected
-- table that is new has no answer and is not on the stack, so that it is pushed.
use Prim.Native.Nat.{ℕ, zero, suc, ◌+◌, ◌≤◌, ◌<◌}
use native.Mathlib.Omega.{arith}
use mathlib.Core.Path.{◌≡◌, refl, ap, ◌∙◌}
use mathlib.Core.Bool.{Bool, true, false}
use mathlib.Core.Option.{Option, none, some}
use mathlib.Core.List.{List, [], ◌∷◌, ◌++◌}
use lib.ListN.{length, get_elem?}
use lib.Dec.{eqb, leb}
use Rattle.definitions.specs.{Answer}
use Rattle.definitions.specs.Stop.{Stops, go, ◌>>◌, stop_if}
use Rattle.definitions.specs.Strand.{SelectedSubgoal, Strand}
use Rattle.definitions.specs.Table.{Table}
use Rattle.definitions.specs.Tables.{Tables, Forest}
use Rattle.definitions.specs.Stack.{StackEntry, Stack, is_active}
use Rattle.laws.proofs.Lists.{at_append}
use Rattle.laws.specs.All.{All}
use Rattle.laws.proofs.All.{all_first, all_rest}
use borrow.Author.Tests.{ne_eqb}
use Rattle.small_steps.specs.Acts.{Deed, pushes, built, with_made}
use Rattle.small_steps.specs.Decide.{or, no_table, table_of, decide_awaiting, decide_merge, decide_cycle}
use Rattle.small_steps.proofs.Choosing.{unanswered}

module _ (f : Forest) where
  pub there_still : (made : List ℕ) (i : ℕ) (t : Table) → get_elem? f.tables i ≡ some t → get_elem? (with_made f made).tables i ≡ some t
  there_still [] i t k = k
  there_still (goal ∷ made) i t k = at_append (with_made f made).tables (built (with_made f made).book goal ∷ []) i t
      (there_still made i t k)

  pub same_clock : (made : List ℕ) → leb (with_made f made).clock_limit (with_made f made).clock ≡ leb f.clock_limit f.clock
  same_clock [] = refl
  same_clock (goal ∷ made) = same_clock made

  pub same_book : (made : List ℕ) → (with_made f made).book ≡ f.book
  same_book [] = refl
  same_book (goal ∷ made) = same_book made

  at_pushed : (ts : Tables) (t : Table) (i : ℕ) → (or no_table (get_elem? ts i)).answers ≡ [] → t.answers ≡ []
      → (or no_table (get_elem? (ts ++ (t ∷ [])) i)).answers ≡ []
  at_pushed [] t zero p q = q
  at_pushed [] t (suc i) p q = p
  at_pushed (u ∷ ts) t zero p q = p
  at_pushed (u ∷ ts) t (suc i) p q = at_pushed ts t i p q

  past : (ts : Tables) (i : ℕ) → length ts ≤ i → (or no_table (get_elem? ts i)).answers ≡ []
  past [] i le = refl
  past (t ∷ ts) zero le = absurd (omega arith)
  past (t ∷ ts) (suc i) le = past ts i (omega arith)

  pub new_unanswered : (made : List ℕ) (i : ℕ) → length f.tables ≤ i → (table_of (with_made f made) i).answers ≡ []
  new_unanswered [] i le = past f.tables i le
  new_unanswered (goal ∷ made) i le = at_pushed (with_made f made).tables (built (with_made f made).book goal) i
      (new_unanswered made i le) (unanswered (with_made f made).book goal)

off_stack : (i : ℕ) (es : Stack) → All (λ e. e.table < i) es → is_active i es ≡ none
off_stack i [] w = refl
off_stack i (e ∷ es) w =
    ap (λ (o : Option ℕ). elim o as (λ _. Option ℕ) [
      | some d ↦ some
          (suc d)
      | none ↦ elim (eqb e.table i) [ true ↦ some 0 | false ↦ none ]
    ]) (off_stack i es (all_rest w))
    ∙ ap (λ (b : Bool). elim b as (λ _. Option ℕ) [ true ↦ some 0 | false ↦ none ])
    (ne_eqb e.table i (let o = all_first w in λ q. omega arith))

-- a new table is pushed: 21 is all that may stop that
pub new_pushed : (live : ℕ) (f : Forest) (made : List ℕ) (e : StackEntry) (es : Stack) (strand : Strand) (selected : SelectedSubgoal)
    → length f.tables ≤ selected.subgoal_table → All (λ c. c.table < selected.subgoal_table) (e ∷ es)
    → decide_awaiting live (with_made f made) e es strand selected (table_of (with_made f made) selected.subgoal_table) ≡
    (stop_if (leb f.clock_limit f.clock) 21 >> go (pushes strand selected.subgoal_table))
new_pushed live f made e es strand selected new off =
    let g = with_made f made in
    let i = selected.subgoal_table in
    ap (λ (l : List Answer). elim (get_elem? l selected.answer_index) as (λ _. Stops Deed) [
      | some a ↦ decide_merge live strand selected a (table_of g e.table)
      | none ↦ elim (is_active i (e ∷ es)) as (λ _. Stops Deed) [
        | some depth ↦ decide_cycle g
            (e ∷ es) strand selected depth
        | none ↦ stop_if (leb g.clock_limit g.clock) 21 >> go (pushes strand i)
      ]
    ]) (new_unanswered f made i new)
    ∙ ap (λ (o : Option ℕ). elim o as (λ _. Stops Deed) [
      | some depth ↦ decide_cycle g (e ∷ es) strand selected depth
      | none ↦ stop_if
          (leb g.clock_limit g.clock) 21 >> go (pushes strand i)
    ]) (off_stack i (e ∷ es) off)
    ∙ ap (λ (b : Bool). stop_if b 21 >> go (pushes strand i)) (same_clock f made)
