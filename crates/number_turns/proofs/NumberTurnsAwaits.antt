-- What the numbers beside a written strand tell: the table that it has selected and the answer that it wants. Where that table is made
-- and not floundered, the strand is gone on with as it is, no goal is noted, and what the turn sees is what the table holds for it.
use Prim.Native.Nat.{ℕ, suc, ◌+◌, ◌*◌, ◌-◌, ◌%◌, ◌≤◌, ◌<◌, min}
use native.Mathlib.Nat.{mod-eq_of_lt}
use native.Mathlib.Omega.{arith}
use mathlib.Core.Bool.{Bool, true, false}
use mathlib.Core.List.{List}
use mathlib.Core.Option.{Option, none, some}
use mathlib.Core.Path.{◌≡◌, refl, sym, ap, ◌∙◌}
use lib.Dec.{ltb}
use lib.ListN.{length, get_or, get_elem?}
use borrow.Author.Tests.{lt-ltb, le-ltb}
use Rattle.definitions.specs.Book as books
use Rattle.definitions.specs.Book.{bit1}
use Rattle.definitions.specs.Slg.{next_subgoal_index}
use Rattle.definitions.specs.Table.{Table}
use Rattle.asserts.specs.Sound.{Selects}
use Rattle.laws.proofs.Lists.{place_under}
use Rattle.small_steps.specs.Decide.{or, no_literal, literal_at}
use Rattle.book.specs.Access.{entry}
use Rattle.book.specs.View.{meant}
use Rattle.strands.specs.declared.Selected.TheVariants.{Nothing, Subgoal}
use Rattle.strands.specs.declared.Selected.{Selected}
use Rattle.strands.specs.declared.Strand.{Strand}
use Rattle.strands.specs.View.{Sound, clause, selected, is_negative}
use Rattle.stores.specs.Numbers.{within, flag_at}
use Rattle.stores.specs.Queue.{is_not, waits_on, waits_for, wants_for}
use Rattle.stores.specs.Sound.{Written}
use Rattle.control.specs.declared.select_subgoal.Choice.{Choice}
use Rattle.control.specs.declared.select_subgoal.Selection.TheVariants as selection
use Rattle.control.specs.OnNoStrandsLeft.{waits_on_not_by, waits_on_not}
use Rattle.control.specs.SelectSubgoal.{chosen, noted_count, floundered_by, table_floundered, leaves, held_by, goes_on, passes_for, begun}
use Rattle.control.specs.SelectSubgoal.{passed_by, passed, select_from, select_subgoal}
use Rattle.control.proofs.Seen.{chosen_means}

-- WHAT A STRAND WAITS ON, by the numbers w and wanted beside it: a table of the first `count`, at its last literal
pub record Awaits (count w wanted : ℕ) (x : Strand) : Type 0 where
  pub index : ℕ
  pub selects : x.selected ≡ Subgoal index (w % 64) wanted
  pub is_made : w % 64 < count
  pub sign : is_negative (meant (chosen x)) ≡ waits_on_not w

-- the number of a table tells it, and its sign
table_told : (not : Bool) (t : ℕ) → t < 64 → waits_on true not t % 64 ≡ t
table_told true t h = omega arith
table_told false t h = mod-eq_of_lt h

sign_told : (not : Bool) (t : ℕ) → t < 64 → waits_on_not (waits_on true not t) ≡ not
sign_told true t h =
    ap (λ (b : Bool). waits_on_not_by b (t + 64)) (le-ltb (t + 64) 64 (omega arith)) ∙ lt-ltb (t + 64) 128 (omega arith)
sign_told false t h = ap (λ (b : Bool). waits_on_not_by b t) (lt-ltb t 64 h)

sign_is : (found : Option books.Literal) → is_not found ≡ is_negative (or no_literal found)
sign_is none = refl
sign_is (some l) = refl

-- a strand with such a number has selected something: nothing selected is 255
module _ (x : Strand) (o : Sound x) (ts : List Table) (count : ℕ) (counted : length ts ≡ count) (few : count ≤ 64) (w wanted : ℕ)
    (waits : w < 128) where
  abbrev literals : List books.Literal
  literals = (clause x).subgoals

  awaits_by : (k : Selected) → x.selected ≡ k → w ≡ waits_for literals (selected k) → wanted ≡ wants_for (selected k)
      → Selects ts (length literals) (selected k) → Awaits count w wanted x
  awaits_by Nothing is e e' h = absurd (omega arith)
  awaits_by (Subgoal i t a) is e e' h =
      let made : t < count = omega (arith, place_under ts t h.table h.is_made) in
      let possible : t < 64 = omega arith in
      let not : Bool = is_not (get_elem? literals i) in
      let number : w ≡ waits_on true not t = e ∙ ap (λ (b : Bool). waits_on b not t) (lt-ltb t 64 possible) in
      let told : w % 64 ≡ t = ap (λ (v : ℕ). v % 64) number ∙ table_told not t possible in
      let last : next_subgoal_index (clause x) ≡ i = omega (arith, h.is_last) in
      record {
        index = i;
        selects = is ∙ ap (λ (u : ℕ). Subgoal i u a) (sym told) ∙ ap (Subgoal i (w % 64)) (sym e');
        is_made = omega arith;
        sign = ap is_negative (chosen_means x o ∙ ap (literal_at (clause x)) last)
            ∙ sym (sign_is (get_elem? literals i))
            ∙ sym (ap waits_on_not number ∙ sign_told not t possible);
      }

  pub awaits_what : Written x w wanted → Selects ts (length literals) (selected x.selected) → Awaits count w wanted x
  awaits_what written h = awaits_by x.selected refl written.is_waits written.is_wants h

-- THE CHOICE for such a strand: the first pass leaves it
module _ (goal floundered : List ℕ) (count : ℕ) (goal_flags goal_len : List ℕ) (live : ℕ) (x : Strand) (i t a : ℕ)
    (is : x.selected ≡ Subgoal i t a) (made : t < count) (few : count ≤ 64) (sound : flag_at t floundered ≡ false) where
  abbrev first : Choice
  first = begun live x

  unfloundered : table_floundered floundered count goal_flags t first.made ≡ false
  unfloundered =
      ap (λ (b : Bool). floundered_by b (ltb (t - within count) (noted_count first.made)) (flag_at t floundered)
      (bit1 (entry 64 goal_flags (get_or first.made.goals (t - within count) 0)))) (lt-ltb t (within count) (omega arith))
      ∙ sound

  pass_is : passed goal floundered count goal_flags goal_len first ≡ leaves selection.Selected x first
  pass_is =
      ap (λ (k : Selected). passed_by goal floundered count goal_flags goal_len k first) is
      ∙ ap (λ (b : Bool). held_by b first) unfloundered

  pub choice_is : select_subgoal goal floundered count goal_flags goal_len live x ≡ leaves selection.Selected x first
  choice_is =
      let more : ℕ = 2 * (min x.literal_count 8 + min x.floundered_count 8) + 3 in
      let one : passes_for x ≡ suc more = omega arith in
      ap (λ (n : ℕ). select_from goal floundered count goal_flags goal_len n first) one
      ∙ ap (λ (c : Choice). elim (goes_on c.selection) as (λ (b : Bool). Choice) [
        | true ↦ select_from goal floundered count goal_flags goal_len more c
        | false ↦ c
      ]) pass_is
