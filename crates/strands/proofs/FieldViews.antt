-- A strand with a field written: what is seen of it is the definitions' with that field written, and it stays sound. The copy for the next
-- answer is the definitions' where the index can go on.
use Prim.Native.Nat.{ℕ, suc, ◌<◌}
use native.Mathlib.Nat.{min-eq_left}
use native.Mathlib.Omega.{arith}
use mathlib.Core.Bool.{Bool}
use mathlib.Core.Option.{Option, some}
use mathlib.Core.Path.{◌≡◌, refl, ap, ◌∙◌}
use Rattle.definitions.specs.{TimeStamp}
use Rattle.definitions.specs.Logic.{next_answer_strand}
use Rattle.definitions.specs.Strand as held
use Rattle.strands.specs.declared.Selected.TheVariants.{Nothing, Subgoal}
use Rattle.strands.specs.declared.Selected.{Selected}
use Rattle.strands.specs.declared.Strand.{Strand}
use Rattle.strands.specs.Fields.{with_selected, with_ambiguous, after, next_of}
use Rattle.strands.specs.View.{Sound, seen, clause, selected, Kept}

-- what is kept from s to t and from t to r is kept from s to r
pub kept_on : (s t r : Strand) → Kept s t → Kept t r → Kept s r
kept_on s t r p q = q ∙ p

-- what is seen of it at any time
pub kept_seen : (s r : Strand) → Kept s r → (time : TimeStamp) → seen time r ≡ held.with_ex_clause (seen time s) (clause r)
kept_seen s r k time =
    ap (λ (c : Selected). record { ex_clause = clause r; selected_subgoal = selected c; last_pursued_time = time }) k

module _ (time : TimeStamp) (s : Strand) where
  pub selected_view : (k : Selected) → seen time (with_selected s k) ≡ held.with_selected (seen time s) (selected k)
  selected_view k = refl

  pub ambiguous_view : (b : Bool) → seen time (with_ambiguous s b) ≡ held.with_ex_clause (seen time s) (held.with_ambiguous (clause s) b)
  ambiguous_view b = refl

module _ (s : Strand) where
  pub selected_sound : (k : Selected) → Sound s → Sound (with_selected s k)
  selected_sound k o = search o

  pub ambiguous_sound : (b : Bool) → Sound s → Sound (with_ambiguous s b)
  ambiguous_sound b o = search o

abbrev more_than : held.SelectedSubgoal → ℕ → held.SelectedSubgoal
more_than k answer = record { subgoal_index = k.subgoal_index; subgoal_table = k.subgoal_table; answer_index = answer }

some_is : (k j : held.SelectedSubgoal) → some k ≡ some j → k ≡ j
some_is k j e = cc

next_selected : (c : Selected) (k : held.SelectedSubgoal) → selected c ≡ some k → k.answer_index < 65535
    → selected (next_of c) ≡ some (more_than k (suc k.answer_index))
next_selected Nothing k e h = cc
next_selected (Subgoal index table answer) k e h =
    let same : record { subgoal_index = index; subgoal_table = table; answer_index = answer } ≡ k = some_is _ k e in
    ap (λ (j : held.SelectedSubgoal). some (more_than j (after j.answer_index))) same
    ∙ ap (λ (n : ℕ). some (more_than k n)) (min-eq_left (omega arith))

pub next_answer_view : (time : TimeStamp) (s : Strand) (k : held.SelectedSubgoal) → selected s.selected ≡ some k
    → k.answer_index < 65535 → seen time (with_selected s (next_of s.selected)) ≡ next_answer_strand (seen time s) k
next_answer_view time s k e h =
    ap (λ (o : Option held.SelectedSubgoal). held.with_selected (seen time s) o) (next_selected s.selected k e h)
