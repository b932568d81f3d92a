-- Choosing a literal of a plain strand.
use Prim.Native.Nat.{ℕ, suc, ◌-◌}
use mathlib.Core.Path.{◌≡◌, ap, ◌∙◌}
use mathlib.Core.Bool.{false}
use mathlib.Core.Option.{none, some}
use mathlib.Core.List.{◌∷◌}
use lib.ListN.{length, get_elem?}
use Rattle.definitions.specs.Stop.{go}
use Rattle.definitions.specs.Table.{Table}
use Rattle.definitions.specs.Tables.{Forest}
use Rattle.definitions.specs.Logic.{Selected, selecting, select_from, get_or_create_table_for_ucanonical_goal}
use Rattle.definitions.specs.Logic.{get_or_create_table_for_subgoal}
use Rattle.definitions.proofs.Lists.{is_empty_push}
use Rattle.laws.proofs.Lists.{last_place, last_one}
use Rattle.promises.proofs.Plain.Model.{Lit, pos, neg, Body, literal_goal}
use Rattle.promises.proofs.Link.View.{literal, literals, strand_of, selection}

-- a strand with its last literal selected, at any index k that is so
module _ (others : ℕ) (f : Forest) (a : ℕ) (l : Lit) (b : Body) (t i : ℕ) (tb : Table) (made : get_elem? f.tables i ≡ some tb)
    (sound : tb.floundered ≡ false) where
  select_at : (k passes : ℕ) → select_from (suc passes) others f
      (strand_of a (l ∷ b) (some (record { subgoal_index = k; subgoal_table = i; answer_index = 0 })) t)
      ≡ go (selecting Selected (strand_of a (l ∷ b) (some (record { subgoal_index = k; subgoal_table = i; answer_index = 0 })) t) f)
  select_at k passes = rw (made, sound)

  pub select_bound : (passes : ℕ) → select_from (suc passes) others f (strand_of a (l ∷ b) (some (selection i b)) t) ≡ go
      (selecting Selected (strand_of a (l ∷ b) (some (selection i b)) t) f)
  select_bound passes = select_at (length (literals b)) passes

goal_same : (l : Lit) (f : Forest) (others j : ℕ) (f' : Forest)
    → get_or_create_table_for_ucanonical_goal others f (literal_goal l) ≡ go (j, f')
    → get_or_create_table_for_subgoal others f (literal l) ≡ go (some j, f')
goal_same (pos h) f others j f' e = rw e
goal_same (neg h) f others j f' e = rw e

pub select_free : (passes others : ℕ) (f : Forest) (a : ℕ) (l : Lit) (b : Body) (t j : ℕ) (f' : Forest) (tb : Table)
    → get_or_create_table_for_ucanonical_goal others f (literal_goal l) ≡ go (j, f') → get_elem? f'.tables j ≡ some tb
    → tb.floundered ≡ false
    → select_from (suc (suc passes)) others f (strand_of a (l ∷ b) none t) ≡ go
    (selecting Selected (strand_of a (l ∷ b) (some (selection j b)) t) f')
select_free passes others f a l b t j f' tb e e' n =
    rw (is_empty_push (literals b) (literal l), select_from)
    (rw (last_place (literals b) (literal l)) (rw (last_one (literals b) (literal l)) (rw (goal_same l f others j f' e)
    (select_at others f' a l b t j tb e' n (length (literals (l ∷ b)) - 1) passes
    ∙ ap (λ k. go (selecting Selected (strand_of a (l ∷ b) (some (record { subgoal_index = k; subgoal_table = j; answer_index = 0 })) t)
    f')) (last_place (literals b) (literal l))))))
