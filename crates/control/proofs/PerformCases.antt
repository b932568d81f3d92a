-- `perform` at its tests' answers: what it calls, by the model of a turn. From the definitions alone.
use Prim.Native.Nat.{ℕ}
use mathlib.Core.Bool.{Bool, true, false}
use mathlib.Core.List.{List}
use mathlib.Core.Path.{◌≡◌, sym, ap, ap₂, ◌∙◌}
use Rattle.strands.specs.declared.Answer.{Answer}
use Rattle.strands.specs.declared.Strand.{Strand}
use Rattle.control.specs.declared.decision.Decision.{Decision}
use Rattle.control.specs.declared.ensure_root_answer.Next.{Next}
use Rattle.control.specs.declared.ensure_root_answer.Top.{Top}
use Rattle.control.specs.declared.on_no_strands_left.Idle.{Idle}
use Rattle.control.specs.declared.performed.Flow.{Flow}
use Rattle.control.specs.declared.select_subgoal.Made.{Made}
use Rattle.control.specs.PerformIdle.{IdleDone}
use Rattle.control.specs.PerformStrand.{Lent, TurnDone, strand_performed}
use Rattle.control.specs.Perform.{has_strand, stops, stop_flow, left_so, idle_left, idle_in, performed_by, performed}

module _ (gf first_of len_of_lem cv cf : List ℕ) (p : Next) (top : Top) (made : Made) (d : Decision) (place : ℕ) (s : Strand) (seen : ℕ)
    (a : Answer) (i : Idle) (w : Lent) (has : Bool) (is : has ≡ has_strand i) where
  -- by the two tests
  abbrev by : (has st : Bool) → TurnDone
  by h st = performed_by gf first_of len_of_lem cv cf p top made d place s seen a h st i w

  by_is : (b : Bool) → has ≡ b → (st c : Bool) → st ≡ stops d.deed → st ≡ c
      → by b c ≡ performed gf first_of len_of_lem cv cf p top made d place s seen a i w
  by_is b eb st c es ec = ap₂ by (sym eb ∙ is) (sym ec ∙ es)

  pub stop_is : has ≡ true → (st : Bool) → st ≡ stops d.deed → st ≡ true → (f : Flow) → f ≡ stop_flow d.deed
      → left_so f place s seen a w ≡ performed gf first_of len_of_lem cv cf p top made d place s seen a i w
  stop_is eb st es ec f ef = ap (λ (g : Flow). left_so g place s seen a w) ef ∙ by_is true eb st true es ec

  pub strand_is : has ≡ true → (st : Bool) → st ≡ stops d.deed → st ≡ false
      → (t : TurnDone) → t ≡ strand_performed gf first_of len_of_lem cv cf p top made d seen w
      → t ≡ performed gf first_of len_of_lem cv cf p top made d place s seen a i w
  strand_is eb st es ec t et = et ∙ by_is true eb st false es ec

  pub idle_is : has ≡ false → (j : IdleDone) → j ≡ idle_in gf first_of len_of_lem cv cf p top made d place s seen a i w
      → left_so j.flow place j.strand seen a (idle_left w j) ≡ performed gf first_of len_of_lem cv cf p top made d place s seen a i w
  idle_is eb j ej =
      ap (λ (k : IdleDone). left_so k.flow place k.strand seen a (idle_left w k)) ej
      ∙ ap (λ (b : Bool). by b (stops d.deed)) (sym eb ∙ is)
