-- What a turn leaves at the strand's place: a refinement strand where the root has its answer.
use Rattle.std.specs.Prelude.{ℕ, Bool, true, false, ltb, Option, Some, None}
use Rattle.definitions.specs.{TimeStamp}
use Rattle.strands.specs.declared.Answer.{Answer}
use Rattle.strands.specs.declared.Strand.{Strand}
use Rattle.strands.specs.Making.{refine}
use Rattle.control.specs.declared.create_refinement_strand.Left.{Left}
use Rattle.control.specs.declared.decision.Deed.{Deed}
use Rattle.control.specs.declared.decision.Deed.TheVariants.{Stop, GoesOn, GivesUp, Cycles, Pushes, Requeues, Flounders, Answers}

abbrev pub left : Strand → TimeStamp → (refines : Bool) → Left
left s time refines = record { strand = s; time = time; refines = refines }

abbrev pub answer_left_by : (root : Bool) → (refinement : Option Strand) → (s : Strand) → TimeStamp → Left
answer_left_by false r s time = left s time false
answer_left_by true (Some f) s time = left f 0 true
answer_left_by true None s time = left s time false

abbrev pub answer_left : (depth : ℕ) → Answer → Strand → TimeStamp → Left
answer_left depth x s time = answer_left_by (ltb depth 2) (refine x) s time

abbrev pub gives_answer : Deed → Bool
gives_answer (Stop n) = false
gives_answer GoesOn = false
gives_answer GivesUp = false
gives_answer (Cycles height) = false
gives_answer (Pushes table) = false
gives_answer Requeues = false
gives_answer Flounders = false
gives_answer (Answers empties) = true

abbrev pub strand_left_by : (gives : Bool) → (depth : ℕ) → Answer → Strand → TimeStamp → Left
strand_left_by true depth x s time = answer_left depth x s time
strand_left_by false depth x s time = left s time false

abbrev pub strand_left : Deed → (depth : ℕ) → Answer → Strand → TimeStamp → Left
strand_left deed depth x s time = strand_left_by (gives_answer deed) depth x s time
