-- A turn done: with a strand, or where the top has none to go on with; a stop leaves everything as it is.
use Rattle.std.specs.Prelude.{ℕ, Bool, true, false, List}
use Rattle.strands.specs.declared.Answer.{Answer}
use Rattle.strands.specs.declared.Strand.{Strand}
use Rattle.control.specs.declared.decision.Decision.{Decision}
use Rattle.control.specs.declared.decision.Deed.{Deed}
use Rattle.control.specs.declared.decision.Deed.TheVariants as deed
use Rattle.control.specs.declared.ensure_root_answer.Next.{Next}
use Rattle.control.specs.declared.ensure_root_answer.Top.{Top}
use Rattle.control.specs.declared.on_no_strands_left.Idle.{Idle}
use Rattle.control.specs.declared.on_no_strands_left.Idle.TheVariants as idle
use Rattle.control.specs.declared.performed.Carried.{Carried}
use Rattle.control.specs.declared.performed.Flow.{Flow}
use Rattle.control.specs.declared.performed.Flow.TheVariants as flow
use Rattle.control.specs.declared.performed.Performed.{Performed}
use Rattle.control.specs.declared.select_subgoal.Made.{Made}
use Rattle.control.specs.MakeTables.{tables_of}
use Rattle.control.specs.PerformIdle.{idling, IdleDone, idle_done}
use Rattle.control.specs.PerformStrand.{Lent, lent_of, TurnDone, strand_performed}

-- `stays`
abbrev pub stays_as : Flow → (place : ℕ) → Strand → (seen : ℕ) → Answer → Carried → Performed
stays_as f place s seen a c = record {
  flow = f;
  copy_place = place;
  copy = s;
  place = place;
  strand = s;
  answer_place = seen;
  answer = a;
  count = c.count;
  depth = c.depth;
  clock = c.clock;
  used = c.used;
  answer_used = c.answer_used;
}

abbrev pub has_strand : Idle → Bool
has_strand idle.Nothing = true
has_strand idle.Finishes = false
has_strand idle.CallerFailed = false
has_strand idle.CallerProved = false
has_strand idle.ChangesMode = false
has_strand idle.NegativeCycle = false
has_strand idle.Clears = false
has_strand idle.PartOfCycle = false

abbrev pub stops : Deed → Bool
stops (deed.Stop n) = true
stops deed.GoesOn = false
stops deed.GivesUp = false
stops (deed.Cycles height) = false
stops (deed.Pushes table) = false
stops deed.Requeues = false
stops deed.Flounders = false
stops (deed.Answers empties) = false

abbrev pub stop_flow : Deed → Flow
stop_flow (deed.Stop n) = flow.Stop n
stop_flow deed.GoesOn = flow.Continue
stop_flow deed.GivesUp = flow.Continue
stop_flow (deed.Cycles height) = flow.Continue
stop_flow (deed.Pushes table) = flow.Continue
stop_flow deed.Requeues = flow.Continue
stop_flow deed.Flounders = flow.Continue
stop_flow (deed.Answers empties) = flow.Continue

-- a turn that leaves the stores so, and the strand and the answer where they were read
abbrev pub left_so : Flow → (place : ℕ) → Strand → (seen : ℕ) → Answer → Lent → TurnDone
left_so f place s seen a w = record {
  flow = f;
  copy_at = place;
  copy = s;
  strand_at = place;
  strand = s;
  answer_at = seen;
  answer = a;
  lent = w;
}

-- the stores, by what an act without a strand leaves
abbrev pub idle_left : Lent → IdleDone → Lent
idle_left w i = lent_of
    (tables_of w.tables.count w.tables.goal w.tables.coinductive w.tables.floundered i.left.complete) i.left.strands
    w.answers i.left.stack w.clock

-- THE MODEL of a turn: s is the strand that was read at this place, a the answer read at the place `seen`
module _ (goal_flags goal_first goal_len clause_variant clause_flags : List ℕ) (p : Next) (top : Top) (made : Made) (d : Decision)
    (place : ℕ) (s : Strand) (seen : ℕ) (a : Answer) where
  abbrev pub idle_in : Idle → Lent → IdleDone
  idle_in i w = idle_done top.table place s i (idling w.strands w.tables.complete w.stack)

  abbrev pub performed_by : (has_strand stops : Bool) → Idle → Lent → TurnDone
  performed_by true true i w = left_so (stop_flow d.deed) place s seen a w
  performed_by true false i w = strand_performed goal_flags goal_first goal_len clause_variant clause_flags p top made d seen w
  performed_by false stops i w = left_so (idle_in i w).flow place (idle_in i w).strand seen a (idle_left w (idle_in i w))

  abbrev pub performed : Idle → Lent → TurnDone
  performed i w = performed_by (has_strand i) (stops d.deed) i w
