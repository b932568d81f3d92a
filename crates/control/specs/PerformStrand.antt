-- A turn with a strand, done: models over all that is lent, composed of those of its stages.
use Rattle.std.specs.Prelude.{ℕ, Bool, true, false, List}
use Rattle.book.specs.View.{meant}
use Rattle.definitions.specs.{TimeStamp}
use Rattle.strands.specs.declared.Answer.{Answer}
use Rattle.strands.specs.declared.Strand.{Strand}
use Rattle.strands.specs.View.{is_negative}
use Rattle.stores.specs.declared.places.Places.{Places}
use Rattle.stores.specs.declared.queue.Strands.{Strands}
use Rattle.stores.specs.declared.table.Answers.{Answers}
use Rattle.stores.specs.declared.tables.Tables.{Tables}
use Rattle.stores.specs.declared.stack.Stack.{Stack}
use Rattle.stores.specs.Queue.{with_places, enqueued_strand, freed_strands}
use Rattle.control.specs.declared.decision.Decision.{Decision}
use Rattle.control.specs.declared.ensure_root_answer.Next.{Next}
use Rattle.control.specs.declared.ensure_root_answer.Top.{Top}
use Rattle.control.specs.declared.performed.Flow.{Flow}
use Rattle.control.specs.declared.performed.Performed.{Performed}
use Rattle.control.specs.declared.create_refinement_strand.Left.{Left}
use Rattle.control.specs.declared.perform_strand.Settled.{Settled}
use Rattle.control.specs.declared.select_subgoal.Made.{Made}
use Rattle.control.specs.SelectSubgoal.{chosen, noted_count}
use Rattle.control.specs.CreateRefinementStrand.{strand_left}
use Rattle.control.specs.MakeTables.{tables_of, Tabling, tabling, tables_from}
use Rattle.control.specs.PerformDeed.{stack_of, new_place, left_rings, left_active, Moving, moving, Did, deed_done}
use Rattle.control.specs.PerformIdle.{noted}

-- WHAT IS LENT of the stores, with the strands and the answers that their owner has, and the clock
pub record Lent : Type 0 where
  pub tables : Tables
  pub strands : Strands
  pub answers : Answers
  pub stack : Stack
  pub clock : TimeStamp

abbrev pub lent_of : Tables → Strands → Answers → Stack → TimeStamp → Lent
lent_of ts s a k clock = record { tables = ts; strands = s; answers = a; stack = k; clock = clock }

-- `store_copy`: a place is taken, the copy's numbers are written there, and it is enqueued
abbrev pub copy_place : (copies : Bool) → (place : ℕ) → Places → ℕ
copy_place true place p = new_place p
copy_place false place p = place

abbrev pub copy_noted : (copies : Bool) → (t time : ℕ) → Strand → Strands → Strands
copy_noted true t time x s = enqueued_strand t (new_place s.places) (noted (new_place s.places) time x (freed_strands s))
copy_noted false t time x s = s

-- the copy and the strand, settled: their numbers are written
abbrev pub settled : Decision → Left → (t place : ℕ) → TimeStamp → Strands → Strands
settled d l t q time s = noted q l.time l.strand (copy_noted d.copies t time d.copy s)

abbrev pub settled_as : Decision → Left → (place : ℕ) → Places → Settled
settled_as d l q p = record { copy_place = copy_place d.copies q p; strand = l.strand; refines = l.refines }

-- WHAT A TURN LEAVES: how it ends, what the owner writes where, the copy first, and what is lent then
pub record TurnDone : Type 0 where
  pub flow : Flow
  pub copy_at : ℕ
  pub copy : Strand
  pub strand_at : ℕ
  pub strand : Strand
  pub answer_at : ℕ
  pub answer : Answer
  pub lent : Lent

abbrev pub turn_by : Performed → Tables → Strands → Answers → Stack → TurnDone
turn_by r ts s a k = record {
  flow = r.flow;
  copy_at = r.copy_place;
  copy = r.copy;
  strand_at = r.place;
  strand = r.strand;
  answer_at = r.answer_place;
  answer = r.answer;
  lent = lent_of ts s a k r.clock;
}

-- THE MODEL of a turn with a strand, over the book's numbers
module _ (goal_flags goal_first goal_len clause_variant clause_flags : List ℕ) (p : Next) (top : Top) (made : Made) (d : Decision)
    (seen : ℕ) where
  -- the strand left its origin, and the tables are made
  abbrev pub begun : Lent → Tabling
  begun w = tables_from goal_flags goal_first goal_len clause_variant clause_flags made.goals (noted_count made) 0
      (tabling w.tables (with_places w.strands (left_rings p.queued top.table p.before w.strands.places)))

  abbrev pub stands : Lent → Left
  stands w = strand_left d.deed w.stack.depth d.answer d.strand top.clock

  abbrev pub settled_in : Lent → Strands
  settled_in w = settled d (stands w) top.table p.place top.clock (begun w).strands

  abbrev pub left_stack : Stack → Stack
  left_stack k = stack_of k.depth k.table k.clock k.positive k.negative (left_active p.queued k.depth k.active)

  abbrev pub deed_in : Lent → Did
  deed_in w =
      deed_done (is_negative (meant (chosen d.strand))) (stands w).refines d.answer top.table p.place seen d.deed
      (moving (settled_in w).places (begun w).tables.floundered w.answers (left_stack w.stack) w.clock)

  abbrev pub tables_after : Tables → Moving → Tables
  tables_after ts m = tables_of ts.count ts.goal ts.coinductive m.floundered ts.complete

  abbrev pub lent_after : Lent → Lent
  lent_after w = lent_of (tables_after (begun w).tables (deed_in w).moved) (with_places (settled_in w) (deed_in w).moved.rings)
      (deed_in w).moved.answers (deed_in w).moved.stack (deed_in w).moved.clock

  abbrev pub strand_performed : Lent → TurnDone
  strand_performed w = record {
    flow = (deed_in w).flow;
    copy_at = copy_place d.copies p.place (begun w).strands.places;
    copy = d.copy;
    strand_at = p.place;
    strand = (stands w).strand;
    answer_at = (deed_in w).answer_at;
    answer = d.answer;
    lent = lent_after w;
  }
