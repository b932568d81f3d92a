-- What is done where the top has no strand to go on with: models over what such an act changes, composed of those of the stores.
use Rattle.std.specs.Prelude.{ℕ, ◌-◌, Bool, true, false, List, get_or, ltb}
use Rattle.strands.specs.declared.Strand.{Strand}
use Rattle.strands.specs.declared.Selected.TheVariants as selection
use Rattle.strands.specs.Fields.{with_selected}
use Rattle.strands.specs.Literals.{last_removed}
use Rattle.stores.specs.declared.places.Places.{Places}
use Rattle.stores.specs.declared.queue.Strands.{Strands}
use Rattle.stores.specs.declared.stack.Stack.{Stack}
use Rattle.stores.specs.Numbers.{free, within, written_at, flag_number}
use Rattle.stores.specs.Queue.{waits_of, wants_of, with_places, with_numbers}
use Rattle.stores.specs.Stack.{caller_place, popped, caller_taken}
use Rattle.control.specs.declared.clear_strands_after_cycle.Cleared.{Cleared}
use Rattle.control.specs.declared.on_no_strands_left.Idle.{Idle}
use Rattle.control.specs.declared.on_no_strands_left.Idle.TheVariants as idle
use Rattle.control.specs.declared.performed.Flow.{Flow}
use Rattle.control.specs.declared.performed.Flow.TheVariants as flow
use Rattle.control.specs.declared.perform_idle.Idled.{Idled}
use Rattle.control.specs.ClearStrandsAfterCycle.{clear, cleared, rings_in}
use Rattle.control.specs.OnNoStrandsLeft.{caller_waits_on_not, minimum_at}
use Rattle.control.specs.OnPositiveCycle.{minimums_at, cycled}
use Rattle.control.specs.UnwindStack.{enqueued_back, all_back}
use Rattle.control.specs.PerformDeed.{stack_of, bare}

-- `fail_caller`
abbrev pub caller_failed : (table active : List ℕ) → (depth : ℕ) → Places → Places
caller_failed table active depth p =
    all_back table active (within (depth - 1 - 1)) (enqueued_back free (caller_place depth active) p)

-- the numbers of a strand at a place; the strand itself is written by its owner
abbrev pub noted : (q time : ℕ) → Strand → Strands → Strands
noted q time x s = with_numbers q s.strands time (flag_number x.ambiguous) x.variant (waits_of x) (wants_of x) s

-- `prove_caller`: the caller's strand without the "not" that is proved
abbrev pub proved : Strand → Strand
proved s = last_removed (with_selected s selection.Nothing)

abbrev pub caller_proved : (q : ℕ) → Strand → Strands → Strands
caller_proved q x s = noted q (get_or s.time q 0) (proved x) s

-- `clear_cycle`: nothing is done where a strand has nothing selected (29)
abbrev pub cleared_by : (met : Bool) → (table active : List ℕ) → (depth : ℕ) → (was emptied : Places) → Places
cleared_by true table active depth was emptied = was
cleared_by false table active depth was emptied = all_back table active (within (depth - 1)) emptied

abbrev pub clearing : (waits : List ℕ) → (t : ℕ) → Places → Cleared
clearing waits t p = clear waits t (cleared false p.next p.tail p.len)

abbrev pub cycle_cleared : (waits table active : List ℕ) → (t depth : ℕ) → Places → Places
cycle_cleared waits table active t depth p =
    cleared_by (clearing waits t p).met_29 table active depth p (rings_in p.top (clearing waits t p))

abbrev pub clearing_flow : (met : Bool) → Flow
clearing_flow true = flow.Stop 29
clearing_flow false = flow.QuantumExceeded

abbrev pub clearing_depth : (met : Bool) → (depth : ℕ) → ℕ
clearing_depth true depth = depth
clearing_depth false depth = 0

-- `rejoin_cycle`: the caller's strand goes back to its table's queue
abbrev pub table_by : (root deep : Bool) → (t : ℕ) → ℕ
table_by true deep t = free
table_by false true t = free
table_by false false t = t

abbrev pub caller_table : (depth : ℕ) → List ℕ → ℕ
caller_table depth table = table_by (ltb depth 2) (ltb 64 depth) (get_or table (depth - 2) 0)

abbrev pub rejoined : (table active : List ℕ) → (depth : ℕ) → Places → Places
rejoined table active depth p = enqueued_back (caller_table depth table) (caller_place depth active) p

-- WHAT SUCH AN ACT CHANGES
pub record Idling : Type 0 where
  pub strands : Strands
  pub complete : List ℕ
  pub stack : Stack

abbrev pub idling : Strands → (complete : List ℕ) → Stack → Idling
idling s complete k = record { strands = s; complete = complete; stack = k }

-- HOW IT ENDS: the flow, and the caller's strand
pub record IdleDone : Type 0 where
  pub flow : Flow
  pub strand : Strand
  pub left : Idling

abbrev pub idled : Flow → Strand → Idling → IdleDone
idled f x m = record { flow = f; strand = x; left = m }

-- with the rings of the strands changed so, and the search over
abbrev pub over : (Places → Places) → Idling → Idling
over change m = idling (with_places m.strands (change m.strands.places)) m.complete (bare m.stack)

abbrev pub with_depth : Stack → (depth : ℕ) → Stack
with_depth k depth = stack_of depth k.table k.clock k.positive k.negative k.active

-- THE MODEL of an act of the top's table t: x is the caller's strand, at this place
module _ (t place : ℕ) (x : Strand) where
  abbrev pub idle_done : Idle → Idling → IdleDone
  idle_done idle.Nothing m = idled flow.Continue x m
  idle_done idle.Finishes m = idled flow.NoMoreSolutions x (over (λ p. p) m)
  idle_done idle.CallerFailed m =
      idled flow.QuantumExceeded x (over (caller_failed m.stack.table m.stack.active m.stack.depth) m)
  idle_done idle.CallerProved m =
      idled flow.Continue (proved x) (idling (caller_proved place x m.strands) m.complete (popped m.stack))
  idle_done idle.ChangesMode m = idled flow.QuantumExceeded x (idling m.strands (written_at t 0 m.complete) m.stack)
  idle_done idle.NegativeCycle m =
      idled flow.NegativeCycle x (over (all_back m.stack.table m.stack.active (within (m.stack.depth - 1))) m)
  idle_done idle.Clears m =
      let met : Bool = (clearing m.strands.waits t m.strands.places).met_29 in
      idled (clearing_flow met) x (idling
      (with_places m.strands
      (cycle_cleared m.strands.waits m.stack.table m.stack.active t m.stack.depth m.strands.places))
      m.complete (with_depth m.stack (clearing_depth met m.stack.depth)))
  idle_done idle.PartOfCycle m =
      idled flow.Continue x (idling
      (with_places m.strands (rejoined m.stack.table m.stack.active m.stack.depth m.strands.places))
      m.complete
      (cycled (caller_waits_on_not m.strands.waits m.stack.active m.stack.depth)
      (minimums_at (minimum_at m.stack.positive m.stack.depth) (minimum_at m.stack.negative m.stack.depth))
      (caller_taken m.stack)))

-- what the code tells of it
abbrev pub idled_by : Idled → Strands → (complete : List ℕ) → Stack → IdleDone
idled_by r s complete k = idled r.flow r.strand (idling s complete k)
