-- What a turn does where the top has no strand to go on with, by numbers alone.
use Rattle.std.specs.Prelude.{ℕ, ◌*◌, ◌-◌, Bool, true, false, List, eqb, ltb, get_or}
use Rattle.definitions.specs.{TimeStamp, MAX}
use Rattle.sizes.specs.Limits.{most_entries, most_places}
use Rattle.stores.specs.Numbers.{waits_not}
use Rattle.stores.specs.Stack.{caller_place}
use Rattle.control.specs.declared.ensure_root_answer.Next.{Next}
use Rattle.control.specs.declared.ensure_root_answer.Top.{Top}
use Rattle.control.specs.declared.on_no_strands_left.Idle.{Idle}
use Rattle.control.specs.declared.on_no_strands_left.Idle.TheVariants.{Nothing, Finishes, CallerFailed, CallerProved, ChangesMode}
use Rattle.control.specs.declared.on_no_strands_left.Idle.TheVariants.{NegativeCycle, Clears, PartOfCycle}

-- The number beside a strand is that of a table, raised for a "not".

abbrev pub waits_on_not_by : (positive : Bool) → (w : ℕ) → Bool
waits_on_not_by true w = false
waits_on_not_by false w = ltb w (2 * waits_not)

abbrev pub waits_on_not : (w : ℕ) → Bool
waits_on_not w = waits_on_not_by (ltb w waits_not) w

abbrev pub caller_by : (has_strand : Bool) → (w : ℕ) → Bool
caller_by true w = waits_on_not w
caller_by false w = false

abbrev pub caller_waits_on_not : (waits active : List ℕ) → (depth : ℕ) → Bool
caller_waits_on_not waits active depth = caller_by (ltb (caller_place depth active) most_places) (get_or waits (caller_place depth active) 0)

-- The queue is empty.

abbrev pub no_strands_by : (root negative : Bool) → Idle
no_strands_by true negative = Finishes
no_strands_by false true = CallerProved
no_strands_by false false = CallerFailed

abbrev pub no_strands : (waits active : List ℕ) → (depth : ℕ) → Idle
no_strands waits active depth = no_strands_by (ltb depth 2) (caller_waits_on_not waits active depth)

-- Every strand of the queue has met a cycle.

abbrev pub minimum_by : (empty deep : Bool) → TimeStamp → TimeStamp
minimum_by true deep time = 0
minimum_by false true time = 0
minimum_by false false time = time

abbrev pub minimum_at : List ℕ → (depth : ℕ) → TimeStamp
minimum_at minimum depth = minimum_by (eqb depth 0) (ltb most_entries depth) (get_or minimum (depth - 1) 0)

abbrev pub part_by : (root : Bool) → Idle
part_by true = Finishes
part_by false = PartOfCycle

abbrev pub part_of_cycle : (depth : ℕ) → Idle
part_of_cycle depth = part_by (ltb depth 2)

abbrev pub head_by : (negative : Bool) → Idle
head_by true = NegativeCycle
head_by false = Clears

abbrev pub head_of_cycle : (negative : TimeStamp) → Idle
head_of_cycle negative = head_by (ltb negative MAX)

abbrev pub cycle_by : (positive_before negative_before : Bool) → (negative : TimeStamp) → (depth : ℕ) → Idle
cycle_by true negative_before negative depth = part_of_cycle depth
cycle_by false true negative depth = part_of_cycle depth
cycle_by false false negative depth = head_of_cycle negative

abbrev pub cycle : (clock positive negative : TimeStamp) → (depth : ℕ) → Idle
cycle clock positive negative depth = cycle_by (ltb positive clock) (ltb negative clock) negative depth

-- `on_no_strands_left`, over the numbers that are lent
module _ (len waits positive negative active : List ℕ) where
  abbrev pub left_by : (empty complete : Bool) → Top → Idle
  left_by true complete top = no_strands waits active top.depth
  left_by false true top = ChangesMode
  left_by false false top = cycle top.clock (minimum_at positive top.depth) (minimum_at negative top.depth) top.depth

  abbrev pub no_strands_left : Top → Idle
  no_strands_left top = left_by (eqb (get_or len top.table 0) 0) top.complete top

  abbrev pub without_by : (found : Bool) → Top → Idle
  without_by true top = Nothing
  without_by false top = no_strands_left top

  abbrev pub without_strand : Next → Top → Idle
  without_strand next top = without_by next.found top
