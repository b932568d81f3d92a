-- What a cycle makes of the minimums of the entry on top, and what `on_positive_cycle` leaves.
use Rattle.std.specs.Prelude.{ℕ, ◌-◌, ◌≡◌, Bool, true, false, List, get_or, ltb}
use Rattle.definitions.specs.{TimeStamp, MAX, Minimums, take_minimums, minimum_of_pos_and_neg}
use Rattle.stores.specs.declared.stack.Stack.{Stack}
use Rattle.stores.specs.Numbers.{number_if}
use Rattle.stores.specs.Stack.{top_written, minimized}

abbrev pub minimums_at : (positive negative : TimeStamp) → Minimums
minimums_at p n = record { positive = p; negative = n }

-- the clock of the entry at a height; 0 where no entry can be
abbrev pub clock_at : List ℕ → (height : ℕ) → TimeStamp
clock_at clock h = number_if (ltb h 64) (get_or clock h 0)

-- the minimums of a cycle that ends at the entry at a height
abbrev pub met_at : List ℕ → (height : ℕ) → Minimums
met_at clock h = minimums_at (clock_at clock h) MAX

-- `cycle_minimums` of the definitions, by the literal's sign
abbrev pub cycle_by : (not : Bool) → (was m : Minimums) → (clock : TimeStamp) → Minimums
cycle_by true was m clock = take_minimums was (minimums_at clock (minimum_of_pos_and_neg m))
cycle_by false was m clock = take_minimums was m

-- of the entry on top
abbrev pub top_cycled : (not : Bool) → Minimums → (clock positive negative : List ℕ) → (depth : ℕ) → Minimums
top_cycled not m clock positive negative depth =
    cycle_by not (minimums_at (get_or positive (depth - 1) 0) (get_or negative (depth - 1) 0)) m (get_or clock (depth - 1) 0)

-- what is left of the two arrays where the top has these minimums
abbrev pub Minimized : Minimums → (depth : ℕ) → (positive negative positive' negative' : List ℕ) → Type 0
Minimized m depth positive negative positive' negative' =
    (positive' ≡ top_written depth m.positive positive) × (negative' ≡ top_written depth m.negative negative)

-- THE MODEL on the stack
abbrev pub cycled : (not : Bool) → Minimums → Stack → Stack
cycled not m k =
    let r : Minimums = top_cycled not m k.clock k.positive k.negative k.depth in
    minimized r.positive r.negative k
