-- What belongs to no store: flags as numbers, a write or none, and the first of some numbers that passes a test.
use Rattle.std.specs.Prelude.{ℕ, zero, suc, ◌+◌, min, Bool, true, false, not, ◌&&◌, List, get_or, set, eqb, ltb, Option, Some, None}
use Rattle.sizes.specs.Limits.{most_tables}

-- what a strand waits on is a table, raised by this for a "not", or nothing
abbrev pub waits_not : ℕ
waits_not = most_tables

abbrev pub waits_nothing : ℕ
waits_nothing = 255

-- or the place is fresh: its strand is not written yet
abbrev pub waits_fresh : ℕ
waits_fresh = 254

-- the ring of the free places: the first that is no table's
abbrev pub free : ℕ
free = most_tables

abbrev pub flag : ℕ → Bool
flag n = not (eqb n 0)

abbrev pub flag_number : Bool → ℕ
flag_number true = 1
flag_number false = 0

module _ {A : Type 0} where
  -- a write, or none
  abbrev pub set_if : Bool → ℕ → A → List A → List A
  set_if true i x l = set l i x
  set_if false i x l = l

abbrev pub add_if : Bool → ℕ → ℕ
add_if true n = n + 1
add_if false n = n

-- a number, or 0
abbrev pub number_if : Bool → ℕ → ℕ
number_if true n = n
number_if false n = 0

-- one more, where there is room
abbrev pub count_after : ℕ → ℕ
count_after n = add_if (ltb n most_tables) n

-- a write at an index, where there is one
abbrev pub written_at : (i x : ℕ) → List ℕ → List ℕ
written_at i x l = set_if (ltb i most_tables) i x l

abbrev pub within : ℕ → ℕ
within n = min n most_tables

-- the first of n numbers from i on that passes the test; i + n where none does
abbrev pub first_at : (ℕ → Bool) → (i n : ℕ) → ℕ
first_at test i zero = i
first_at test i (suc n) = elim (test i) [ true ↦ i | false ↦ first_at test (suc i) n ]

-- an index below n, or none
abbrev pub found_if : Bool → (i : ℕ) → Option ℕ
found_if true i = Some i
found_if false i = None

abbrev pub found_below : (n i : ℕ) → Option ℕ
found_below n i = found_if (ltb i n) i

-- n numbers from i on pass the test
abbrev pub all_from : (ℕ → Bool) → (i n : ℕ) → Bool
all_from test i zero = true
all_from test i (suc n) = test i && all_from test (suc i) n

-- the flag of table t in a list of flags
abbrev pub flag_at : (t : ℕ) → List ℕ → Bool
flag_at t l = ltb t most_tables && flag (get_or l t 0)
