-- What the operations on the stack do, as functions on its arrays and on the record.
use Rattle.std.specs.Prelude.{ℕ, ◌-◌, Bool, not, ◌&&◌, List, get_or, replicate, eqb, ltb}
use Rattle.sizes.specs.Limits.{most_entries, most_places}
use Rattle.rings.specs.Rings.{place_if}
use Rattle.stores.specs.declared.stack.Stack.{Stack}
use Rattle.stores.specs.Numbers.{set_if, count_after, written_at, flag_at}

-- the stack has a caller, or a top
abbrev pub has_caller : ℕ → Bool
has_caller depth = not (ltb depth 2) && not (ltb most_entries depth)

abbrev pub has_top : ℕ → Bool
has_top depth = not (eqb depth 0) && not (ltb most_entries depth)

abbrev pub caller_place : ℕ → List ℕ → ℕ
caller_place depth active = place_if (has_caller depth) (get_or active (depth - 2) 0)

abbrev pub caller_written : ℕ → List ℕ → List ℕ
caller_written depth active = set_if (has_caller depth) (depth - 2) most_places active

abbrev pub top_written : (depth x : ℕ) → List ℕ → List ℕ
top_written depth x l = set_if (has_top depth) (depth - 1) x l

abbrev pub coinductive_at : (table coinductive : List ℕ) → ℕ → Bool
coinductive_at table coinductive i = flag_at (get_or table i 0) coinductive

-- THE MODELS on the record
abbrev pub pushed : (t time most : ℕ) → Stack → Stack
pushed t time most k = record {
  depth = count_after k.depth;
  table = written_at k.depth t k.table;
  clock = written_at k.depth time k.clock;
  positive = written_at k.depth most k.positive;
  negative = written_at k.depth most k.negative;
  active = written_at k.depth most_places k.active;
}

abbrev pub popped : Stack → Stack
popped k = record {
  depth = k.depth - 1;
  table = k.table;
  clock = k.clock;
  positive = k.positive;
  negative = k.negative;
  active = k.active;
}

-- the caller's strand is taken, and the top popped
abbrev pub caller_taken : Stack → Stack
caller_taken k = record {
  depth = k.depth - 1;
  table = k.table;
  clock = k.clock;
  positive = k.positive;
  negative = k.negative;
  active = caller_written k.depth k.active;
}

abbrev pub activated : (place : ℕ) → Stack → Stack
activated place k = record {
  depth = k.depth;
  table = k.table;
  clock = k.clock;
  positive = k.positive;
  negative = k.negative;
  active = top_written k.depth place k.active;
}

abbrev pub minimized : (positive negative : ℕ) → Stack → Stack
minimized positive negative k = record {
  depth = k.depth;
  table = k.table;
  clock = k.clock;
  positive = top_written k.depth positive k.positive;
  negative = top_written k.depth negative k.negative;
  active = k.active;
}

-- nothing is on the stack
abbrev pub blank_stack : Stack
blank_stack = record {
  depth = 0;
  table = replicate most_entries 0;
  clock = replicate most_entries 0;
  positive = replicate most_entries 0;
  negative = replicate most_entries 0;
  active = replicate most_entries most_places;
}
