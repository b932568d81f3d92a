-- What the operations on the strand store do, as functions on the record, and the numbers that stand beside a strand.
use Rattle.std.specs.Prelude.{
  ℕ,
  zero,
  suc,
  ◌+◌,
  ◌-◌,
  min,
  ◌≡◌,
  Bool,
  true,
  false,
  not,
  ◌&&◌,
  List,
  [],
  ◌∷◌,
  map,
  get_or,
  set,
  replicate,
  eqb,
  ltb,
}
use Rattle.std.specs.Prelude as code
use Rattle.std.specs.Option.{is_some, unwrap_or}
use Rattle.std.proofs.Math.Option.{Option, none, some}
use Rattle.std.proofs.Math.ListN.{get_elem?}
use Rattle.definitions.specs.Book as books
use Rattle.definitions.specs.Strand as held
use Rattle.book.specs.declared.Literal.{Literal}
use Rattle.sizes.specs.Limits.{most_clauses, most_literals, most_tables, most_places}
use Rattle.strands.specs.declared.Selected.TheVariants.{Nothing}
use Rattle.strands.specs.declared.Strand.{Strand}
use Rattle.strands.specs.View.{clause, selected, is_negative}
use Rattle.stores.specs.declared.places.Places.{Places}
use Rattle.stores.specs.declared.queue.Strands.{Strands}
use Rattle.stores.specs.declared.queue.Spot.{Spot}
use Rattle.stores.specs.Numbers.{waits_not, waits_nothing, waits_fresh, free, flag_number}
use Rattle.stores.specs.Places.{places, ring, enqueued, taken, taken_place, has_one, freed, free_place, moved_to, blank_places}
use Rattle.stores.specs.View.{FirstStrands, strand_at}

-- THE NUMBERS BESIDE A STRAND
-- a "not", and no positive literal
abbrev pub is_not : Option books.Literal → Bool
is_not none = false
is_not (some l) = is_negative l

-- a table, and its sign; nothing for a table that can't be
abbrev pub waits_on : (can_be negative : Bool) → (table : ℕ) → ℕ
waits_on true true t = t + waits_not
waits_on true false t = t
waits_on false negative t = waits_nothing

-- what the strand waits on: the table that it has selected, and the selected literal's sign; or nothing
abbrev pub waits_for : List books.Literal → Option held.SelectedSubgoal → ℕ
waits_for l none = waits_nothing
waits_for l (some w) = waits_on (ltb w.subgoal_table most_tables) (is_not (get_elem? l w.subgoal_index)) w.subgoal_table

abbrev pub waits_of : Strand → ℕ
waits_of x = waits_for (clause x).subgoals (selected x.selected)

-- the answer index that it has selected; 0 where nothing is selected
abbrev pub wants_for : Option held.SelectedSubgoal → ℕ
wants_for none = 0
wants_for (some w) = w.answer_index

abbrev pub wants_of : Strand → ℕ
wants_of x = wants_for (selected x.selected)

-- THE MODELS on the record
abbrev pub with_places : Strands → Places → Strands
with_places s p = record {
  strands = s.strands;
  time = s.time;
  ambiguous = s.ambiguous;
  variant = s.variant;
  waits = s.waits;
  wants = s.wants;
  places = p;
}

-- the strands of table t's queue
abbrev pub strands_of : FirstStrands → Strands → (t : ℕ) → List held.Strand
strands_of fresh s t = map (strand_at fresh s) (ring s.places t)

-- the numbers of a place are written, and these are the strands then
abbrev pub with_numbers : (q : ℕ) → List Strand → (time ambiguous variant waits wants : ℕ) → Strands → Strands
with_numbers q strands time ambiguous variant waits wants s = record {
  strands = strands;
  time = set s.time q time;
  ambiguous = set s.ambiguous q ambiguous;
  variant = set s.variant q variant;
  waits = set s.waits q waits;
  wants = set s.wants q wants;
  places = s.places;
}

-- a strand pursued at this time is written at a place, with its numbers beside it
abbrev pub written : (q time : ℕ) → Strand → Strands → Strands
written q time x s =
    with_numbers q (set s.strands q x) time (flag_number x.ambiguous) x.variant (waits_of x) (wants_of x) s

-- a place is fresh: it stands for the first strand of clause c, whose variant and flags these are, and nobody has pursued it
abbrev pub made_fresh : (q c variant flags : ℕ) → Strands → Strands
made_fresh q c variant flags s = with_numbers q s.strands 0 (flag_number (books.bit0 flags)) variant waits_fresh c s

-- `enqueue_strand`: the strand at a held place goes to the end of table t's queue
abbrev pub enqueued_strand : (t q : ℕ) → Strands → Strands
enqueued_strand t q s = with_places s (enqueued t q s.places)

-- a held place is free again
abbrev pub given : (q : ℕ) → Strands → Strands
given q s = enqueued_strand free q s

-- what SLG calls eligible: pursued before the clock's time and, where the table wants complete answers, not ambiguous (logic.rs
-- `ensure_root_answer`)
abbrev pub eligible_at : (time ambiguous clock : ℕ) → (complete : Bool) → Bool
eligible_at time ambiguous clock complete = ltb time clock && not (complete && not (eqb ambiguous 0))

abbrev pub eligible : (time ambiguous : List ℕ) → (clock : ℕ) → (complete : Bool) → ℕ → Bool
eligible time ambiguous clock complete p = eligible_at (get_or time p 0) (get_or ambiguous p 0) clock complete

-- `find_strand`: the first of a list of places that passes the test, and the place before it, where a is before the list; where none
-- passes, `before` is the last of the list, or a where it is empty
abbrev pub spot_if : Bool → (a x : ℕ) → Spot → Spot
spot_if true a x s = record { before = a; place = code.Some x }
spot_if false a x s = s

abbrev pub spot_from : (ℕ → Bool) → ℕ → List ℕ → Spot
spot_from test a [] = record { before = a; place = code.None }
spot_from test a (x ∷ l) = spot_if (test x) a x (spot_from test x l)

-- whether a place was found, which, 0 where none was, and the place before it or the last one looked at
abbrev pub is_found : Spot → Bool
is_found s = is_some s.place

abbrev pub place_found : Spot → ℕ
place_found s = unwrap_or s.place 0

abbrev pub before_found : Spot → ℕ
before_found s = s.before

-- `take_strand`: what it gives, and what it leaves, wherever the places that were never used begin
pub record TookStrand (test : ℕ → Bool) (t : ℕ) (next tail len next' tail' len' : List ℕ) (r : ℕ) : Type 0 where
  pub is : r ≡ taken_place test t (places next tail len 0)
  pub left : (top : ℕ) → places next' tail' len' top ≡ taken test t (places next tail len top)

-- the test of `find_strand`
abbrev pub test_at : (clock : ℕ) → (complete : Bool) → Strands → ℕ → Bool
test_at clock complete s q = eligible s.time s.ambiguous clock complete q

-- `dequeue_next_strand_that`: the first eligible strand of table t is held
abbrev pub taken_strand : (clock : ℕ) → (complete : Bool) → (t : ℕ) → Strands → Strands
taken_strand clock complete t s = with_places s (taken (test_at clock complete s) t s.places)

-- its place, or none
abbrev pub strand_place : (clock : ℕ) → (complete : Bool) → (t : ℕ) → Strands → ℕ
strand_place clock complete t s = taken_place (test_at clock complete s) t s.places

abbrev pub any_strand : (clock : ℕ) → (complete : Bool) → (t : ℕ) → Strands → Bool
any_strand clock complete t s = has_one (test_at clock complete s) t s.places

-- `take_strands`: the queue's places are free
abbrev pub cleared : (t : ℕ) → Strands → Strands
cleared t s = with_places s (moved_to t free s.places)

-- a place is taken for a new strand
abbrev pub freed_strands : Strands → Strands
freed_strands s = with_places s (freed s.places)

-- A NEW STRAND in table t's queue: a place is taken, written and enqueued. The copy for the next answer keeps the strand's time, a
-- refinement strand has 0.
abbrev pub stored : (t time : ℕ) → Strand → Strands → Strands
stored t time x s = enqueued_strand t (free_place s.places) (written (free_place s.places) time x (freed_strands s))

-- A FRESH PLACE in table t's queue: a place is taken, its numbers are written and it is enqueued; nothing is written where none is free
abbrev pub fresh_if : (room : Bool) → (t c variant flags : ℕ) → Strands → Strands
fresh_if true t c variant flags s =
    enqueued_strand t (free_place s.places) (made_fresh (free_place s.places) c variant flags (freed_strands s))
fresh_if false t c variant flags s = freed_strands s

abbrev pub fresh_stored : (t c variant flags : ℕ) → Strands → Strands
fresh_stored t c variant flags s = fresh_if (ltb (free_place s.places) most_places) t c variant flags s

-- as many of the clauses from one on as a book can have
abbrev pub clauses_from : (first count : ℕ) → ℕ
clauses_from first count = min count (most_clauses - first)

-- `fresh_places`: the places of a new table, as many as are left, from clause c on; the lists are the clauses' variants and flags
abbrev pub fresh_each : (variants flags : List ℕ) → (t left c : ℕ) → Strands → Strands
fresh_each variants flags t zero c s = s
fresh_each variants flags t (suc left) c s =
    fresh_each variants flags t left (suc c) (fresh_stored t c (get_or variants c 0) (get_or flags c 0) s)

-- the store by its strands, the numbers beside them and its places
abbrev pub store : List Strand → (time ambiguous variant waits wants : List ℕ) → Places → Strands
store strands time ambiguous variant waits wants p = record {
  strands = strands;
  time = time;
  ambiguous = ambiguous;
  variant = variant;
  waits = waits;
  wants = wants;
  places = p;
}

-- what a function on the numbers alone does, whatever strands stand beside them
abbrev pub Does : (model : Strands → Strands) → (before after : List Strand → Strands) → Type 0
Does model before after = (strands : List Strand) → after strands ≡ model (before strands)

-- BLANK: all zero, with nothing selected
abbrev pub blank_literal : Literal
blank_literal = record { goal = 0; kind = 0; want = 0; high = 0 }

abbrev pub blank_strand : Strand
blank_strand = record {
  variant = 0;
  outsized = false;
  ambiguous = false;
  answer_time = 0;
  literal_count = 0;
  floundered_count = 0;
  delayed_count = 0;
  literals = replicate most_literals blank_literal;
  floundered = replicate most_literals blank_literal;
  floundered_time = replicate most_literals 0;
  delayed = replicate most_literals 0;
  selected = Nothing;
}

abbrev pub blank_strands : Strands
blank_strands = record {
  strands = replicate most_places blank_strand;
  time = replicate most_places 0;
  ambiguous = replicate most_places 0;
  variant = replicate most_places 0;
  waits = replicate most_places waits_nothing;
  wants = replicate most_places 0;
  places = blank_places;
}
