-- The head of the loop of `ensure_root_answer`: the top of the stack, the strand that it goes on with, and that strand where its place is
-- fresh.
use Rattle.std.specs.Prelude.{ℕ, zero, suc, ◌-◌, Bool, true, false, List, eqb, ltb, get_or, set, replicate}
use Rattle.book.specs.Access.{literal_read}
use Rattle.book.specs.declared.Literal.{Literal}
use Rattle.sizes.specs.Limits.{most_clauses, most_entries, most_places}
use Rattle.rings.specs.Rings.{ring_of}
use Rattle.strands.specs.declared.Strand.{Strand}
use Rattle.strands.specs.Fields.{no_literal}
use Rattle.strands.specs.Making.{blank_strand, strand_of}
use Rattle.stores.specs.declared.queue.Spot.{Spot}
use Rattle.stores.specs.Numbers.{waits_fresh, flag_at}
use Rattle.stores.specs.Queue.{eligible, spot_from, is_found, place_found, before_found}
use Rattle.control.specs.declared.ensure_root_answer.Top.{Top}
use Rattle.control.specs.declared.ensure_root_answer.Next.{Next}

-- The top.

abbrev pub no_top : Top
no_top = record { depth = 0; table = 0; clock = 0; complete = false; active = most_places }

module _ (entry_table entry_clock active complete : List ℕ) (depth : ℕ) where
  abbrev pub topmost : Top
  topmost = record {
    depth = depth;
    table = get_or entry_table (depth - 1) 0;
    clock = get_or entry_clock (depth - 1) 0;
    complete = flag_at (get_or entry_table (depth - 1) 0) complete;
    active = get_or active (depth - 1) 0;
  }

  abbrev pub top_by : (empty deep : Bool) → Top
  top_by true deep = no_top
  top_by false true = no_top
  top_by false false = topmost

  abbrev pub top_of : Top
  top_of = top_by (eqb depth 0) (ltb most_entries depth)

-- The strand that it goes on with: the active one, or what the queue was looked along for.

abbrev pub next_by : (active : Bool) → (place : ℕ) → Spot → Next
next_by true place s = record { found = true; queued = false; place = place; before = 0 }
next_by false place s = record { found = is_found s; queued = true; place = place_found s; before = before_found s }

abbrev pub next_strand : (next tail len time ambiguous : List ℕ) → Top → Next
next_strand next tail len time ambiguous top =
    next_by (ltb top.active most_places) top.active
    (spot_from (eligible time ambiguous top.clock top.complete) (get_or tail top.table 0) (ring_of next tail len top.table))

-- The first strand of a clause.

-- the first n literals of clause c, in an array of eight
abbrev pub clause_literals : (literal_kind literal_goal literal_want : List ℕ) → (c n : ℕ) → List Literal
clause_literals literal_kind literal_goal literal_want c zero = replicate 8 no_literal
clause_literals literal_kind literal_goal literal_want c (suc n) =
    set (clause_literals literal_kind literal_goal literal_want c n) n (literal_read literal_kind literal_goal literal_want c n)

module _ (clause_variant clause_flags clause_len literal_kind literal_goal literal_want : List ℕ) where
  abbrev pub first_by : (can_be : Bool) → (c : ℕ) → Strand
  first_by true c =
      strand_of (get_or clause_variant c 0) (get_or clause_flags c 0) (clause_literals literal_kind literal_goal literal_want c 8)
      (get_or clause_len c 0)
  first_by false c = blank_strand

  abbrev pub first_strand : (c : ℕ) → Strand
  first_strand c = first_by (ltb c most_clauses) c

  abbrev pub in_hand_by : (fresh : Bool) → Strand → (c : ℕ) → Strand
  in_hand_by true s c = first_strand c
  in_hand_by false s c = s

  abbrev pub strand_in_hand : Strand → (w c : ℕ) → Strand
  strand_in_hand s w c = in_hand_by (eqb w waits_fresh) s c
