-- What a turn reads before it is decided: models over the numbers that are lent.
use Rattle.std.specs.Prelude.{ℕ, ◌-◌, List, get_or}
use Rattle.strands.specs.declared.Strand.{Strand}
use Rattle.stores.specs.Numbers.{free}
use Rattle.stores.specs.Stack.{caller_place}
use Rattle.control.specs.declared.ensure_root_answer.Next.{Next}
use Rattle.control.specs.declared.ensure_root_answer.Top.{Top}
use Rattle.control.specs.Choose.{choose}
use Rattle.control.specs.EnsureRootAnswer.{top_of, next_strand, strand_in_hand}
use Rattle.control.specs.OnNoStrandsLeft.{without_strand}
use Rattle.control.specs.TurnWrites.{place_by}
use Rattle.search.specs.declared.ensure_root_answer.Looked.{Looked}
use Rattle.search.specs.declared.ensure_root_answer.Picked.{Picked}

abbrev pub place_read : Next → (active : List ℕ) → (depth : ℕ) → ℕ
place_read p active depth = place_by p.found p.place (caller_place depth active)

-- `look`
abbrev pub looked_as : (waits wants : List ℕ) → Top → Next → (place : ℕ) → (positive negative active len : List ℕ) → Looked
looked_as waits wants top p place positive negative active len = record {
  top = top;
  next = p;
  idle = without_strand len waits positive negative active p top;
  place = place;
  waits = get_or waits place 0;
  wants = get_or wants place 0;
}

module _ (entry_table entry_clock positive negative active complete next tail len time ambiguous waits wants : List ℕ) (depth : ℕ) where
  abbrev pub top_now : Top
  top_now = top_of entry_table entry_clock active complete depth

  abbrev pub next_now : Next
  next_now = next_strand next tail len time ambiguous top_now

  abbrev pub looked : Looked
  looked = looked_as waits wants top_now next_now (place_read next_now active depth) positive negative active len

-- `pick`
module _ (len goal coinductive floundered entry_table answer_next answer_tail answer_len answer_variant answer_key : List ℕ)
    (goal_flags goal_len clause_variant clause_flags clause_len literal_kind literal_goal literal_want : List ℕ) (used count : ℕ) where
  abbrev pub picked_with : Looked → (hand : Strand) → Picked
  picked_with l hand = record {
    hand = hand;
    chosen = choose goal coinductive floundered count goal_flags goal_len entry_table answer_next answer_tail answer_len answer_variant
        answer_key l.top hand (used - get_or len free 0);
  }

  abbrev pub picked : Looked → Strand → Picked
  picked l s =
      picked_with l
      (strand_in_hand clause_variant clause_flags clause_len literal_kind literal_goal literal_want s l.waits l.wants)
