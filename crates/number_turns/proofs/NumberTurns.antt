-- A TURN BY NUMBERS IS THE TURN: for sound stores, where the numbers beside the strands settle a turn, the turn with the strand read goes
-- on, and what its owner's writes leave is what the numbers alone do. From NumberTurnsStrand and NumberTurnsIdle.
use Prim.Native.Nat.{ℕ, zero, suc}
use mathlib.Core.Bool.{Bool, true, false}
use mathlib.Core.Path.{◌≡◌, refl, ap}
use lib.Dec.{leb}
use Rattle.control.specs.declared.on_no_strands_left.Idle.{Idle}
use Rattle.control.specs.declared.performed.Flow.TheVariants as ways
use Rattle.control.specs.InHand.{lent}
use Rattle.control.specs.OnNoStrandsLeft.{no_strands_left, without_by}
use Rattle.control.specs.TurnWrites.{put, turn_done}
use Rattle.control.specs.Stores.{Stores, SoundStores}
use Rattle.control.specs.TurnReads.{top, next}
use Rattle.control.proofs.TurnReads.{never_empty}
use Rattle.number_turns.specs.NumberTurn.{idle_move, move_by, moves, lent_moved, number_turn}
use Rattle.number_turns.proofs.NumberTurnsBack.{Does}
use Rattle.number_turns.proofs.NumberTurnsIdle.{idle_does}
use Rattle.number_turns.proofs.NumberTurnsStrand.{move_with, strand_does}

module _ (root index first : ℕ) (z : Stores) (o : SoundStores root index first z) where
  abbrev late : Bool
  late = leb z.clock_limit z.clock

  -- what is done without a strand
  abbrev idles : Idle
  idles =
      no_strands_left z.strands.places.len z.strands.waits z.stack.positive z.stack.negative z.stack.active (top z)

  by_found : (n : ℕ) → z.stack.depth ≡ suc n → (found : Bool) → (next z).found ≡ found
      → moves (move_by found (move_with z) (idle_move idles)) ≡ true
      → Does z (lent_moved (next z) (top z) (move_by found (move_with z) (idle_move idles)) (lent z))
  by_found n d true is = strand_does root index first z o n d is
  by_found n d false is =
      idle_does root index first z o n d idles
      (ap (λ (b : Bool). without_by z.strands.places.len z.strands.waits z.stack.positive z.stack.negative
      z.stack.active b (top z)) is)

  by_depth : (m : ℕ) → z.stack.depth ≡ m → (number_turn late (lent z)).settled ≡ true → Does z (number_turn late (lent z)).lent
  by_depth zero d = absurd (never_empty root index first z o d)
  by_depth (suc n) d = by_found n d (next z).found refl

  does : (number_turn late (lent z)).settled ≡ true → Does z (number_turn late (lent z)).lent
  does = by_depth z.stack.depth refl

  -- the turn goes on
  pub number_turn_flows : (number_turn (leb z.clock_limit z.clock) (lent z)).settled ≡ true → (turn_done z).flow ≡ ways.Continue
  number_turn_flows settled = (does settled).flows

  -- and leaves what the numbers do
  pub number_turn_is : (number_turn (leb z.clock_limit z.clock) (lent z)).settled ≡ true
      → put (turn_done z) ≡ (number_turn (leb z.clock_limit z.clock) (lent z)).lent
  number_turn_is settled = (does settled).leaves
