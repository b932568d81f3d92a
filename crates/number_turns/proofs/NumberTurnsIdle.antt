-- A turn with no strand to go on with, where the top is part of a cycle: for sound stores the caller's strand, which waits on the top's
-- table, is written at its place. So it is written back where it was read, and the turn is what the numbers alone do.
use Prim.Native.Nat.{ℕ, suc, ◌-◌, ◌%◌}
use native.Mathlib.Nat.{mod-eq_of_lt}
use mathlib.Core.Bool.{Bool, true, false, true≢false}
use mathlib.Core.List.{List}
use mathlib.Core.Option.{Option}
use mathlib.Core.Path.{◌≡◌, refl, sym, ap, ◌∙◌}
use lib.ListN.{get_or, set}
use lib.Seq.{set-get_or}
use Rattle.definitions.specs.Strand as held
use Rattle.laws.proofs.Options.{no_such}
use Rattle.strands.specs.declared.Strand.{Strand}
use Rattle.stores.specs.Stack.{caller_place}
use Rattle.stores.specs.View.{strand_by, is_fresh, unread_strand}
use Rattle.control.specs.declared.on_no_strands_left.Idle.{Idle}
use Rattle.control.specs.declared.on_no_strands_left.Idle.TheVariants as idles
use Rattle.control.specs.InHand.{lent}
use Rattle.control.specs.Perform.{idle_left}
use Rattle.control.specs.PerformStrand.{Lent, lent_of, TurnDone}
use Rattle.control.specs.TurnWrites.{put, place_by, read_place, chosen}
use Rattle.control.specs.Stores.{Stores, first_strands, SoundStores}
use Rattle.control.specs.TurnReads.{top, next, hand_at, idle}
use Rattle.control.proofs.EffectBack.{with_list, hand_was, put_so}
use Rattle.control.proofs.EffectCaller.{caller_few, place_is}
use Rattle.control.proofs.EffectNoStrand.{left, done_is, not_found, root_known, caller_below}
use Rattle.control.proofs.OnNoStrandsLeft.{selected_is}
use Rattle.number_turns.specs.NumberTurn.{idle_move, moves, lent_moved}
use Rattle.number_turns.proofs.NumberTurnsBack.{Does}

module _ (root index first : ℕ) (z : Stores) (o : SoundStores root index first z) (n : ℕ) (d : z.stack.depth ≡ suc n) where
  -- THE CALLER, at height m: its place isn't fresh, since its strand has selected a literal
  module _ (m : ℕ) (below : n ≡ suc m) where
    abbrev q : ℕ
    q = get_or z.stack.active m 0

    abbrev selected_by : (unwritten : Bool) → Option held.SelectedSubgoal
    selected_by unwritten =
        (strand_by unwritten (get_or z.strands.time q 0) (first_strands z.book (get_or z.strands.wants q 0))
        (get_or z.strands.strands q unread_strand)).selected_subgoal

    written_by : (unwritten : Bool) → is_fresh z.strands q ≡ unwritten → is_fresh z.strands q ≡ false
    written_by true e = absurd (no_such (sym (ap selected_by e) ∙ selected_is root index first z o n d m below))
    written_by false e = e

    caller_back : hand_at z q ≡ get_or z.strands.strands q unread_strand
    caller_back = hand_was z q (written_by (is_fresh z.strands q) refl)

    read_is : (next z).found ≡ false → read_place z ≡ q
    read_is e =
        ap (λ (b : Bool). place_by b (next z).place (caller_place z.stack.depth z.stack.active)) e
        ∙ ap (λ (p : ℕ). p % 256) (place_is root index first z o n d m below)
        ∙ mod-eq_of_lt (caller_few root index first z o n d m below)

    strands_back : (next z).found ≡ false → set z.strands.strands (read_place z) (hand_at z (read_place z)) ≡ z.strands.strands
    strands_back e =
        ap (λ (p : ℕ). set z.strands.strands p (hand_at z p)) (read_is e)
        ∙ ap (set z.strands.strands q) caller_back
        ∙ set-get_or z.strands.strands q unread_strand

  rejoins : idle z ≡ idles.PartOfCycle → Does z (lent_moved (next z) (top z) (idle_move idles.PartOfCycle) (lent z))
  rejoins is =
      let i : Idle = idles.PartOfCycle in
      let w : Lent = idle_left (lent z) (left z i) in
      let below = caller_below root index first z o n d (root_known root index first z o n d i is refl) in
      record {
        flows = ap (λ (r : TurnDone). r.flow) (done_is z i is refl);
        leaves = ap put (done_is z i is refl)
            ∙ put_so (left z i).flow (read_place z) (left z i).strand (chosen z).place w
            ∙ ap (λ (l : List Strand). lent_of w.tables (with_list l w.strands) w.answers w.stack w.clock)
            (strands_back (n - 1) below (not_found root index first z o n d i is refl));
      }

  -- no other act is settled
  pub idle_does : (i : Idle) → idle z ≡ i → moves (idle_move i) ≡ true → Does z (lent_moved (next z) (top z) (idle_move i) (lent z))
  idle_does idles.Nothing is e = absurd (true≢false (sym e))
  idle_does idles.Finishes is e = absurd (true≢false (sym e))
  idle_does idles.CallerFailed is e = absurd (true≢false (sym e))
  idle_does idles.CallerProved is e = absurd (true≢false (sym e))
  idle_does idles.ChangesMode is e = absurd (true≢false (sym e))
  idle_does idles.NegativeCycle is e = absurd (true≢false (sym e))
  idle_does idles.Clears is e = absurd (true≢false (sym e))
  idle_does idles.PartOfCycle is e = rejoins is
