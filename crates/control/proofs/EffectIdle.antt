-- A turn with no strand to go on with, done, for sound stores: whichever act it is, it leaves what crate `small_steps` says, and sound
-- stores.
use Prim.Native.Nat.{ℕ, suc}
use mathlib.Core.Bool.{false, true≢false}
use mathlib.Core.Path.{◌≡◌}
use Rattle.control.specs.declared.on_no_strands_left.Idle.{Idle}
use Rattle.control.specs.declared.on_no_strands_left.Idle.TheVariants as idles
use Rattle.control.specs.Perform.{has_strand}
use Rattle.control.specs.TurnWrites.{Performs}
use Rattle.control.specs.Stores.{Stores, SoundStores}
use Rattle.control.specs.TurnReads.{idle}
use Rattle.control.proofs.EffectCaller.{caller_failed_performs}
use Rattle.control.proofs.EffectCallerStrand.{caller_proved_performs, part_of_cycle_performs}
use Rattle.control.proofs.EffectClears.{clear_performs}
use Rattle.control.proofs.EffectNoStrand.{mode_performs, negative_performs, finish_performs}

module _ (root index first : ℕ) (z : Stores) (o : SoundStores root index first z) (n : ℕ) (d : z.stack.depth ≡ suc n) where
  pub idle_performs : (i : Idle) → idle z ≡ i → has_strand i ≡ false → Performs z
  idle_performs idles.Nothing is none = absurd (true≢false none)
  idle_performs idles.Finishes is none = finish_performs root index first z o n d is
  idle_performs idles.CallerFailed is none = caller_failed_performs root index first z o n d is
  idle_performs idles.CallerProved is none = caller_proved_performs root index first z o n d is
  idle_performs idles.ChangesMode is none = mode_performs root index first z o n d is
  idle_performs idles.NegativeCycle is none = negative_performs root index first z o n d is
  idle_performs idles.Clears is none = clear_performs root index first z o n d is
  idle_performs idles.PartOfCycle is none = part_of_cycle_performs root index first z o n d is
