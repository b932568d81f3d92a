-- What is known of the caller where the top has no strand to go on with, for sound stores; and the act where the caller failed, done.
use Prim.Native.Nat.{ℕ, suc, ◌-◌, ◌<◌}
use native.Mathlib.Omega.{arith}
use mathlib.Core.Bool.{Bool, true, false}
use mathlib.Core.List.{List, [], ◌∷◌}
use mathlib.Core.Path.{◌≡◌, refl, sym, ap, ap₂, subst, ◌∙◌}
use lib.ListN.{get_or}
use borrow.Author.Tests.{lt-ltb, ne_eqb}
use Rattle.definitions.specs.Logic as logic
use Rattle.definitions.specs.Logic.{SolveState}
use Rattle.definitions.specs.Stop.{go}
use Rattle.definitions.specs.Tables.{Forest}
use Rattle.small_steps.specs.Acts as splits
use Rattle.stores.specs.declared.places.Places.{Places}
use Rattle.stores.specs.declared.queue.Strands.{Strands}
use Rattle.stores.specs.Numbers.{free, within}
use Rattle.stores.specs.Places.{enqueued}
use Rattle.stores.specs.Queue.{given}
use Rattle.stores.specs.Sound.{SoundStrands}
use Rattle.stores.specs.Stack.{caller_place}
use Rattle.stores.specs.View.{FirstStrands, active_places}
use Rattle.stores.proofs.QueueSound.{given_strand_sound}
use Rattle.stores.proofs.QueueViews.{given_view}
use Rattle.stores.proofs.StackCallers.{caller_place_is, pop_places}
use Rattle.control.specs.declared.on_no_strands_left.Idle.TheVariants as idles
use Rattle.control.specs.InHand.{with_strands, Sounds, state_above}
use Rattle.control.specs.PerformIdle.{caller_failed}
use Rattle.control.specs.TurnWrites.{read_place, Performs}
use Rattle.control.specs.Stores.{Stores, first_strands, forest, state, held_places, SoundStores}
use Rattle.control.specs.TurnReads.{idle}
use Rattle.control.specs.UnwindStack.{enqueued_if, enqueued_back, all_back}
use Rattle.control.proofs.EffectSteps.{sounds_of, state_is, forest_is, entries_moved}
use Rattle.control.proofs.EffectBack.{hand_was}
use Rattle.control.proofs.EffectNoStrand.{no_stop, left, read_back, no_strand, root_known}
use Rattle.control.proofs.EffectNoStrand.{over_with, over_sound, caller_below}
use Rattle.control.proofs.EffectStack.{Back, unwinds}
use Rattle.control.proofs.OnNoStrandsLeft.{under, is_there}

module _ (root index first : ℕ) (z : Stores) (o : SoundStores root index first z) (n : ℕ) (d : z.stack.depth ≡ suc n) where
  -- A CALLER, at height m: its strand is in its entry
  module _ (m : ℕ) (below : n ≡ suc m) where
    abbrev fresh : FirstStrands
    fresh = first_strands z.book

    abbrev tb : List ℕ
    tb = z.stack.table

    abbrev ac : List ℕ
    ac = z.stack.active

    abbrev q : ℕ
    q = get_or ac m 0

    q_there : q ≡ 256 → ⊥
    q_there = is_there root index first z o n d m below

    pub caller_few : get_or z.stack.active m 0 < 256
    caller_few = under q (o.stack.places m (omega arith)) q_there

    pub place_is : caller_place z.stack.depth z.stack.active ≡ get_or z.stack.active m 0
    place_is =
        let back : z.stack.depth - 2 ≡ m = omega arith in
        caller_place_is fresh z.stack z.strands o.stack (omega arith) ∙ ap (λ (i : ℕ). get_or ac i 0) back

    -- the top has no strand
    module _ (idle_top : get_or z.stack.active n 0 ≡ 256) where
      held_is : held_places z ≡ q ∷ active_places ac m
      held_is =
          let last : z.stack.depth - 1 ≡ n = omega arith in
          pop_places z.stack (omega arith) (ap (λ (i : ℕ). get_or ac i 0) last ∙ idle_top)
          ∙ ap (active_places ac) (last ∙ below)
          ∙ ap (λ (b : Bool). elim b as (λ (c : Bool). List ℕ) [ true ↦ active_places ac m | false ↦ q ∷ active_places ac m ])
          (ne_eqb q 256 q_there)

      strands_held : SoundStrands fresh z.strands z.tables.count (q ∷ active_places ac m)
      strands_held = subst (SoundStrands fresh z.strands z.tables.count) held_is o.strands

      -- THE CALLER FAILED: its strand's place is free, and those below go back
      abbrev freed : Strands
      freed = given q z.strands

      unwound : Back z (sounds_of root index first z o n d).made o.stack.places m freed
      unwound =
          unwinds z (sounds_of root index first z o n d).made o.stack.places m (omega arith) freed
          (given_strand_sound fresh z.strands z.tables.count (active_places ac m) q strands_held)

      failed_is : caller_failed tb ac z.stack.depth z.strands.places ≡ all_back tb ac m (enqueued free q z.strands.places)
      failed_is =
          let few = o.stack.few in
          let lower : within (z.stack.depth - 1 - 1) ≡ m = omega arith in
          ap₂ (λ (i p : ℕ). all_back tb ac i (enqueued_back free p z.strands.places)) lower place_is
          ∙ ap (λ (b : Bool). all_back tb ac m (enqueued_if b free q z.strands.places)) (lt-ltb q 256 caller_few)

      failed_view : state (over_with root index first z o n d (all_back tb ac m (enqueued free q z.strands.places)))
          ≡ splits.gone (splits.popped (state z))
      failed_view =
          ap (λ (f : Forest). record { forest = f; stack = [] })
          (unwound.view
          ∙ ap₂ splits.callers_unwound
          (forest_is z (forest (with_strands freed z)).tables (forest z).tables
          (given_view fresh z.tables z.answers z.strands (active_places ac m) q strands_held.places))
          (entries_moved z freed.places m))
          ∙ sym (ap (λ (i : ℕ). splits.gone (splits.popped (state_above i z))) below)
          ∙ sym (ap (λ (s : SolveState). splits.gone (splits.popped s)) (state_is z n d))

      failed_performs : idle z ≡ idles.CallerFailed → Performs z
      failed_performs is =
          read_back z idles.CallerFailed is refl (hand_was z (read_place z))
          (ap (λ (s : SolveState). go (logic.return_err logic.QuantumExceeded s))
          (ap (λ (p : Places). state (over_with root index first z o n d p)) failed_is ∙ failed_view))
          (λ m e. no_stop (left z idles.CallerFailed).flow m refl e)
          (subst (λ (p : Places). Sounds [] (over_with root index first z o n d p)) (sym failed_is)
          (over_sound root index first z o n d (all_back tb ac m (enqueued free q z.strands.places)) unwound.sound))

  pub caller_failed_performs : idle z ≡ idles.CallerFailed → Performs z
  caller_failed_performs is =
      failed_performs (n - 1) (caller_below root index first z o n d (root_known root index first z o n d idles.CallerFailed is refl))
      (no_strand root index first z o n d idles.CallerFailed is refl) is
