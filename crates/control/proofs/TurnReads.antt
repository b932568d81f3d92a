-- THE READING HALF OF A TURN: for sound stores, what a turn reads and comes to means what `decide` of crate `small_steps` decides on the
-- state that the stores hold. 29 is found where a cycle is cleared, as `clearing` says.
use Prim.Native.Nat.{ℕ, zero, suc, ◌+◌}
use mathlib.Core.Bool.{Bool, true, false}
use mathlib.Core.List.{[], ◌∷◌}
use mathlib.Core.Option.{Option, none, some}
use mathlib.Core.Path.{◌≡◌, refl, sym, ap, subst, ◌∙◌}
use Rattle.definitions.specs.Stack as said
use Rattle.definitions.specs.Stop.{Stops, go, ◌>>=◌}
use Rattle.definitions.specs.Strand as held
use Rattle.definitions.specs.Tables.{queued}
use Rattle.definitions.specs.Tables as forests
use Rattle.asserts.specs.Sound as asserts
use Rattle.small_steps.specs.Acts.{Act, Origin, takes}
use Rattle.small_steps.specs.Decide.{table_of, decide_subgoal, decide_idle, decide_deed, decide}
use Rattle.stores.specs.View.{strand_at, entries}
use Rattle.control.specs.declared.on_no_strands_left.Idle.{Idle}
use Rattle.control.specs.OnNoStrandsLeft.{without_by}
use Rattle.control.specs.Stores.{Stores, first_strands, forest, state, SoundStores}
use Rattle.control.specs.TurnReads.{top, next, hand_at, chosen_for, decided_for, KeptDecision, taken_by, origin, act_means}
use Rattle.control.specs.TurnReads.{turn_means}
use Rattle.control.proofs.ChooseDecides.{acting, strand_decides}
use Rattle.control.proofs.ChooseKept.{strand_kept}
use Rattle.control.proofs.EnsureRootAnswer.{top_is, strand_decided, known, in_hand_is, in_hand_sound, in_hand_kept}
use Rattle.control.proofs.OnNoStrandsLeft.{idle_decides}
use Rattle.control.proofs.Stores.{top_entry, entries_below, stack_is}

module _ (root index first : ℕ) (z : Stores) (o : SoundStores root index first z) where
  -- with n entries below the top
  module _ (n : ℕ) (d : z.stack.depth ≡ suc n) where
    abbrev e : said.StackEntry
    e = top_entry z n

    abbrev es : said.Stack
    es = entries_below z n

    abbrev goes_on : held.Strand → Origin → Stops Act
    goes_on strand origin =
        decide_subgoal (forest z) (record { live = queued (forest z) + said.active (e ∷ es); made = [] }) strand >>= λ picked.
        decide_deed (forests.held (forest z)) (forest z) e es picked >>= λ deed.
        go (takes origin picked.view.made deed)

    abbrev decided_by : Option (held.Strand × Origin) → Stops Act
    decided_by taken = elim taken [
      | none ↦ decide_idle (record { forest = forest z; stack = e ∷ es }) e (table_of (forest z) e.table)
      | some x ↦ goes_on (held.with_pursued x.0 e.clock) x.1
    ]

    abbrev without : (found : Bool) → Idle
    without found =
        without_by z.strands.places.len z.strands.waits z.stack.positive z.stack.negative z.stack.active found (top z)

    by_found : (found : Bool) → (next z).found ≡ found
        → act_means z (without found)
        ≡ decided_by (taken_by found (strand_at (first_strands z.book) z.strands (next z).place) (origin z (next z)))
    by_found true is =
        let k = known root index first z o n d is in
        let p : ℕ = (next z).place in
        ap (acting root index first z o n d (hand_at z p) (in_hand_sound root index first z o n d p k)
        (in_hand_kept root index first z o n d p k e.clock) (origin z (next z))) (top_is root index first z o n d)
        ∙ strand_decides root index first z o n d (hand_at z p) (in_hand_sound root index first z o n d p k)
        (in_hand_kept root index first z o n d p k e.clock) (origin z (next z))
        ∙ ap (λ (s : held.Strand). goes_on s (origin z (next z))) (in_hand_is root index first z o n d p k e.clock)
    by_found false is = idle_decides root index first z o n d

    at_top : turn_means z ≡ decide (state z)
    at_top =
        by_found (next z).found refl
        ∙ ap decided_by (sym (strand_decided root index first z o n d))
        ∙ ap (λ (stack : said.Stack). decide (record { forest = forest z; stack = stack })) (sym (stack_is root index first z o n d))

  pub never_empty : z.stack.depth ≡ 0 → ⊥
  never_empty d =
      subst (λ (m : ℕ). asserts.SoundStack z.book.goals root index first (forest z) (entries (first_strands z.book) z.stack
      z.strands m)) d o.state

  by_depth : (m : ℕ) → z.stack.depth ≡ m → turn_means z ≡ decide (state z)
  by_depth zero d = absurd (never_empty d)
  by_depth (suc n) d = at_top n d

  pub turn_decides : turn_means z ≡ decide (state z)
  turn_decides = by_depth z.stack.depth refl

  -- and what it decides for a strand keeps the strands and the answers sound
  pub turn_kept : (next z).found ≡ true → KeptDecision (decided_for z (chosen_for z (hand_at z (next z).place)))
  turn_kept is = at z.stack.depth refl
    where
      at : (m : ℕ) → z.stack.depth ≡ m → KeptDecision (decided_for z (chosen_for z (hand_at z (next z).place)))
      at zero d = absurd (never_empty d)
      at (suc n) d =
          let k = known root index first z o n d is in
          strand_kept root index first z o n d (hand_at z (next z).place) (in_hand_sound root index first z o n d (next z).place k)
          (in_hand_kept root index first z o n d (next z).place k (top_entry z n).clock) (origin z (next z))
