-- A TURN WITH A STRAND, DONE, for sound stores: the strand leaves where it was, the tables of the goals noted are made, and the deed that
-- was decided is done; all of it is what crate `small_steps` performs. From EffectBegun, EffectAble and EffectDecision.
use Prim.Native.Nat.{ℕ, suc}
use mathlib.Core.Bool.{Bool, true, false, true≢false}
use mathlib.Core.List.{List, []}
use mathlib.Core.Path.{◌≡◌, refl, sym, ap, ap₂, subst, ◌∙◌}
use lib.Dec.{ltb}
use lib.ListN.{get_or}
use Rattle.definitions.specs.Logic as logic
use Rattle.definitions.specs.Logic.{SolveState, with_forest}
use Rattle.definitions.specs.Stop.{Stops, stop, go, ◌>>=◌}
use Rattle.small_steps.specs.Acts as split
use Rattle.small_steps.specs.Acts.{Act, Origin, takes, with_made}
use Rattle.book.specs.View.{meant}
use Rattle.strands.specs.declared.Answer.{Answer}
use Rattle.strands.specs.View.{is_negative}
use Rattle.stores.specs.View.{unread_answer}
use Rattle.control.specs.declared.decision.Decision.{Decision}
use Rattle.control.specs.declared.decision.Deed.{Deed}
use Rattle.control.specs.declared.decision.Deed.TheVariants.{Stop, GoesOn, GivesUp, Cycles, Pushes, Requeues, Flounders, Answers}
use Rattle.control.specs.declared.ensure_root_answer.Next.{Next}
use Rattle.control.specs.declared.ensure_root_answer.Top.{Top}
use Rattle.control.specs.declared.on_no_strands_left.Idle.TheVariants as idles
use Rattle.control.specs.declared.performed.Flow.{Flow}
use Rattle.control.specs.declared.performed.Flow.TheVariants as ways
use Rattle.control.specs.declared.select_subgoal.Made.{Made}
use Rattle.control.specs.Decision.{meaning}
use Rattle.control.specs.InHand.{lent, with_lent, Sounds, flows}
use Rattle.control.specs.OnNoStrandsLeft.{without_by}
use Rattle.control.specs.Perform.{has_strand, stops, performed_by}
use Rattle.control.specs.PerformDeed.{answer_flow, Moving, moving, deed_done}
use Rattle.control.specs.PerformStrand.{Lent, TurnDone, begun, stands, settled_in, left_stack, strand_performed}
use Rattle.control.specs.TurnWrites.{put, read_place, chosen, turn_done, turned, Performs}
use Rattle.control.specs.SelectSubgoal as selecting
use Rattle.control.specs.SelectSubgoal.{noted_goals}
use Rattle.control.specs.Stores.{Stores, state, SoundStores}
use Rattle.control.specs.TurnReads.{top, next, hand_at, chosen_for, decided_for, idle, KeptDecision, origin, clock_at, strand_means}
use Rattle.control.specs.TurnReads.{act_means, turn_means}
use Rattle.control.proofs.EffectSteps.{state_is}
use Rattle.control.proofs.EffectAble.{strand_able}
use Rattle.control.proofs.EffectBegun.{began, read_is, begun_sound, begun_view, begun_idle}
use Rattle.control.proofs.EffectDecision.{PerformsDeed, deed_performed}
use Rattle.control.proofs.EnsureRootAnswer.{top_is}
use Rattle.control.proofs.TurnReads.{turn_kept}

-- A deed that doesn't stop ends with another flow.
abbrev is_stop : Flow → Bool
is_stop (ways.Stop n) = true
is_stop ways.Continue = false
is_stop ways.ReturnOk = false
is_stop ways.NoMoreSolutions = false
is_stop ways.QuantumExceeded = false
is_stop ways.NegativeCycle = false

answer_goes_on : (root : Bool) → is_stop (answer_flow root) ≡ false
answer_goes_on true = refl
answer_goes_on false = refl

module _ (negative refines : Bool) (x : Answer) (t place seen : ℕ) (m : Moving) where
  never_stops : (deed : Deed) → stops deed ≡ false → is_stop (deed_done negative refines x t place seen deed m).flow ≡ false
  never_stops (Stop n) e = e
  never_stops GoesOn e = refl
  never_stops GivesUp e = refl
  never_stops (Cycles height) e = refl
  never_stops (Pushes table) e = refl
  never_stops Requeues e = refl
  never_stops Flounders e = refl
  never_stops (Answers empties) e = answer_goes_on (ltb m.stack.depth 2)

module _ (gf first_of len_of_lem cv cf : List ℕ) (p : Next) (top : Top) (made : Made) (d : Decision) (read : ℕ) (w : Lent) where
  strand_goes_on : stops d.deed ≡ false → is_stop (strand_performed gf first_of len_of_lem cv cf p top made d read w).flow ≡ false
  strand_goes_on =
      never_stops (is_negative (meant (selecting.chosen d.strand))) (stands gf first_of len_of_lem cv cf p top made d read w).refines
      d.answer top.table p.place read
      (moving (settled_in gf first_of len_of_lem cv cf p top made d read w).places
      (begun gf first_of len_of_lem cv cf p top made d read w).tables.floundered w.answers
      (left_stack gf first_of len_of_lem cv cf p top made d read w.stack) w.clock) d.deed

-- What is decided about the strand, and then done, is the act done.
taken_done : (deed : Stops split.Deed) (origin : Origin) (made : List ℕ) (s : SolveState)
    → ((deed >>= λ x. go (takes origin made x)) >>= λ act. go (split.perform act s))
    ≡ (deed >>= λ x. go (split.perform_deed x (with_forest (split.taken origin s) (with_made (split.taken origin s).forest made))))
taken_done (stop n) origin made s = refl
taken_done (go x) origin made s = refl

module _ (root index first : ℕ) (z : Stores) (o : SoundStores root index first z) (n : ℕ) (d : z.stack.depth ≡ suc n)
    (is : (next z).found ≡ true) where
  -- with a strand there is no idle act
  idle_is : idle z ≡ idles.Nothing
  idle_is =
      ap (λ (b : Bool). without_by z.strands.places.len z.strands.waits z.stack.positive z.stack.negative
      z.stack.active b (top z)) is

  -- what is decided to be done, for the strand that is read
  means_is : turn_means z ≡ strand_means z (next z) (chosen z)
  means_is =
      ap (act_means z) idle_is
      ∙ ap (λ (p : ℕ). strand_means z (next z) (chosen_for z (hand_at z p))) (read_is root index first z o n d is)

  kept : KeptDecision (decided_for z (chosen z))
  kept =
      subst (λ (p : ℕ). KeptDecision (decided_for z (chosen_for z (hand_at z p)))) (read_is root index first z o n d is)
      (turn_kept root index first z o is)

  module _ (goes : stops (decided_for z (chosen z)).deed ≡ false) where
    abbrev done : TurnDone
    done =
        strand_performed z.book.goal_flags z.book.goal_first z.book.goal_len z.book.clause_variant
        z.book.clause_flags (next z) (top z) (chosen z).made (decided_for z (chosen z)) (chosen z).place (lent z)

    -- which is what the turn does
    done_is : turn_done z ≡ done
    done_is =
        ap₂ (λ (has st : Bool). performed_by z.book.goal_flags z.book.goal_first z.book.goal_len
        z.book.clause_variant z.book.clause_flags (next z) (top z) (chosen z).made (decided_for z (chosen z)) (read_place z)
        (hand_at z (read_place z)) (chosen z).place (get_or z.answers.answers (chosen z).place unread_answer) has st (idle z) (lent z))
        (ap has_strand idle_is) goes

    -- the deed is done on the stores of the turn begun
    deed_performs : PerformsDeed (began z) (decided_for z (chosen z)) (top z).table (next z).place (top z).clock (chosen z).place n
    deed_performs =
        deed_performed (began z) n d (next z).place (begun_sound root index first z o n d is) (begun_idle root index first z o n d is)
        (decided_for z (chosen z)) goes (chosen z).place kept (strand_able root index first z o n d is) (top z).table
        (ap (λ (x : Top). x.table) (top_is root index first z o n d)) (top z).clock

    -- what the deed is decided to be
    abbrev deed : Stops split.Deed
    deed = meaning (top z).clock (clock_at z) (decided_for z (chosen z))

    -- on a state that the strand left, with tables made
    abbrev made_on : SolveState → SolveState
    made_on s =
        with_forest (split.taken (origin z (next z)) s)
        (with_made (split.taken (origin z (next z)) s).forest (noted_goals (chosen z).made))

    abbrev deed_on : SolveState → Stops logic.Flow
    deed_on s = deed >>= λ x. go (split.perform_deed x s)

    deed_does : flows done.flow (state (with_lent (put done) z)) ≡ deed_on (made_on (state z))
    deed_does =
        deed_performs.does
        ∙ ap deed_on (begun_view root index first z o n d is)
        ∙ ap (λ (s : SolveState). deed_on (made_on s)) (sym (state_is z n d))

    turn_does : flows (turn_done z).flow (state (turned z)) ≡ (turn_means z >>= λ act. go (split.perform act (state z)))
    turn_does =
        ap (λ (r : TurnDone). flows r.flow (state (with_lent (put r) z))) done_is
        ∙ deed_does
        ∙ sym (taken_done deed (origin z (next z)) (noted_goals (chosen z).made) (state z))
        ∙ ap (λ (act : Stops Act). act >>= λ x. go (split.perform x (state z))) (sym means_is)

    turn_sound : Sounds [] (turned z)
    turn_sound = subst (λ (r : TurnDone). Sounds [] (with_lent (put r) z)) (sym done_is) deed_performs.sound

    -- it ends with no stop
    turn_goes_on : is_stop (turn_done z).flow ≡ false
    turn_goes_on =
        ap (λ (r : TurnDone). is_stop r.flow) done_is
        ∙ strand_goes_on z.book.goal_flags z.book.goal_first z.book.goal_len z.book.clause_variant
        z.book.clause_flags (next z) (top z) (chosen z).made (decided_for z (chosen z)) (chosen z).place (lent z) goes

-- A TURN WITH A STRAND, done: it doesn't stop, so that nothing is to be undone
pub strand_performs : (root index first : ℕ) (z : Stores) → SoundStores root index first z → (n : ℕ) → z.stack.depth ≡ suc n
    → (next z).found ≡ true → stops (decided_for z (chosen z)).deed ≡ false → Performs z
strand_performs root index first z o n d is goes = record {
  does = turn_does root index first z o n d is goes;
  undone = λ i e. absurd (true≢false (sym (ap is_stop e) ∙ turn_goes_on root index first z o n d is goes));
  sound = turn_sound root index first z o n d is goes;
}
