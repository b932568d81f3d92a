-- The deed of a turn with a strand, done: the copy and the strand are settled, then the deed, for sound stores that the strand has left its
-- origin in and whose tables are made.
use Prim.Native.Nat.{ℕ, suc, ◌<◌}
use native.Mathlib.Nat.{mod-eq_of_lt}
use native.Mathlib.Omega.{arith}
use mathlib.Core.Bool.{Bool, true, false, true≢false}
use mathlib.Core.List.{List, [], ◌∷◌}
use mathlib.Core.Path.{◌≡◌, refl, sym, ap, ap₂, subst, ◌∙◌}
use lib.Dec.{ltb}
use lib.ListN.{get_or, set}
use lib.Seq.{set-get_or}
use borrow.Author.Tests.{lt-ltb}
use Rattle.definitions.specs.{TimeStamp, Minimums, MAX}
use Rattle.definitions.specs.Book as books
use Rattle.definitions.specs.Logic as logic
use Rattle.definitions.specs.Logic.{SolveState, continue, return_err}
use Rattle.definitions.specs.Stop.{go, ◌>>=◌}
use Rattle.definitions.specs.Strand as held
use Rattle.definitions.specs.Table.{mark_floundered}
use Rattle.definitions.specs.Turn.{cycle_minimums}
use Rattle.small_steps.specs.Acts as split
use Rattle.book.specs.View.{meant}
use Rattle.strands.specs.declared.Answer.{Answer}
use Rattle.strands.specs.declared.Strand.{Strand}
use Rattle.strands.specs.View.{is_negative, seen, answer}
use Rattle.stores.specs.Numbers.{number_if}
use Rattle.stores.specs.Places.{enqueued, freed, free_place}
use Rattle.stores.specs.Queue.{with_places}
use Rattle.stores.specs.Stack.{popped}
use Rattle.stores.specs.Table.{with_answer_places, written_answer}
use Rattle.stores.specs.View.{unread_answer, strand_at}
use Rattle.control.specs.declared.create_refinement_strand.Left.{Left}
use Rattle.control.specs.declared.decision.Decision.{Decision}
use Rattle.control.specs.declared.decision.Deed.{Deed}
use Rattle.control.specs.declared.decision.Deed.TheVariants.{Stop, GoesOn, GivesUp, Cycles, Pushes, Requeues, Flounders}
use Rattle.control.specs.declared.decision.Deed.TheVariants.{Answers as Answering}
use Rattle.control.specs.declared.ensure_root_answer.Next.{Next}
use Rattle.control.specs.declared.ensure_root_answer.Top.{Top}
use Rattle.control.specs.declared.select_subgoal.Made.{Made}
use Rattle.control.specs.CreateRefinementStrand.{gives_answer}
use Rattle.control.specs.Decision.{decided, copy_by, meaning}
use Rattle.control.specs.InHand.{lent, with_lent, with_strands, Sounds, state_above, flows}
use Rattle.control.specs.MakeTables.{tables_of}
use Rattle.control.specs.OnPositiveCycle.{met_at}
use Rattle.control.specs.Perform.{stops}
use Rattle.control.specs.PerformDeed.{answers_of, emptied_if, seated, Moving, moving, Did, deed_done}
use Rattle.control.specs.PerformStrand.{lent_of, copy_place, settled, TurnDone, begun, left_stack, strand_performed}
use Rattle.control.specs.TurnWrites.{put}
use Rattle.control.specs.SelectSubgoal.{chosen}
use Rattle.control.specs.Stores.{Stores, first_strands, state}
use Rattle.control.specs.TurnReads.{KeptDecision}
use Rattle.control.proofs.Seen.{chosen_means}
use Rattle.control.proofs.EffectSettled.{Settles, stands, settled_strands, settled_sounds}
use Rattle.control.proofs.EffectDeeds.{moving_in, moved_in, Comes, Ends}
use Rattle.control.proofs.EffectDeeds.{goes_on, gives_up, requeues, cycles, pushes, flounders, answers}

-- WHAT A DEED NEEDS, of the stores that it is done to. Two deeds may come with a copy.
abbrev pub may_copy : Deed → Bool
may_copy (Stop n) = false
may_copy GoesOn = true
may_copy GivesUp = true
may_copy (Cycles height) = false
may_copy (Pushes table) = false
may_copy Requeues = false
may_copy Flounders = false
may_copy (Answering empties) = false

-- `read` is the place of the answer that was read: where none is given, it is written there again
pub record Able (d : Decision) (read : ℕ) (z : Stores) : Type 0 where
  pub copy_fits : d.copies ≡ true → free_place z.strands.places < 256
  pub no_copy : may_copy d.deed ≡ false → d.copies ≡ false
  pub answer_fits : gives_answer d.deed ≡ true → free_place z.answers.places < 256
  pub same_answer : gives_answer d.deed ≡ false → d.answer ≡ get_or z.answers.answers read unread_answer
  pub meets : (height : ℕ) → d.deed ≡ Cycles height → height < z.stack.depth
  pub is_made : (table : ℕ) → d.deed ≡ Pushes table → table < z.tables.count
  pub has_room : (table : ℕ) → d.deed ≡ Pushes table → z.stack.depth < 64
  pub in_time : (table : ℕ) → d.deed ≡ Pushes table → z.clock < MAX

-- WHAT IS DONE to the stores z, by the decision d about the strand at q, for the top's table t at its clock c
module _ (z : Stores) (d : Decision) (t q : ℕ) (c : TimeStamp) (read : ℕ) where
  abbrev pub settled_stores : Stores
  settled_stores = with_strands (settled_strands z d t q c) z

  abbrev pub deed_did : Did
  deed_did = deed_done (is_negative (meant (chosen d.strand))) (stands z d t q c).refines d.answer t q read d.deed
      (moving_in settled_stores)

  abbrev pub deed_left : TurnDone
  deed_left =
      let m : Moving = deed_did.moved in
      record {
        flow = deed_did.flow;
        copy_at = copy_place d.copies q z.strands.places;
        copy = d.copy;
        strand_at = q;
        strand = (stands z d t q c).strand;
        answer_at = deed_did.answer_at;
        answer = d.answer;
        lent = lent_of (tables_of z.tables.count z.tables.goal z.tables.coinductive m.floundered z.tables.complete)
            (with_places (settled d (stands z d t q c) t q c z.strands) m.rings) m.answers m.stack m.clock;
      }

  abbrev pub after_deed : Stores
  after_deed = with_lent (put deed_left) z

  pub record PerformsDeed (n : ℕ) : Type 0 where
    pub does : flows deed_left.flow (state after_deed)
        ≡ (meaning c (λ h. get_or z.stack.clock h 0) d >>= λ deed. go (split.perform_deed deed (state_above n z)))
    pub sound : Sounds [] after_deed

-- It is the model's turn with a strand: z before it, and what is left of z once the strand has left its origin and the tables are made.
module _ (gf first_of len_of_lem cv cf : List ℕ) (p : Next) (top : Top) (made : Made) (d : Decision) (read : ℕ) (z : Stores) where
  abbrev pub begun_stores : Stores
  begun_stores =
      let b = begun gf first_of len_of_lem cv cf p top made d read (lent z) in
      with_lent (lent_of b.tables b.strands z.answers (left_stack gf first_of len_of_lem cv cf p top made d read z.stack)
      z.clock) z

  pub after_begun : with_lent (put (strand_performed gf first_of len_of_lem cv cf p top made d read (lent z))) z
      ≡ after_deed begun_stores d top.table p.place top.clock read
  after_begun = refl

-- THE PARTS of it, over variables
-- with the answer that the owner writes
abbrev answer_put : (i : ℕ) → Answer → Moving → Moving
answer_put i a m = moving m.rings m.floundered
    (answers_of (set m.answers.answers i a) m.answers.variant m.answers.key m.answers.ambiguous m.answers.places)
    m.stack m.clock

-- which is the one that stands there
put_again : (y : Stores) (m : Moving) (i : ℕ) (a : Answer) (s : SolveState) → a ≡ get_or m.answers.answers i unread_answer
    → Comes s (moved_in y m) → Comes s (moved_in y (answer_put i a m))
put_again y m i a s e =
    subst (λ (l : List Answer). Comes s (moved_in y (moving m.rings m.floundered
    (answers_of l m.answers.variant m.answers.key m.answers.ambiguous m.answers.places) m.stack m.clock)))
    (sym (ap (set m.answers.answers i) e ∙ set-get_or m.answers.answers i unread_answer))

uncopied : (copies : Bool) (x : held.Strand) (s : SolveState) → copies ≡ false → split.copied (copy_by copies x) s ≡ s
uncopied copies x s e = ap (λ (b : Bool). split.copied (copy_by b x) s) e

-- a cycle that ends at an entry of the stack
met_is : (clock : List ℕ) (height : ℕ) → height < 64 → met_at clock height ≡ record { positive = get_or clock height 0; negative = MAX }
met_is clock height h = ap (λ (b : Bool). record { positive = number_if b (get_or clock height 0); negative = MAX }) (lt-ltb height 64 h)

module _ (z : Stores) (n : ℕ) (depth : z.stack.depth ≡ suc n) (q : ℕ) (o : Sounds (q ∷ []) z) (idle : get_or z.stack.active n 0 ≡ 256)
    (c : TimeStamp) (read : ℕ) where
  abbrev t : ℕ
  t = get_or z.stack.table n 0

  abbrev s : SolveState
  s = state_above n z

  abbrev Does : Decision → Type 0
  Does d = KeptDecision d → Able d read z → PerformsDeed z d t q c read n

  module _ (copies : Bool) (x copy : Strand) (a : Answer) where
    settles : (deed : Deed) → KeptDecision (decided deed copies x copy a) → Able (decided deed copies x copy a) read z
        → Settles z n q copies c copy (stands z (decided deed copies x copy a) t q c).time
        (stands z (decided deed copies x copy a) t q c).strand (settled_strands z (decided deed copies x copy a) t q c)
    settles deed k can = settled_sounds z n depth q o (decided deed copies x copy a) k can.copy_fits c

    abbrev stores_for : Deed → Stores
    stores_for deed = settled_stores z (decided deed copies x copy a) t q c read

    abbrev moves : Deed → Moving
    moves deed = (deed_did z (decided deed copies x copy a) t q c read).moved

    does_go_on : Does (decided GoesOn copies x copy a)
    does_go_on k can =
        let r = settles GoesOn k can in
        let w = put_again (stores_for GoesOn) (moves GoesOn) read a
        (split.activated (strand_at (first_strands z.book) (stores_for GoesOn).strands q) (state_above n (stores_for GoesOn)))
        (can.same_answer refl) (goes_on (stores_for GoesOn) n depth q r.sound idle) in
        record {
          does = ap (λ (v : SolveState). go (continue v)) (w.view ∙ ap₂ split.activated r.shown r.view);
          sound = w.sound;
        }

    does_give_up : Does (decided GivesUp copies x copy a)
    does_give_up k can =
        let y : Stores = stores_for GivesUp in
        let r = settles GivesUp k can in
        let w = put_again y (moves GivesUp) read a (split.gone (state_above n y)) (can.same_answer refl)
        (gives_up y n depth q r.sound idle) in
        record {
          does = ap (λ (v : SolveState). go (return_err logic.QuantumExceeded v)) (w.view ∙ ap split.gone r.view);
          sound = w.sound;
        }

    does_requeue : Does (decided Requeues copies x copy a)
    does_requeue k can =
        let y : Stores = stores_for Requeues in
        let r = settles Requeues k can in
        let w = put_again y (moves Requeues) read a
        (split.queued_at_top (strand_at (first_strands z.book) y.strands q) (state_above n y)) (can.same_answer refl)
        (requeues y n depth q r.sound idle) in
        record {
          does = ap (λ (v : SolveState). go (return_err logic.QuantumExceeded v))
              (w.view ∙ ap₂ split.queued_at_top r.shown (r.view ∙ uncopied copies (seen c copy) s (can.no_copy refl)));
          sound = w.sound;
        }

    does_push : (table : ℕ) → Does (decided (Pushes table) copies x copy a)
    does_push table k can =
        let y : Stores = stores_for (Pushes table) in
        let r = settles (Pushes table) k can in
        let w = put_again y (moves (Pushes table)) read a
        (split.pushed table (split.activated (strand_at (first_strands z.book) y.strands q) (state_above n y)))
        (can.same_answer refl)
        (pushes y n depth q r.sound idle table (can.is_made table refl) (can.has_room table refl) (can.in_time table refl)) in
        record {
          does = ap (λ (v : SolveState). go (continue v)) (w.view ∙ ap (split.pushed table)
              (ap₂ split.activated r.shown (r.view ∙ uncopied copies (seen c copy) s (can.no_copy refl))));
          sound = w.sound;
        }

    does_flounder : Does (decided Flounders copies x copy a)
    does_flounder k can =
        let y : Stores = stores_for Flounders in
        let r = settles Flounders k can in
        let w = put_again y (moves Flounders) read a (split.gone (split.top_table mark_floundered (state_above n y)))
        (can.same_answer refl) (flounders y n depth q r.sound idle) in
        record {
          does = ap (λ (v : SolveState). go (return_err logic.QuantumExceeded v)) (w.view ∙ ap
              (λ (v : SolveState). split.gone (split.top_table mark_floundered v))
              (r.view ∙ uncopied copies (seen c copy) s (can.no_copy refl)));
          sound = w.sound;
        }

    does_cycle : (height : ℕ) → Does (decided (Cycles height) copies x copy a)
    does_cycle height k can =
        let y : Stores = stores_for (Cycles height) in
        let l : books.Literal = meant (chosen x) in
        let f : Minimums = met_at z.stack.clock height in
        let r = settles (Cycles height) k can in
        let w = put_again y (moves (Cycles height)) read a
        (split.queued_at_top (strand_at (first_strands z.book) y.strands q)
        (split.top_entry (cycle_minimums l f) (state_above n y))) (can.same_answer refl) (cycles y n depth q r.sound idle l f) in
        let few : height < 64 = omega (arith, can.meets height refl, o.stack.few) in
        record {
          does = ap (λ (v : SolveState). go (continue v)) (w.view
              ∙ ap₂ (λ (v : held.Strand) (u : SolveState). split.queued_at_top v (split.top_entry (cycle_minimums l f) u)) r.shown
              (r.view ∙ uncopied copies (seen c copy) s (can.no_copy refl))
              ∙ ap₂ (λ (i : books.Literal) (j : Minimums). split.queued_at_top (seen c x) (split.top_entry (cycle_minimums i j) s))
              (chosen_means x k.strand) (met_is z.stack.clock height few));
          sound = w.sound;
        }

    -- the owner writes the answer at the place that was free
    does_answer : (empties : Bool) → Does (decided (Answering empties) copies x copy a)
    does_answer empties k can =
        let y : Stores = stores_for (Answering empties) in
        let l : Left = stands z (decided (Answering empties) copies x copy a) t q c in
        let r = settles (Answering empties) k can in
        let w = subst (λ (i : ℕ). Ends (ltb z.stack.depth 2) a (split.top_table (split.stored (answer a) empties) (state_above n y))
        (moved_in y (moving (enqueued (seated l.refines t) q (emptied_if empties t y.strands.places)) z.tables.floundered
        (with_answer_places (written_answer i a z.answers) (enqueued t i (freed z.answers.places))) (popped z.stack) z.clock)))
        (sym (mod-eq_of_lt (can.answer_fits refl)))
        (answers y n depth q r.sound a k.answer (can.answer_fits refl) idle x c empties r.shown) in
        record {
          does = w.view ∙ ap (λ (v : SolveState). go (split.answered (answer a) (split.top_table (split.stored (answer a) empties) v)))
              (r.view ∙ uncopied copies (seen c copy) s (can.no_copy refl));
          sound = w.sound;
        }

    does_deed : (deed : Deed) → stops deed ≡ false → Does (decided deed copies x copy a)
    does_deed (Stop i) never = absurd (true≢false never)
    does_deed GoesOn goes = does_go_on
    does_deed GivesUp goes = does_give_up
    does_deed (Cycles height) goes = does_cycle height
    does_deed (Pushes table) goes = does_push table
    does_deed Requeues goes = does_requeue
    does_deed Flounders goes = does_flounder
    does_deed (Answering empties) goes = does_answer empties

-- THE DEED, DONE
pub deed_performed : (z : Stores) (n : ℕ) → z.stack.depth ≡ suc n → (q : ℕ) → Sounds (q ∷ []) z → get_or z.stack.active n 0 ≡ 256
    → (d : Decision) → stops d.deed ≡ false → (read : ℕ) → KeptDecision d → Able d read z → (t : ℕ) → t ≡ get_or z.stack.table n 0
    → (c : TimeStamp) → PerformsDeed z d t q c read n
deed_performed z n depth q o idle d goes read k can t is c =
    subst (λ (i : ℕ). PerformsDeed z d i q c read n) (sym is)
    (does_deed z n depth q o idle c read d.copies d.strand d.copy d.answer d.deed goes k can)
