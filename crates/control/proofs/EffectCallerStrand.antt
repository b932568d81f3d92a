-- The acts of a turn with no strand to go on with that change the caller's strand, done, for sound stores: its "not" is proved, or it
-- meets the top's cycle. The strand is taken from its entry, changed, and put where it belongs.
use Prim.Native.Nat.{ℕ, suc, ◌-◌, ◌%◌}
use native.Mathlib.Nat.{mod-eq_of_lt}
use native.Mathlib.Omega.{arith}
use mathlib.Core.Bool.{Bool, true, false}
use mathlib.Core.List.{List, [], ◌∷◌}
use mathlib.Core.Option.{Option, none}
use mathlib.Core.Path.{◌≡◌, refl, sym, ap, ap₂, subst, ◌∙◌}
use lib.ListN.{length, get_or, set}
use lib.Seq.{get_or-set_same, set-set, set-get_or}
use borrow.Author.Tests.{lt-ltb}
use Rattle.definitions.specs.{TimeStamp, Minimums}
use Rattle.definitions.specs.Book as books
use Rattle.definitions.specs.Book.{Positive, Negative}
use Rattle.definitions.specs.Lists.{remove}
use Rattle.definitions.specs.Logic as logic
use Rattle.definitions.specs.Logic.{SolveState}
use Rattle.definitions.specs.Stack as said
use Rattle.definitions.specs.Stack.{with_active}
use Rattle.definitions.specs.Stop.{go, ◌>>=◌}
use Rattle.definitions.specs.Strand as held
use Rattle.definitions.specs.Turn.{cycle_minimums}
use Rattle.asserts.specs.Sound.{SoundStrand}
use Rattle.small_steps.specs.Acts as splits
use Rattle.small_steps.specs.Decide.{or, no_selected, selected_literal}
use Rattle.strands.specs.declared.Selected.TheVariants as selection
use Rattle.strands.specs.declared.Strand.{Strand}
use Rattle.strands.specs.Fields.{with_selected}
use Rattle.strands.specs.View.{Sound, seen, is_negative}
use Rattle.strands.proofs.FieldViews.{selected_sound}
use Rattle.strands.proofs.LiteralViews.{last_removed_view, last_removed_sound}
use Rattle.stores.specs.declared.places.Places.{Places}
use Rattle.stores.specs.declared.stack.Stack.{Stack}
use Rattle.stores.specs.Numbers.{set_if}
use Rattle.stores.specs.Places.{enqueued}
use Rattle.stores.specs.Queue.{with_places, enqueued_strand, written}
use Rattle.stores.specs.Stack.{caller_place, top_written, popped, caller_taken, activated}
use Rattle.stores.specs.View.{FirstStrands, strand_by, strand_at, is_fresh, unread_strand}
use Rattle.stores.proofs.StackCallers.{active_held}
use Rattle.stores.proofs.StackCases.{some_caller, some_top}
use Rattle.control.specs.declared.on_no_strands_left.Idle.{Idle}
use Rattle.control.specs.declared.on_no_strands_left.Idle.TheVariants as idles
use Rattle.control.specs.InHand.{lent, with_lent, with_strands, with_stack, Sounds, state_above}
use Rattle.control.specs.OnNoStrandsLeft.{caller_waits_on_not, minimum_at}
use Rattle.control.specs.OnPositiveCycle.{minimums_at, cycled}
use Rattle.control.specs.Perform.{idle_left}
use Rattle.control.specs.PerformIdle.{proved, rejoined}
use Rattle.control.specs.TurnWrites.{place_by, put, read_place, chosen, Performs}
use Rattle.control.specs.PerformStrand.{Lent, lent_of}
use Rattle.control.specs.Stores.{Stores, first_strands, forest, state, SoundStores}
use Rattle.control.specs.TurnReads.{next, hand_at, not_proved, idle, act_means}
use Rattle.control.specs.UnwindStack.{enqueued_if, enqueued_back}
use Rattle.control.proofs.EffectSteps.{sounds_of, state_is, idle_sound, idle_view, active_sound, active_view}
use Rattle.control.proofs.EffectSteps.{queued_sound, queued_view, written_sounds, written_view, written_shown}
use Rattle.control.proofs.EffectBack.{hand_was, put_so, performs_as}
use Rattle.control.proofs.EffectNoStrand.{no_stop, left, after, done, done_is, read_back, not_found, no_strand, root_known}
use Rattle.control.proofs.EffectNoStrand.{caller_below}
use Rattle.control.proofs.EffectStack.{popped_sound, popped_view, cycled_sound, cycled_view}
use Rattle.control.proofs.EnsureRootAnswer.{Known, in_hand_is, in_hand_sound}
use Rattle.control.proofs.OnNoStrandsLeft.{is_there, calls, strand_is, selected_is, awaits}
use Rattle.control.proofs.OnNoStrandsLeft.{sign_of_caller, for_caller, minimum_is}
use Rattle.control.proofs.PerformIdleCases.{table_some}
use Rattle.control.proofs.Stores.{top_entry, entries_below}
use Rattle.control.proofs.EffectCaller.{caller_few, place_is}

-- a cycle changes the minimums alone
active_apart : (l : books.Literal) (m : Minimums) (e : said.StackEntry)
    → cycle_minimums l m (with_active e none) ≡ with_active (cycle_minimums l m e) none
active_apart (Positive goal want outsized) m e = refl
active_apart (Negative goal outsized) m e = refl

module _ (root index first : ℕ) (z : Stores) (o : SoundStores root index first z) (n : ℕ) (d : z.stack.depth ≡ suc n) where
  module _ (m : ℕ) (below : n ≡ suc m) (idle_top : get_or z.stack.active n 0 ≡ 256) where
    abbrev fresh : FirstStrands
    fresh = first_strands z.book

    abbrev tb : List ℕ
    tb = z.stack.table

    abbrev ac : List ℕ
    ac = z.stack.active

    abbrev q : ℕ
    q = get_or ac m 0

    -- THE CALLER'S STRAND IN HAND: the top is popped, and its entry has none then
    few_below : z.stack.depth - 1 ≡ suc m
    few_below = omega arith

    abbrev top_popped : Stores
    top_popped = with_stack (popped z.stack) z

    popped_fine : Sounds [] top_popped
    popped_fine = popped_sound z n d [] (sounds_of root index first z o n d) idle_top

    popped_shows : state_above m top_popped ≡ splits.popped (state z)
    popped_shows =
        sym (state_is top_popped m few_below) ∙ popped_view z n d [] (sounds_of root index first z o n d) idle_top
        ∙ sym (ap splits.popped (state_is z n d))

    abbrev in_hand : Stores
    in_hand = with_stack (activated 256 (popped z.stack)) z

    in_hand_fine : Sounds (q ∷ []) in_hand
    in_hand_fine = idle_sound top_popped m few_below popped_fine (is_there root index first z o n d m below)

    in_hand_shows : state_above m in_hand ≡ splits.taken splits.was_active (state_above m top_popped)
    in_hand_shows = idle_view top_popped m few_below popped_fine (is_there root index first z o n d m below)

    -- what is written at the top's entry then
    top_is_set : (x : ℕ) (l : List ℕ) → top_written (z.stack.depth - 1) x l ≡ set l m x
    top_is_set x l =
        let few = o.stack.few in
        let last : z.stack.depth - 1 - 1 ≡ m = omega arith in
        ap₂ (λ (b : Bool) (i : ℕ). set_if b i x l) (some_top (z.stack.depth - 1) (λ e. omega arith) (omega arith)) last

    none_there : get_or in_hand.stack.active m 0 ≡ 256
    none_there =
        ap (λ (l : List ℕ). get_or l m 0) (top_is_set 256 ac)
        ∙ get_or-set_same ac m 256 0 (omega (arith, o.stack.few, o.stack.long_active))

    -- the strand, as it is read and as it is shown
    abbrev shown : held.Strand
    shown = strand_at fresh z.strands q

    abbrev time : TimeStamp
    time = get_or z.strands.time q 0

    known_caller : Known root index first z o n d q
    known_caller = record {
      in_use = o.strands.in_hand q (active_held ac z.stack.depth m (omega arith) (is_there root index first z o n d m below));
      sound = subst (SoundStrand z.book.goals (forest z).tables) (strand_is root index first z o n d m below)
          (calls root index first z o n d m below).sound;
    }

    own_time : (b : Bool) (y : held.Strand) (x : Strand)
        → held.with_pursued (strand_by b (get_or z.strands.time q 0) y x) (get_or z.strands.time q 0)
        ≡ strand_by b (get_or z.strands.time q 0) y x
    own_time true y x = refl
    own_time false y x = refl

    seen_is : seen time (hand_at z q) ≡ shown
    seen_is =
        in_hand_is root index first z o n d q known_caller time
        ∙ own_time (is_fresh z.strands q) (fresh (get_or z.strands.wants q 0)) (get_or z.strands.strands q unread_strand)

    read_is : (next z).found ≡ false → read_place z ≡ q
    read_is e =
        ap (λ (b : Bool). place_by b (next z).place (caller_place z.stack.depth ac)) e
        ∙ ap (λ (p : ℕ). p % 256) (place_is root index first z o n d m below)
        ∙ mod-eq_of_lt (caller_few root index first z o n d m below)

    -- THE CALLER'S "NOT" IS PROVED
    abbrev after_proof : Strand
    after_proof = proved (hand_at z q)

    hand_good : Sound (hand_at z q)
    hand_good = in_hand_sound root index first z o n d q known_caller

    proved_good : Sound after_proof
    proved_good =
        last_removed_sound (with_selected (hand_at z q) selection.Nothing) (selected_sound (hand_at z q) selection.Nothing hand_good)

    last_is : length shown.ex_clause.subgoals - 1 ≡ (or no_selected shown.selected_subgoal).subgoal_index
    last_is =
        let index_is : length shown.ex_clause.subgoals - 1 ≡ (calls root index first z o n d m below).selected.subgoal_index =
        omega (arith, (awaits root index first z o n d m below).is_last) in
        index_is
        ∙ ap (λ (w : Option held.SelectedSubgoal). (or no_selected w).subgoal_index) (sym (selected_is root index first z o n d m below))

    abbrev without : held.Strand → (index : ℕ) → held.Strand
    without y i =
        held.with_ex_clause (held.with_selected y none)
        (held.with_subgoals y.ex_clause (remove y.ex_clause.subgoals i))

    proved_is : seen time after_proof ≡ not_proved shown
    proved_is =
        last_removed_view (with_selected (hand_at z q) selection.Nothing) hand_good.literals_long time
        ∙ ap (λ (y : held.Strand). without y (length y.ex_clause.subgoals - 1)) seen_is
        ∙ ap (without shown) last_is

    abbrev proof_written : Stores
    proof_written = with_strands (written q time after_proof z.strands) in_hand

    written_fine : Sounds (q ∷ []) proof_written
    written_fine = written_sounds in_hand q in_hand_fine time after_proof proved_good

    abbrev back_in_entry : Stores
    back_in_entry = with_stack (activated q in_hand.stack) proof_written

    entry_fine : Sounds [] back_in_entry
    entry_fine = active_sound proof_written m few_below q written_fine none_there

    written_shows : state_above m proof_written ≡ state_above m in_hand
    written_shows =
        sym (state_is proof_written m few_below) ∙ written_view in_hand q in_hand_fine time after_proof proved_good
        ∙ state_is in_hand m few_below

    entry_shows : state back_in_entry ≡ splits.activated (not_proved shown) (splits.popped (state z))
    entry_shows =
        state_is back_in_entry m few_below
        ∙ active_view proof_written m few_below q written_fine none_there
        ∙ ap₂ splits.activated (written_shown in_hand q in_hand_fine time after_proof proved_good ∙ proved_is)
        (written_shows ∙ in_hand_shows)
        ∙ ap (splits.activated (not_proved shown)) popped_shows

    -- the place is in its entry, as it was
    stack_back : activated q in_hand.stack ≡ popped z.stack
    stack_back =
        ap (λ (l : List ℕ). record {
          depth = z.stack.depth - 1;
          table = z.stack.table;
          clock = z.stack.clock;
          positive = z.stack.positive;
          negative = z.stack.negative;
          active = l;
        })
        (ap (top_written (z.stack.depth - 1) q) (top_is_set 256 ac)
        ∙ top_is_set q (set ac m 256)
        ∙ set-set ac m 256 q
        ∙ set-get_or ac m 0)

    abbrev proved_at : (p : ℕ) → Lent
    proved_at p = lent_of z.tables (written p (get_or z.strands.time p 0) (proved (hand_at z p)) z.strands) z.answers
        (popped z.stack) z.clock

    proved_performs : idle z ≡ idles.CallerProved → Performs z
    proved_performs is =
        let at : read_place z ≡ q = read_is (not_found root index first z o n d idles.CallerProved is refl) in
        let put_is : put (done z idles.CallerProved) ≡ proved_at q =
        put_so (left z idles.CallerProved).flow (read_place z) (left z idles.CallerProved).strand (chosen z).place
        (idle_left (lent z) (left z idles.CallerProved))
        ∙ ap proved_at at in
        let stores-are : with_lent (proved_at q) z ≡ back_in_entry =
        ap (λ (k : Stack). with_stack k proof_written) (sym stack_back) in
        performs_as z (done z idles.CallerProved) (done_is z idles.CallerProved is refl)
        (ap (λ (s : SolveState). go (logic.continue s))
        (ap (λ (w : Lent). state (with_lent w z)) put_is ∙ ap state stores-are ∙ entry_shows)
        ∙ sym (ap (λ (a : splits.Act). go (splits.perform a (state z)))
        (for_caller root index first z o n d m below (λ s. splits.caller_proved (not_proved s))))
        ∙ sym (ap (λ (j : Idle). act_means z j >>= λ act. go (splits.perform act (state z))) is))
        (λ i e. no_stop (left z idles.CallerProved).flow i refl e)
        (subst (λ (w : Lent). Sounds [] (with_lent w z)) (sym put_is) (subst (Sounds []) (sym stores-are) entry_fine))

    -- THE CALLER MEETS THE TOP'S CYCLE: it takes the top's minimums, and its strand goes back to its table's queue
    abbrev through : books.Literal
    through = selected_literal shown

    abbrev least : Minimums
    least = minimums_at (get_or z.stack.positive n 0) (get_or z.stack.negative n 0)

    abbrev meeting : Stores
    meeting = with_stack (cycled (is_negative through) least in_hand.stack) in_hand

    meeting_fine : Sounds (q ∷ []) meeting
    meeting_fine = cycled_sound in_hand m few_below (q ∷ []) in_hand_fine through least

    abbrev rejoining : Stores
    rejoining = with_strands (enqueued_strand (get_or tb m 0) q z.strands) meeting

    rejoining_fine : Sounds [] rejoining
    rejoining_fine = queued_sound meeting q meeting_fine m few_below

    rejoining_shows : state rejoining
        ≡ splits.queued_at_top shown (splits.top_entry (λ c. with_active (cycle_minimums through least c) none) (state_above m top_popped))
    rejoining_shows =
        state_is rejoining m few_below
        ∙ queued_view meeting q meeting_fine m few_below
        ∙ ap (splits.queued_at_top shown)
        (cycled_view in_hand m few_below (q ∷ []) in_hand_fine through least
        ∙ ap (splits.top_entry (cycle_minimums through least)) in_hand_shows
        ∙ ap (λ (e : said.StackEntry). record { forest = forest z; stack = e ∷ entries_below top_popped m })
        (active_apart through least (top_entry top_popped m)))

    taken_is : caller_taken z.stack ≡ in_hand.stack
    taken_is =
        let few = o.stack.few in
        let back : z.stack.depth - 2 ≡ m = omega arith in
        ap (λ (l : List ℕ). record {
          depth = z.stack.depth - 1;
          table = z.stack.table;
          clock = z.stack.clock;
          positive = z.stack.positive;
          negative = z.stack.negative;
          active = l;
        })
        (ap₂ (λ (b : Bool) (i : ℕ). set_if b i 256 ac) (some_caller z.stack.depth (omega arith) (omega arith)) back
        ∙ sym (top_is_set 256 ac))

    cycled_is : cycled (caller_waits_on_not z.strands.waits ac z.stack.depth)
        (minimums_at (minimum_at z.stack.positive z.stack.depth) (minimum_at z.stack.negative z.stack.depth))
        (caller_taken z.stack) ≡ meeting.stack
    cycled_is =
        ap₂ (λ (b : Bool) (k : Stack). cycled b
        (minimums_at (minimum_at z.stack.positive z.stack.depth) (minimum_at z.stack.negative z.stack.depth)) k)
        (sign_of_caller root index first z o n d m below) taken_is
        ∙ ap₂ (λ (x y : ℕ). cycled (is_negative through) (minimums_at x y) in_hand.stack)
        (minimum_is root index first z o n d z.stack.positive) (minimum_is root index first z o n d z.stack.negative)

    rejoined_is : rejoined tb ac z.stack.depth z.strands.places ≡ enqueued (get_or tb m 0) q z.strands.places
    rejoined_is =
        let few = o.stack.few in
        let back : z.stack.depth - 2 ≡ m = omega arith in
        ap₂ (λ (u p : ℕ). enqueued_back u p z.strands.places)
        (sym (table_some z.stack.depth tb (omega arith) (omega arith)) ∙ ap (λ (i : ℕ). get_or tb i 0) back)
        (place_is root index first z o n d m below)
        ∙ ap (λ (b : Bool). enqueued_if b (get_or tb m 0) q z.strands.places) (lt-ltb q 256 (caller_few root index first z o n d m below))

    part_is : after z idles.PartOfCycle ≡ rejoining
    part_is =
        ap₂ (λ (p : Places) (k : Stack). with_lent (lent_of z.tables (with_places z.strands p) z.answers k z.clock) z)
        rejoined_is cycled_is

    abbrev met : SolveState → SolveState
    met s = splits.queued_at_top shown (splits.top_entry (λ c. with_active (cycle_minimums through least c) none) s)

    part_performs : idle z ≡ idles.PartOfCycle → Performs z
    part_performs is =
        read_back z idles.PartOfCycle is refl (hand_was z (read_place z))
        (ap (λ (s : SolveState). go (logic.continue s))
        (ap state part_is ∙ rejoining_shows ∙ ap met (popped_shows ∙ ap splits.popped (state_is z n d)))
        ∙ sym (ap (λ (s : SolveState). go (splits.perform (splits.part_of_cycle shown through) s)) (state_is z n d))
        ∙ sym (ap (λ (a : splits.Act). go (splits.perform a (state z)))
        (for_caller root index first z o n d m below (λ s. splits.part_of_cycle s (selected_literal s)))))
        (λ i e. no_stop (left z idles.PartOfCycle).flow i refl e)
        (subst (Sounds []) (sym part_is) rejoining_fine)

  pub caller_proved_performs : idle z ≡ idles.CallerProved → Performs z
  caller_proved_performs is =
      proved_performs (n - 1) (caller_below root index first z o n d (root_known root index first z o n d idles.CallerProved is refl))
      (no_strand root index first z o n d idles.CallerProved is refl) is

  pub part_of_cycle_performs : idle z ≡ idles.PartOfCycle → Performs z
  part_of_cycle_performs is =
      part_performs (n - 1) (caller_below root index first z o n d (root_known root index first z o n d idles.PartOfCycle is refl))
      (no_strand root index first z o n d idles.PartOfCycle is refl) is
