-- A turn with no strand to go on with, done, for sound stores: by what its act leaves, and the acts that are for no caller. Each leaves
-- what crate `small_steps` says, and the stores are sound.
use Prim.Native.Nat.{ℕ, suc, ◌-◌, ◌≤◌, ◌<◌}
use native.Mathlib.Omega.{arith}
use mathlib.Core.Bool.{Bool, true, false, true≢false}
use mathlib.Core.List.{List, []}
use mathlib.Core.Path.{◌≡◌, refl, sym, ap, subst, ◌∙◌}
use lib.Dec.{eqb, ltb}
use lib.ListN.{get_or}
use borrow.Author.Tests.{ltb-true, ltb-false}
use Rattle.definitions.specs as said_numbers
use Rattle.definitions.specs.{MAX}
use Rattle.definitions.specs.Logic as logic
use Rattle.definitions.specs.Logic.{SolveState}
use Rattle.definitions.specs.Stop.{Stops, go, ◌>>=◌}
use Rattle.definitions.specs.Table.{with_mode}
use Rattle.small_steps.specs.Acts as splits
use Rattle.stores.specs.declared.places.Places.{Places}
use Rattle.stores.specs.declared.queue.Spot.{Spot}
use Rattle.stores.specs.Numbers.{within}
use Rattle.stores.specs.Queue.{with_places}
use Rattle.stores.specs.Sound.{SoundStrands}
use Rattle.stores.specs.Tables.{moded}
use Rattle.stores.specs.View.{is_fresh, unread_strand, unread_answer}
use Rattle.control.specs.declared.ensure_root_answer.Top.{Top}
use Rattle.control.specs.declared.on_no_strands_left.Idle.{Idle}
use Rattle.control.specs.declared.on_no_strands_left.Idle.TheVariants as idles
use Rattle.control.specs.declared.performed.Flow.{Flow}
use Rattle.control.specs.declared.performed.Flow.TheVariants as ways
use Rattle.control.specs.InHand.{lent, with_lent, with_tables, Sounds, state_above, flows}
use Rattle.control.specs.EnsureRootAnswer.{next_by}
use Rattle.control.specs.OnNoStrandsLeft.{caller_waits_on_not, no_strands_by, minimum_at, part_by, head_by, cycle_by, left_by}
use Rattle.control.specs.OnNoStrandsLeft.{without_by}
use Rattle.control.specs.Perform.{has_strand, stops, left_so, idle_left, performed, performed_by}
use Rattle.control.specs.PerformDeed.{bare}
use Rattle.control.specs.PerformIdle.{idling, IdleDone, idle_done}
use Rattle.control.specs.TurnWrites.{put, read_place, chosen, turn_done, Performs}
use Rattle.control.specs.PerformStrand.{lent_of, TurnDone}
use Rattle.control.specs.Stores.{Stores, first_strands, state, SoundStores}
use Rattle.control.specs.TurnReads.{top, next, hand_at, decided_for, idle, act_means}
use Rattle.control.specs.UnwindStack.{all_back}
use Rattle.control.proofs.EffectSteps.{sounds_of, state_is}
use Rattle.control.proofs.EffectBack.{hand_was, so_sound, so_view, performs_as, strand_found}
use Rattle.control.proofs.EffectStack.{gone_sound, gone_view}
use Rattle.control.proofs.EffectTables.{moded_sounds, mode_changed}
use Rattle.control.proofs.EnsureRootAnswer.{top_is}

-- what is known of an act: whether the top is the root
abbrev pub RootIf : Idle → (root : Bool) → Type 0
RootIf idles.Nothing root = Unit {0}
RootIf idles.Finishes root = root ≡ true
RootIf idles.CallerFailed root = root ≡ false
RootIf idles.CallerProved root = root ≡ false
RootIf idles.ChangesMode root = Unit {0}
RootIf idles.NegativeCycle root = Unit {0}
RootIf idles.Clears root = Unit {0}
RootIf idles.PartOfCycle root = root ≡ false

module _ (len waits positive negative active : List ℕ) (x : Top) where
  abbrev root : Bool
  root = ltb x.depth 2

  root_left : (empty complete : Bool) → RootIf (left_by len waits positive negative active empty complete x) root
  root_left true complete = empty_queue root (caller_waits_on_not waits active x.depth)
    where
      empty_queue : (r not : Bool) → RootIf (no_strands_by r not) r
      empty_queue true not = refl
      empty_queue false true = refl
      empty_queue false false = refl
  root_left false true = tt
  root_left false false =
      met (ltb (minimum_at positive x.depth) x.clock) (ltb (minimum_at negative x.depth) x.clock)
    where
      part : (r : Bool) → RootIf (part_by r) r
      part true = refl
      part false = refl

      head : (not : Bool) → RootIf (head_by not) root
      head true = tt
      head false = tt

      met : (p q : Bool) → RootIf (cycle_by p q (minimum_at negative x.depth) x.depth) root
      met true q = part root
      met false true = part root
      met false false = head (ltb (minimum_at negative x.depth) MAX)

  root_without : (found : Bool) → RootIf (without_by len waits positive negative active found x) root
  root_without true = tt
  root_without false = root_left (eqb (get_or len x.table 0) 0) x.complete

-- no strand was found: the top's entry has none
none_active : (place : ℕ) (b : Bool) → ltb place 256 ≡ b → (s : Spot) → (next_by b place s).found ≡ false → 256 ≤ place
none_active place true e s is = absurd (true≢false is)
none_active place false e s is = ltb-false place 256 e

-- a flow that is no stop
abbrev pub is_stop : Flow → Bool
is_stop ways.Continue = false
is_stop ways.ReturnOk = false
is_stop ways.NoMoreSolutions = false
is_stop ways.QuantumExceeded = false
is_stop ways.NegativeCycle = false
is_stop (ways.Stop n) = true

pub no_stop : {A : Type 0} (f : Flow) (n : ℕ) → is_stop f ≡ false → f ≡ ways.Stop n → A
no_stop f n goes is = absurd (true≢false (sym (ap is_stop is) ∙ goes))

-- THE TURN by what the act leaves
module _ (z : Stores) where
  abbrev pub left : Idle → IdleDone
  left i =
      idle_done (top z).table (read_place z) (hand_at z (read_place z)) i (idling z.strands z.tables.complete z.stack)

  abbrev pub after : Idle → Stores
  after i = with_lent (idle_left (lent z) (left i)) z

  abbrev pub done : Idle → TurnDone
  done i = left_so (left i).flow (read_place z) (left i).strand (chosen z).place
      (get_or z.answers.answers (chosen z).place unread_answer) (idle_left (lent z) (left i))

  module _ (i : Idle) (is : idle z ≡ i) (none : has_strand i ≡ false) where
    pub done_is : turn_done z ≡ done i
    done_is =
        ap (λ (j : Idle). performed z.book.goal_flags z.book.goal_first z.book.goal_len z.book.clause_variant
        z.book.clause_flags (next z) (top z) (chosen z).made (decided_for z (chosen z)) (read_place z) (hand_at z (read_place z))
        (chosen z).place (get_or z.answers.answers (chosen z).place unread_answer) j (lent z)) is
        ∙ ap (λ (b : Bool). performed_by z.book.goal_flags z.book.goal_first z.book.goal_len
        z.book.clause_variant z.book.clause_flags (next z) (top z) (chosen z).made (decided_for z (chosen z)) (read_place z)
        (hand_at z (read_place z)) (chosen z).place (get_or z.answers.answers (chosen z).place unread_answer) b
        (stops (decided_for z (chosen z)).deed) i (lent z)) none

    abbrev pub does : Stops logic.Flow
    does = act_means z i >>= λ act. go (splits.perform act (state z))

    -- the strand goes back where it was read
    pub read_back :
        (is_fresh (left i).left.strands (read_place z) ≡ false
        → (left i).strand ≡ get_or (left i).left.strands.strands (read_place z) unread_strand)
        → flows (left i).flow (state (after i)) ≡ does
        → ((n : ℕ) → (left i).flow ≡ ways.Stop n → state (after i) ≡ state z) → Sounds [] (after i) → Performs z
    read_back was does-it undone sound =
        let shows : state (with_lent (put (done i)) z) ≡ state (after i) =
        so_view (left i).flow (read_place z) (left i).strand (chosen z).place (idle_left (lent z) (left i)) z was in
        performs_as z (done i) done_is
        (ap (flows (left i).flow) shows ∙ does-it
        ∙ sym (ap (λ (j : Idle). act_means z j >>= λ act. go (splits.perform act (state z))) is))
        (λ n e. shows ∙ undone n e)
        (so_sound (left i).flow (read_place z) (left i).strand (chosen z).place (idle_left (lent z) (left i)) z was [] sound)

module _ (root index first : ℕ) (z : Stores) (o : SoundStores root index first z) (n : ℕ) (d : z.stack.depth ≡ suc n) where
  sounds : Sounds [] z
  sounds = sounds_of root index first z o n d

  abbrev t : ℕ
  t = get_or z.stack.table n 0

  pub top_table_is : (top z).table ≡ t
  top_table_is = ap (λ (x : Top). x.table) (top_is root index first z o n d)

  -- WHERE THERE IS NO STRAND
  module _ (i : Idle) (is : idle z ≡ i) (none : has_strand i ≡ false) where
    pub not_found : (next z).found ≡ false
    not_found = sym (strand_found z) ∙ ap has_strand is ∙ none

    pub no_strand : get_or z.stack.active n 0 ≡ 256
    no_strand =
        let many : 256 ≤ (top z).active =
        none_active (top z).active (ltb (top z).active 256) refl _ not_found in
        let same : (top z).active ≡ get_or z.stack.active n 0 = ap (λ (x : Top). x.active) (top_is root index first z o n d) in
        omega (arith, many, same, o.stack.places n (omega arith))

    pub root_known : RootIf i (ltb z.stack.depth 2)
    root_known =
        subst (λ (j : Idle). RootIf j (ltb z.stack.depth 2)) is
        (subst (λ (x : Top). RootIf (idle z) (ltb x.depth 2)) (top_is root index first z o n d)
        (root_without z.strands.places.len z.strands.waits z.stack.positive z.stack.negative z.stack.active (top z)
        (next z).found))

  -- THE ANSWER MODE
  pub mode_performs : idle z ≡ idles.ChangesMode → Performs z
  mode_performs is =
      read_back z idles.ChangesMode is refl (hand_was z (read_place z))
      (ap (λ (u : ℕ). go (logic.return_err logic.QuantumExceeded (state (with_tables (moded u false z.tables) z)))) top_table_is
      ∙ ap (λ (s : SolveState). go (logic.return_err logic.QuantumExceeded s))
      (state_is (with_tables (moded t false z.tables) z) n d ∙ mode_changed z n d [] sounds
      ∙ sym (ap (splits.top_table (λ u. with_mode u said_numbers.Ambiguous)) (state_is z n d))))
      (λ m e. no_stop (left z idles.ChangesMode).flow m refl e)
      (subst (λ (u : ℕ). Sounds [] (with_tables (moded u false z.tables) z)) (sym top_table_is) (moded_sounds z n d [] sounds))

  -- THE SEARCH IS OVER, with these rings
  abbrev pub over_with : Places → Stores
  over_with p = with_lent (lent_of z.tables (with_places z.strands p) z.answers (bare z.stack) z.clock) z

  pub over_sound : (p : Places) → SoundStrands (first_strands z.book) (with_places z.strands p) z.tables.count []
      → Sounds [] (over_with p)
  over_sound p sound = record {
    tables = o.tables;
    strands = sound;
    answers = o.answers;
    stack = record {
      few = omega arith;
      long_table = o.stack.long_table;
      long_clock = o.stack.long_clock;
      long_positive = o.stack.long_positive;
      long_negative = o.stack.long_negative;
      long_active = o.stack.long_active;
      places = λ i h. absurd (omega arith);
    };
    made = λ i h. absurd (omega arith);
  }

  -- A NEGATIVE CYCLE: the search is over
  pub negative_performs : idle z ≡ idles.NegativeCycle → Performs z
  negative_performs is =
      let none : get_or z.stack.active n 0 ≡ 256 = no_strand idles.NegativeCycle is refl in
      read_back z idles.NegativeCycle is refl (hand_was z (read_place z))
      (ap (λ (s : SolveState). go (logic.return_err logic.NegativeCycle s))
      (gone_view z n d sounds none ∙ sym (ap splits.gone (state_is z n d))))
      (λ m e. no_stop (left z idles.NegativeCycle).flow m refl e)
      (gone_sound z n d sounds none)

  -- THE ROOT HAS NO STRAND: the search is over, and there is no caller
  abbrev over_by : (m : ℕ) → Stores
  over_by m = over_with (all_back z.stack.table z.stack.active m z.strands.places)

  pub finish_performs : idle z ≡ idles.Finishes → Performs z
  finish_performs is =
      let none : get_or z.stack.active n 0 ≡ 256 = no_strand idles.Finishes is refl in
      let few : z.stack.depth < 2 = ltb-true z.stack.depth 2 (root_known idles.Finishes is refl) in
      let lowest : n ≡ 0 = omega arith in
      let below : within (z.stack.depth - 1) ≡ 0 = omega arith in
      read_back z idles.Finishes is refl (hand_was z (read_place z))
      (ap (λ (s : SolveState). go (logic.return_err logic.NoMoreSolutions s))
      (sym (ap (λ (m : ℕ). state (over_by m)) below) ∙ gone_view z n d sounds none
      ∙ ap (λ (m : ℕ). splits.gone (state_above m z)) lowest))
      (λ m e. no_stop (left z idles.Finishes).flow m refl e)
      (subst (λ (m : ℕ). Sounds [] (over_by m)) below (gone_sound z n d sounds none))

  -- with an act that is for a caller there is one
  pub caller_below : ltb z.stack.depth 2 ≡ false → n ≡ suc (n - 1)
  caller_below e = omega (arith, ltb-false z.stack.depth 2 e)
