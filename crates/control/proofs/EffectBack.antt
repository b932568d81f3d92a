-- What a turn reads and writes back where it was read: nothing that is shown changes. So a turn that stops leaves the state as it was.
use Prim.Native.Nat.{ℕ}
use mathlib.Core.Bool.{Bool, true, false, true≢false}
use mathlib.Core.List.{List, [], ◌++◌}
use mathlib.Core.Option.{Option}
use mathlib.Core.Path.{◌≡◌, refl, sym, ap, ap₂, subst, ◌∙◌}
use lib.Dec.{eqb, ltb}
use lib.ListN.{get_or, set, length-set}
use lib.Seq.{get_or-set_other, set-set, set-get_or}
use Rattle.definitions.specs.{TimeStamp, MAX}
use Rattle.definitions.specs.Logic as logic
use Rattle.definitions.specs.Logic.{SolveState}
use Rattle.definitions.specs.Stack as said
use Rattle.definitions.specs.Stop.{Stops, go, ◌>>=◌}
use Rattle.definitions.specs.Strand as held
use Rattle.definitions.specs.Tables.{Forest}
use Rattle.rings.proofs.Counts.{is_or_not, map_cong}
use Rattle.small_steps.specs.Acts as splits
use Rattle.strands.specs.declared.Answer.{Answer}
use Rattle.strands.specs.declared.Strand.{Strand}
use Rattle.strands.specs.View.{seen}
use Rattle.stores.specs.declared.queue.Strands.{Strands}
use Rattle.stores.specs.Numbers.{flag_number}
use Rattle.stores.specs.Places.{ring}
use Rattle.stores.specs.Queue.{store, strands_of}
use Rattle.stores.specs.Sound.{Written, InUse, SoundStrands}
use Rattle.stores.specs.View.{FirstStrands, is_fresh, strand_by, strand_at, unread_strand, unread_answer}
use Rattle.stores.proofs.ListsSpans.{all_times}
use Rattle.stores.proofs.QueueViews.{tables_kept}
use Rattle.stores.proofs.StackViews.{entered_kept}
use Rattle.control.specs.declared.decision.Decision.{Decision}
use Rattle.control.specs.declared.decision.Deed.{Deed}
use Rattle.control.specs.declared.decision.Deed.TheVariants as deeds
use Rattle.control.specs.declared.ensure_root_answer.Top.{Top}
use Rattle.control.specs.declared.on_no_strands_left.Idle.TheVariants as idles
use Rattle.control.specs.declared.performed.Flow.{Flow}
use Rattle.control.specs.declared.performed.Flow.TheVariants as ways
use Rattle.control.specs.Decision.{copy_by, meaning_by}
use Rattle.control.specs.InHand.{lent, with_lent, with_strands, Sounds, flows}
use Rattle.control.specs.EnsureRootAnswer.{in_hand_by}
use Rattle.control.specs.OnNoStrandsLeft.{caller_waits_on_not, no_strands_by, minimum_at, part_by, head_by, cycle_by, left_by}
use Rattle.control.specs.OnNoStrandsLeft.{without_by}
use Rattle.control.specs.Perform.{has_strand, stops, stop_flow, left_so, performed_by}
use Rattle.control.specs.PerformDeed.{answers_of}
use Rattle.control.specs.TurnWrites.{put, read_place, chosen, turn_done, Performs}
use Rattle.control.specs.PerformStrand.{Lent, lent_of, TurnDone}
use Rattle.control.specs.SelectSubgoal.{noted_goals}
use Rattle.control.specs.Stores.{Stores, first_strands, forest, state, held_places}
use Rattle.control.specs.TurnReads.{top, next, hand_at, chosen_for, decided_for, idle}
use Rattle.control.specs.TurnReads.{origin, clock_at, strand_means, act_means, turn_means}
use Rattle.control.proofs.EffectSteps.{forest_is}
use Rattle.control.proofs.EffectBegun.{read_found}

-- the strands, with another list
abbrev pub with_list : List Strand → Strands → Strands
with_list l s = store l s.time s.ambiguous s.variant s.waits s.wants s.places

-- A STRAND WRITTEN BACK: it is the one that stands there, unless the place is fresh. What stands at a fresh place doesn't count.
module _ (fresh : FirstStrands) (s : Strands) (p : ℕ) (x : Strand)
    (was : is_fresh s p ≡ false → x ≡ get_or s.strands p unread_strand) where
  abbrev s'' : Strands
  s'' = with_list (set s.strands p x) s

  stands : (q : ℕ) → is_fresh s q ≡ false → get_or (set s.strands p x) q unread_strand ≡ get_or s.strands q unread_strand
  stands = is_or_not p
      (λ q. is_fresh s q ≡ false → get_or (set s.strands p x) q unread_strand ≡ get_or s.strands q unread_strand)
      (λ e. ap (λ (y : Strand). get_or (set s.strands p y) p unread_strand) (was e)
      ∙ ap (λ (l : List Strand). get_or l p unread_strand) (set-get_or s.strands p unread_strand))
      (λ q d e. get_or-set_other s.strands p q x unread_strand d)

  shown_by : (q : ℕ) (b : Bool) → is_fresh s q ≡ b
      → strand_by b (get_or s.time q 0) (fresh (get_or s.wants q 0)) (get_or (set s.strands p x) q unread_strand)
      ≡ strand_by b (get_or s.time q 0) (fresh (get_or s.wants q 0)) (get_or s.strands q unread_strand)
  shown_by q true e = refl
  shown_by q false e = ap (strand_by false (get_or s.time q 0) (fresh (get_or s.wants q 0))) (stands q e)

  pub back_shows : (q : ℕ) → strand_at fresh (with_list (set s.strands p x) s) q ≡ strand_at fresh s q
  back_shows q = shown_by q (is_fresh s q) refl

  back_use : (q : ℕ) → InUse fresh s q → InUse fresh s'' q
  back_use q i = record {
    is_ambiguous = i.is_ambiguous ∙ ap (λ (y : held.Strand). flag_number y.ex_clause.ambiguous) (sym (back_shows q));
    is_variant = i.is_variant ∙ ap (λ (y : held.Strand). y.ex_clause.subst.variant) (sym (back_shows q));
    is_written = λ e.
        subst (λ (y : Strand). Written y (get_or s.waits q 0) (get_or s.wants q 0)) (sym (stands q e)) (i.is_written e);
  }

  pub back_strands : (n : ℕ) (held : List ℕ) → SoundStrands fresh s n held
      → SoundStrands fresh (with_list (set s.strands p x) s) n held
  back_strands n held sound = record {
    places = sound.places;
    long = record {
      long_strands = length-set s.strands p x ∙ sound.long.long_strands;
      long_time = sound.long.long_time;
      long_ambiguous = sound.long.long_ambiguous;
      long_variant = sound.long.long_variant;
      long_waits = sound.long.long_waits;
      long_wants = sound.long.long_wants;
    };
    queued = λ t q h k. back_use q (sound.queued t q h k);
    in_hand = λ q k. back_use q (sound.in_hand q k);
  }

  pub back_queue : (t : ℕ) → strands_of fresh (with_list (set s.strands p x) s) t ≡ strands_of fresh s t
  back_queue t =
      map_cong (strand_at fresh s'') (strand_at fresh s) (ring s.places t)
      (all_times (λ q. strand_at fresh s'' q ≡ strand_at fresh s q) (ring s.places t) (λ q k. back_shows q))

module _ (z : Stores) (p : ℕ) (x : Strand) (was : is_fresh z.strands p ≡ false → x ≡ get_or z.strands.strands p unread_strand) where
  abbrev first : FirstStrands
  first = first_strands z.book

  abbrev after : Stores
  after = with_strands (with_list (set z.strands.strands p x) z.strands) z

  pub back_sound : (hand : List ℕ) → Sounds hand z
      → Sounds hand (with_strands (with_list (set z.strands.strands p x) z.strands) z)
  back_sound hand o = record {
    tables = o.tables;
    strands = back_strands first z.strands p x was z.tables.count (hand ++ held_places z) o.strands;
    answers = o.answers;
    stack = o.stack;
    made = o.made;
  }

  pub back_view : state (with_strands (with_list (set z.strands.strands p x) z.strands) z) ≡ state z
  back_view =
      ap₂ (λ (f : Forest) (es : said.Stack). record { forest = f; stack = es })
      (forest_is z (forest after).tables (forest z).tables
      (tables_kept first z.tables z.answers z.strands after.strands (λ u k. back_queue first z.strands p x was u)))
      (entered_kept first z.stack z.strands after.strands
      (λ i h k. back_shows first z.strands p x was (get_or z.stack.active i 0)))

-- the strand in hand is the one that stands at its place, unless that is fresh
pub hand_was : (z : Stores) (p : ℕ) → is_fresh z.strands p ≡ false → hand_at z p ≡ get_or z.strands.strands p unread_strand
hand_was z p e =
    ap (λ (b : Bool). in_hand_by z.book.clause_variant z.book.clause_flags z.book.clause_len z.book.literal_kind
    z.book.literal_goal z.book.literal_want b (get_or z.strands.strands p unread_strand) (get_or z.strands.wants p 0)) e

-- WHAT THE OWNER WRITES of a turn that leaves the stores so: the strand, and the answer that was read where it was
module _ (f : Flow) (p : ℕ) (x : Strand) (at : ℕ) (w : Lent) where
  pub put_so : put (left_so f p x at (get_or w.answers.answers at unread_answer) w)
      ≡ lent_of w.tables (with_list (set w.strands.strands p x) w.strands) w.answers w.stack w.clock
  put_so =
      ap₂ (λ (l : List Strand) (m : List Answer). lent_of w.tables (with_list l w.strands)
      (answers_of m w.answers.variant w.answers.key w.answers.ambiguous w.answers.places) w.stack w.clock)
      (set-set w.strands.strands p x x) (set-get_or w.answers.answers at unread_answer)

  -- the strand is the one that stood there
  module _ (z : Stores) (was : is_fresh w.strands p ≡ false → x ≡ get_or w.strands.strands p unread_strand) where
    pub so_sound : (hand : List ℕ) → Sounds hand (with_lent w z)
        → Sounds hand (with_lent (put (left_so f p x at (get_or w.answers.answers at unread_answer) w)) z)
    so_sound hand o = subst (λ (v : Lent). Sounds hand (with_lent v z)) (sym put_so) (back_sound (with_lent w z) p x was hand o)

    pub so_view : state (with_lent (put (left_so f p x at (get_or w.answers.answers at unread_answer) w)) z) ≡ state (with_lent w z)
    so_view = ap (λ (v : Lent). state (with_lent v z)) put_so ∙ back_view (with_lent w z) p x was

-- A TURN BY WHAT IT COMES TO
pub performs_as : (z : Stores) (r : TurnDone) → turn_done z ≡ r
    → flows r.flow (state (with_lent (put r) z)) ≡ (turn_means z >>= λ act. go (splits.perform act (state z)))
    → ((n : ℕ) → r.flow ≡ ways.Stop n → state (with_lent (put r) z) ≡ state z) → Sounds [] (with_lent (put r) z) → Performs z
performs_as z r is does undone sound = record {
  does = ap (λ (d : TurnDone). flows d.flow (state (with_lent (put d) z))) is ∙ does;
  undone = λ n e.
      ap (λ (d : TurnDone). state (with_lent (put d) z)) is ∙ undone n (ap (λ (d : TurnDone). d.flow) (sym is) ∙ e);
  sound = subst (λ (d : TurnDone). Sounds [] (with_lent (put d) z)) (sym is) sound;
}

-- there is a strand to go on with, or an act without one
module _ (len waits positive negative active : List ℕ) (x : Top) where
  none_by : (empty complete : Bool) → has_strand (left_by len waits positive negative active empty complete x) ≡ false
  none_by true complete = empty_queue (ltb x.depth 2) (caller_waits_on_not waits active x.depth)
    where
      empty_queue : (root not : Bool) → has_strand (no_strands_by root not) ≡ false
      empty_queue true not = refl
      empty_queue false true = refl
      empty_queue false false = refl
  none_by false true = refl
  none_by false false =
      met (ltb (minimum_at positive x.depth) x.clock) (ltb (minimum_at negative x.depth) x.clock)
    where
      part : (root : Bool) → has_strand (part_by root) ≡ false
      part true = refl
      part false = refl

      head : (not : Bool) → has_strand (head_by not) ≡ false
      head true = refl
      head false = refl

      met : (p q : Bool) → has_strand (cycle_by p q (minimum_at negative x.depth) x.depth) ≡ false
      met true q = part (ltb x.depth 2)
      met false true = part (ltb x.depth 2)
      met false false = head (ltb (minimum_at negative x.depth) MAX)

  strand_if : (found : Bool) → has_strand (without_by len waits positive negative active found x) ≡ found
  strand_if true = refl
  strand_if false = none_by (eqb (get_or len x.table 0) 0) x.complete

pub strand_found : (z : Stores) → has_strand (idle z) ≡ (next z).found
strand_found z =
    strand_if z.strands.places.len z.strands.waits z.stack.positive z.stack.negative z.stack.active (top z)
    (next z).found

-- A STOP
stop_means : (time : TimeStamp) (clock_at : ℕ → TimeStamp) (x : Deed) → stops x ≡ true
    → (copy : Option held.Strand) (y : Strand) (a : Answer)
    → (s : SolveState) {A : Type 0} (k : A → Stops logic.Flow) (act : splits.Deed → Stops A)
    → flows (stop_flow x) s ≡ (meaning_by time clock_at x copy y a >>= act >>= k)
stop_means time clock_at (deeds.Stop n) e copy y a s k act = refl
stop_means time clock_at deeds.GoesOn e copy y a s k act = absurd (true≢false (sym e))
stop_means time clock_at deeds.GivesUp e copy y a s k act = absurd (true≢false (sym e))
stop_means time clock_at (deeds.Cycles height) e copy y a s k act = absurd (true≢false (sym e))
stop_means time clock_at (deeds.Pushes table) e copy y a s k act = absurd (true≢false (sym e))
stop_means time clock_at deeds.Requeues e copy y a s k act = absurd (true≢false (sym e))
stop_means time clock_at deeds.Flounders e copy y a s k act = absurd (true≢false (sym e))
stop_means time clock_at (deeds.Answers empties) e copy y a s k act = absurd (true≢false (sym e))

module _ (z : Stores) (o : Sounds [] z) (has : has_strand (idle z) ≡ true) (halts : stops (decided_for z (chosen z)).deed ≡ true) where
  found : (next z).found ≡ true
  found = sym (strand_found z) ∙ has

  nothing : idle z ≡ idles.Nothing
  nothing =
      ap (λ (b : Bool). without_by z.strands.places.len z.strands.waits z.stack.positive z.stack.negative
      z.stack.active b (top z)) found

  means : turn_means z ≡ strand_means z (next z) (chosen z)
  means =
      ap (act_means z) nothing ∙ ap (λ (p : ℕ). strand_means z (next z) (chosen_for z (hand_at z p))) (sym (read_found z found))

  abbrev decision : Decision
  decision = decided_for z (chosen z)

  abbrev stopped : TurnDone
  stopped = left_so (stop_flow decision.deed) (read_place z) (hand_at z (read_place z)) (chosen z).place
      (get_or z.answers.answers (chosen z).place unread_answer) (lent z)

  done_is : turn_done z ≡ stopped
  done_is =
      ap₂ (λ (b c : Bool). performed_by z.book.goal_flags z.book.goal_first z.book.goal_len z.book.clause_variant
      z.book.clause_flags (next z) (top z) (chosen z).made decision (read_place z) (hand_at z (read_place z)) (chosen z).place
      (get_or z.answers.answers (chosen z).place unread_answer) b c (idle z) (lent z)) has halts

  as_it_was : state (with_lent (put stopped) z) ≡ state z
  as_it_was =
      so_view (stop_flow decision.deed) (read_place z) (hand_at z (read_place z)) (chosen z).place (lent z) z
      (hand_was z (read_place z))

  pub stop_performs : Performs z
  stop_performs =
      performs_as z stopped done_is
      (stop_means (top z).clock (clock_at z) decision.deed halts (copy_by decision.copies (seen (top z).clock decision.copy))
      decision.strand decision.answer (state (with_lent (put stopped) z)) (λ act. go (splits.perform act (state z)))
      (λ deed. go (splits.takes (origin z (next z)) (noted_goals (chosen z).made) deed))
      ∙ sym (ap (λ (a : Stops splits.Act). a >>= λ act. go (splits.perform act (state z))) means))
      (λ n e. as_it_was)
      (so_sound (stop_flow decision.deed) (read_place z) (hand_at z (read_place z)) (chosen z).place (lent z) z
      (hand_was z (read_place z)) [] o)
