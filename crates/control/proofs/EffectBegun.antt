-- A turn with a strand begun, for sound stores: the strand left where it was, and the tables of the goals noted are made. The state is
-- the one on which crate `small_steps` does the deed, and the strand's place is in hand. From EffectLeft and EffectMade.
use Prim.Native.Nat.{ℕ, suc, ◌+◌, ◌≤◌, ◌<◌}
use native.Mathlib.Omega.{arith}
use mathlib.Core.Bool.{Bool, true}
use mathlib.Core.List.{List, [], ◌∷◌, ◌++◌}
use mathlib.Core.Path.{◌≡◌, refl, sym, ap, subst, ◌∙◌}
use lib.Dec.{leb}
use lib.ListN.{length, get_or}
use Rattle.definitions.specs.Logic.{SolveState, with_forest}
use Rattle.laws.specs.All.{All}
use Rattle.rings.proofs.Counts.{times_self}
use Rattle.small_steps.specs.Acts as split
use Rattle.small_steps.specs.Acts.{with_made}
use Rattle.strands.specs.declared.Strand.{Strand}
use Rattle.stores.specs.Places.{free_place}
use Rattle.stores.specs.Sound.{waiting}
use Rattle.stores.specs.Stack.{caller_place}
use Rattle.stores.specs.View.{unread_answer, strand_at}
use Rattle.stores.proofs.PlacesCases.{freed_room}
use Rattle.stores.proofs.PlacesViews.{in_use_is}
use Rattle.control.specs.declared.choose.Chosen.{Chosen}
use Rattle.control.specs.declared.select_subgoal.Choice.{Choice}
use Rattle.control.specs.declared.select_subgoal.Made.{Made}
use Rattle.control.specs.SelectSubgoal.{noted_goals, Ended}
use Rattle.control.specs.PerformStrand.{lent_of, begun, left_stack}
use Rattle.control.specs.InHand.{lent, with_lent, Sounds, state_above}
use Rattle.control.specs.TurnWrites.{place_by, read_place, chosen}
use Rattle.control.specs.Stores.{Stores, first_strands, in_use, forest, held_places, SoundStores}
use Rattle.control.specs.TurnReads.{top, next, hand_at, chosen_for, decided_for, origin}
use Rattle.control.proofs.ChooseDecides.{sound_forest, choice, choice_known}
use Rattle.control.proofs.ChooseRoom.{Counted, choice_counts, copy_room}
use Rattle.control.proofs.EffectLeft.{away, left_sound, left_view, left_idle, left_live}
use Rattle.control.proofs.EffectMade.{with_tabling, Fits, all_made, made_sound, made_hand, made_waiting, made_count, made_view}
use Rattle.control.proofs.EnsureRootAnswer.{Known, known, in_hand_sound, in_hand_kept}
use Rattle.control.proofs.SelectRoom.{room_for_noted}
use Rattle.control.proofs.Stores.{top_entry, counted, book_goals}

-- THE STORES of a turn begun, as what does the turn leaves them
abbrev pub began : Stores → Stores
began z =
    let b = z.book in
    let c = chosen z in
    with_lent (lent_of
    (begun b.goal_flags b.goal_first b.goal_len b.clause_variant b.clause_flags (next z) (top z) c.made
    (decided_for z c) c.place (lent z)).tables
    (begun b.goal_flags b.goal_first b.goal_len b.clause_variant b.clause_flags (next z) (top z) c.made
    (decided_for z c) c.place (lent z)).strands
    z.answers
    (left_stack b.goal_flags b.goal_first b.goal_len b.clause_variant b.clause_flags (next z) (top z) c.made
    (decided_for z c) c.place z.stack) z.clock) z

-- as the tables made on the stores that the strand left
abbrev made_on : Made → Stores → Stores
made_on made z = with_tabling (all_made made z) z

-- the strand that is read is the one that the turn goes on with
pub read_found : (z : Stores) → (next z).found ≡ true → read_place z ≡ (next z).place
read_found z is = ap (λ (b : Bool). place_by b (next z).place (caller_place z.stack.depth z.stack.active)) is

module _ (root index first : ℕ) (z : Stores) (o : SoundStores root index first z) (n : ℕ) (d : z.stack.depth ≡ suc n)
    (is : (next z).found ≡ true) where
  abbrev q : ℕ
  q = (next z).place

  abbrev hand : List ℕ
  hand = q ∷ []

  pub read_is : (next z).place ≡ read_place z
  read_is = sym (read_found z is)

  abbrev s : Strand
  s = hand_at z q

  abbrev k : Known root index first z o n d q
  k = known root index first z o n d is

  abbrev c : Choice
  c = choice root index first z o n d s (in_hand_sound root index first z o n d q k)
      (in_hand_kept root index first z o n d q k (top_entry z n).clock) (origin z (next z))

  ended : Ended (forest z) s.selected c
  ended = choice_known root index first z o n d s (in_hand_sound root index first z o n d q k)
      (in_hand_kept root index first z o n d q k (top_entry z n).clock) (origin z (next z))

  counts : Counted z.book.goal_flags z.book.goal_len (in_use z.strands.places) c
  counts = choice_counts z.book.goal_flags z.book.goal_len (in_use z.strands.places) z.tables.goal
      z.tables.floundered z.tables.count (omega (arith, o.strands.places.rings.room)) s

  left : Sounds hand (away z)
  left = left_sound root index first z o n d is

  -- the live strands
  left_all : waiting (away z).strands.places z.tables.count + length (hand ++ held_places (away z)) ≡ in_use z.strands.places
  left_all =
      sym (in_use_is (away z).strands.places z.tables.count (hand ++ held_places (away z)) left.strands.places)
      ∙ left_live root index first z o n d is

  fits : Fits hand c.made (away z)
  fits = record {
    few = ended.noted.few;
    named = subst (λ (m : ℕ). All (λ g. g < m) (noted_goals c.made)) (book_goals root index first z o) ended.noted.named;
    tables =
        let room = room_for_noted (forest z) c.made (sound_forest root index first z o n d) ended.noted in
        let all = counted root index first z o in
        omega arith;
    places = omega (arith, left_all, counts.all, counts.few);
  }

  -- for what is chosen for the strand that is read
  at_place : (P : Chosen → Type 0) → P (chosen_for z s) → P (chosen z)
  at_place P h = subst (λ (p : ℕ). P (chosen_for z (hand_at z p))) read_is h

  pub begun_sound : Sounds ((next z).place ∷ []) (began z)
  begun_sound =
      at_place (λ x. Sounds hand (made_on x.made (away z))) (made_sound c.made hand (away z) o.book left fits)

  pub begun_view : state_above n (began z)
      ≡ with_forest (split.taken (origin z (next z)) (state_above n z))
      (with_made (split.taken (origin z (next z)) (state_above n z)).forest (noted_goals (chosen z).made))
  begun_view =
      at_place (λ x. state_above n (made_on x.made (away z))
      ≡ with_forest (split.taken (origin z (next z)) (state_above n z))
      (with_made (split.taken (origin z (next z)) (state_above n z)).forest (noted_goals x.made)))
      (made_view c.made hand (away z) o.book left fits n d
      ∙ ap (λ (y : SolveState). with_forest y (with_made y.forest (noted_goals c.made))) (left_view root index first z o n d is))

  -- the top's entry has no strand, and the one in hand shows what it did
  pub begun_idle : get_or (began z).stack.active n 0 ≡ 256
  begun_idle = left_idle root index first z o n d is

  pub begun_shown : strand_at (first_strands z.book) (began z).strands (next z).place
      ≡ strand_at (first_strands z.book) z.strands (next z).place
  begun_shown =
      at_place (λ x. strand_at (first_strands z.book) (all_made x.made (away z)).strands q
      ≡ strand_at (first_strands z.book) z.strands q)
      (made_hand c.made hand (away z) o.book left fits q (omega (arith, times_self q)))

  -- so many tables are made then
  pub begun_count : (began z).tables.count ≡ z.tables.count + (chosen z).made.count
  begun_count =
      at_place (λ x. (all_made x.made (away z)).tables.count ≡ z.tables.count + x.made.count)
      (made_count c.made hand (away z) o.book left fits)

  -- THE ROOM: as many strands are live as the choice counted at most, 256 at most, and fewer where one is copied
  pub begun_live : (waiting (began z).strands.places (began z).tables.count + length ((next z).place ∷ held_places (began z))
      ≤ (chosen z).live) × ((chosen z).live ≤ 256)
  begun_live =
      at_place (λ x. (waiting (all_made x.made (away z)).strands.places (all_made x.made (away z)).tables.count
      + length (hand ++ held_places (away z)) ≤ x.live) × (x.live ≤ 256)) (
        omega (arith, made_waiting c.made hand (away z) o.book left fits, left_all, counts.all),
        counts.few,
      )

  pub begun_room : (decided_for z (chosen z)).copies ≡ true → free_place (began z).strands.places < 256
  begun_room copies =
      let fewer = copy_room (chosen z) (get_or z.answers.answers (chosen z).place unread_answer) (top z).complete
      (leb z.clock_limit z.clock) (in_use z.answers.places) copies in
      freed_room (began z).strands.places (began z).tables.count (q ∷ held_places (began z)) begun_sound.strands.places
      (omega (arith, begun_live.0, fewer))

-- the stack is as it was but for the top's strand
pub begun_depth : (z : Stores) → (began z).stack.depth ≡ z.stack.depth
begun_depth z = refl

pub begun_tables : (z : Stores) → (began z).stack.table ≡ z.stack.table
begun_tables z = refl
