-- A turn with a strand, where the numbers beside it settle a push or a cycle: for sound stores the strand at its place waits on the table
-- that they name. What is decided for it is that push or that cycle, and the turn is what the numbers alone do.
use Prim.Native.Nat.{ℕ, suc, ◌%◌, ◌<◌}
use native.Mathlib.Omega.{arith}
use mathlib.Core.Bool.{Bool, true, false, true≢false}
use mathlib.Core.Path.{◌≡◌, refl, sym, ap, ap₂, subst, ◌∙◌}
use lib.Dec.{leb}
use lib.ListN.{get_or}
use borrow.Author.Tests.{leb-false, ne_eqb}
use Rattle.definitions.specs.Strand as held
use Rattle.asserts.specs.Sound.{SoundStrand}
use Rattle.strands.specs.declared.Answer.{Answer}
use Rattle.strands.specs.declared.Selected.{Selected}
use Rattle.strands.specs.declared.Strand.{Strand}
use Rattle.strands.specs.Answers.{answer_of}
use Rattle.strands.specs.View.{seen}
use Rattle.stores.specs.Numbers.{flag_number, flag_at}
use Rattle.stores.specs.Sound.{Written}
use Rattle.stores.specs.Tables.{table_goal_at}
use Rattle.stores.specs.View.{strand_by, strand_at, is_fresh, unread_strand, unread_answer}
use Rattle.control.specs.declared.choose.Chosen.{Chosen}
use Rattle.control.specs.declared.choose.Sight.{Sight}
use Rattle.control.specs.declared.choose.Sight.TheVariants as sights
use Rattle.control.specs.declared.on_no_strands_left.Idle.{Idle}
use Rattle.control.specs.declared.on_no_strands_left.Idle.TheVariants as idles
use Rattle.control.specs.declared.on_subgoal_selected.Look.{Look}
use Rattle.control.specs.declared.on_subgoal_selected.Look.TheVariants as looks
use Rattle.control.specs.declared.select_subgoal.Choice.{Choice}
use Rattle.control.specs.declared.select_subgoal.Selection.TheVariants as selection
use Rattle.control.specs.Choose.{look_at, selected_sight, chosen_with, chosen_of, decide}
use Rattle.control.specs.InHand.{lent}
use Rattle.control.specs.OnNoStrandsLeft.{without_by}
use Rattle.control.specs.Perform.{performed}
use Rattle.control.specs.TurnWrites.{put, turn_done}
use Rattle.control.specs.PerformStrand.{TurnDone}
use Rattle.control.specs.SelectSubgoal.{leaves, begun}
use Rattle.control.specs.Stores.{Stores, first_strands, in_use, forest, SoundStores}
use Rattle.control.specs.TurnReads.{top, next, hand_at, chosen_for, idle}
use Rattle.control.proofs.EffectBack.{hand_was}
use Rattle.control.proofs.EffectBegun.{read_found}
use Rattle.control.proofs.EnsureRootAnswer.{Known, known}
use Rattle.control.proofs.Stores.{counted, few_made}
use Rattle.number_turns.specs.declared.number_turn.Move.{Move}
use Rattle.number_turns.specs.declared.number_turn.Move.TheVariants as move
use Rattle.number_turns.specs.NumberTurn.{push_unless, move_by_look, strand_move_by, strand_move, moves, lent_moved}
use Rattle.number_turns.proofs.NumberTurnsAwaits.{Awaits, awaits_what, choice_is}
use Rattle.number_turns.proofs.NumberTurnsBack.{Does, Stands, push_back, cycle_back}

-- THE TURN by what is chosen, with these answers to whether it is late and what is done without a strand
module _ (z : Stores) where
  abbrev done_by : (late : Bool) → Chosen → (place : ℕ) → Idle → TurnDone
  done_by late c place i =
      performed z.book.goal_flags z.book.goal_first z.book.goal_len z.book.clause_variant
      z.book.clause_flags (next z) (top z) c.made
      (decide c (get_or z.answers.answers c.place unread_answer) (top z).complete late (in_use z.answers.places)) place
      (hand_at z place) c.place (get_or z.answers.answers c.place unread_answer) i (lent z)

  -- what the numbers beside the strand that it goes on with settle
  abbrev pub move_with : Move
  move_with =
      strand_move z.stack.table z.tables.coinductive z.tables.floundered (top z).depth z.answers.places.next
      z.answers.places.tail z.answers.places.len (leb z.clock_limit z.clock) (get_or z.strands.waits (next z).place 0)
      (get_or z.strands.wants (next z).place 0)

module _ (root index first : ℕ) (z : Stores) (o : SoundStores root index first z) (n : ℕ) (d : z.stack.depth ≡ suc n)
    (found : (next z).found ≡ true) where
  abbrev late : Bool
  late = leb z.clock_limit z.clock

  abbrev q : ℕ
  q = (next z).place

  abbrev w : ℕ
  w = get_or z.strands.waits q 0

  abbrev wanted : ℕ
  wanted = get_or z.strands.wants q 0

  abbrev x : Strand
  x = hand_at z q

  abbrev live : ℕ
  live = in_use z.strands.places

  -- what the table that it waits on holds for it
  abbrev look : Look
  look = look_at z.stack.table z.tables.coinductive (top z).depth z.answers.places.next z.answers.places.tail
      z.answers.places.len (w % 64) wanted

  -- what is to be shown of a move: where it is one, it is the turn
  abbrev Settles : Move → Type 0
  Settles m = moves m ≡ true → Does z (lent_moved (next z) (top z) m (lent z))

  -- THE STRAND, which waits on something
  module _ (waits : w < 128) where
    abbrev there : Strand
    there = get_or z.strands.strands q unread_strand

    k : Known root index first z o n d q
    k = known root index first z o n d found

    not_fresh : is_fresh z.strands q ≡ false
    not_fresh = ne_eqb w 254 (λ e. omega arith)

    written : Written there w wanted
    written = k.in_use.is_written not_fresh

    shown_is : strand_at (first_strands z.book) z.strands q ≡ seen (get_or z.strands.time q 0) there
    shown_is =
        ap (λ (b : Bool). strand_by b (get_or z.strands.time q 0) (first_strands z.book wanted) there) not_fresh

    hand_is : x ≡ there
    hand_is = hand_was z q not_fresh

    stands : Stands z.strands q x
    stands =
        subst (Stands z.strands q) (sym hand_is) (record {
          strand = refl;
          ambiguous = sym (k.in_use.is_ambiguous ∙ ap (λ (y : held.Strand). flag_number y.ex_clause.ambiguous) shown_is);
          variant = sym (k.in_use.is_variant ∙ ap (λ (y : held.Strand). y.ex_clause.subst.variant) shown_is);
          waits = sym written.is_waits;
          wants = sym written.is_wants;
        })

    awaits : Awaits z.tables.count w wanted x
    awaits =
        subst (Awaits z.tables.count w wanted) (sym hand_is)
        (awaits_what there written.sound (forest z).tables z.tables.count (counted root index first z o)
        (few_made root index first z o) w wanted waits written
        (subst (SoundStrand z.book.goals (forest z).tables) shown_is k.sound).1)

    -- WHAT IS CHOSEN for it, where its table isn't floundered
    module _ (sound : flag_at (w % 64) z.tables.floundered ≡ false) where
      abbrev choice : Choice
      choice = leaves selection.Selected x (begun live x)

      abbrev seeing : Sight → Chosen
      seeing sight = chosen_with choice (answer_of x (table_goal_at (top z).table z.tables.goal)) sight

      chosen_is : chosen_for z x ≡ seeing (sights.Looks look)
      chosen_is =
          ap (chosen_of z.tables.goal z.tables.coinductive z.tables.floundered z.tables.count z.book.goal_flags
          z.book.goal_len z.stack.table z.answers.places.next z.answers.places.tail z.answers.places.len
          z.answers.variant z.answers.key (top z))
          (choice_is z.tables.goal z.tables.floundered z.tables.count z.book.goal_flags z.book.goal_len live x
          awaits.index (w % 64) wanted awaits.selects awaits.is_made (few_made root index first z o) sound)
          ∙ ap (λ (s : Selected). seeing (selected_sight z.stack.table z.tables.coinductive (top z).depth
          z.answers.places.next z.answers.places.tail z.answers.places.len s)) awaits.selects

      idle_is : idle z ≡ idles.Nothing
      idle_is =
          ap (λ (b : Bool). without_by z.strands.places.len z.strands.waits z.stack.positive z.stack.negative
          z.stack.active b (top z)) found

      done_is : turn_done z ≡ done_by z late (seeing (sights.Looks look)) q idles.Nothing
      done_is =
          ap (λ (p : ℕ). done_by z late (chosen_for z (hand_at z p)) p (idle z)) (read_found z found)
          ∙ ap (λ (c : Chosen). done_by z late c q (idle z)) chosen_is
          ∙ ap (done_by z late (seeing (sights.Looks look)) q) idle_is

      -- THE TURN by what the table holds
      abbrev read : Answer
      read = get_or z.answers.answers 0 unread_answer

      done_as : (late' : Bool) → late ≡ late' → (v : Look) → look ≡ v
          → turn_done z ≡ done_by z late' (seeing (sights.Looks v)) q idles.Nothing
      done_as late' e v is =
          done_is ∙ ap₂ (λ (b : Bool) (u : Look). done_by z b (seeing (sights.Looks u)) q idles.Nothing) e is

      pushes_by : (late' : Bool) → late ≡ late' → (t : ℕ) → look ≡ looks.Push t → Settles (push_unless late' t)
      pushes_by true e t is h = absurd (true≢false (sym h))
      pushes_by false e t is h = record {
        flows = ap (λ (r : TurnDone). r.flow) (done_as false e (looks.Push t) is);
        leaves = ap put (done_as false e (looks.Push t) is)
            ∙ push_back z.book.goal_flags z.book.goal_first z.book.goal_len z.book.clause_variant
            z.book.clause_flags (next z) (top z) x read 0 live (lent z) stands refl t;
      }

      cycles : (height : ℕ) → look ≡ looks.Cycle height → Settles (move.Cycles height)
      cycles height is h = record {
        flows = ap (λ (r : TurnDone). r.flow) (done_as late refl (looks.Cycle height) is);
        leaves = ap put (done_as late refl (looks.Cycle height) is)
            ∙ cycle_back z.book.goal_flags z.book.goal_first z.book.goal_len z.book.clause_variant
            z.book.clause_flags (next z) (top z) x read 0 live (lent z) stands refl awaits.sign height;
      }

      by_look : (v : Look) → look ≡ v → Settles (move_by_look late v)
      by_look (looks.Answer place) is h = absurd (true≢false (sym h))
      by_look looks.Coinductive is h = absurd (true≢false (sym h))
      by_look (looks.Cycle height) is h = cycles height is h
      by_look (looks.Push t) is h = pushes_by late refl t is h

  by_numbers : (nothing floundered : Bool) → leb 128 w ≡ nothing → flag_at (w % 64) z.tables.floundered ≡ floundered
      → Settles (strand_move_by nothing floundered (move_by_look late look))
  by_numbers true floundered e e' h = absurd (true≢false (sym h))
  by_numbers false true e e' h = absurd (true≢false (sym h))
  by_numbers false false e e' h = by_look (leb-false 128 w e) e' look refl h

  pub strand_does : moves (move_with z) ≡ true → Does z (lent_moved (next z) (top z) (move_with z) (lent z))
  strand_does = by_numbers (leb 128 w) (flag_at (w % 64) z.tables.floundered) refl refl
