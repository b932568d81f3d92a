-- The copy and the strand in hand settled, for sound stores: the owner has written both, with their numbers, and the copy is queued.
use Prim.Native.Nat.{ℕ, suc, ◌<◌}
use native.Mathlib.Nat.{mod-eq_of_lt}
use mathlib.Core.Bool.{Bool, true, false}
use mathlib.Core.List.{List, [], ◌∷◌}
use mathlib.Core.Path.{◌≡◌, refl, sym, ap, subst, ◌∙◌}
use lib.Dec.{ltb}
use lib.ListN.{get_or, set}
use lib.Seq.{set-set}
use Rattle.std.specs.Prelude.{Option, Some, None}
use Rattle.definitions.specs.{TimeStamp}
use Rattle.small_steps.specs.Acts as split
use Rattle.strands.specs.declared.Strand.{Strand}
use Rattle.strands.specs.declared.Answer.{Answer}
use Rattle.strands.specs.Delaying.{strand_or}
use Rattle.strands.specs.Making.{refine}
use Rattle.strands.specs.View.{Sound, seen}
use Rattle.strands.proofs.MakeViews.{refine_sound}
use Rattle.stores.specs.declared.queue.Strands.{Strands}
use Rattle.stores.specs.Places.{free_place}
use Rattle.stores.specs.Queue.{store, written, stored, enqueued_strand, freed_strands}
use Rattle.stores.specs.View.{strand_at}
use Rattle.control.specs.declared.create_refinement_strand.Left.{Left}
use Rattle.control.specs.declared.decision.Decision.{Decision}
use Rattle.control.specs.CreateRefinementStrand.{answer_left_by, gives_answer, strand_left_by, strand_left}
use Rattle.control.specs.Decision.{copy_by}
use Rattle.control.specs.InHand.{with_strands, Sounds, state_above}
use Rattle.control.specs.PerformIdle.{noted}
use Rattle.control.specs.PerformStrand.{copy_place, copy_noted, settled}
use Rattle.control.specs.Stores.{Stores, first_strands}
use Rattle.control.specs.TurnReads.{KeptDecision}
use Rattle.control.proofs.EffectSteps.{state_is, written_sounds, written_view, written_shown}
use Rattle.control.proofs.EffectTables.{copied_sound, copied_view}

-- the strands s with these numbers, and what the owner has written: the copy at one place, then the strand x at q
abbrev pub owned : (at : ℕ) → (copy : Strand) → (q : ℕ) → (x : Strand) → Strands → Strands
owned at copy q x s =
    store (set (set s.strands at copy) q x) s.time s.ambiguous s.variant s.waits s.wants s.places

-- the copy, where there is one, at this time, and the strand x
abbrev pub settles : (copies : Bool) → (t : ℕ) → (c : TimeStamp) → (copy : Strand) → (q time : ℕ) → (x : Strand) → Strands → Strands
settles copies t c copy q time x s =
    owned (copy_place copies q s.places) copy q x (noted q time x (copy_noted copies t c copy s))

-- WHAT HOLDS of the strands s then
pub record Settles (z : Stores) (n q : ℕ) (copies : Bool) (c : TimeStamp) (copy : Strand) (time : ℕ) (x : Strand) (s : Strands)
    : Type 0 where
  pub sound : Sounds (q ∷ []) (with_strands s z)
  pub view : state_above n (with_strands s z) ≡ split.copied (copy_by copies (seen c copy)) (state_above n z)
  pub shown : strand_at (first_strands z.book) s q ≡ seen time x

module _ (z : Stores) (n : ℕ) (depth : z.stack.depth ≡ suc n) (q : ℕ) (o : Sounds (q ∷ []) z) (c : TimeStamp) (copy : Strand)
    (good_copy : Sound copy) (time : ℕ) (x : Strand) (good : Sound x) where
  abbrev t : ℕ
  t = get_or z.stack.table n 0

  -- no copy: the strand alone
  alone : Settles z n q false c copy time x (written q time x z.strands)
  alone = record {
    sound = written_sounds z q o time x good;
    view = sym (state_is (with_strands (written q time x z.strands) z) n depth) ∙ written_view z q o time x good ∙ state_is z n depth;
    shown = written_shown z q o time x good;
  }

  alone_is : settles false t c copy q time x z.strands ≡ written q time x z.strands
  alone_is =
      let s : Strands = written q time x z.strands in
      ap (λ (l : List Strand). store l s.time s.ambiguous s.variant s.waits s.wants s.places)
      (set-set z.strands.strands q copy x)

  -- a copy, and the strand
  module _ (room : free_place z.strands.places < 256) where
    abbrev copied : Stores
    copied = with_strands (stored t c copy z.strands) z

    abbrev both : Strands
    both = written q time x (stored t c copy z.strands)

    copied_sounds : Sounds (q ∷ []) copied
    copied_sounds = copied_sound z n depth (q ∷ []) o c copy good_copy room

    with_copy : Settles z n q true c copy time x both
    with_copy = record {
      sound = written_sounds copied q copied_sounds time x good;
      view = sym (state_is (with_strands both z) n depth) ∙ written_view copied q copied_sounds time x good ∙ state_is copied n depth
          ∙ copied_view z n depth (q ∷ []) o c copy good_copy room;
      shown = written_shown copied q copied_sounds time x good;
    }

    with_copy_is : settles true t c copy q time x z.strands ≡ both
    with_copy_is =
        ap (λ (i : ℕ). owned i copy q x (noted q time x (enqueued_strand t i (noted i c copy (freed_strands z.strands)))))
        (mod-eq_of_lt room)

  pub settled_so : (copies : Bool) → (copies ≡ true → free_place z.strands.places < 256)
      → Settles z n q copies c copy time x (settles copies (get_or z.stack.table n 0) c copy q time x z.strands)
  settled_so true room = subst (Settles z n q true c copy time x) (sym (with_copy_is (room refl))) (with_copy (room refl))
  settled_so false room = subst (Settles z n q false c copy time x) (sym alone_is) alone

-- WHAT A TURN LEAVES at the strand's place is sound
answer_left_sound : (root : Bool) (r : Option Strand) (s : Strand) (c : TimeStamp) → Sound s → Sound (strand_or s r)
    → Sound (answer_left_by root r s c).strand
answer_left_sound false r s c o p = o
answer_left_sound true (Some f) s c o p = p
answer_left_sound true None s c o p = o

left_sound : (gives : Bool) (depth : ℕ) (a : Answer) (s : Strand) (c : TimeStamp) → Sound s
    → Sound (strand_left_by gives depth a s c).strand
left_sound true depth a s c o =
    answer_left_sound (ltb depth 2) (refine a) s c o (refine_sound a s o)
left_sound false depth a s c o = o

-- A DECISION d about the strand at q, for the top's table t at its clock c: what it leaves there, and the strands settled
module _ (z : Stores) (d : Decision) (t q : ℕ) (c : TimeStamp) where
  abbrev pub stands : Left
  stands = strand_left d.deed z.stack.depth d.answer d.strand c

  abbrev pub settled_strands : Strands
  settled_strands =
      owned (copy_place d.copies q z.strands.places) d.copy q stands.strand (settled d stands t q c z.strands)

pub settled_sounds : (z : Stores) (n : ℕ) → z.stack.depth ≡ suc n → (q : ℕ) → Sounds (q ∷ []) z → (d : Decision) → KeptDecision d
    → (d.copies ≡ true → free_place z.strands.places < 256) → (c : TimeStamp)
    → Settles z n q d.copies c d.copy (stands z d (get_or z.stack.table n 0) q c).time
    (stands z d (get_or z.stack.table n 0) q c).strand (settled_strands z d (get_or z.stack.table n 0) q c)
settled_sounds z n depth q o d k room c =
    let l : Left = stands z d (get_or z.stack.table n 0) q c in
    settled_so z n depth q o c d.copy k.copy l.time l.strand
    (left_sound (gives_answer d.deed) z.stack.depth d.answer d.strand c k.strand) d.copies room
