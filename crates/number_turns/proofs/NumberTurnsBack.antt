-- What a turn with a strand writes back where it was read, over variables: a strand that is left as it was, with the numbers that stand
-- beside it, changes nothing but its time. So a push and a cycle do what the numbers alone do.
use Prim.Native.Nat.{ℕ}
use mathlib.Core.Bool.{Bool, false}
use mathlib.Core.List.{List}
use mathlib.Core.Path.{◌≡◌, ap, ap₂, ◌∙◌}
use lib.ListN.{get_or, set}
use lib.Seq.{set-set, set-get_or}
use Rattle.book.specs.View.{meant}
use Rattle.strands.specs.declared.Answer.{Answer}
use Rattle.strands.specs.declared.Strand.{Strand}
use Rattle.strands.specs.View.{is_negative}
use Rattle.stores.specs.declared.places.Places.{Places}
use Rattle.stores.specs.declared.queue.Strands.{Strands}
use Rattle.stores.specs.declared.stack.Stack.{Stack}
use Rattle.stores.specs.declared.table.Answers.{Answers}
use Rattle.stores.specs.Numbers.{flag_number}
use Rattle.stores.specs.Queue.{waits_of, wants_of, store}
use Rattle.stores.specs.View.{unread_strand, unread_answer}
use Rattle.control.specs.declared.decision.Deed.TheVariants as deeds
use Rattle.control.specs.declared.ensure_root_answer.Next.{Next}
use Rattle.control.specs.declared.ensure_root_answer.Top.{Top}
use Rattle.control.specs.declared.performed.Flow.TheVariants as ways
use Rattle.control.specs.Decision.{decided}
use Rattle.control.specs.OnNoStrandsLeft.{waits_on_not}
use Rattle.control.specs.OnPositiveCycle.{met_at, cycled}
use Rattle.control.specs.PerformDeed.{answers_of}
use Rattle.control.specs.PerformStrand.{Lent, lent_of, strand_performed}
use Rattle.control.specs.TurnWrites.{put, turn_done}
use Rattle.control.specs.SelectSubgoal.{chosen, begun}
use Rattle.control.specs.Stores.{Stores}
use Rattle.number_turns.specs.declared.number_turn.Move.TheVariants as move
use Rattle.number_turns.specs.NumberTurn.{entry_left, lent_moved}

-- THE TURN IS DONE so: it goes on, and the owner's writes leave this
pub record Does (z : Stores) (w : Lent) : Type 0 where
  pub flows : (turn_done z).flow ≡ ways.Continue
  pub leaves : put (turn_done z) ≡ w

-- what stands at a place, written there again
module _ {A : Type 0} where
  again : (l : List A) (i : ℕ) (d x : A) → x ≡ get_or l i d → set l i x ≡ l
  again l i d x e = ap (set l i) e ∙ set-get_or l i d

  twice_again : (l : List A) (i : ℕ) (d x : A) → x ≡ get_or l i d → set (set l i x) i x ≡ l
  twice_again l i d x e = set-set l i x x ∙ again l i d x e

-- THE NUMBERS BESIDE a strand, and the strand, are those that stand at a place
pub record Stands (s : Strands) (q : ℕ) (x : Strand) : Type 0 where
  pub strand : x ≡ get_or s.strands q unread_strand
  pub ambiguous : flag_number x.ambiguous ≡ get_or s.ambiguous q 0
  pub variant : x.variant ≡ get_or s.variant q 0
  pub waits : waits_of x ≡ get_or s.waits q 0
  pub wants : wants_of x ≡ get_or s.wants q 0

module _ (s : Strands) (q : ℕ) (x : Strand) (o : Stands s q x) (time : List ℕ) (p : Places) where
  stored_again : store (set (set s.strands q x) q x) time (set s.ambiguous q (flag_number x.ambiguous))
      (set s.variant q x.variant) (set s.waits q (waits_of x)) (set s.wants q (wants_of x)) p
      ≡ store s.strands time s.ambiguous s.variant s.waits s.wants p
  stored_again =
      ap₂ (λ (l : List Strand) (m : List ℕ). store l time m (set s.variant q x.variant) (set s.waits q (waits_of x))
      (set s.wants q (wants_of x)) p) (twice_again s.strands q unread_strand x o.strand)
      (again s.ambiguous q 0 (flag_number x.ambiguous) o.ambiguous)
      ∙ ap₂ (λ (l m : List ℕ). store s.strands time s.ambiguous l m (set s.wants q (wants_of x)) p)
      (again s.variant q 0 x.variant o.variant) (again s.waits q 0 (waits_of x) o.waits)
      ∙ ap (λ (l : List ℕ). store s.strands time s.ambiguous s.variant s.waits l p)
      (again s.wants q 0 (wants_of x) o.wants)

-- the answers, with one written again
module _ (a : Answers) (i : ℕ) (x : Answer) (e : x ≡ get_or a.answers i unread_answer) where
  answered_again : answers_of (set a.answers i x) a.variant a.key a.ambiguous a.places ≡ a
  answered_again =
      ap (λ (l : List Answer). answers_of l a.variant a.key a.ambiguous a.places) (again a.answers i unread_answer x e)

-- A TURN that notes no goal and leaves the strand x as it was, with no copy
module _ (gf first_of len_of_lem cv cf : List ℕ) (p : Next) (top : Top) (x : Strand) (a : Answer)
    (read live : ℕ) (w : Lent) (o : Stands w.strands p.place x) (e : a ≡ get_or w.answers.answers read unread_answer) where
  pub push_back : (t : ℕ)
      → put (strand_performed gf first_of len_of_lem cv cf p top (begun live x).made (decided (deeds.Pushes t) false x x a) read w)
      ≡ lent_moved p top (move.Pushes t) w
  push_back t =
      let m : Lent = lent_moved p top (move.Pushes t) w in
      ap₂ (λ (s : Strands) (b : Answers). lent_of w.tables s b m.stack m.clock)
      (stored_again w.strands p.place x o m.strands.time m.strands.places) (answered_again w.answers read a e)

  pub cycle_back : is_negative (meant (chosen x)) ≡ waits_on_not (get_or w.strands.waits p.place 0) → (h : ℕ)
      → put (strand_performed gf first_of len_of_lem cv cf p top (begun live x).made (decided (deeds.Cycles h) false x x a) read w)
      ≡ lent_moved p top (move.Cycles h) w
  cycle_back sign h =
      let m : Lent = lent_moved p top (move.Cycles h) w in
      let k : Stack = entry_left p top w.stack in
      ap₂ (λ (s : Strands) (b : Answers). lent_of w.tables s b
      (cycled (is_negative (meant (chosen x))) (met_at w.stack.clock h) k) w.clock)
      (stored_again w.strands p.place x o m.strands.time m.strands.places) (answered_again w.answers read a e)
      ∙ ap (λ (b : Bool). lent_of w.tables m.strands w.answers (cycled b (met_at w.stack.clock h) k) w.clock) sign
