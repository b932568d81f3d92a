-- What the owner's operations do to the stores: the models of the crate `stores`.
use Rattle.std.specs.Prelude.{ℕ, ◌≡◌, Bool, true, false, ltb}
use Rattle.strands.specs.declared.Answer.{Answer}
use Rattle.strands.specs.declared.Strand.{Strand}
use Rattle.rings.specs.Rings.{place_number}
use Rattle.stores.specs.declared.queue.Strands.{Strands}
use Rattle.stores.specs.declared.table.Answers.{Answers}
use Rattle.stores.specs.declared.table.PushAnswer.{PushAnswer}
use Rattle.stores.specs.declared.table.PushAnswer.TheVariants.{Repeat, Stop, New}
use Rattle.stores.specs.Places.{free_place}
use Rattle.stores.specs.Queue.{stored, taken_strand, strand_place, cleared}
use Rattle.stores.specs.Table.{with_answer_places, written_answer, push_outcome, pushed_places}
use Rattle.stores_run.specs.declared.kept.Kept.{Kept}
use Rattle.stores_run.specs.declared.queues.Placed.{Placed}
use Rattle.stores_run.specs.declared.queues.Took.{Took}

-- a new strand, where there is a place for it
abbrev pub put_if : (room : Bool) → (s new : Strands) → Placed
put_if true s new = record { done = true; strands = new }
put_if false s new = record { done = false; strands = s }

abbrev pub Puts : Strands → (t time : ℕ) → Strand → Placed → Type 0
Puts s t time x r = r ≡ put_if (ltb (free_place s.places) 256) s (stored t time x s)

pub record Takes (s : Strands) (t clock : ℕ) (r : Took) : Type 0 where
  pub place : place_number r.place ≡ strand_place clock false t s
  pub is : r.strands ≡ taken_strand clock false t s

-- the ring of the free places is no table's, and stays
pub record Clears (s : Strands) (t : ℕ) (r : Strands) : Type 0 where
  pub stays : t ≡ 64 → r ≡ s
  pub moves : (t ≡ 64 → ⊥) → r ≡ cleared t s

-- what a push came to, as a number, and the answers with the new one
abbrev pub kept_by : Answers → Answer → PushAnswer → Kept
kept_by a x Repeat = record { what = 0; answers = a }
kept_by a x (Stop n) = record { what = n; answers = a }
kept_by a x (New q) = record { what = 100; answers = written_answer q x a }

abbrev pub Keeps : Answers → (t : ℕ) → Answer → Kept → Type 0
Keeps a t x r =
    r ≡ kept_by (with_answer_places a (pushed_places a.variant a.key a.ambiguous t x a.places)) x
    (push_outcome a.variant a.key a.ambiguous t x a.places)
