-- The owner's operations at their tests' answers: what the callees' contracts say of the numbers is what the models say of the store. From
-- `stored_is` and `moved_is` of the crate `stores`.
use Prim.Native.Nat.{ℕ, ◌≤◌, ◌<◌}
use mathlib.Core.Path.{◌≡◌, refl, sym, ap, ap₂, ◌∙◌}
use mathlib.Core.Bool.{Bool, true, false}
use mathlib.Core.List.{List}
use lib.ListN.{set}
use lib.Dec.{ltb}
use borrow.Author.Tests.{lt-ltb, le-ltb}
use Rattle.std.specs.Prelude.{Option}
use Rattle.rings.specs.Rings.{place_number, linked, lengthened, RingMove}
use Rattle.strands.specs.declared.Answer.{Answer}
use Rattle.strands.specs.declared.Strand.{Strand}
use Rattle.stores.specs.declared.places.Places.{Places}
use Rattle.stores.specs.declared.queue.Strands.{Strands}
use Rattle.stores.specs.declared.table.Answers.{Answers}
use Rattle.stores.specs.declared.table.PushAnswer.{PushAnswer}
use Rattle.stores.specs.Places.{places, free_place, TookPlace}
use Rattle.stores.specs.Queue.{with_places, written, stored, test_at, TookStrand}
use Rattle.stores.specs.Table.{with_answer_places, AnswerPushed}
use Rattle.stores.proofs.PlacesMoves.{places_is, moved_is}
use Rattle.stores.proofs.QueueStores.{stored_is}
use Rattle.stores_run.specs.declared.kept.Kept.{Kept}
use Rattle.stores_run.specs.Owner.{put_if, Puts, Takes, Clears, kept_by, Keeps}

module _ (s : Strands) (t time : ℕ) (x : Strand) (n' l' : List ℕ) (m' q : ℕ)
    (took : TookPlace s.places.next s.places.tail s.places.len s.places.top n' l' m' q) where
  put_by : (b : Bool) → ltb q 256 ≡ b → put_if b s (stored t time x s) ≡ put_if (ltb (free_place s.places) 256) s (stored t time x s)
  put_by b e = ap (λ (c : Bool). put_if c s (stored t time x s)) (sym (ap (λ (i : ℕ). ltb i 256) (sym took.is) ∙ e))

  pub put_none : 256 ≤ q → Puts s t time x (record { done = false; strands = s })
  put_none h = put_by false (le-ltb q 256 h)

  pub put_some : q < 256 → (w : Strands) → w ≡ written q time x s → (n'' t'' l'' : List ℕ) → n'' ≡ linked n' s.places.tail l' t q
      → t'' ≡ set s.places.tail t q → l'' ≡ lengthened l' t
      → Puts s t time x (record { done = true; strands = with_places w (places n'' t'' l'' m') })
  put_some h w ew n'' t'' l'' en et el =
      ap (λ (r : Strands). record { done = true; strands = with_places r (places n'' t'' l'' m') }) ew
      ∙ ap (λ (r : Strands). record { done = true; strands = r }) (stored_is s t time x n' l' m' q took n'' t'' l'' en et el)
      ∙ put_by true (lt-ltb q 256 h)

pub take_of : (s : Strands) (t clock : ℕ) (n' t' l' : List ℕ) (r : Option ℕ)
    → TookStrand (test_at clock false s) t s.places.next s.places.tail s.places.len n' t' l' (place_number r)
    → Takes s t clock (record { place = r; strands = with_places s (places n' t' l' s.places.top) })
take_of s t clock n' t' l' r did = record { place = did.is; is = ap (with_places s) (did.left s.places.top) }

pub clear_of : (s : Strands) (t : ℕ) (n' t' l' : List ℕ) → RingMove s.places.next s.places.tail s.places.len t 64 n' t' l'
    → Clears s t (with_places s (places n' t' l' s.places.top))
clear_of s t n' t' l' did = record {
  stays = λ e. ap (with_places s) (
      places_is n' s.places.next t' s.places.tail l' s.places.len s.places.top s.places.top
      (did.stays e).0 (did.stays e).1 (did.stays e).2 refl);
  moves = λ d. ap (with_places s) (moved_is s.places t 64 n' t' l' (did.moves d));
}

pub keep_of : (a : Answers) (t : ℕ) (x : Answer) (n' t' l' : List ℕ) (m' : ℕ) (o : PushAnswer)
    → AnswerPushed a.variant a.key a.ambiguous a.places.next a.places.tail a.places.len
    a.places.top t x n' t' l' m' o
    → (r : Kept) → r ≡ kept_by (with_answer_places a (places n' t' l' m')) x o → Keeps a t x r
keep_of a t x n' t' l' m' o did r e = e ∙ ap₂ (λ (p : Places) (k : PushAnswer). kept_by (with_answer_places a p) x k) did.left did.is
