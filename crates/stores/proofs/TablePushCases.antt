-- `push_answer` at its tests' answers: the same answer is stored, no place is left, or the answer is new. From the contracts of its
-- callees.
use Prim.Native.Nat.{ℕ, ◌≤◌, ◌<◌}
use mathlib.Core.Path.{◌≡◌, refl, sym, ap, ap₂, subst, ◌∙◌}
use mathlib.Core.Bool.{Bool, true, false}
use mathlib.Core.List.{List}
use lib.ListN.{get_or, set}
use lib.Dec.{ltb}
use borrow.Author.Tests.{lt-ltb, le-ltb}
use Rattle.rings.specs.Rings.{linked, lengthened}
use Rattle.strands.specs.declared.Answer.{Answer}
use Rattle.stores.specs.declared.places.Places.{Places}
use Rattle.stores.specs.declared.table.PushAnswer.{PushAnswer}
use Rattle.stores.specs.declared.table.PushAnswer.TheVariants.{Stop, New}
use Rattle.stores.specs.Numbers.{flag}
use Rattle.stores.specs.Places.{places, free_place, TookPlace}
use Rattle.stores.specs.Table.{repeated_of, new_if, outcome_if, room_if, pushed_if, same_place, AnswerPushed}
use Rattle.stores.proofs.PlacesMoves.{freed_enqueued_is}

module _ (variant key ambiguous next tail len : List ℕ) (top t : ℕ) (x : Answer) (r : ℕ)
    (same : r ≡ same_place variant key ambiguous t x (places next tail len 0)) where
  abbrev p : Places
  p = places next tail len top

  abbrev repeat_at : ℕ → PushAnswer
  repeat_at q = repeated_of (flag (get_or ambiguous q 0)) x.ambiguous

  abbrev at : ℕ
  at = same_place variant key ambiguous t x p

  pushed_by : (found room : Bool) → ltb at 256 ≡ found → ltb (free_place p) 256 ≡ room
      → (next' tail' len' : List ℕ) (top' : ℕ) (o : PushAnswer)
      → o ≡ outcome_if found (repeat_at at) (new_if room (free_place p))
      → places next' tail' len' top' ≡ pushed_if found p (room_if room t p)
      → AnswerPushed variant key ambiguous next tail len top t x next' tail' len' top' o
  pushed_by found room ef er next' tail' len' top' o eo ep = record {
    is = eo ∙ sym (ap₂ (λ (b c : Bool). outcome_if b (repeat_at at) (new_if c (free_place p))) ef er);
    left = ep ∙ sym (ap₂ (λ (b c : Bool). pushed_if b p (room_if c t p)) ef er);
  }

  pub push_found : r < 256 → (o : PushAnswer) → o ≡ repeated_of (flag (get_or ambiguous r 0)) x.ambiguous
      → AnswerPushed variant key ambiguous next tail len top t x next tail len top o
  push_found h o e =
      pushed_by true (ltb (free_place p) 256) (ap (λ (k : ℕ). ltb k 256) (sym same) ∙ lt-ltb r 256 h) refl next tail len top o
      (e ∙ ap repeat_at same) refl

  module _ (h : 256 ≤ r) (next' len' : List ℕ) (top' q : ℕ) (took : TookPlace next tail len top next' len' top' q) where
    not_found : ltb at 256 ≡ false
    not_found = ap (λ (k : ℕ). ltb k 256) (sym same) ∙ le-ltb r 256 h

    pub push_full : 256 ≤ q → AnswerPushed variant key ambiguous next tail len top t x next' tail len' top' (Stop 23)
    push_full k =
        pushed_by false false not_found (ap (λ (i : ℕ). ltb i 256) (sym took.is) ∙ le-ltb q 256 k) next' tail len' top' (Stop 23) refl
        took.left

    pub push_new : q < 256 → (k : ℕ) → k ≡ q → (next'' tail'' len'' : List ℕ) → next'' ≡ linked next' tail len' t k → tail'' ≡ set tail t k
        → len'' ≡ lengthened len' t → AnswerPushed variant key ambiguous next tail len top t x next'' tail'' len'' top' (New k)
    push_new i k e next'' tail'' len'' en et el =
        pushed_by false true not_found (ap (λ (j : ℕ). ltb j 256) (sym took.is) ∙ lt-ltb q 256 i) next'' tail'' len'' top' (New k)
        (ap New (e ∙ took.is))
        (freed_enqueued_is p t next' len' top' q took next'' tail'' len'' (subst (λ (j : ℕ). next'' ≡ linked next' tail len' t j) e en)
        (subst (λ (j : ℕ). tail'' ≡ set tail t j) e et) el)
