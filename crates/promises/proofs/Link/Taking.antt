-- Taking a strand from a queue: the first one that may be taken, and the others from behind it on.
use Prim.Native.Nat.{ℕ, suc, ◌≤◌, ◌<◌}
use native.Mathlib.Omega.{arith}
use native.Mathlib.Decide.{dec_lt}
use borrow.Author.Tests.{lt-ltb, le-ltb}
use mathlib.Core.Path.{◌≡◌, refl, sym, subst}
use mathlib.Core.Bool.{Bool, true, false, and-false}
use mathlib.Core.Option.{Option, none, some}
use mathlib.Core.List.{List, [], ◌∷◌, ◌++◌, append-nil, append_assoc}
use lib.ListN.{take, drop}
use Rattle.definitions.specs.{AnswerMode, is_complete}
use Rattle.definitions.specs.Lists.{position}
use Rattle.definitions.specs.Strand.{Strand}
use Rattle.definitions.specs.Table.{Table, pop_front, with_strands, dequeue_next_strand_that}
use Rattle.definitions.specs.Turn.{eligible}
use Rattle.promises.proofs.Plain.Machine as M
use Rattle.promises.proofs.Link.View.{StrandIs, free, bound, QueueIs, q_end, q_more}
use Rattle.promises.proofs.Link.Tables.{queue_append}

module _ {n : ℕ} {gs : List ℕ} (c : ℕ) (mode : AnswerMode) where
  may : {s : Strand} {m : M.Strand} → StrandIs n gs s m → m.time < c → eligible c mode s ≡ true
  may (free a b t w) o = rw (lt-ltb t c o) (rw (and-false (is_complete mode)))
  may (bound a l b t i w e) o = rw (lt-ltb t c o) (rw (and-false (is_complete mode)))

  may_not : {s : Strand} {m : M.Strand} → StrandIs n gs s m → c ≤ m.time → eligible c mode s ≡ false
  may_not (free a b t w) o = rw (le-ltb t c o)
  may_not (bound a l b t i w e) o = rw (le-ltb t c o)

-- what taking gives: `pre` has been passed over
pub data TakeIs (n : ℕ) (gs : List ℕ) (pre xs : List Strand) : Option ℕ → Option (M.Strand × List M.Strand) → Type 0 where
  take_none : TakeIs n gs pre xs none none
  take_some : {k : ℕ} {s : Strand} {zs : List Strand} {q : M.Strand} {r : List M.Strand} → drop k xs ≡ s ∷ zs → StrandIs n gs s q
      → QueueIs n gs (zs ++ (pre ++ take k xs)) r → TakeIs n gs pre xs (some k) (some (q, r))

module _ {n : ℕ} {gs : List ℕ} where
  later : (pre xs : List Strand) (x : Strand) (o : Option ℕ) (r : Option (M.Strand × List M.Strand)) → TakeIs n gs (pre ++ (x ∷ [])) xs o r
      → TakeIs n gs pre (x ∷ xs) (elim o [ none ↦ none | some i ↦ some (suc i) ]) r
  later pre xs x none none take_none = take_none
  later pre xs x none (some r) y = elim y [ ]
  later pre xs x (some k) none y = elim y [ ]
  later pre xs x (some k) (some (q, r)) (take_some {s = s} {zs = zs} e y z) =
      take_some e y (subst (λ w. QueueIs n gs (zs ++ w) r) (append_assoc pre (x ∷ []) (take k xs)) z)

pub take_is : {n : ℕ} {gs : List ℕ} (c : ℕ) (mode : AnswerMode) {pre xs : List Strand} {qs ms : List M.Strand} → QueueIs n gs pre qs
    → QueueIs n gs xs ms → TakeIs n gs pre xs (position (eligible c mode) xs) (M.take_from c qs ms)
take_is c mode p q_end = take_none
take_is {n} {gs} c mode {pre = pre} {qs = qs} p (q_more {s = s} {ss = ss} {m = m} {ms = ms} x xs) =
    at (dec_lt m.time c) (take_is c mode (queue_append p (q_more x q_end)) xs)
  where
    at : (d : Dec (m.time < c)) → TakeIs n gs (pre ++ (s ∷ [])) ss (position (eligible c mode) ss) (M.take_from c (qs ++ (m ∷ [])) ms)
        → TakeIs n gs pre (s ∷ ss) (position (eligible c mode) (s ∷ ss)) (M.take_at d m (ms ++ qs) (M.take_from c (qs ++ (m ∷ [])) ms))
    at (yes o) r = rw (may c mode x o, position) (take_some refl x
        (queue_append xs (subst (λ w. QueueIs n gs w qs) (sym (append-nil pre)) p)))
    at (no o) r = rw (may_not c mode x (omega arith), position)
        (later pre ss s (position (eligible c mode) ss) (M.take_from c (qs ++ (m ∷ [])) ms) r)

pub take_front : (test : Strand → Bool) (t : Table) (k : ℕ) (s : Strand) (zs : List Strand) → position test t.strands ≡ some k
    → drop k t.strands ≡ s ∷ zs → dequeue_next_strand_that test t ≡ some (s, with_strands t (zs ++ take k t.strands))
take_front test t k s zs e d = rw (e, dequeue_next_strand_that) (rw (d, pop_front))
