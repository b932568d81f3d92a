-- Demand 1 of the definitions.
use Prim.Native.Nat.{ℕ, zero, suc, ◌-◌}
use native.Mathlib.Omega.{arith}
use mathlib.Core.Bool.{Bool, true, false, not, ◌||◌, true≢false}
use mathlib.Core.List.{List, [], ◌∷◌, map}
use mathlib.Core.Logic.{inl, inr}
use mathlib.Core.Path.{◌≡◌, refl, sym, ap, subst, ◌∙◌}
use borrow.Author.Tests.{leb-true}
use lib.Dec.{eqb, leb, eqb-suc-zero}
use lib.ListN.{length}
use Rattle.definitions.specs.{TableIndex}
use Rattle.definitions.specs.Lists.{Each}
use Rattle.definitions.specs.Refusal.{Refusable, refused, accepted, Test, ◌refuses◌, unless}
use Rattle.definitions.specs.Stop.{Stops, stop, go}
use Rattle.definitions.specs.Tables.{Forest}
use Rattle.definitions.specs.Turn.{Ending, found, fail, cut, stopped, Searched, root_answer}
use Rattle.definitions.specs.Forest.{is_marked, Opened, opened, open_goal, not_made, index_above, search, is_invalid, Peeked, peek}
use Rattle.definitions.specs.Forest.{peek_rounds, any_future_answer, future}
use Rattle.definitions.specs.Calls as said
use Rattle.definitions.proofs.Refusal.{same_refused, not_accepted, all_pass}
use Rattle.laws.proofs.Bools.{and_then, both_true}
use Rattle.asserts.proofs.Reading.{made_sound}
use Rattle.asserts.proofs.Safe.{NotZero}
use Rattle.asserts.proofs.Searches.{Fine}
use Rattle.asserts.specs.Sound.{SoundForest}
use Rattle.asserts.proofs.Theorem.{call_keeps}
use Rattle.promises.specs.Total.{OneOf, StopNumber, RefusedBy, TableListed, OpenListed, EndingListed, SearchListed, PeekListed}
use Rattle.promises.specs.Total.{FutureListed, CallListed, Listed}
use Rattle.promises.proofs.Listed.Walk.{one_of}
use Rattle.promises.proofs.Listed.Logic.{Number}
use Rattle.promises.proofs.Listed.Reading.{make_listed, desk_listed}
use Rattle.promises.proofs.Listed.Searches.{Ends, Searches, Peeks, root_ends, rounds_end, Opens, opened_ends}

-- WHAT IS REFUSED: by the number of a test

refused_by : {A : Type 0} (ts : List Test) (a : A) (n : ℕ) → unless ts a ≡ refused n → OneOf (map (λ t. t.number) ts) n
refused_by [] a n e = absurd (not_accepted (sym e))
refused_by {A} (t ∷ ts) a n e = on t.fails e (refused_by ts a n)
  where
    on : (b : Bool) → ◌≡◌ {A = Refusable A} (elim b [ true ↦ refused t.number | false ↦ unless ts a ]) (refused n)
        → (unless ts a ≡ refused n → OneOf (map (λ u. u.number) ts) n) → OneOf (map (λ u. u.number) (t ∷ ts)) n
    on true x h = inl (sym (same_refused x))
    on false x h = inr (h x)

-- 20 is tested first
marked_first : {A : Type 0} (mark : ℕ) (ts : List Test) (a : A) (n : ℕ) → unless (not (eqb mark 0) refuses 20 ∷ ts) a ≡ refused n
    → RefusedBy mark (map (λ t. t.number) ts) n
marked_first zero ts a n e = refused_by ts a n e
marked_first (suc mark) ts a n e =
    sym (same_refused (ap (λ (b : Bool). unless (not b refuses 20 ∷ ts) a) (sym (eqb-suc-zero mark)) ∙ e))

unmarked : (mark : ℕ) → not (eqb mark 0) ≡ false → mark ≡ 0
unmarked zero e = refl
unmarked (suc mark) e = absurd (true≢false (ap not (sym (eqb-suc-zero mark)) ∙ e))

-- WHAT STOPS: no call asserts (crate `asserts`), so that the number is another one

abbrev NoStop : {A : Type 0} → Stops A → Type 0
NoStop (stop n) = NotZero n
NoStop (go a) = Unit {0}

abbrev Calm : said.Reply → Type 0
Calm (said.refusal n) = Unit {0}
Calm (said.table r) = NoStop r
Calm (said.searched e turns) = Fine e
Calm (said.peeked e index turns exceeded) = Fine e × (is_invalid e ≡ false)
Calm (said.future b) = Unit {0}

calm : {n : ℕ} (f : Forest) → SoundForest n f → (c : said.Call) → Calm (said.call (said.sitting f) c).0
calm f s c = (call_keeps (said.sitting f) s c).0

not_zero : {A : Type 0} (n : ℕ) → NotZero n → n ≡ 0 → A
not_zero zero z e = absurd z
not_zero (suc n) z e = absurd (omega (arith, e))

listed_number : (n : ℕ) → Number n → NotZero n → StopNumber n
listed_number zero k z = absurd z
listed_number (suc n) k z =
    let x = both_true (leb 21 (suc n)) (leb (suc n) 29)
    (ap (λ (b : Bool). b || and_then (leb 21 (suc n)) (leb (suc n) 29)) (sym (eqb-suc-zero n)) ∙ k) in
    (leb-true 21 (suc n) x.0, leb-true (suc n) 29 x.1)

pub table_listed : (t : Stops TableIndex) (left : ℕ) → Opens 0 t left → NoStop t → TableListed t left
table_listed (stop n) left (h, k) z = (on (one_of (0 ∷ 22 ∷ []) n h), k)
  where
    on : OneOf (0 ∷ 22 ∷ []) n → n ≡ 22
    on (inl e) = not_zero n z e
    on (inr (inl e)) = e
    on (inr (inr none)) = absurd none
table_listed (go t) left h z = h

pub ending_listed : (e : Ending) (left : ℕ) → Ends 0 e left → Fine e → EndingListed e left
ending_listed (found a) left h z = h
ending_listed (fail e) left h z = h
ending_listed cut left h z = h
ending_listed (stopped n) left (inl e) z = not_zero n z e
ending_listed (stopped n) left (inr h) z = (listed_number n h.0 z, h.1)

-- ONE CALL, on a sound forest

-- what `call` makes of a result
abbrev pub of_open : said.Sitting → Refusable Opened → said.Reply × said.Sitting
of_open S o = elim o [ refused n ↦ (said.refusal n, S) | accepted r ↦ (said.table r.table, said.with_forest S r.forest) ]

abbrev pub of_search : said.Sitting → Refusable Searched → said.Reply × said.Sitting
of_search S o = elim o [
  | refused n ↦ (said.refusal n, S)
  | accepted r ↦ (said.searched r.ending r.turns, said.with_forest S r.forest)
]

abbrev pub of_peek : said.Sitting → Refusable Peeked → said.Reply × said.Sitting
of_peek S o = elim o [
  | refused n ↦ (said.refusal n, S)
  | accepted r ↦ (said.peeked r.ending r.index r.turns r.exceeded, said.with_forest S r.forest)
]

module _ {n : ℕ} (f : Forest) (s : SoundForest n f) where
  open_listed : (goal : ℕ) (o : Refusable Opened) → open_goal f goal ≡ o → OpenListed f.mark o
  open_listed goal (refused k) e = marked_first f.mark (leb (length f.book) goal refuses 9 ∷ []) (opened 0 f goal) k e
  open_listed goal (accepted r) e =
      let a = all_pass (is_marked f refuses 20 ∷ leb (length f.book) goal refuses 9 ∷ []) (opened 0 f goal) r e in
      let z = unmarked f.mark a.0.0 in
      let q : NoStop r.table = subst (λ (o : Refusable Opened). Calm (of_open (said.sitting f) o).0) e (calm f s (said.opens goal)) in (
        z,
        table_listed r.table r.forest.mark
            (subst (λ (x : Opened). Opens 0 x.table x.forest.mark) a.1 (opened_ends f goal z)) q,
      )

  search_listed : (t i limit : ℕ) (o : Refusable Searched) → search f t i limit ≡ o → SearchListed f.mark limit o
  search_listed t i limit (refused k) e =
      marked_first f.mark (not_made f t refuses 10 ∷ index_above f t i refuses 11 ∷ eqb limit 0 refuses 12 ∷ [])
      (root_answer limit t i f) k e
  search_listed t i limit (accepted r) e =
      let a = all_pass (is_marked f refuses 20 ∷ not_made f t refuses 10 ∷ index_above f t i refuses 11 ∷ eqb limit 0 refuses 12 ∷ [])
      (root_answer limit t i f) r e in
      let z = unmarked f.mark a.0.0 in
      let x = subst (Searches 0 limit) a.1 (root_ends limit t i f z) in
      let q : Fine r.ending =
      subst (λ (o : Refusable Searched). Calm (of_search (said.sitting f) o).0) e (calm f s (said.searches t i limit)) in
      (z, x.within, ending_listed r.ending r.forest.mark x.ends q)

  peek_listed : (t i rounds limit : ℕ) (o : Refusable Peeked) → peek f t i rounds limit ≡ o → PeekListed f.mark limit o
  peek_listed t i rounds limit (refused k) e =
      marked_first f.mark (not_made f t refuses 10 ∷ index_above f t i refuses 11 ∷ (eqb rounds 0 || eqb limit 0) refuses 12 ∷ [])
      (peek_rounds (rounds - 1) limit 0 t i f) k e
  peek_listed t i rounds limit (accepted r) e =
      let a = all_pass (is_marked f refuses 20 ∷ not_made f t refuses 10 ∷ index_above f t
      i refuses 11 ∷ (eqb rounds 0 || eqb limit 0) refuses 12 ∷ []) (peek_rounds (rounds - 1) limit 0 t i f) r e in
      let z = unmarked f.mark a.0.0 in
      let x = subst (Peeks 0 limit) a.1 (rounds_end (rounds - 1) limit 0 t i f z) in
      let q : Fine r.ending × (is_invalid r.ending ≡ false) =
      subst (λ (o : Refusable Peeked). Calm (of_peek (said.sitting f) o).0) e (calm f s (said.peeks t i rounds limit)) in
      (z, x.within, ending_listed r.ending r.forest.mark x.ends q.0, q.1)

  future_listed : (t i v : ℕ) (o : Refusable Bool) → any_future_answer f t i v ≡ o → FutureListed o
  future_listed t i v (refused k) e = refused_by (not_made f t refuses 10 ∷ []) (future f t i v) k e
  future_listed t i v (accepted b) e = tt

  pub call_listed : (c : said.Call) → CallListed f c
  call_listed (said.opens goal) = open_listed goal (open_goal f goal) refl
  call_listed (said.searches t i limit) = search_listed t i limit (search f t i limit) refl
  call_listed (said.peeks t i rounds limit) = peek_listed t i rounds limit (peek f t i rounds limit) refl
  call_listed (said.asks_future t i v) = future_listed t i v (any_future_answer f t i v) refl

-- ALL CALLS

calls_listed : (n : ℕ) (cs : List said.Call) (at : said.Sitting) → SoundForest n at.forest
    → Each (λ c. CallListed c.before.forest c.asked) (said.calls at cs)
calls_listed n [] at s = tt
calls_listed n (c ∷ cs) at s =
    (call_listed at.forest s c, calls_listed n cs (said.call at c).1 (call_keeps at s c).1)

pub listed : Listed
listed = record {
  making = make_listed;
  making_at_desk = desk_listed;
  in_calls = λ bytes limit f e cs. calls_listed (length f.book) cs (said.sitting f) (made_sound bytes limit f e);
}
