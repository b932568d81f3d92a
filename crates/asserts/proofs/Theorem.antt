-- No call meets an assert: each is made on a sound forest, and leaves a sound one.
use Prim.Native.Nat.{ℕ, suc, ◌-◌, ◌<◌}
use native.Mathlib.Omega.{arith}
use borrow.Author.Tests.{leb-false}
use mathlib.Core.Path.{◌≡◌, refl, sym, ap, subst, ◌∙◌}
use mathlib.Core.Bool.{Bool, true, false, not, ◌&&◌, ◌||◌, true≢false}
use mathlib.Core.Logic.{inl, inr}
use mathlib.Core.Option.{none, some}
use mathlib.Core.List.{List, [], ◌∷◌}
use lib.ListN.{length, get_elem?}
use lib.Dec.{eqb, leb, ltb}
use Rattle.definitions.specs.Refusal.{Refusable, refused, accepted, ◌refuses◌}
use Rattle.definitions.specs.Stop.{Stops, stop, go}
use Rattle.definitions.specs.Table.{Table}
use Rattle.definitions.specs.Tables.{Forest}
use Rattle.definitions.specs.Turn.{Searched, root_answer}
use Rattle.definitions.specs.Forest.{is_marked, Opened, opened, open_goal, not_made, index_above, search, is_invalid, Peeked, peek}
use Rattle.definitions.specs.Forest.{peek_rounds, any_future_answer}
use Rattle.definitions.specs.Calls.{Sitting, sitting, with_forest, Call, opens, searches, peeks, asks_future}
use Rattle.definitions.specs.Calls.{Reply, refusal, table, searched, peeked, future, call, calls}
use Rattle.definitions.specs.Lists.{Each}
use Rattle.definitions.proofs.Refusal.{all_pass}
use Rattle.laws.proofs.Lists.{at_place}
use Rattle.asserts.proofs.Safe.{NotZero, case_safe}
use Rattle.asserts.specs.Sound.{Reached, SoundForest}
use Rattle.asserts.proofs.Making.{makes}
use Rattle.asserts.proofs.Returning.{passes_find}
use Rattle.asserts.proofs.Unwinding.{Ended}
use Rattle.asserts.proofs.Searches.{Fine, Well, mark_kept, root_answers}
use Rattle.asserts.proofs.Peeks.{PeekWell, peeks_well}
use Rattle.asserts.proofs.Reading.{made_sound}
use Rattle.asserts.specs.NeverAsserts.{NoAssert, NeverAsserts}

-- Replies.

abbrev QuietStop : {A : Type 0} → Stops A → Type 0
QuietStop (stop n) = NotZero n
QuietStop (go a) = Unit {0}

abbrev Quiet : Reply → Type 0
Quiet (refusal n) = Unit {0}
Quiet (table r) = QuietStop r
Quiet (searched e turns) = Fine e
Quiet (peeked e index turns exceeded) = Fine e × (is_invalid e ≡ false)
Quiet (future b) = Unit {0}

quiet_reply : (r : Reply) → Quiet r → NoAssert r
quiet_reply r q = record {
  opens_without = λ e. subst Quiet e q;
  searches_without = λ turns e. subst Quiet e q;
  peeks_without = λ index turns exceeded e. (subst Quiet e q).0;
  peeks_past_invalid = λ index turns exceeded e. absurd (true≢false (subst Quiet e q).1);
}

-- Calls.

-- what a call leaves
abbrev Answered : (n : ℕ) → Reply × Sitting → Type 0
Answered n r = Quiet r.0 × SoundForest n r.1.forest

module _ {n : ℕ} (at : Sitting) (s : SoundForest n at.forest) where
  abbrev f : Forest
  f = at.forest

  opened_well : (goal : ℕ) → goal < n → QuietStop (opened 0 f goal).table × SoundForest n (opened 0 f goal).forest
  opened_well goal lt = case_safe (λ (o : Opened). QuietStop o.table × SoundForest n o.forest)
      (makes s 0 goal (let o = s.few_strands in omega arith) lt)
      (λ m z. (z, (mark_kept m s).sound))
      (λ r x. (tt, x.kept.sound))

  opens_well : (goal : ℕ) (o : Refusable Opened) → open_goal f goal ≡ o
      → Answered n (elim o [ refused m ↦ (refusal m, at) | accepted r ↦ (table r.table, with_forest at r.forest) ])
  opens_well goal (refused m) e = (tt, s)
  opens_well goal (accepted r) e =
      let a = all_pass (is_marked f refuses 20 ∷ leb (length f.book) goal refuses 9 ∷ []) (opened 0 f goal) r e in
      let lt = leb-false (length f.book) goal a.0.1.0 in
      let same = s.goals in
      subst (λ o. QuietStop o.table × SoundForest n o.forest) a.1 (opened_well goal (omega arith))

  -- the tests of a search and a peek
  pub asked : (t i : ℕ) → not_made f t ≡ false → index_above f t i ≡ false → Ended n t i f
  asked t i m o =
      let own = at_place f.tables t (leb-false (length f.tables) t m) in
      record { sound = s; own = own.0; is_made = own.1; reached = at_most own.0 (within own.0 own.1) }
    where
      within : (u : Table) → get_elem? f.tables t ≡ some u → (ltb (length u.answers) i && not u.floundered) ≡ false
      within u e = sym (ap (λ q. elim q [ none ↦ false | some v ↦ ltb (length v.answers) i && not v.floundered ]) e) ∙ o

      by_tests : (u : Table) (a b : Bool) → ltb (length u.answers) i ≡ a → u.floundered ≡ b → (a && not b) ≡ false → Reached u i
      by_tests u true true p q e = inl q
      by_tests u true false p q e = absurd (true≢false e)
      by_tests u false true p q e = inl q
      by_tests u false false p q e = let w = leb-false (suc (length u.answers)) i p in inr (omega arith)

      at_most : (u : Table) → (ltb (length u.answers) i && not u.floundered) ≡ false → Reached u i
      at_most u e = by_tests u (ltb (length u.answers) i) u.floundered refl refl e

  searches_well : (t i limit : ℕ) (o : Refusable Searched) → search f t i limit ≡ o
      → Answered n (elim o [ refused m ↦ (refusal m, at) | accepted r ↦ (searched r.ending r.turns, with_forest at r.forest) ])
  searches_well t i limit (refused m) e = (tt, s)
  searches_well t i limit (accepted r) e =
      let a = all_pass (is_marked f refuses 20 ∷ not_made f t refuses 10 ∷ index_above f t i refuses 11 ∷ eqb limit 0 refuses 12 ∷ [])
      (root_answer limit t i f) r e in
      let w = subst (Well n t i) a.1 (root_answers n t i limit f (asked t i a.0.1.0 a.0.1.1.0)) in
      (w.fine, w.ended.sound)

  peeks_quietly : (t i rounds limit : ℕ) (o : Refusable Peeked) → peek f t i rounds limit ≡ o
      → Answered n (elim o [
        | refused m ↦ (refusal m, at)
        | accepted r ↦ (peeked r.ending r.index r.turns r.exceeded, with_forest at r.forest)
      ])
  peeks_quietly t i rounds limit (refused m) e = (tt, s)
  peeks_quietly t i rounds limit (accepted r) e =
      let a = all_pass (is_marked f refuses 20 ∷ not_made f t refuses 10 ∷ index_above f t
      i refuses 11 ∷ (eqb rounds 0 || eqb limit 0) refuses 12 ∷ []) (peek_rounds (rounds - 1) limit 0 t i f) r e in
      let w = subst (PeekWell n t) a.1 (peeks_well n t limit (rounds - 1) 0 i f (asked t i a.0.1.0 a.0.1.1.0)) in
      ((w.fine, w.valid), w.ended.sound)

  asks_well : (t i v : ℕ) (o : Refusable Bool) → Answered n (elim o [ refused m ↦ (refusal m, at) | accepted b ↦ (future b, at) ])
  asks_well t i v (refused m) = (tt, s)
  asks_well t i v (accepted b) = (tt, s)

  -- a call on a sound forest
  pub call_keeps : (c : Call) → Answered n (call at c)
  call_keeps (opens goal) = opens_well goal (open_goal f goal) refl
  call_keeps (searches t i limit) = searches_well t i limit (search f t i limit) refl
  call_keeps (peeks t i rounds limit) = peeks_quietly t i rounds limit (peek f t i rounds limit) refl
  call_keeps (asks_future t i v) = asks_well t i v (any_future_answer f t i v)

calls_keep : (n : ℕ) (cs : List Call) (at : Sitting) → SoundForest n at.forest → Each (λ c. NoAssert c.reply) (calls at cs)
calls_keep n [] at s = tt
calls_keep n (c ∷ cs) at s = let r = call_keeps at s c in (quiet_reply (call at c).0 r.0, calls_keep n cs (call at c).1 r.1)

-- the forests that a list of calls leaves
pub forests_sound : (n : ℕ) (cs : List Call) (at : Sitting) → SoundForest n at.forest
    → Each (λ c. SoundForest n c.after.forest) (calls at cs)
forests_sound n [] at s = tt
forests_sound n (c ∷ cs) at s = let r = call_keeps at s c in (r.1, forests_sound n cs (call at c).1 r.1)

pub never_asserts : NeverAsserts
never_asserts = record {
  in_calls = λ bytes limit f e cs. calls_keep (length f.book) cs (sitting f) (made_sound bytes limit f e);
  in_reconsidering = λ x. passes_find (length x.floundered_subgoals) x (omega arith);
}
