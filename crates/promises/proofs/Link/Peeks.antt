-- A search for a table's answer at an index, and a peek, which searches again after each QuantumExceeded.
use Prim.Native.Nat.{ℕ, zero, suc, ◌+◌, ◌≤◌, ◌<◌}
use native.Mathlib.Omega.{arith}
use native.Mathlib.Decide.{dec_lt}
use borrow.Author.Tests.{leb-false}
use mathlib.Core.Path.{◌≡◌, refl, sym, ap, subst, ◌∙◌}
use mathlib.Core.Bool.{Bool, true, false, and-true}
use mathlib.Core.Logic.{◌⊎◌, inl, inr}
use mathlib.Core.Option.{some}
use mathlib.Core.List.{List, [], ◌∷◌}
use lib.ListN.{length, get_elem?}
use lib.Dec.{ltb}
use Rattle.definitions.specs.Book.{Book}
use Rattle.definitions.specs.Tables.{Tables, Forest}
use Rattle.definitions.specs.Lists.{push}
use Rattle.definitions.specs.Logic.{NoMoreSolutions, Floundered, QuantumExceeded, NegativeCycle, InvalidAnswer}
use Rattle.definitions.specs.Turn.{Ending, found, fail, cut, stopped, root_answer}
use Rattle.definitions.specs.Forest.{index_above, Peeked, is_invalid, is_exceeded, peeked, skip_invalid, peek_rounds}
use Rattle.definitions.specs.Forest.{SearchMade, peek_searches}
use Rattle.papers.specs.Claim.{one_if, exceeded_among}
use Rattle.promises.proofs.Plain.Model.{either}
use Rattle.promises.proofs.Plain.Machine as M
use Rattle.promises.proofs.Plain.Whole.{Ready, search_ok, no_member, run_stored}
use Rattle.promises.proofs.Link.View.{answers_of, table_of}
use Rattle.promises.proofs.Link.Tables.{Extends, forest_of, Agree}
use Rattle.promises.proofs.Link.Back.{table_here}
use Rattle.promises.proofs.Link.Premises.{Premises, setting_of, limits_in, forest_in}
use Rattle.promises.proofs.Link.Searches.{EndIs, found_is, none_is, again_is, cut_is, stopped_is, SearchIs, stored_is, begin_is}
use Rattle.promises.proofs.Link.Searches.{stored_search}

-- the index is not above the answers
pub index_within : {book : Book} (limit mark c : ℕ) {gs : List ℕ} {ts : Tables} {p : M.Forest} → Agree book gs ts p → (t g i : ℕ)
    → get_elem? gs t ≡ some g → index_above (forest_of book limit mark ts c) t i ≡ false → i ≤ length (answers_of (p.answered g))
index_within limit mark c {ts = ts} {p = p} a t g i at e =
    let h = table_here a t g at in
    let o = rw (h.is, index_above) at e in
    let q : ltb (length (answers_of (p.answered g))) i ≡ false = sym (and-true (ltb (length (answers_of (p.answered g))) i)) ∙ o in
    let z = leb-false (suc (length (answers_of (p.answered g)))) i q in
    omega arith

module _ (G : Premises) where
  root_at : {gs : List ℕ} {ts : Tables} {p : M.Forest} → Agree G.book gs ts p → Ready (setting_of G) p → (t g n : ℕ)
      → get_elem? gs t ≡ some g → (b : Bool) → p.answered g ≡ b → (i : ℕ) → i ≤ length (answers_of b)
      → SearchIs G gs (root_answer (suc n) t i (forest_in G 0 ts p.clock)) (M.search_at (limits_in G) true b i (suc n) p g).0
      (M.search_at (limits_in G) true b i (suc n) p g).1
  root_at {gs} {ts} {p} a ready t g n at true e zero o =
      let h = table_here a t g at in
      let k : get_elem? ts t ≡ some (table_of g true (p.first g) h.waiting) =
      h.is ∙ ap (λ z. some (table_of g z (p.first g) h.waiting)) e in
      rw (k, root_answer) (record {
        goals = gs;
        after = ts;
        mark = 0;
        forest = refl;
        more = λ i h e. e;
        agree = a;
        ends = rw (stored_is G.limit 0 p.clock a t g at e) found_is;
      })
  root_at {gs} {ts} {p} a ready t g n at true e (suc zero) o =
      let h = table_here a t g at in
      let k : get_elem? ts t ≡ some (table_of g true (p.first g) h.waiting) =
      h.is ∙ ap (λ z. some (table_of g z (p.first g) h.waiting)) e in
      rw (k, root_answer) (stored_search G a ready t g n at e (dec_lt p.clock G.limit))
  root_at {gs} {ts} {p} a ready t g n at true e (suc (suc i)) o = absurd (omega arith)
  root_at {gs} {ts} {p} a ready t g n at false e zero o =
      let h = table_here a t g at in
      let k : get_elem? ts t ≡ some (table_of g false (p.first g) h.waiting) =
      h.is ∙ ap (λ z. some (table_of g z (p.first g) h.waiting)) e in
      rw (k, root_answer) (begin_is G a ready t g (suc n) at e (dec_lt p.clock G.limit))
  root_at {gs} {ts} {p} a ready t g n at false e (suc i) o = absurd (omega arith)

  pub root_is : {gs : List ℕ} {ts : Tables} {p : M.Forest} → Agree G.book gs ts p → Ready (setting_of G) p → (t g n i : ℕ)
      → get_elem? gs t ≡ some g → i ≤ length (answers_of (p.answered g))
      → SearchIs G gs (root_answer (suc n) t i (forest_in G 0 ts p.clock)) (M.search (limits_in G) p g i (suc n)).0
      (M.search (limits_in G) p g i (suc n)).1
  root_is {p = p} a ready t g n i at o = rw (a.made t g at) (root_at a ready t g n at (p.answered g) refl i o)

-- the last search of a peek that is at index i
abbrev pub last_made : (i : ℕ) → Peeked → SearchMade
last_made i r = record { index = i; result = record { ending = r.ending; turns = r.turns; forest = r.forest } }

-- a peek, and the searches that it made, beside a peek; k ended in QuantumExceeded before
pub record PeekIs (G : Premises) (gs : List ℕ) (i k : ℕ) (made : List SearchMade) (result : Peeked) (o : M.Outcome) (j : ℕ)
    (p : M.Forest) : Type 0 where
  pub goals : List ℕ
  pub after : Tables
  pub mark : ℕ
  pub forest : result.forest ≡ forest_in G mark after p.clock
  pub more : Extends gs goals
  pub agree : Agree G.book goals after p
  pub ends : EndIs G.limit p.clock mark result.ending o
  pub index : result.index ≡ i
  pub exceeded : result.exceeded ≡ k + j
  pub earlier : List SearchMade
  pub made_are : made ≡ push earlier (last_made i result)
  pub among : exceeded_among made ≡ j

not_invalid : {limit c m : ℕ} {e : Ending} {o : M.Outcome} → EndIs limit c m e o → is_invalid e ≡ false
not_invalid found_is = refl
not_invalid none_is = refl
not_invalid again_is = refl
not_invalid cut_is = refl
not_invalid (stopped_is x) = refl

-- QuantumExceeded, or an ending that ends the peek
again_or_not : {limit c m : ℕ} {e : Ending} {o : M.Outcome} → EndIs limit c m e o → (N : M.Limits) (p : M.Forest)
    → ((o ≡ M.again) × (e ≡ fail QuantumExceeded) × (m ≡ 0))
    ⊎ ((is_exceeded e ≡ false) × ((k : M.Forest → M.Outcome × ℕ × M.Forest) → M.peek_next N (o, p) k ≡ (o, 0, p)))
again_or_not found_is N p = inr (refl, λ k. refl)
again_or_not none_is N p = inr (refl, λ k. refl)
again_or_not again_is N p = inl (refl, refl, refl)
again_or_not cut_is N p = inr (refl, λ k. refl)
again_or_not (stopped_is x) N p = inr (refl, λ k. refl)

-- what a peek does with the last search of its passes, in its last round and before
abbrev last_round : ℕ → Peeked → Peeked
last_round k p = elim (is_exceeded p.ending) [
  | true ↦ record { ending = p.ending; index = p.index; turns = p.turns; exceeded = suc k; forest = p.forest }
  | false ↦ p
]

abbrev next_round : (r limit k t : ℕ) → Peeked → Peeked
next_round r limit k t p = elim (is_exceeded p.ending) [ true ↦ peek_rounds r limit (suc k) t p.index p.forest | false ↦ p ]

module _ (limit k t i : ℕ) (f : Forest) (valid : is_invalid (root_answer limit t i f).ending ≡ false) where
  skip_at : (more : ℕ) → skip_invalid (suc more) limit k t i f ≡ peeked i k (root_answer limit t i f)
  skip_at more = rw (valid, skip_invalid)

  peek_ends : is_exceeded (root_answer limit t i f).ending ≡ false → (r : ℕ)
      → peek_rounds r limit k t i f ≡ peeked i k (root_answer limit t i f)
  peek_ends e zero = ap (last_round k) (skip_at 255) ∙ rw (e, last_round)
  peek_ends e (suc r) = ap (next_round r limit k t) (skip_at 255) ∙ rw (e, next_round)

  peek_last : is_exceeded (root_answer limit t i f).ending ≡ true
      → peek_rounds 0 limit k t i f ≡ record {
        ending = (root_answer limit t i f).ending;
        index = i;
        turns = (root_answer limit t i f).turns;
        exceeded = suc k;
        forest = (root_answer limit t i f).forest;
      }
  peek_last e = ap (last_round k) (skip_at 255) ∙ rw (e, last_round)

  peek_more : is_exceeded (root_answer limit t i f).ending ≡ true → (r : ℕ)
      → peek_rounds (suc r) limit k t i f ≡ peek_rounds r limit (suc k) t i (root_answer limit t i f).forest
  peek_more e r = ap (next_round r limit k t) (skip_at 255) ∙ rw (e, next_round)

-- the searches after one with this ending
abbrev pub following : (passes more limit t i : ℕ) → Ending → Forest → List SearchMade
following passes more limit t i e f = elim e [
  | found a ↦ []
  | fail x ↦ elim x [
    | InvalidAnswer ↦ peek_searches passes more limit t (suc i) f
    | Floundered ↦ []
    | NoMoreSolutions ↦ []
    | QuantumExceeded ↦ elim more [ zero ↦ [] | suc fewer ↦ peek_searches passes fewer limit t i f ]
    | NegativeCycle ↦ []
  ]
  | cut ↦ []
  | stopped n ↦ []
]

none_follows : {limit c m : ℕ} {e : Ending} {o : M.Outcome} → EndIs limit c m e o → is_exceeded e ≡ false
    → (passes more turns t i : ℕ) (f : Forest) → following passes more turns t i e f ≡ []
none_follows found_is x passes more turns t i f = refl
none_follows none_is x passes more turns t i f = refl
none_follows again_is x passes more turns t i f = absurd (let z : ◌≡◌ {A = ℕ} 0 1 = cc in omega arith)
none_follows cut_is x passes more turns t i f = refl
none_follows (stopped_is o) x passes more turns t i f = refl

end_differs : {A : Type 0} {o : M.Outcome} → o ≡ M.again → (o ≡ M.cut) ⊎ ((o ≡ M.no_more_left) ⊎ (o ≡ M.clock_ended)) → A
end_differs {A} {o} e (inl x) = absurd (let z : ◌≡◌ {A = ℕ} 0 1 = cc in omega arith)
end_differs {A} {o} e (inr (inl x)) = absurd (let z : ◌≡◌ {A = ℕ} 0 1 = cc in omega arith)
end_differs {A} {o} e (inr (inr x)) = absurd (let z : ◌≡◌ {A = ℕ} 0 1 = cc in omega arith)

module _ (G : Premises) where
  -- a search at index 1 never says again
  stored_not_again : (p : M.Forest) → Ready (setting_of G) p → (g n : ℕ) → p.answered g ≡ true → (d : Dec (p.clock < G.limit))
      → (M.begin (limits_in G) d p g n).0 ≡ M.again → ⊥
  stored_not_again p ready g n yes-g (yes lt) e =
      let none_left : p.queue g ≡ [] = no_member (p.queue g) (λ s m. ready.fine.quiet g yes-g s (inl m)) in
      either (λ x. end_differs e (inl (ap (λ (z : M.Outcome × M.Forest). z.0) x)))
      (λ x. end_differs e (inr (inl (ap (λ (z : M.Outcome × M.Forest). z.0) x))))
      (run_stored (setting_of G) (M.tick (limits_in G) p) g (suc p.clock) n none_left)
  stored_not_again p ready g n yes-g (no o) e = end_differs e (inr (inr refl))

  again_at : (p : M.Forest) → Ready (setting_of G) p → (g n : ℕ) (m b : Bool) → p.answered g ≡ b → (i : ℕ) → i ≤ length (answers_of b)
      → (M.search_at (limits_in G) m b i (suc n) p g).0 ≡ M.again → i ≡ 0
  again_at p ready g n false b k zero o e = refl
  again_at p ready g n false b k (suc i) o e = absurd (let z : ◌≡◌ {A = ℕ} 0 1 = cc in omega arith)
  again_at p ready g n true false k zero o e = refl
  again_at p ready g n true false k (suc i) o e = absurd (omega arith)
  again_at p ready g n true true k zero o e = refl
  again_at p ready g n true true k (suc zero) o e = absurd (stored_not_again p ready g (suc n) k (dec_lt p.clock G.limit) e)
  again_at p ready g n true true k (suc (suc i)) o e = absurd (omega arith)

  abbrev PeekHere : (r : ℕ) → Type 0
  PeekHere r = (gs : List ℕ) (ts : Tables) (p : M.Forest) → Agree G.book gs ts p → Ready (setting_of G) p → (t g n i k : ℕ)
      → get_elem? gs t ≡ some g → i ≤ length (answers_of (p.answered g))
      → (passes : ℕ) → r < passes → PeekIs G gs i k (peek_searches passes r (suc n) t i (forest_in G 0 ts p.clock))
      (peek_rounds r (suc n) k t i (forest_in G 0 ts p.clock)) (M.rounds (limits_in G) (suc r) g i (suc n) p).0
      (M.rounds (limits_in G) (suc r) g i (suc n) p).1 (M.rounds (limits_in G) (suc r) g i (suc n) p).2

  -- a round whose search says something else
  peek_done : (r : ℕ) (gs : List ℕ) (ts : Tables) (p : M.Forest) (t g n i k passes : ℕ)
      → SearchIs G gs (root_answer (suc n) t i (forest_in G 0 ts p.clock)) (M.search (limits_in G) p g i (suc n)).0
      (M.search (limits_in G) p g i (suc n)).1
      → is_exceeded (root_answer (suc n) t i (forest_in G 0 ts p.clock)).ending ≡ false
      → ((c : M.Forest → M.Outcome × ℕ × M.Forest) → M.peek_next (limits_in G) (M.search (limits_in G) p g i (suc n))
      c ≡ ((M.search (limits_in G) p g i (suc n)).0, 0, (M.search (limits_in G) p g i (suc n)).1))
      → PeekIs G gs i k (peek_searches (suc passes) r (suc n) t i (forest_in G 0 ts p.clock))
      (peek_rounds r (suc n) k t i (forest_in G 0 ts p.clock)) (M.rounds (limits_in G) (suc r) g i (suc n) p).0
      (M.rounds (limits_in G) (suc r) g i (suc n) p).1 (M.rounds (limits_in G) (suc r) g i (suc n) p).2
  peek_done r gs ts p t g n i k passes s e q =
      let F = forest_in G 0 ts p.clock in
      let R = root_answer (suc n) t i F in
      let made : List SearchMade = peek_searches (suc passes) r (suc n) t i F in
      let alone : made ≡ record { index = i; result = R } ∷ [] =
      ap (λ ss. record { index = i; result = R } ∷ ss) (none_follows s.ends e passes r (suc n) t i R.forest) in
      let none_more : exceeded_among made ≡ 0 = ap exceeded_among alone ∙ ap (λ b. one_if b + 0) e in
      let x : PeekIs G gs i k made (peeked i k (root_answer (suc n) t i F)) (M.search (limits_in G) p g i (suc n)).0 0
      (M.search (limits_in G) p g i (suc n)).1 =
      record {
        goals = s.goals;
        after = s.after;
        mark = s.mark;
        forest = s.forest;
        more = s.more;
        agree = s.agree;
        ends = s.ends;
        index = refl;
        exceeded = omega arith;
        earlier = [];
        made_are = alone;
        among = none_more;
      } in
      subst (λ (z : Peeked). PeekIs G gs i k made z (M.rounds (limits_in G) (suc r) g i (suc n) p).0
      (M.rounds (limits_in G) (suc r) g i (suc n) p).1 (M.rounds (limits_in G) (suc r) g i (suc n) p).2)
      (sym (peek_ends (suc n) k t i F (not_invalid s.ends) e r))
      (subst (λ (z : M.Outcome × ℕ × M.Forest). PeekIs G gs i k made (peeked i k (root_answer (suc n) t i F)) z.0 z.1 z.2)
      (sym (q (M.rounds (limits_in G) r g i (suc n)))) x)

  exceeds : {e : Ending} → e ≡ fail QuantumExceeded → is_exceeded e ≡ true
  exceeds x = ap is_exceeded x

  -- a round whose search says again
  peek_again : (r : ℕ) → ((r' : ℕ) → r ≡ suc r' → PeekHere r') → (gs : List ℕ) (ts : Tables) (p : M.Forest) → Ready (setting_of G) p
      → (t g n i k passes : ℕ) → r < suc passes → get_elem? gs t ≡ some g → i ≤ length (answers_of (p.answered g))
      → SearchIs G gs (root_answer (suc n) t i (forest_in G 0 ts p.clock)) (M.search (limits_in G) p g i (suc n)).0
      (M.search (limits_in G) p g i (suc n)).1
      → (M.search (limits_in G) p g i (suc n)).0 ≡ M.again
      → (root_answer (suc n) t i (forest_in G 0 ts p.clock)).ending ≡ fail QuantumExceeded
      → PeekIs G gs i k (peek_searches (suc passes) r (suc n) t i (forest_in G 0 ts p.clock))
      (peek_rounds r (suc n) k t i (forest_in G 0 ts p.clock)) (M.rounds (limits_in G) (suc r) g i (suc n) p).0
      (M.rounds (limits_in G) (suc r) g i (suc n) p).1 (M.rounds (limits_in G) (suc r) g i (suc n) p).2
  peek_again zero ih gs ts p ready t g n i k passes enough at o s q e =
      let N = limits_in G in
      let F = forest_in G 0 ts p.clock in
      let p' = (M.search N p g i (suc n)).1 in
      let next : M.rounds N 1 g i (suc n) p ≡ (M.again, 1, p') = ap (λ z. M.peek_next N (z, p') (M.rounds N 0 g i (suc n))) q in
      let ends : EndIs G.limit p'.clock s.mark (root_answer (suc n) t i F).ending M.again =
      subst (λ z. EndIs G.limit p'.clock s.mark (root_answer (suc n) t i F).ending z) q s.ends in
      let R = root_answer (suc n) t i F in
      let made : List SearchMade = peek_searches (suc passes) 0 (suc n) t i F in
      let alone : made ≡ record { index = i; result = R } ∷ [] =
      ap (λ x. record { index = i; result = R } ∷ following passes 0 (suc n) t i x R.forest) e in
      let one : exceeded_among made ≡ 1 = ap exceeded_among alone ∙ ap (λ b. one_if b + 0) (exceeds e) in
      subst (λ (z : M.Outcome × ℕ × M.Forest). PeekIs G gs i k made (peek_rounds 0 (suc n) k t i F) z.0 z.1 z.2) (sym next)
      (subst (λ (z : Peeked). PeekIs G gs i k made z M.again 1 p') (sym (peek_last (suc n) k t i F (not_invalid s.ends) (exceeds e)))
      (record {
        goals = s.goals;
        after = s.after;
        mark = s.mark;
        forest = s.forest;
        more = s.more;
        agree = s.agree;
        ends = ends;
        index = refl;
        exceeded = omega arith;
        earlier = [];
        made_are = alone;
        among = one;
      }))
  peek_again (suc r) ih gs ts p ready t g n i k passes enough at o s q e =
      let N = limits_in G in
      let F = forest_in G 0 ts p.clock in
      let p' = (M.search N p g i (suc n)).1 in
      let k' = M.rounds N (suc r) g i (suc n) in
      let next : M.rounds N (suc (suc r)) g i (suc n) p ≡ ((k' p').0, suc (k' p').1, (k' p').2) = ap (λ z. M.peek_next N (z, p') k') q in
      let ends : EndIs G.limit p'.clock s.mark (root_answer (suc n) t i F).ending M.again =
      subst (λ z. EndIs G.limit p'.clock s.mark (root_answer (suc n) t i F).ending z) q s.ends in
      let ready' = (search_ok (setting_of G) p g i (suc n) ready).rest in
      let zero-i = again_at p ready g n (p.made g) (p.answered g) refl i o q in
      let x = ih r refl s.goals s.after p' s.agree ready' t g n i (suc k) (s.more t g at) (omega arith) passes (omega arith) in
      let same : (root_answer (suc n) t i F).forest ≡ forest_in G 0 s.after p'.clock =
      s.forest ∙ ap (λ m. forest_in G m s.after p'.clock) (unmarked ends) in
      let R = root_answer (suc n) t i F in
      let next-forest = forest_in G 0 s.after p'.clock in
      let made : List SearchMade = peek_searches (suc passes) (suc r) (suc n) t i F in
      let first : SearchMade = record { index = i; result = R } in
      let then : made ≡ first ∷ peek_searches passes r (suc n) t i next-forest =
      ap (λ x. first ∷ following passes (suc r) (suc n) t i x R.forest) e
      ∙ ap (λ f. first ∷ peek_searches passes r (suc n) t i f) same in
      let counted = ap exceeded_among then ∙ ap (λ b. one_if b + exceeded_among (peek_searches passes r (suc n) t i next-forest))
      (exceeds e) in
      let one_more : exceeded_among made ≡ suc (k' p').1 = let y = x.among in omega arith in
      subst (λ (z : M.Outcome × ℕ × M.Forest). PeekIs G gs i k made (peek_rounds (suc r) (suc n) k t i F) z.0 z.1 z.2) (sym next)
      (subst (λ (z : Peeked). PeekIs G gs i k made z (k' p').0 (suc (k' p').1) (k' p').2)
      (sym (peek_more (suc n) k t i F (not_invalid s.ends) (exceeds e) r))
      (subst (λ (z : Forest). PeekIs G gs i k made (peek_rounds r (suc n) (suc k) t i z) (k' p').0 (suc (k' p').1) (k' p').2) (sym same)
      (record {
        goals = x.goals;
        after = x.after;
        mark = x.mark;
        forest = x.forest;
        more = λ j h y. x.more j h (s.more j h y);
        agree = x.agree;
        ends = x.ends;
        index = x.index;
        exceeded = let y = x.exceeded in omega arith;
        earlier = first ∷ x.earlier;
        made_are = then ∙ ap (λ ss. first ∷ ss) x.made_are;
        among = one_more;
      })))
    where
      unmarked : {c m : ℕ} {e : Ending} → EndIs G.limit c m e M.again → m ≡ 0
      unmarked again_is = refl

  round : (r : ℕ) → ((r' : ℕ) → r ≡ suc r' → PeekHere r') → PeekHere r
  round r ih gs ts p a ready t g n i k at o zero enough = absurd (omega arith)
  round r ih gs ts p a ready t g n i k at o (suc passes) enough =
      let s = root_is G a ready t g n i at o in
      either (λ x. peek_again r ih gs ts p ready t g n i k passes enough at o s x.0 x.1)
      (λ x. peek_done r gs ts p t g n i k passes s x.0 x.1)
      (again_or_not s.ends (limits_in G) (M.search (limits_in G) p g i (suc n)).1)

  pub peek_is : (r : ℕ) → PeekHere r
  peek_is zero = round zero (λ r' e. absurd (omega arith))
  peek_is (suc r) = round (suc r) (λ r' e. let q : r ≡ r' = omega arith in subst PeekHere q (peek_is r))
