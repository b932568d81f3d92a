-- A peek is steps, search after search: `peek_rounds` of the definitions, on a sound forest whose table has the answers below the index
-- or is floundered. And steps lead to one end only.
use Prim.Native.Nat.{ℕ, zero, suc}
use mathlib.Core.Path.{◌≡◌, refl, sym, ap, subst, ◌∙◌}
use mathlib.Core.Bool.{Bool, true, false, true≢false, false≢true}
use Rattle.definitions.specs.{TableIndex}
use Rattle.definitions.specs.Tables.{Forest}
use Rattle.definitions.specs.Logic.{NoMoreSolutions, Floundered, QuantumExceeded, NegativeCycle, InvalidAnswer}
use Rattle.definitions.specs.Turn.{Ending, found, fail, cut, stopped, Searched, root_answer}
use Rattle.definitions.specs.Forest.{Peeked, is_invalid, is_exceeded, peeked, with_exceeded, skip_invalid, peek_rounds}
use Rattle.laws.proofs.Bools.{case_bool}
use Rattle.asserts.proofs.Unwinding.{Ended}
use Rattle.asserts.proofs.Peeks.{PeekWell, peeks_well}
use Rattle.small_steps.specs.Steps.{Progress, ended, start, Ends, at_once, after_step}
use Rattle.small_steps.specs.Steps.{Peeks, goes_on, skips, next_round, no_round, ends}
use Rattle.small_steps.proofs.Searching.{search_steps}

-- Steps lead to one end only.

pub ends_once : {g : Progress} {r s : Searched} → Ends g r → Ends g s → r ≡ s
ends_once at_once at_once = refl
ends_once (after_step a) (after_step b) = ends_once a b

-- no ending is both: a peek goes on in one way
not_both : {A : Type 0} (e : Ending) → is_invalid e ≡ true → is_exceeded e ≡ true → A
not_both (found a) x y = absurd (false≢true x)
not_both (fail NoMoreSolutions) x y = absurd (false≢true x)
not_both (fail Floundered) x y = absurd (false≢true x)
not_both (fail QuantumExceeded) x y = absurd (false≢true x)
not_both (fail NegativeCycle) x y = absurd (false≢true x)
not_both (fail InvalidAnswer) x y = absurd (false≢true y)
not_both cut x y = absurd (false≢true x)
not_both (stopped n) x y = absurd (false≢true x)

not_so : {A : Type 0} {b : Bool} → b ≡ true → b ≡ false → A
not_so x y = absurd (true≢false (sym x ∙ y))

pub peeks_once : {limit t m k i : ℕ} {g : Progress} {p q : Peeked} → Peeks limit t m k i g p → Peeks limit t m k i g q → p ≡ q
peeks_once (goes_on a) (goes_on b) = peeks_once a b
peeks_once (skips x a) (skips y b) = peeks_once a b
peeks_once (skips {r = r} x a) (next_round y b) = not_both r.ending x y
peeks_once (skips {r = r} x a) (no_round y) = not_both r.ending x y
peeks_once (skips x a) (ends y z) = not_so x y
peeks_once (next_round {r = r} x a) (skips y b) = not_both r.ending y x
peeks_once (next_round x a) (next_round y b) = peeks_once a b
peeks_once (next_round x a) (ends y z) = not_so x z
peeks_once (no_round {r = r} x) (skips y b) = not_both r.ending y x
peeks_once (no_round x) (no_round y) = refl
peeks_once (no_round x) (ends y z) = not_so x z
peeks_once (ends x z) (skips y b) = not_so y x
peeks_once (ends x z) (next_round y b) = not_so y z
peeks_once (ends x z) (no_round y) = not_so y z
peeks_once (ends x z) (ends y u) = refl

-- A peek is its steps.

-- a search inside it
searched : {limit t m k i : ℕ} {g : Progress} {r : Searched} {p : Peeked} → Ends g r → Peeks limit t m k i (ended r) p
    → Peeks limit t m k i g p
searched at_once x = x
searched (after_step e) x = goes_on (searched e x)

-- the search that a pass ends with
abbrev last_search : Peeked → Searched
last_search p = record { ending = p.ending; turns = p.turns; forest = p.forest }

module _ (limit : ℕ) (t : TableIndex) where
  -- the end of p's last search, and what comes after it, is reached from here
  abbrev Reaches : (m k i : ℕ) → Progress → Peeked → Type 0
  Reaches m k i g p = (q : Peeked) → Peeks limit t m k p.index (ended (last_search p)) q → Peeks limit t m k i g q

  -- passes over invalid answers
  skip_steps : (more m k i : ℕ) (f : Forest) → Reaches m k i (start limit t i f) (skip_invalid more limit k t i f)
  skip_steps zero m k i f q x = searched (search_steps limit t i f) x
  skip_steps (suc more) m k i f q x = searched (search_steps limit t i f)
      (case_bool (Reaches m k i (ended (root_answer limit t i f))) (is_invalid (root_answer limit t i f).ending)
      (λ e q x. skips e (skip_steps more m k (suc i) (root_answer limit t i f).forest q x))
      (λ e q x. x) q x)

  -- they count nothing
  skip_count : (more k i : ℕ) (f : Forest) → (skip_invalid more limit k t i f).exceeded ≡ k
  skip_count zero k i f = refl
  skip_count (suc more) k i f = case_bool (λ (p : Peeked). p.exceeded ≡ k) (is_invalid (root_answer limit t i f).ending)
      (λ e. skip_count more k (suc i) (root_answer limit t i f).forest)
      (λ e. refl)

  -- the peek ends here
  ends_here : (m k : ℕ) (p : Peeked) → p.exceeded ≡ k → is_invalid p.ending ≡ false → is_exceeded p.ending ≡ false
      → Peeks limit t m k p.index (ended (last_search p)) p
  ends_here m k p e v x = subst (Peeks limit t m k p.index (ended (last_search p)))
      (ap (λ j. peeked p.index j (last_search p)) (sym e)) (ends v x)

  -- a round, after its passes over invalid answers
  module _ (k i : ℕ) (g : Progress) (p : Peeked) (e : p.exceeded ≡ k) (v : is_invalid p.ending ≡ false) where
    last_round : Reaches zero k i g p
        → Peeks limit t zero k i g (elim (is_exceeded p.ending) [ true ↦ with_exceeded p (suc k) | false ↦ p ])
    last_round reaches = case_bool (Peeks limit t zero k i g) (is_exceeded p.ending)
        (λ x. reaches (with_exceeded p (suc k)) (no_round x))
        (λ x. reaches p (ends_here zero k p e v x))

    a_round : (m : ℕ) (q : Peeked) → Reaches (suc m) k i g p → Peeks limit t m (suc k) p.index (start limit t p.index p.forest) q
        → Peeks limit t (suc m) k i g (elim (is_exceeded p.ending) [ true ↦ q | false ↦ p ])
    a_round m q reaches rest = case_bool (Peeks limit t (suc m) k i g) (is_exceeded p.ending)
        (λ x. reaches q (next_round x rest))
        (λ x. reaches p (ends_here (suc m) k p e v x))

module _ (n root limit : ℕ) where
  uncounted : (b : Bool) (k : ℕ) (p : Peeked) → PeekWell n root (elim b [ true ↦ with_exceeded p k | false ↦ p ]) → PeekWell n root p
  uncounted true k p w = record { ended = w.ended; fine = w.fine; valid = w.valid }
  uncounted false k p w = w

  -- the passes come past the invalid answers: a peek of one round ends so, whether it is counted or not
  skip_well : (k index : ℕ) (f : Forest) → Ended n root index f → PeekWell n root (skip_invalid 256 limit k root index f)
  skip_well k index f x = uncounted (is_exceeded (skip_invalid 256 limit k root index f).ending) (suc k)
      (skip_invalid 256 limit k root index f) (peeks_well n root limit zero k index f x)

  -- A PEEK IS STEPS, for every limit and every number of rounds.
  pub peek_steps : (more k index : ℕ) (f : Forest) → Ended n root index f
      → Peeks limit root more k index (start limit root index f) (peek_rounds more limit k root index f)
  peek_steps zero k index f x =
      last_round limit root k index (start limit root index f) (skip_invalid 256 limit k root index f) (skip_count limit root 256 k index f)
      (skip_well k index f x).valid (skip_steps limit root 256 zero k index f)
  peek_steps (suc more) k index f x =
      let w = skip_well k index f x in
      let p = skip_invalid 256 limit k root index f in
      a_round limit root k index (start limit root index f) p (skip_count limit root 256 k index f)
      w.valid more (peek_rounds more limit (suc k) root p.index p.forest) (skip_steps limit root 256 (suc more) k index f)
      (peek_steps more (suc k) p.index p.forest w.ended)

  -- where the steps of a peek lead, `peek_rounds` does
  pub peek_is : (more k index : ℕ) (f : Forest) → Ended n root index f → {p : Peeked}
      → Peeks limit root more k index (start limit root index f) p → peek_rounds more limit k root index f ≡ p
  peek_is more k index f x h = peeks_once (peek_steps more k index f x) h

-- and where those of a search lead, `root_answer`
pub search_is : (limit : ℕ) (t : TableIndex) (i : ℕ) (f : Forest) {r : Searched} → Ends (start limit t i f) r → root_answer limit t i f ≡ r
search_is limit t i f h = ends_once (search_steps limit t i f) h
