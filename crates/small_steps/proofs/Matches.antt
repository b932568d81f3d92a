-- Two results that match: the first asserts, or both stop by the same number, or both go on with values that are related. The first is
-- a turn or a part of it, the second what is decided.
use Prim.Native.Nat.{ℕ, zero, suc}
use mathlib.Core.Path.{◌≡◌, refl, sym, ap, subst, ◌∙◌}
use mathlib.Core.Bool.{Bool, true, false}
use mathlib.Core.Option.{Option, none, some}
use Rattle.definitions.specs.Stop.{Stops, stop, go, ◌>>=◌, ◌>>◌, stop_if, unwrap}
use Rattle.asserts.proofs.Safe.{Safe, stops, goes}
use Rattle.small_steps.specs.Decide.{or}

pub data Matches {A B : Type 0} (R : A → B → Type 0) : Stops A → Stops B → Type 0 where
  asserts : {d : Stops B} → Matches R (stop 0) d
  both_stop : {n : ℕ} → Matches R (stop n) (stop n)
  both_go : {a : A} {b : B} → R a b → Matches R (go a) (go b)

-- the step asserts, or goes on with that value
pub data Goes {A : Type 0} (a : A) : Stops A → Type 0 where
  asserting : Goes a (stop 0)
  going : Goes a (go a)

module _ {A B : Type 0} {a : A} {b : B} where
  pub goes_after : {r : Stops A} (k : A → Stops B) → Goes a r → Goes b (k a) → Goes b (r >>= k)
  goes_after k asserting h = asserting
  goes_after k going h = h

pub goes_unwrap : {A : Type 0} (o : Option A) (d : A) → Goes (or d o) (unwrap o)
goes_unwrap none d = asserting
goes_unwrap (some a) d = going

module _ {A B C D : Type 0} {R : A → B → Type 0} {Q : C → D → Type 0} where
  pub after : {r : Stops A} {d : Stops B} {k : A → Stops C} {l : B → Stops D} → Matches R r d
      → ((a : A) (b : B) → R a b → Matches Q (k a) (l b)) → Matches Q (r >>= k) (d >>= l)
  after asserts h = asserts
  after both_stop h = both_stop
  after (both_go {a = a} {b = b} x) h = h a b x

module _ {A C D : Type 0} {Q : C → D → Type 0} where
  -- the decision is made; the rest of the turn is the doing
  pub then : {r : Stops A} {d : Stops D} {k : A → Stops C} → Matches (λ a b. Matches Q (k a) (go b)) r d → Matches Q (r >>= k) d
  then asserts = asserts
  then both_stop = both_stop
  then (both_go x) = x

  pub after_same : (r : Stops A) {k : A → Stops C} {l : A → Stops D} → ((a : A) → Matches Q (k a) (l a)) → Matches Q (r >>= k) (r >>= l)
  after_same (stop n) h = both_stop
  after_same (go a) h = h a

  -- a step of the turn that was not decided upon
  pub sure : {a : A} {r : Stops A} (k : A → Stops C) {d : Stops D} → Goes a r → Matches Q (k a) d → Matches Q (r >>= k) d
  sure k asserting h = asserts
  sure k going h = h

  -- a read with a default
  pub on_unwrap : (o : Option A) (x : A) (k : A → Stops C) {d : Stops D} → (o ≡ some (or x o) → Matches Q (k (or x o)) d)
      → Matches Q (unwrap o >>= k) d
  on_unwrap none x k h = asserts
  on_unwrap (some a) x k h = h refl

  pub by_option : {o o' : Option A} → o ≡ o' → {x : Stops C} {x' : Stops D} {y : A → Stops C} {y' : A → Stops D}
      → (o ≡ none → Matches Q x x') → ((a : A) → o ≡ some a → Matches Q (y a) (y' a))
      → Matches Q (elim o [ none ↦ x | some a ↦ y a ]) (elim o' [ none ↦ x' | some a ↦ y' a ])
  by_option {o} e {x} {x'} {y} {y'} h k = subst (λ z. Matches Q (elim o [ none ↦ x | some a ↦ y a ])
      (elim z [ none ↦ x' | some a ↦ y' a ])) e (on o h k)
    where
      on : (o : Option A) → (o ≡ none → Matches Q x x') → ((a : A) → o ≡ some a → Matches Q (y a) (y' a))
          → Matches Q (elim o [ none ↦ x | some a ↦ y a ]) (elim o [ none ↦ x' | some a ↦ y' a ])
      on none h k = h refl
      on (some a) h k = k a refl

module _ {C D : Type 0} {Q : C → D → Type 0} where
  pub guard : {b b' : Bool} → b ≡ b' → (n : ℕ) {r : Stops C} {d : Stops D} → Matches Q r d
      → Matches Q (stop_if b n >> r) (stop_if b' n >> d)
  guard {b} e n {r} {d} h = subst (λ z. Matches Q (stop_if b n >> r) (stop_if z n >> d)) e (on b)
    where
      on : (b : Bool) → Matches Q (stop_if b n >> r) (stop_if b n >> d)
      on true = both_stop
      on false = h

  pub assert : (b : Bool) {r : Stops C} {d : Stops D} → Matches Q r d → Matches Q (stop_if b 0 >> r) d
  assert true h = asserts
  assert false h = h

  pub by_bool : {b b' : Bool} → b ≡ b' → {x y : Stops C} {x' y' : Stops D} → Matches Q x x' → Matches Q y y'
      → Matches Q (elim b [ true ↦ x | false ↦ y ]) (elim b' [ true ↦ x' | false ↦ y' ])
  by_bool {b} e {x} {y} {x'} {y'} h k = subst (λ z. Matches Q (elim b [ true ↦ x | false ↦ y ]) (elim z [ true ↦ x' | false ↦ y' ])) e
      (on b)
    where
      on : (b : Bool) → Matches Q (elim b [ true ↦ x | false ↦ y ]) (elim b [ true ↦ x' | false ↦ y' ])
      on true = h
      on false = k

-- What was to be shown of a turn that does not assert.
module _ {A B : Type 0} {P : A → Type 0} (p : B → A) where
  pub matched : {r : Stops A} {d : Stops B} → Matches (λ a b. a ≡ p b) r d → Safe P r → r ≡ (d >>= λ b. go (p b))
  matched asserts (stops z) = absurd z
  matched both_stop s = refl
  matched (both_go e) s = ap go e

  pub safe_too : {r : Stops A} {d : Stops B} → Matches (λ a b. a ≡ p b) r d → Safe P r → Safe (λ b. P (p b)) d
  safe_too asserts (stops z) = absurd z
  safe_too both_stop (stops z) = stops z
  safe_too (both_go e) (goes x) = goes (subst P e x)
