-- Safe results: what a step comes to is a stop with a number of document 01, never 0, or it goes on with a value of which P holds.
use Prim.Native.Nat.{ℕ, zero, suc}
use native.Mathlib.Omega.{arith}
use mathlib.Core.Path.{◌≡◌, refl, sym, subst}
use mathlib.Core.Bool.{Bool, true, false}
use mathlib.Core.Option.{Option, none, some}
use Rattle.definitions.specs.Stop.{Stops, stop, go, ◌>>=◌, ◌>>◌, stop_if, unwrap}

abbrev pub NotZero : ℕ → Type 0
NotZero zero = ⊥
NotZero (suc n) = Unit {0}

pub data Safe {A : Type 0} (P : A → Type 0) : Stops A → Type 0 where
  stops : {n : ℕ} → NotZero n → Safe P (stop n)
  goes : {a : A} → P a → Safe P (go a)

module _ {A B : Type 0} {P : A → Type 0} {Q : B → Type 0} where
  -- one step after another
  pub after : {r : Stops A} {k : A → Stops B} → Safe P r → ((a : A) → P a → Safe Q (k a)) → Safe Q (r >>= k)
  after (stops n) h = stops n
  after (goes {a = a} p) h = h a p

module _ {A : Type 0} {P Q : A → Type 0} where
  pub weaker : {r : Stops A} → Safe P r → ((a : A) → P a → Q a) → Safe Q r
  weaker (stops n) h = stops n
  weaker (goes {a = a} p) h = goes (h a p)

module _ {A B : Type 0} {Q : B → Type 0} where
  -- a step that is known to go on
  pub known : {r : Stops A} {a : A} (k : A → Stops B) → r ≡ go a → Safe Q (k a) → Safe Q (r >>= k)
  known k e h = subst (λ z. Safe Q (z >>= k)) (sym e) h

module _ {B : Type 0} {Q : B → Type 0} where
  -- a stop with a number
  pub guard : (b : Bool) (n : ℕ) {r : Stops B} → NotZero n → (b ≡ false → Safe Q r) → Safe Q (stop_if b n >> r)
  guard true n z h = stops z
  guard false n z h = h refl

  -- an assert that holds
  pub asserted : (b : Bool) (n : ℕ) {r : Stops B} → b ≡ false → Safe Q r → Safe Q (stop_if b n >> r)
  asserted b n {r} e h = subst (λ z. Safe Q (stop_if z n >> r)) (sym e) h

  pub by_bool : (b : Bool) {x y : Stops B} → (b ≡ true → Safe Q x) → (b ≡ false → Safe Q y) → Safe Q (elim b [ true ↦ x | false ↦ y ])
  by_bool true h k = h refl
  by_bool false h k = k refl

module _ {A B : Type 0} {Q : B → Type 0} where
  pub by_option : (o : Option A) {x : Stops B} {y : A → Stops B} → (o ≡ none → Safe Q x) → ((a : A) → o ≡ some a → Safe Q (y a))
      → Safe Q (elim o [ none ↦ x | some a ↦ y a ])
  by_option none h k = h refl
  by_option (some a) h k = k a refl

pub unwraps : {A : Type 0} (o : Option A) (a : A) → o ≡ some a → unwrap o ≡ go a
unwraps o a e = rw e

-- a stop that is passed on
module _ {A B : Type 0} {P : A → Type 0} {Q : B → Type 0} where
  pub passing : {r : Stops A} {k : A → Stops B} → Safe P r → ((a : A) → P a → Safe Q (k a))
      → Safe Q (elim r [ stop n ↦ stop n | go a ↦ k a ])
  passing (stops n) h = stops n
  passing (goes {a = a} p) h = h a p

pub stop_go : {A B : Type 0} {n : ℕ} {a : A} → stop n ≡ go a → B
stop_go {A} {B} {n} {a} e = let z : ◌≡◌ {A = ℕ} 0 1 = cc in absurd (omega arith)

pub same_go : {A : Type 0} {a b : A} → go a ≡ go b → a ≡ b
same_go {A} {a} {b} e = cc

-- what is unwrapped was there
pub unwrapped : {A : Type 0} (o : Option A) (a : A) → unwrap o ≡ go a → o ≡ some a
unwrapped none a e = stop_go e
unwrapped (some b) a e = cc

module _ {A B : Type 0} (P : B → Type 0) where
  pub case_stops : (r : Stops A) {x : ℕ → B} {y : A → B} → ((n : ℕ) → r ≡ stop n → P (x n)) → ((a : A) → r ≡ go a → P (y a))
      → P (elim r [ stop n ↦ x n | go a ↦ y a ])
  case_stops (stop n) h k = h n refl
  case_stops (go a) h k = k a refl

module _ {A B : Type 0} {Q : A → Type 0} (P : B → Type 0) where
  pub case_safe : {r : Stops A} {x : ℕ → B} {y : A → B} → Safe Q r → ((n : ℕ) → NotZero n → P (x n)) → ((a : A) → Q a → P (y a))
      → P (elim r [ stop n ↦ x n | go a ↦ y a ])
  case_safe (stops {n = n} z) h k = h n z
  case_safe (goes {a = a} q) h k = k a q
