-- What a step comes to, if it does not stop: P holds of it. Of a stop nothing is said.
use Prim.Native.Nat.{ℕ}
use mathlib.Core.Path.{◌≡◌, refl}
use mathlib.Core.Bool.{Bool, true, false}
use mathlib.Core.Option.{Option, none, some}
use Rattle.definitions.specs.Stop.{Stops, stop, go, ◌>>=◌, ◌>>◌, stop_if, unwrap}

pub data Fine {A : Type 0} (P : A → Type 0) : Stops A → Type 0 where
  stops : {n : ℕ} → Fine P (stop n)
  goes : {a : A} → P a → Fine P (go a)

module _ {A B : Type 0} {P : A → Type 0} {Q : B → Type 0} where
  -- one step after another
  pub after : {r : Stops A} {k : A → Stops B} → Fine P r → ((a : A) → P a → Fine Q (k a)) → Fine Q (r >>= k)
  after stops h = stops
  after (goes {a = a} p) h = h a p

  -- a stop that is passed on
  pub passing : {r : Stops A} {k : A → Stops B} → Fine P r → ((a : A) → P a → Fine Q (k a))
      → Fine Q (elim r [ stop n ↦ stop n | go a ↦ k a ])
  passing stops h = stops
  passing (goes {a = a} p) h = h a p

module _ {B : Type 0} {Q : B → Type 0} where
  -- a test that stops
  pub guard : (b : Bool) (n : ℕ) {r : Stops B} → (b ≡ false → Fine Q r) → Fine Q (stop_if b n >> r)
  guard true n h = stops
  guard false n h = h refl

  pub by_bool : (b : Bool) {x y : Stops B} → (b ≡ true → Fine Q x) → (b ≡ false → Fine Q y) → Fine Q (elim b [ true ↦ x | false ↦ y ])
  by_bool true h k = h refl
  by_bool false h k = k refl

module _ {A B : Type 0} {Q : B → Type 0} where
  pub by_option : (o : Option A) {x : Stops B} {y : A → Stops B} → (o ≡ none → Fine Q x) → ((a : A) → o ≡ some a → Fine Q (y a))
      → Fine Q (elim o [ none ↦ x | some a ↦ y a ])
  by_option none h k = h refl
  by_option (some a) h k = k a refl

  -- what is unwrapped was there
  pub unwrapping : (o : Option A) {k : A → Stops B} → ((a : A) → o ≡ some a → Fine Q (k a)) → Fine Q (unwrap o >>= k)
  unwrapping none h = stops
  unwrapping (some a) h = h a refl

module _ {A : Type 0} {P Q : A → Type 0} where
  pub weaker : {r : Stops A} → Fine P r → ((a : A) → P a → Q a) → Fine Q r
  weaker stops h = stops
  weaker (goes {a = a} p) h = goes (h a p)

-- what comes of a step, at each of its ends
module _ {A B : Type 0} {Q : A → Type 0} (P : B → Type 0) where
  pub case_fine : {r : Stops A} {x : ℕ → B} {y : A → B} → Fine Q r → ((n : ℕ) → P (x n)) → ((a : A) → Q a → P (y a))
      → P (elim r [ stop n ↦ x n | go a ↦ y a ])
  case_fine (stops {n = n}) h k = h n
  case_fine (goes {a = a} q) h k = k a q
