-- Options.
use Prim.Native.Nat.{ℕ}
use native.Mathlib.Omega.{arith}
use mathlib.Core.Path.{◌≡◌, refl}
use mathlib.Core.Option.{Option, none, some}

pub no_such : {A : Type 0} {x : A} → none ≡ some x → ⊥
no_such {A} {x} e = let z : ◌≡◌ {A = ℕ} 0 1 = cc in omega arith

pub same_some : {A : Type 0} {x y : A} → some x ≡ some y → x ≡ y
same_some {A} {x} {y} e = cc

-- what holds at each end of a case
module _ {A B : Type 0} (P : B → Type 0) where
  pub case_option : (o : Option A) {x : B} {y : A → B} → (o ≡ none → P x) → ((a : A) → o ≡ some a → P (y a))
      → P (elim o [ none ↦ x | some a ↦ y a ])
  case_option none h k = h refl
  case_option (some a) h k = k a refl
