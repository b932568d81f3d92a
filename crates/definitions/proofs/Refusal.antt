-- What is accepted passed every test.
use Prim.Native.Nat.{ℕ}
use native.Mathlib.Omega.{arith}
use mathlib.Core.Path.{◌≡◌, refl}
use mathlib.Core.Bool.{Bool, true, false}
use mathlib.Core.List.{List, [], ◌∷◌}
use Rattle.definitions.specs.Refusal.{Refusable, refused, accepted, Test, unless}
use Rattle.definitions.specs.Lists.{Each}

pub same_accepted : {A : Type 0} {a b : A} → accepted a ≡ accepted b → a ≡ b
same_accepted {A} {a} {b} e = cc

pub same_refused : {A : Type 0} {m n : ℕ} → ◌≡◌ {A = Refusable A} (refused m) (refused n) → m ≡ n
same_refused {A} {m} {n} e = cc

pub not_accepted : {A : Type 0} {n : ℕ} {a : A} → refused n ≡ accepted a → ⊥
not_accepted {A} {n} {a} e = let z : ◌≡◌ {A = ℕ} 0 1 = cc in omega arith

module _ {A : Type 0} where
  pub passes : (t : Test) (ts : List Test) (a b : A) → unless (t ∷ ts) a ≡ accepted b → (t.fails ≡ false) × (unless ts a ≡ accepted b)
  passes t ts a b e = go t.fails refl e
    where
      go : (f : Bool) → t.fails ≡ f → elim f [ true ↦ refused t.number | false ↦ unless ts a ] ≡ accepted b
          → (t.fails ≡ false) × (unless ts a ≡ accepted b)
      go true k x = absurd (not_accepted x)
      go false k x = (k, x)

  pub all_pass : (ts : List Test) (a b : A) → unless ts a ≡ accepted b → Each (λ t. t.fails ≡ false) ts × (a ≡ b)
  all_pass [] a b e = (tt, same_accepted e)
  all_pass (t ∷ ts) a b e = let x = passes t ts a b e in let r = all_pass ts a b x.1 in ((x.0, r.0), r.1)
