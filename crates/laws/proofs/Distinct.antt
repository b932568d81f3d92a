-- A sum over a list of numbers below n without repeats is at most the sum over all of them. So such a list has at most n.
use Prim.Native.Nat.{ℕ, suc, ◌≤◌, ◌<◌}
use native.Mathlib.Omega.{arith}
use native.Mathlib.Decide.{ℕ_discrete}
use mathlib.Core.Path.{◌≡◌, refl, ap}
use mathlib.Core.Option.{some}
use mathlib.Core.List.{List, [], ◌∷◌}
use lib.ListN.{length, get_elem?}
use Rattle.laws.proofs.Totals.{total, total_ext, total_length}
use Rattle.laws.proofs.Sums.{sum, sum_drop, sum_ones}

abbrev pub Distinct : List ℕ → Type 0
Distinct hs = (i j g : ℕ) → get_elem? hs i ≡ some g → get_elem? hs j ≡ some g → i ≡ j

abbrev pub Under : ℕ → List ℕ → Type 0
Under n hs = (i g : ℕ) → get_elem? hs i ≡ some g → g < n

-- f, but 0 at h
abbrev unless_same : {P : Type 0} → Dec P → ℕ → ℕ
unless_same (yes p) k = 0
unless_same (no p) k = k

abbrev without : (ℕ → ℕ) → ℕ → ℕ → ℕ
without f h u = unless_same (ℕ_discrete h u) (f u)

without_less : (f : ℕ → ℕ) (h u : ℕ) → without f h u ≤ f u
without_less f h u = go (ℕ_discrete h u)
  where
    go : (d : Dec (h ≡ u)) → unless_same d (f u) ≤ f u
    go (yes e) = omega arith
    go (no o) = omega arith

without_here : (f : ℕ → ℕ) (h : ℕ) → without f h h ≡ 0
without_here f h = go (ℕ_discrete h h)
  where
    go : (d : Dec (h ≡ h)) → unless_same d (f h) ≡ 0
    go (yes e) = refl
    go (no o) = absurd (o refl)

without_there : (f : ℕ → ℕ) (h u : ℕ) → (h ≡ u → ⊥) → without f h u ≡ f u
without_there f h u n = go (ℕ_discrete h u)
  where
    go : (d : Dec (h ≡ u)) → unless_same d (f u) ≡ f u
    go (yes e) = absurd (n e)
    go (no o) = refl

pub sum_under : (n : ℕ) (hs : List ℕ) (f : ℕ → ℕ) → Distinct hs → Under n hs → total f hs ≤ sum n f
sum_under n [] f d u = omega arith
sum_under n (h ∷ hs) f d u =
    let f' = without f h in
    let r = sum_under n hs f' (λ i j g a b. let x = d (suc i) (suc j) g a b in omega arith) (λ i. u (suc i)) in
    let same : total f' hs ≡ total f hs = total_ext f f' hs
    (λ i g e. without_there f h g (λ k. let x = d 0 (suc i) g (ap some k) e in absurd (omega arith))) in
    let gone = without_here f h in
    let fall = sum_drop n f f' h (f h) (without_less f h) (u 0 h refl) (omega arith) in
    omega arith

pub few_distinct : (n : ℕ) (hs : List ℕ) → Distinct hs → Under n hs → length hs ≤ n
few_distinct n hs distinct under =
    let x = sum_under n hs (λ u. 1) distinct under in
    let y = total_length hs in
    let z = sum_ones n in
    omega arith
