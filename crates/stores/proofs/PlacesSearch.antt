-- Looking along a ring by the numbers beside its places: `find_number` at its tests' answers, and what is found. From the laws of walks.
use Prim.Native.Nat.{ℕ, zero, suc, ◌-◌, ◌≤◌, ◌<◌}
use native.Mathlib.Omega.{arith}
use mathlib.Core.Path.{◌≡◌, refl, sym, ap, ap₂, ◌∙◌}
use mathlib.Core.Bool.{Bool, true, false, ◌&&◌, ◌||◌}
use mathlib.Core.List.{List, [], ◌∷◌}
use lib.ListN.{drop, get_or}
use lib.Seq.{drop-nil}
use lib.Dec.{eqb, ltb}
use borrow.Author.Tests.{lt-ltb, eq-eqb, ne_eqb}
use Rattle.definitions.specs.Lists.{any_passes}
use Rattle.laws.specs.All.{All}
use Rattle.laws.proofs.All.{all_first, all_rest}
use Rattle.rings.specs.Rings.{walk}
use Rattle.rings.proofs.Counts.{true_false}
use Rattle.rings.proofs.Walks.{walk_step}
use Rattle.stores.specs.Places.{numbered_by, found_or, found_in}

-- `hit`
module _ (skip : ℕ) (by_key : Bool) (variant v key k : ℕ) where
  pub hit_later : 0 < skip → false ≡ eqb skip 0 && numbered_by by_key variant v key k
  hit_later h = sym (ap (λ (b : Bool). b && numbered_by by_key variant v key k) (ne_eqb skip 0 (λ e. omega arith)))

  other_variant : (b : Bool) → (variant ≡ v → ⊥) → numbered_by b variant v key k ≡ false
  other_variant true d = ap (λ (c : Bool). c && eqb key k) (ne_eqb variant v d)
  other_variant false d = ne_eqb variant v d

  pub hit_not : skip ≤ 0 → (variant ≡ v → ⊥) → false ≡ eqb skip 0 && numbered_by by_key variant v key k
  hit_not h d = sym (ap₂ (λ (b c : Bool). b && c) (eq-eqb skip 0 (omega arith)) (other_variant by_key d))

  pub hit_key : skip ≤ 0 → variant ≡ v → by_key ≡ true → eqb key k ≡ eqb skip 0 && numbered_by by_key variant v key k
  hit_key h e b = sym (
      ap (λ (c : Bool). eqb skip 0 && numbered_by c variant v key k) b
      ∙ ap₂ (λ (c d : Bool). c && (d && eqb key k)) (eq-eqb skip 0 (omega arith)) (eq-eqb variant v e))

  pub hit_here : skip ≤ 0 → variant ≡ v → by_key ≡ false → true ≡ eqb skip 0 && numbered_by by_key variant v key k
  hit_here h e b = sym (
      ap (λ (c : Bool). eqb skip 0 && numbered_by c variant v key k) b
      ∙ ap₂ (λ (c d : Bool). c && d) (eq-eqb skip 0 (omega arith)) (eq-eqb variant v e))

-- THE LOOP: `skip` places are passed over, and n are left
module _ (test : ℕ → Bool) where
  cons_here : (skip x : ℕ) (l : List ℕ) → eqb skip 0 && test x ≡ true → found_in test (drop skip (x ∷ l)) ≡ x
  cons_here zero x l e = ap (λ (b : Bool). found_or b x (found_in test l)) e
  cons_here (suc n) x l e = true_false (eqb (suc n) 0 && test x) e (ap (λ (b : Bool). b && test x) (ne_eqb (suc n) 0 (λ d. omega arith)))

  cons_next : (skip x : ℕ) (l : List ℕ) → eqb skip 0 && test x ≡ false
      → found_in test (drop skip (x ∷ l)) ≡ found_in test (drop (skip - 1) l)
  cons_next zero x l e = ap (λ (b : Bool). found_or b x (found_in test l)) e
  cons_next (suc n) x l e = let d : n ≡ suc n - 1 = omega arith in ap (λ (i : ℕ). found_in test (drop i l)) d

  module _ (next : List ℕ) (n a skip : ℕ) where
    pub found_here : 0 < n → eqb skip 0 && test (get_or next a 0) ≡ true → found_in test (drop skip (walk n next a)) ≡ get_or next a 0
    found_here h e = ap (λ (l : List ℕ). found_in test (drop skip l)) (walk_step n next a h)
        ∙ cons_here skip (get_or next a 0) (walk (n - 1) next (get_or next a 0)) e

    pub found_next : 0 < n → eqb skip 0 && test (get_or next a 0) ≡ false
        → found_in test (drop skip (walk n next a)) ≡ found_in test (drop (skip - 1) (walk (n - 1) next (get_or next a 0)))
    found_next h e = ap (λ (l : List ℕ). found_in test (drop skip l)) (walk_step n next a h)
        ∙ cons_next skip (get_or next a 0) (walk (n - 1) next (get_or next a 0)) e

    pub found_over : n ≤ 0 → found_in test (drop skip (walk n next a)) ≡ 256
    found_over h =
        let e : n ≡ 0 = omega arith in
        ap (λ (m : ℕ). found_in test (drop skip (walk m next a))) e ∙ ap (found_in test) (drop-nil skip)

  -- WHETHER ONE IS FOUND, among places
  pub found_any : (l : List ℕ) → All (λ q. q < 256) l → ltb (found_in test l) 256 ≡ any_passes test l
  found_any [] a = refl
  found_any (q ∷ l) a = by (test q) (found_any l (all_rest a))
    where
      by : (b : Bool) → ltb (found_in test l) 256 ≡ any_passes test l → ltb (found_or b q (found_in test l)) 256 ≡ b || any_passes test l
      by true e = lt-ltb q 256 (all_first a)
      by false e = e
