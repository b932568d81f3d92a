-- How many places wait in the first n rings, when one ring changes or none does; and `SoundPlaces` with the held places in another
-- order, or for one table more. From the definition of `waiting`.
use Prim.Native.Nat.{ℕ, zero, suc, ◌+◌, ◌<◌}
use native.Mathlib.Omega.{arith}
use mathlib.Core.Path.{◌≡◌, refl, ap, ◌∙◌}
use mathlib.Core.Bool.{Bool, true, false}
use mathlib.Core.List.{List}
use lib.ListN.{length}
use lib.Dec.{eqb}
use borrow.Author.Tests.{eqb-true, eqb-false}
use Rattle.definitions.specs.Lists.{total}
use Rattle.stores.specs.declared.places.Places.{Places}
use Rattle.laws.specs.Spans.{span}
use Rattle.stores.specs.Numbers.{free}
use Rattle.stores.specs.Places.{ring}
use Rattle.stores.specs.Sound.{waiting, SoundPlaces}
use Rattle.stores.proofs.ListsSpans.{span_push, total_push}
use Rattle.stores.proofs.ListsAlike.{Alike, length_alike}

pub waiting_same : (p p' : Places) (n : ℕ) → ((u : ℕ) → u < n → length (ring p' u) ≡ length (ring p u)) → waiting p' n ≡ waiting p n
waiting_same p p' zero h = refl
waiting_same p p' (suc n) h =
    omega (arith, h n (omega arith), waiting_same p p' n (λ u k. h u (omega arith)))

pub waiting_one : (p p' : Places) (n t : ℕ) → t < n → ((u : ℕ) → u < n → (u ≡ t → ⊥) → length (ring p' u) ≡ length (ring p u))
    → waiting p' n + length (ring p t) ≡ waiting p n + length (ring p' t)
waiting_one p p' zero t h other = absurd (omega arith)
waiting_one p p' (suc n) t h other = go (eqb n t) refl (λ k. waiting_one p p' n t k (λ u i d. other u (omega arith) d))
  where
    go : (b : Bool) → eqb n t ≡ b → (t < n → waiting p' n + length (ring p t) ≡ waiting p n + length (ring p' t))
        → waiting p' (suc n) + length (ring p t) ≡ waiting p (suc n) + length (ring p' t)
    go true e more =
        let i : n ≡ t = eqb-true n t e in
        let w : waiting p' n ≡ waiting p n = waiting_same p p' n (λ u k. other u (omega arith) (λ d. omega arith)) in
        omega (arith, w, ap (λ (k : ℕ). length (ring p k)) i, ap (λ (k : ℕ). length (ring p' k)) i)
    go false e more =
        let d : n ≡ t → ⊥ = eqb-false n t e in
        omega (arith, more (omega arith), other n (omega arith) d)

-- a count over all tables that each table's ring has
pub total_waiting : {A : Type 0} (f : ℕ → A) (count : A → ℕ) (p : Places) → ((u : ℕ) → count (f u) ≡ length (ring p u)) → (n : ℕ)
    → total count (span f 0 n) ≡ waiting p n
total_waiting f count p h zero = refl
total_waiting f count p h (suc n) =
    ap (total count) (span_push f n) ∙ total_push count (span f 0 n) (f n) ∙ omega (arith, total_waiting f count p h n, h n)

-- the held places are a list up to its order
pub sound_alike : (p : Places) (n : ℕ) (held held' : List ℕ) → Alike held held' → SoundPlaces p n held → SoundPlaces p n held'
sound_alike p n held held' a sound = record {
  rings = sound.rings;
  few = sound.few;
  empty = sound.empty;
  apart = λ q t h. sound.apart q t (omega (arith, a q));
  once = λ q. omega (arith, a q, sound.once q);
  used = λ q h. sound.used q (omega (arith, a q));
  all = omega (arith, sound.all, length_alike held held' a);
}

-- one table more: its ring is empty
pub sound_grown : (p : Places) (n : ℕ) (held : List ℕ) → n < free → SoundPlaces p n held → SoundPlaces p (suc n) held
sound_grown p n held room sound = record {
  rings = sound.rings;
  few = omega arith;
  empty = λ t h k. sound.empty t (omega arith) k;
  apart = sound.apart;
  once = sound.once;
  used = sound.used;
  all = omega (arith, sound.all, ap length (sound.empty n (omega arith) (λ e. omega arith)));
}
