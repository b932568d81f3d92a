-- `take_place` at its tests' answers, and what its number says: 256 where exactly 256 places are in use. From the contract of `ring_pop`.
use Prim.Native.Nat.{ℕ, ◌+◌, ◌≤◌, ◌<◌}
use native.Mathlib.Omega.{arith}
use mathlib.Core.Path.{◌≡◌, refl, sym, ap, ap₂, ◌∙◌}
use mathlib.Core.Bool.{Bool, true, false}
use mathlib.Core.List.{List, ◌∷◌}
use lib.ListN.{length, get_or}
use lib.Dec.{ltb}
use borrow.Author.Tests.{lt-ltb, le-ltb, ltb-true, ltb-false}
use Rattle.rings.specs.Rings.{place_if, has_any, shortened, popped_next}
use Rattle.rings.proofs.Walks.{walk_at}
use Rattle.stores.specs.declared.places.Places.{Places}
use Rattle.stores.specs.Numbers.{free}
use Rattle.stores.specs.Places.{ring, places, popped, begun, freed_if, free_place_if, any_free, any_unused, freed, free_place}
use Rattle.stores.specs.Places.{TookPlace}
use Rattle.stores.specs.Sound.{waiting, SoundPlaces}
use Rattle.stores.proofs.PlacesViews.{length_ring, popped_sound, popped_other, begun_sound, taken_used}

module _ (next tail len : List ℕ) (top : ℕ) where
  abbrev p : Places
  p = places next tail len top

  took_at : (a b : Bool) → any_free p ≡ a → any_unused p ≡ b → (next' len' : List ℕ) (top' r : ℕ)
      → r ≡ free_place_if a b p → places next' tail len' top' ≡ freed_if a b p → TookPlace next tail len top next' len' top' r
  took_at a b ea eb next' len' top' r er ep = record { is = rw (ea, eb) er; left = rw (ea, eb) ep }

  pub took_free : 0 < get_or len 64 0 → (next' len' : List ℕ) (r : ℕ) → r ≡ place_if (has_any len 64) (get_or next (get_or tail 64 0) 0)
      → next' ≡ popped_next (has_any len 64) next (get_or tail 64 0) → len' ≡ shortened len 64
      → TookPlace next tail len top next' len' top r
  took_free h next' len' r er en el =
      let has : has_any len 64 ≡ true = lt-ltb 0 (get_or len 64 0) h in
      took_at true (any_unused p) has refl next' len' top r
      (er
      ∙ ap (λ (b : Bool). place_if b (get_or next (get_or tail 64 0) 0)) has
      ∙ sym (walk_at (get_or len 64 0) next (get_or tail 64 0) 0 h))
      (ap₂ (λ (x y : List ℕ). places x tail y top) (en ∙ ap (λ (b : Bool). popped_next b next (get_or tail 64 0)) has) el)

  pub took_begun : get_or len 64 0 ≤ 0 → top < 256 → TookPlace next tail len top next len (top + 1) top
  took_begun h k = took_at false true (le-ltb 0 (get_or len 64 0) h) (lt-ltb top 256 k) next len (top + 1) top refl refl

  pub took_none : get_or len 64 0 ≤ 0 → 256 ≤ top → TookPlace next tail len top next len top 256
  took_none h k = took_at false false (le-ltb 0 (get_or len 64 0) h) (le-ltb top 256 k) next len top 256 refl refl

-- what `take_place` means under `SoundPlaces`
-- a place is found, and held from now on: it is below 256, and no ring of a table has changed
pub record Freed (p : Places) (n : ℕ) (held : List ℕ) (p' : Places) (r : ℕ) : Type 0 where
  pub small : r < 256
  pub sound : SoundPlaces p' n (r ∷ held)
  pub same : (u : ℕ) → u < n → ring p' u ≡ ring p u

module _ (p : Places) (n : ℕ) (held : List ℕ) (sound : SoundPlaces p n held) where
  freed_pop : 0 < length (ring p free) → Freed p n held (popped free p) (get_or (ring p free) 0 0)
  freed_pop has = record {
    small = omega (arith, taken_used p n held free 0 sound (omega arith) has, sound.rings.room);
    sound = popped_sound p n held sound has;
    same = λ u h. popped_other p n held sound has u (λ e. omega (arith, sound.few));
  }

  freed_begun : p.top < 256 → Freed p n held (begun p) p.top
  freed_begun h = record { small = h; sound = begun_sound p n held sound h; same = λ u k. refl }

  by_tests : (a b : Bool) → any_free p ≡ a → any_unused p ≡ b
      → (free_place_if a b p < 256 → Freed p n held (freed_if a b p) (free_place_if a b p))
      × (256 ≤ free_place_if a b p → waiting p n + length held ≡ 256)
  by_tests true b ea eb =
      let has : 0 < length (ring p free) = omega (arith, length_ring p free, ltb-true 0 (get_or p.len free 0) ea) in
      (λ h. freed_pop has, λ h. absurd (omega (arith, (freed_pop has).small)))
  by_tests false true ea eb =
      let h : p.top < 256 = ltb-true p.top 256 eb in
      (λ k. freed_begun h, λ k. absurd (omega arith))
  by_tests false false ea eb =
      let e : length (ring p free) ≡ 0 = omega (arith, length_ring p free, ltb-false 0 (get_or p.len free 0) ea) in
      (λ k. absurd (omega arith), λ k. omega (arith, sound.all, ltb-false p.top 256 eb, sound.rings.room))

  pub freed_sound : free_place p < 256 → Freed p n held (freed p) (free_place p)
  freed_sound = (by_tests (any_free p) (any_unused p) refl refl).0

  -- none is found where exactly 256 places wait or are held
  pub freed_none : 256 ≤ free_place p → waiting p n + length held ≡ 256
  freed_none = (by_tests (any_free p) (any_unused p) refl refl).1

  -- and one is found below that
  pub freed_room : waiting p n + length held < 256 → free_place p < 256
  freed_room h = go (ltb (free_place p) 256) refl
    where
      go : (b : Bool) → ltb (free_place p) 256 ≡ b → free_place p < 256
      go true e = ltb-true (free_place p) 256 e
      go false e = absurd (omega (arith, freed_none (ltb-false (free_place p) 256 e)))

  still : (a b : Bool) → any_free p ≡ a → any_unused p ≡ b → 256 ≤ free_place_if a b p → freed_if a b p ≡ p
  still true b ea eb h = absurd (omega (arith, (freed_pop (omega (arith, length_ring p free, ltb-true 0 (get_or p.len free 0) ea))).small))
  still false true ea eb h = absurd (omega (arith, ltb-true p.top 256 eb))
  still false false ea eb h = refl

  -- and then nothing has changed
  pub freed_still : 256 ≤ free_place p → freed p ≡ p
  freed_still = still (any_free p) (any_unused p) refl refl
