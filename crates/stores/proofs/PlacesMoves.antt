-- A whole ring goes to the free places, and `SoundPlaces` is kept; and what the ring functions leave is what the models say. From the
-- theorems of crate `rings`.
use Prim.Native.Nat.{ℕ, ◌+◌, ◌≤◌, ◌<◌}
use native.Mathlib.Omega.{arith}
use mathlib.Core.Path.{◌≡◌, refl, ap, ap₂, ◌∙◌}
use mathlib.Core.List.{List, [], ◌++◌}
use lib.ListN.{length, set, length-append}
use Rattle.rings.specs.Lists.{times}
use Rattle.rings.specs.Rings.{RingMoved, linked, lengthened}
use Rattle.rings.proofs.Counts.{is_or_not, times_append}
use Rattle.rings.proofs.RingMoves.{ring_move_to, ring_move_from, ring_move_other, ring_move_sound}
use Rattle.stores.specs.declared.places.Places.{Places}
use Rattle.stores.specs.Numbers.{free}
use Rattle.stores.specs.Places.{ring, places, moved_to, enqueued, freed, free_place, TookPlace}
use Rattle.stores.specs.Sound.{waiting, SoundPlaces}
use Rattle.stores.proofs.PlacesWaiting.{waiting_one}

module _ (p : Places) (n : ℕ) (held : List ℕ) (t : ℕ) (h : t < n) (sound : SoundPlaces p n held) where
  abbrev p' : Places
  p' = moved_to t free p

  apart : free ≡ t → ⊥
  apart e = omega (arith, sound.few)

  did : RingMoved p.next p.tail p.len t free p'.next p'.tail p'.len
  did = record { links = refl; ends = refl; size = refl }

  small : t < 256
  small = omega (arith, sound.few)

  pub moved_free : ring (moved_to t free p) free ≡ ring p free ++ ring p t
  moved_free = ring_move_to p.next p.tail p.len p.top sound.rings t free apart small (omega arith) p'.next p'.tail
      p'.len did

  pub moved_own : ring (moved_to t free p) t ≡ []
  moved_own = ring_move_from p.next p.tail p.len p.top sound.rings t free apart small (omega arith) p'.next p'.tail
      p'.len did

  pub moved_other : (u : ℕ) → (u ≡ free → ⊥) → (u ≡ t → ⊥) → ring (moved_to t free p) u ≡ ring p u
  moved_other u a b = ring_move_other p.next p.tail p.len p.top sound.rings t free apart small (omega arith) p'.next
      p'.tail p'.len did u a b

  not_held : (x u : ℕ) → 1 ≤ times x held → times x (ring p' u) ≡ 0
  not_held x u k = is_or_not free (λ v. times x (ring p' v) ≡ 0)
      (rw moved_free (omega (arith, times_append x (ring p free) (ring p t), sound.apart x free k, sound.apart x t k)))
      (λ v a. is_or_not t (λ w. (w ≡ free → ⊥) → times x (ring p' w) ≡ 0) (λ b. rw moved_own refl)
      (λ w c b. rw (moved_other w b c) (sound.apart x w k)) v a) u

  -- the whole ring of a table goes to the free places
  pub moved_sound : SoundPlaces (moved_to t free p) n held
  moved_sound =
      let w : waiting p' n + length (ring p t) ≡ waiting p n + length (ring p' t) =
      waiting_one p p' n t h (λ u k d. ap length (moved_other u (λ e. omega (arith, sound.few)) d)) in
      record {
        rings = ring_move_sound p.next p.tail p.len p.top sound.rings t free apart small (omega arith) p'.next p'.tail
            p'.len did;
        few = sound.few;
        empty = λ u a b. moved_other u b (λ e. omega arith) ∙ sound.empty u a b;
        apart = not_held;
        once = sound.once;
        used = sound.used;
        all = omega (arith, sound.all, w, ap length moved_own, ap length moved_free, length-append (ring p free) (ring p t));
      }

-- WHAT THE CODE LEAVES is what the models say
pub places_is : (n n' t t' l l' : List ℕ) (m m' : ℕ) → n ≡ n' → t ≡ t' → l ≡ l' → m ≡ m' → places n t l m ≡ places n' t' l' m'
places_is n n' t t' l l' m m' a b c d = cc

pub moved_is : (p : Places) (t g : ℕ) (n' t' l' : List ℕ) → RingMoved p.next p.tail p.len t g n' t' l'
    → places n' t' l' p.top ≡ moved_to t g p
moved_is p t g n' t' l' did =
    places_is n' (moved_to t g p).next t' (moved_to t g p).tail l' (moved_to t g p).len p.top p.top did.links did.ends
    did.size refl

pub enqueued_is : (p : Places) (t q : ℕ) (n' t' l' : List ℕ) → n' ≡ linked p.next p.tail p.len t q → t' ≡ set p.tail t q
    → l' ≡ lengthened p.len t
    → places n' t' l' p.top ≡ enqueued t q p
enqueued_is p t q n' t' l' en et el = places_is n' (enqueued t q p).next t' (enqueued t q p).tail l' (enqueued t q p).len p.top
    p.top en et el refl

-- `take_place` and then `ring_enqueue` of the place that it found
pub freed_enqueued_is : (p : Places) (t : ℕ) (n' l' : List ℕ) (m' q : ℕ) → TookPlace p.next p.tail p.len p.top n' l' m' q
    → (n'' t'' l'' : List ℕ) → n'' ≡ linked n' p.tail l' t q → t'' ≡ set p.tail t q → l'' ≡ lengthened l' t
    → places n'' t'' l'' m' ≡ enqueued t (free_place p) (freed p)
freed_enqueued_is p t n' l' m' q took n'' t'' l'' en et el =
    enqueued_is (places n' p.tail l' m') t q n'' t'' l'' en et el ∙ ap₂ (λ (i : ℕ) (r : Places). enqueued t i r) took.is took.left
