-- What the operations on places do to the rings, and that `SoundPlaces` is kept: a held place goes to a ring or a place of a ring is
-- held. From the theorems of crate `rings`; no link is seen here.
use Prim.Native.Nat.{ℕ, zero, suc, ◌+◌, ◌-◌, ◌≤◌, ◌<◌}
use native.Mathlib.Omega.{arith}
use mathlib.Core.Path.{◌≡◌, refl, ap, subst, ◌∙◌}
use mathlib.Core.Bool.{Bool, true, false}
use mathlib.Core.List.{List, [], ◌∷◌, ◌++◌}
use lib.ListN.{length, take, drop, get_or, set, length-append, length-drop, replicate}
use lib.Seq.{length-take-le, get_or-set_same, set-get_or}
use lib.Dec.{eqb}
use borrow.Author.Tests.{eqb-true}
use Rattle.rings.specs.Lists.{one, times, turned}
use Rattle.rings.proofs.Counts.{is_or_not, times_append, times_first, times_out}
use Rattle.rings.proofs.Walks.{ring_size}
use Rattle.rings.proofs.RingViews.{
  ring_enqueue_own,
  ring_enqueue_other,
  ring_enqueue_sound,
  ring_unlink_own,
  ring_unlink_other,
  ring_unlink_sound,
  ring_unlink_out,
  ring_unlink_used,
  ring_fresh_top,
  ring_start,
  ring_start_sound,
}
use Rattle.stores.specs.declared.places.Places.{Places}
use Rattle.stores.specs.Numbers.{free}
use Rattle.stores.specs.Places.{ring, enqueued, taken_at, popped, begun, blank_places}
use Rattle.stores.specs.Sound.{waiting, SoundPlaces}
use Rattle.stores.proofs.ListsAlike.{times_at}
use Rattle.stores.proofs.PlacesWaiting.{waiting_same, waiting_one}

pub length_ring : (p : Places) (t : ℕ) → length (ring p t) ≡ get_or p.len t 0
length_ring p t = ring_size p.next p.tail p.len t

-- how many are in use, by the two numbers that `in_use` reads
pub in_use_is : (p : Places) (n : ℕ) (held : List ℕ) → SoundPlaces p n held → p.top - get_or p.len free 0 ≡ waiting p n + length held
in_use_is p n held sound = omega (arith, sound.all, length_ring p free)

-- a number written beside a place
pub number_here : (q : ℕ) → q < 256 → (l : List ℕ) (v : ℕ) → length l ≡ 256 → get_or (set l q v) q 0 ≡ v
number_here q h l v long = get_or-set_same l q v 0 (omega arith)

-- PUT: a held place goes to the end of ring t
module _ (p : Places) (n : ℕ) (held : List ℕ) (q t : ℕ) (sound : SoundPlaces p n (q ∷ held)) (small : t < 256) where
  waits_nowhere : (u : ℕ) → times q (ring p u) ≡ 0
  waits_nowhere u = sound.apart q u (times_first q held)

  pub enqueued_own : ring (enqueued t q p) t ≡ ring p t ++ (q ∷ [])
  enqueued_own =
      ring_enqueue_own p.next p.tail p.len p.top sound.rings t q waits_nowhere (sound.used q (times_first q held)) small

  pub enqueued_other : (u : ℕ) → (u ≡ t → ⊥) → ring (enqueued t q p) u ≡ ring p u
  enqueued_other u d = ring_enqueue_other p.next p.tail p.len p.top
      sound.rings t q waits_nowhere (sound.used q (times_first q held)) small u d

  longer : length (ring (enqueued t q p) t) ≡ length (ring p t) + 1
  longer = ap length enqueued_own ∙ length-append (ring p t) (q ∷ [])

  not_held : (x u : ℕ) → 1 ≤ times x held → times x (ring (enqueued t q p) u) ≡ 0
  not_held x u h = is_or_not t (λ v. times x (ring (enqueued t q p) v) ≡ 0) own
      (λ v d. rw (enqueued_other v d) (sound.apart x v (omega arith))) u
    where
      own : times x (ring (enqueued t q p) t) ≡ 0
      own = rw enqueued_own (omega (arith, times_append x (ring p t) (q ∷ []), sound.apart x t (omega arith), sound.once x))

  put : ((u : ℕ) → n ≤ u → (u ≡ free → ⊥) → u ≡ t → ⊥)
      → waiting (enqueued t q p) n + length (ring (enqueued t q p) free) ≡ waiting p n + length (ring p free) + 1
      → SoundPlaces (enqueued t q p) n held
  put elsewhere count = record {
    rings =
        ring_enqueue_sound p.next p.tail p.len p.top sound.rings t q waits_nowhere (sound.used q (times_first q held))
        small;
    few = sound.few;
    empty = λ u h k. enqueued_other u (elsewhere u h k) ∙ sound.empty u h k;
    apart = not_held;
    once = λ x. omega (arith, sound.once x);
    used = λ x h. sound.used x (omega arith);
    all = omega (arith, sound.all);
  }

-- at the end of a table's ring
pub enqueued_sound : (p : Places) (n : ℕ) (held : List ℕ) (q t : ℕ) → t < n → SoundPlaces p n (q ∷ held)
    → SoundPlaces (enqueued t q p) n held
enqueued_sound p n held q t h sound =
    let small : t < 256 = omega (arith, sound.few) in
    let apart : free ≡ t → ⊥ = λ e. omega (arith, sound.few) in
    let w : waiting (enqueued t q p) n + length (ring p t) ≡ waiting p n + length (ring (enqueued t q p) t) =
    waiting_one p (enqueued t q p) n t h (λ u k d. ap length (enqueued_other p n held q t sound small u d)) in
    put p n held q t sound small (λ u k d e. omega arith)
    (omega (arith, w, longer p n held q t sound small, ap length (enqueued_other p n held q t sound small free apart)))

-- given back: it is free again
pub given_sound : (p : Places) (n : ℕ) (held : List ℕ) (q : ℕ) → SoundPlaces p n (q ∷ held) → SoundPlaces (enqueued free q p) n held
given_sound p n held q sound =
    let w : waiting (enqueued free q p) n ≡ waiting p n =
    waiting_same p (enqueued free q p) n (λ u k. ap length
    (enqueued_other p n held q free sound (omega arith) u (λ e. omega (arith, sound.few)))) in
    put p n held q free sound (omega arith) (λ u k d e. d e) (omega (arith, w, longer p n held q free sound (omega arith)))

pub given_other : (p : Places) (n : ℕ) (held : List ℕ) (q : ℕ) → SoundPlaces p n (q ∷ held) → (u : ℕ) → u < n
    → ring (enqueued free q p) u ≡ ring p u
given_other p n held q sound u h = enqueued_other p n held q free sound (omega arith) u (λ e. omega (arith, sound.few))

-- TAKE: the place at j of ring t is held
module _ (p : Places) (n : ℕ) (held : List ℕ) (t j : ℕ) (sound : SoundPlaces p n held) (small : t < 256)
    (there : j < length (ring p t)) where
  abbrev q : ℕ
  q = get_or (ring p t) j 0

  abbrev p' : Places
  p' = taken_at t j p

  pub taken_own : ring (taken_at t j p) t ≡ turned j (ring p t)
  taken_own = ring_unlink_own p.next p.tail p.len p.top sound.rings t j there small

  pub taken_other : (u : ℕ) → (u ≡ t → ⊥) → ring (taken_at t j p) u ≡ ring p u
  taken_other u d = ring_unlink_other p.next p.tail p.len p.top sound.rings t j there small u d

  pub taken_used : get_or (ring p t) j 0 < p.top
  taken_used = ring_unlink_used p.next p.tail p.len p.top sound.rings t j there small

  out : (u : ℕ) → times q (ring p' u) ≡ 0
  out = ring_unlink_out p.next p.tail p.len p.top sound.rings t j there small

  shorter : length (ring p' t) + 1 ≡ length (ring p t)
  shorter =
      let a : length (turned j (ring p t)) ≡ length (drop (suc j) (ring p t)) + length (take j (ring p t)) =
      length-append (drop (suc j) (ring p t)) (take j (ring p t)) in
      omega (arith, ap length taken_own, a, length-drop (suc j) (ring p t), length-take-le j (ring p t) (omega arith))

  fewer : (x u : ℕ) → times x (ring p' u) ≤ times x (ring p u)
  fewer x u = is_or_not t (λ v. times x (ring p' v) ≤ times x (ring p v))
      (rw taken_own (omega (arith, times_out x (ring p t) j there))) (λ v d. rw (taken_other v d) (omega arith)) u

  q_not_held : times q held ≡ 0
  q_not_held = go (times q held) refl
    where
      go : (k : ℕ) → times q held ≡ k → times q held ≡ 0
      go zero e = e
      go (suc k) e = absurd (omega (arith, times_at (ring p t) j there, sound.apart q t (omega arith)))

  hold : ((u : ℕ) → n ≤ u → (u ≡ free → ⊥) → u ≡ t → ⊥)
      → waiting p' n + length (ring p' free) + 1 ≡ waiting p n + length (ring p free)
      → SoundPlaces p' n (q ∷ held)
  hold elsewhere count = record {
    rings = ring_unlink_sound p.next p.tail p.len p.top sound.rings t j there small;
    few = sound.few;
    empty = λ u h k. taken_other u (elsewhere u h k) ∙ sound.empty u h k;
    apart = λ x u h. either x u (eqb x q) refl h;
    once = λ x. once_each x (eqb x q) refl;
    used = λ x h. used_each x (eqb x q) refl h;
    all = omega (arith, sound.all);
  }
    where
      either : (x u : ℕ) (b : Bool) → eqb x q ≡ b → 1 ≤ times x (q ∷ held) → times x (ring p' u) ≡ 0
      either x u true e h = ap (λ (y : ℕ). times y (ring p' u)) (eqb-true x q e) ∙ out u
      either x u false e h = omega (arith, fewer x u, sound.apart x u (omega (arith, ap one e)))

      once_each : (x : ℕ) (b : Bool) → eqb x q ≡ b → times x (q ∷ held) ≤ 1
      once_each x true e = omega (arith, ap one e, ap (λ (y : ℕ). times y held) (eqb-true x q e), q_not_held)
      once_each x false e = omega (arith, ap one e, sound.once x)

      used_each : (x : ℕ) (b : Bool) → eqb x q ≡ b → 1 ≤ times x (q ∷ held) → x < p.top
      used_each x true e h = omega (arith, eqb-true x q e, taken_used)
      used_each x false e h = sound.used x (omega (arith, ap one e))

-- from a table's ring
pub taken_sound : (p : Places) (n : ℕ) (held : List ℕ) (t j : ℕ) → t < n → (sound : SoundPlaces p n held) → j < length (ring p t)
    → SoundPlaces (taken_at t j p) n (get_or (ring p t) j 0 ∷ held)
taken_sound p n held t j h sound there =
    let small : t < 256 = omega (arith, sound.few) in
    let apart : free ≡ t → ⊥ = λ e. omega (arith, sound.few) in
    let w : waiting (taken_at t j p) n + length (ring p t) ≡ waiting p n + length (ring (taken_at t j p) t) =
    waiting_one p (taken_at t j p) n t h (λ u k d. ap length (taken_other p n held t j sound small there u d)) in
    hold p n held t j sound small there (λ u k d e. omega arith)
    (omega (arith, w, shorter p n held t j sound small there, ap length (taken_other p n held t j sound small there free apart)))

-- POP: the first of the free places
popped_is : (p : Places) → taken_at free 0 p ≡ popped free p
popped_is p = ap (λ (l : List ℕ). record { next = (popped free p).next; tail = l; len = (popped free p).len; top = p.top })
    (set-get_or p.tail free 0)

pub popped_sound : (p : Places) (n : ℕ) (held : List ℕ) → SoundPlaces p n held → 0 < length (ring p free)
    → SoundPlaces (popped free p) n (get_or (ring p free) 0 0 ∷ held)
popped_sound p n held sound there =
    let w : waiting (taken_at free 0 p) n ≡ waiting p n =
    waiting_same p (taken_at free 0 p) n (λ u k. ap length
    (taken_other p n held free 0 sound (omega arith) there u (λ e. omega (arith, sound.few)))) in
    subst (λ (r : Places). SoundPlaces r n (get_or (ring p free) 0 0 ∷ held)) (popped_is p)
    (hold p n held free 0 sound (omega arith) there (λ u k d e. d e) (omega (arith, w, shorter p n held free 0 sound (omega arith) there)))

pub popped_other : (p : Places) (n : ℕ) (held : List ℕ) → SoundPlaces p n held → 0 < length (ring p free)
    → (u : ℕ) → (u ≡ free → ⊥) → ring (popped free p) u ≡ ring p u
popped_other p n held sound there u d =
    subst (λ (r : Places). ring r u ≡ ring p u) (popped_is p) (taken_other p n held free 0 sound (omega arith) there u d)

-- the first place that was never used
pub begun_sound : (p : Places) (n : ℕ) (held : List ℕ) → SoundPlaces p n held → p.top < 256 → SoundPlaces (begun p) n (p.top ∷ held)
begun_sound p n held sound room =
    let f = ring_fresh_top p.next p.tail p.len p.top sound.rings room in
    record {
      rings = f.0;
      few = sound.few;
      empty = sound.empty;
      apart = λ x u h. either x u (eqb x p.top) refl h;
      once = λ x. once_each x (eqb x p.top) refl;
      used = λ x h. used_each x (eqb x p.top) refl h;
      all = omega (arith, sound.all, waiting_same p (begun p) n (λ u k. refl));
    }
  where
    either : (x u : ℕ) (b : Bool) → eqb x p.top ≡ b → 1 ≤ times x (p.top ∷ held) → times x (ring p u) ≡ 0
    either x u true e h = ap (λ (y : ℕ). times y (ring p u)) (eqb-true x p.top e) ∙ sound.rings.small u p.top (omega arith)
    either x u false e h = sound.apart x u (omega (arith, ap one e))

    none_held : (k : ℕ) → times p.top held ≡ k → times p.top held ≡ 0
    none_held zero e = e
    none_held (suc k) e = absurd (omega (arith, sound.used p.top (omega arith)))

    once_each : (x : ℕ) (b : Bool) → eqb x p.top ≡ b → times x (p.top ∷ held) ≤ 1
    once_each x true e = omega (arith, ap one e, ap (λ (y : ℕ). times y held) (eqb-true x p.top e), none_held (times p.top held) refl)
    once_each x false e = omega (arith, ap one e, sound.once x)

    used_each : (x : ℕ) (b : Bool) → eqb x p.top ≡ b → 1 ≤ times x (p.top ∷ held) → x < p.top + 1
    used_each x true e h = omega (arith, eqb-true x p.top e)
    used_each x false e h = omega (arith, sound.used x (omega (arith, ap one e)))

-- BLANK
pub blank_places_sound : SoundPlaces blank_places 0 []
blank_places_sound = record {
  rings = ring_start_sound;
  few = omega arith;
  empty = λ t h k. ring_start t (replicate 256 0) (replicate 256 0);
  apart = λ q t h. absurd (omega arith);
  once = λ q. omega arith;
  used = λ q h. absurd (omega arith);
  all = omega (arith, ap length (ring_start free (replicate 256 0) (replicate 256 0)));
}
