-- The operations on the strand store keep `SoundStrands`, with the list of held places grown or shrunk. From the theorems on places.
use Prim.Native.Nat.{ℕ, suc, ◌≤◌, ◌<◌}
use native.Mathlib.Omega.{arith}
use mathlib.Core.Path.{◌≡◌, refl, sym, ap, subst, ◌∙◌}
use mathlib.Core.Bool.{Bool, true, false, true≢false}
use mathlib.Core.List.{List, [], ◌∷◌, ◌++◌, map}
use lib.ListN.{length, get_or, set, length-set, length-replicate}
use lib.Seq.{get_or-set_same, get_or-set_other}
use lib.Dec.{eqb, ltb}
use borrow.Author.Tests.{ltb-true, ltb-false}
use Rattle.definitions.specs.Book as books
use Rattle.rings.specs.Lists.{one, times}
use Rattle.rings.proofs.Counts.{is_or_not, times_append, times_first, times_out}
use Rattle.strands.specs.declared.Strand.{Strand}
use Rattle.strands.specs.View.{Sound}
use Rattle.stores.specs.declared.places.Places.{Places}
use Rattle.stores.specs.declared.queue.Strands.{Strands}
use Rattle.stores.specs.Numbers.{waits_fresh, free, flag_number}
use Rattle.stores.specs.Places.{ring, enqueued, taken_at, free_place, moved_to}
use Rattle.stores.specs.View.{FirstStrands, unread_strand, strand_at}
use Rattle.stores.specs.Sound.{SoundPlaces, InUse, FirstOf, Long, SoundStrands, Ready}
use Rattle.stores.specs.Queue.{waits_of, wants_of, with_places, with_numbers, written, made_fresh, enqueued_strand, given, cleared}
use Rattle.stores.specs.Queue.{freed_strands, blank_strand, blank_strands}
use Rattle.stores.specs.QueueInPlace.{TakenAt}
use Rattle.stores.proofs.ListsAlike.{Alike, times_at, times_cases}
use Rattle.stores.proofs.ListsSpans.{map_turned}
use Rattle.stores.proofs.PlacesWaiting.{sound_alike, sound_grown}
use Rattle.stores.proofs.PlacesViews.{
  number_here,
  enqueued_own,
  enqueued_other,
  enqueued_sound,
  given_sound,
  given_other,
  taken_own,
  taken_other,
  taken_sound,
  blank_places_sound,
}
use Rattle.stores.proofs.PlacesCases.{freed_sound}
use Rattle.stores.proofs.PlacesMoves.{moved_own, moved_other, moved_sound}
use Rattle.stores.proofs.QueueCases.{waits_written}

-- other places, the same strands: what the rings must give
with_sound : (fresh : FirstStrands) (s : Strands) (n : ℕ) (held held' : List ℕ) (p' : Places) → SoundStrands fresh s n held
    → SoundPlaces p' n held'
    → ((t q : ℕ) → t < n → 1 ≤ times q (ring p' t) → InUse fresh s q) → ((q : ℕ) → 1 ≤ times q held' → InUse fresh s q)
    → SoundStrands fresh (with_places s p') n held'
with_sound fresh s n held held' p' sound ps waits holds = record { places = ps; long = sound.long; queued = waits; in_hand = holds }

pub strands_alike : (fresh : FirstStrands) (s : Strands) (n : ℕ) (held held' : List ℕ) → Alike held held' → SoundStrands fresh s n held
    → SoundStrands fresh s n held'
strands_alike fresh s n held held' a sound = record {
  places = sound_alike s.places n held held' a sound.places;
  long = sound.long;
  queued = sound.queued;
  in_hand = λ q k. sound.in_hand q (omega (arith, a q));
}

-- for one table more, whose queue is empty
pub strands_grown : (fresh : FirstStrands) (s : Strands) (n : ℕ) (held : List ℕ) → n < free → SoundStrands fresh s n held
    → SoundStrands fresh s (suc n) held
strands_grown fresh s n held room sound = record {
  places = sound_grown s.places n held room sound.places;
  long = sound.long;
  queued = λ t q h k. go t q (ltb t n) refl h k;
  in_hand = sound.in_hand;
}
  where
    go : (t q : ℕ) (b : Bool) → ltb t n ≡ b → t < suc n → 1 ≤ times q (ring s.places t) → InUse fresh s q
    go t q true e h k = sound.queued t q (ltb-true t n e) k
    go t q false e h k = absurd (omega (arith, ap (times q) (sound.places.empty t (ltb-false t n e) (λ d. omega arith))))

-- WRITE at a place that is ready
module _ (fresh : FirstStrands) (s : Strands) (n : ℕ) (held : List ℕ) (q : ℕ) (ready : Ready fresh s n held q) where
  within : q < 256
  within = omega (arith, ready.places.used q (times_first q held), ready.places.rings.room)

  waits_away : (t u : ℕ) → 1 ≤ times u (ring s.places t) → u ≡ q → ⊥
  waits_away t u k e = omega (arith, k, ap (λ (y : ℕ). times y (ring s.places t)) e, ready.places.apart q t (times_first q held))

  -- its numbers are written, and no other place's strand
  module _ (strands : List Strand) (time ambiguous variant waits wants : ℕ) (long : length strands ≡ 256)
      (away : (u : ℕ) → (u ≡ q → ⊥) → get_or strands u unread_strand ≡ get_or s.strands u unread_strand) where
    abbrev s'' : Strands
    s'' = with_numbers q strands time ambiguous variant waits wants s

    use_there : (u : ℕ) → (u ≡ q → ⊥) → InUse fresh s u → InUse fresh s'' u
    use_there u d i = rw (
      away u d,
      get_or-set_other s.time q u time 0 d,
      get_or-set_other s.ambiguous q u ambiguous 0 d,
      get_or-set_other s.variant q u variant 0 d,
      get_or-set_other s.waits q u waits 0 d,
      get_or-set_other s.wants q u wants 0 d,
    ) i

    long_numbers : Long s''
    long_numbers = record {
      long_strands = long;
      long_time = length-set s.time q time ∙ ready.long.long_time;
      long_ambiguous = length-set s.ambiguous q ambiguous ∙ ready.long.long_ambiguous;
      long_variant = length-set s.variant q variant ∙ ready.long.long_variant;
      long_waits = length-set s.waits q waits ∙ ready.long.long_waits;
      long_wants = length-set s.wants q wants ∙ ready.long.long_wants;
    }

    numbers_sound : InUse fresh s'' q → SoundStrands fresh s'' n (q ∷ held)
    numbers_sound use-here = record {
      places = ready.places;
      long = long_numbers;
      queued = λ t u h k. use_there u (waits_away t u k) (ready.queued t u h k);
      in_hand = λ u k. is_or_not q (λ v. 1 ≤ times v (q ∷ held) → InUse fresh s'' v)
          (λ i. use-here)
          (λ v d i. use_there v d (ready.in_hand v (times_cases v q held i (1 ≤ times v held) (λ e. absurd (d e)) (λ j. j)))) u k;
    }

  written_use : (time : ℕ) (x : Strand) → Sound x → InUse fresh (written q time x s) q
  written_use time x sound = rw (
    get_or-set_same s.strands q x unread_strand (omega (arith, within, ready.long.long_strands)),
    number_here q within s.time time ready.long.long_time,
    number_here q within s.ambiguous (flag_number x.ambiguous) ready.long.long_ambiguous,
    number_here q within s.variant x.variant ready.long.long_variant,
    number_here q within s.waits (waits_of x) ready.long.long_waits,
    number_here q within s.wants (wants_of x) ready.long.long_wants,
    waits_written x,
  ) (record {
    is_ambiguous = refl;
    is_variant = refl;
    is_written = λ e. record { sound = sound; is_waits = refl; is_wants = refl };
  })

  -- a sound strand
  pub written_sound : (time : ℕ) (x : Strand) → Sound x → SoundStrands fresh (written q time x s) n (q ∷ held)
  written_sound time x sound =
      numbers_sound (set s.strands q x) time (flag_number x.ambiguous) x.variant (waits_of x) (wants_of x)
      (length-set s.strands q x ∙ ready.long.long_strands) (λ u d. get_or-set_other s.strands q u x unread_strand d)
      (written_use time x sound)

  fresh_use : (c variant flags : ℕ) → FirstOf (fresh c) variant flags → InUse fresh (made_fresh q c variant flags s) q
  fresh_use c variant flags first = rw (
    number_here q within s.time 0 ready.long.long_time,
    number_here q within s.ambiguous (flag_number (books.bit0 flags)) ready.long.long_ambiguous,
    number_here q within s.variant variant ready.long.long_variant,
    number_here q within s.waits waits_fresh ready.long.long_waits,
    number_here q within s.wants c ready.long.long_wants,
  ) (record {
    is_ambiguous = ap flag_number (sym first.is_ambiguous);
    is_variant = sym first.is_variant;
    is_written = λ e. absurd (true≢false e);
  })

  -- or the numbers of a fresh place
  pub made_fresh_sound : (c variant flags : ℕ) → FirstOf (fresh c) variant flags
      → SoundStrands fresh (made_fresh q c variant flags s) n (q ∷ held)
  made_fresh_sound c variant flags first =
      numbers_sound s.strands 0 (flag_number (books.bit0 flags)) variant waits_fresh c ready.long.long_strands (λ u d. refl)
      (fresh_use c variant flags first)

-- a held place is ready for another strand
pub held_ready : (fresh : FirstStrands) (s : Strands) (n : ℕ) (held : List ℕ) (q : ℕ) → SoundStrands fresh s n (q ∷ held)
    → Ready fresh s n held q
held_ready fresh s n held q sound = record {
  places = sound.places;
  long = sound.long;
  queued = sound.queued;
  in_hand = λ u k. sound.in_hand u (omega arith);
}

-- TAKE A PLACE
pub freed_ready : (fresh : FirstStrands) (s : Strands) (n : ℕ) (held : List ℕ) → SoundStrands fresh s n held → free_place s.places < 256
    → Ready fresh (freed_strands s) n held (free_place s.places)
freed_ready fresh s n held sound h =
    let f = freed_sound s.places n held sound.places h in
    record {
      places = f.sound;
      long = sound.long;
      queued = λ t u i k. sound.queued t u i (subst (λ (l : List ℕ). 1 ≤ times u l) (f.same t i) k);
      in_hand = sound.in_hand;
    }

-- ENQUEUE
pub enqueue_sound : (fresh : FirstStrands) (s : Strands) (n : ℕ) (held : List ℕ) (t q : ℕ) → t < n → SoundStrands fresh s n (q ∷ held)
    → SoundStrands fresh (enqueued_strand t q s) n held
enqueue_sound fresh s n held t q h sound =
    with_sound fresh s n (q ∷ held) held (enqueued t q s.places) sound (enqueued_sound s.places n held q t h sound.places)
    (λ u x k i. is_or_not t (λ v. v < n → 1 ≤ times x (ring (enqueued t q s.places) v) → InUse fresh s x)
    (λ a b. own x (eqb x q) refl (rw own_ring at b))
    (λ v d a b. sound.queued v x a (rw (enqueued_other s.places n held q t sound.places small v d) at b)) u k i)
    (λ x k. sound.in_hand x (omega arith))
  where
    small : t < 256
    small = omega (arith, sound.places.few)

    own_ring : ring (enqueued t q s.places) t ≡ ring s.places t ++ (q ∷ [])
    own_ring = enqueued_own s.places n held q t sound.places small

    own : (x : ℕ) (b : Bool) → eqb x q ≡ b → 1 ≤ times x (ring s.places t ++ (q ∷ [])) → InUse fresh s x
    own x true e k = sound.in_hand x (omega (arith, ap one e))
    own x false e k = sound.queued t x h (omega (arith, ap one e, times_append x (ring s.places t) (q ∷ [])))

-- GIVE BACK
pub given_strand_sound : (fresh : FirstStrands) (s : Strands) (n : ℕ) (held : List ℕ) (q : ℕ) → SoundStrands fresh s n (q ∷ held)
    → SoundStrands fresh (given q s) n held
given_strand_sound fresh s n held q sound =
    with_sound fresh s n (q ∷ held) held (enqueued free q s.places) sound (given_sound s.places n held q sound.places)
    (λ u x k i. sound.queued u x k (rw (given_other s.places n held q sound.places u k) at i))
    (λ x k. sound.in_hand x (omega arith))

-- TAKE a strand of a queue: its place is held
module _ (fresh : FirstStrands) (s : Strands) (n : ℕ) (held : List ℕ) (t j : ℕ) (h : t < n) (sound : SoundStrands fresh s n held)
    (there : j < length (ring s.places t)) where
  small : t < 256
  small = omega (arith, sound.places.few)

  fewer : (x : ℕ) → times x (ring (taken_at t j s.places) t) ≤ times x (ring s.places t)
  fewer x = rw (taken_own s.places n held t j sound.places small there) (omega (arith, times_out x (ring s.places t) j there))

  pub taken_at_sound : SoundStrands fresh (with_places s (taken_at t j s.places)) n (get_or (ring s.places t) j 0 ∷ held)
  taken_at_sound =
      with_sound fresh s n held (get_or (ring s.places t) j 0 ∷ held) (taken_at t j s.places) sound
      (taken_sound s.places n held t j h sound.places there)
      (λ u x k i. is_or_not t (λ v. v < n → 1 ≤ times x (ring (taken_at t j s.places) v) → InUse fresh s x)
      (λ a b. sound.queued t x h (omega (arith, fewer x)))
      (λ v d a b. sound.queued v x a (rw (taken_other s.places n held t j sound.places small there v d) at b)) u k i)
      (λ x k. times_cases x (get_or (ring s.places t) j 0) held k (InUse fresh s x)
      (λ e. subst (InUse fresh s) (sym e) (sound.queued t (get_or (ring s.places t) j 0) h (times_at (ring s.places t) j there)))
      (λ i. sound.in_hand x i))

  other : (u : ℕ) → (u ≡ t → ⊥) → ring (taken_at t j s.places) u ≡ ring s.places u
  other u d = taken_other s.places n held t j sound.places small there u d

  -- order 6, wherever the strand stands
  pub taken_there : TakenAt fresh n held t j s (with_places s (taken_at t j s.places)) (get_or (ring s.places t) j 0)
  taken_there = record {
    gives = refl;
    writes = refl;
    leaves = ap (map (strand_at fresh s)) (taken_own s.places n held t j sound.places small there)
        ∙ map_turned (strand_at fresh s) j (ring s.places t);
    others = λ u d. (other u d, ap (map (strand_at fresh s)) (other u d));
    free_places = (other free (λ e. omega (arith, sound.places.few)), refl);
    held_places = taken_at_sound;
    shows = λ x. refl;
  }

-- TAKE ALL of a table's strands: their places are free
pub cleared_sound : (fresh : FirstStrands) (s : Strands) (n : ℕ) (held : List ℕ) (t : ℕ) → t < n → SoundStrands fresh s n held
    → SoundStrands fresh (cleared t s) n held
cleared_sound fresh s n held t h sound =
    with_sound fresh s n held held (moved_to t free s.places) sound (moved_sound s.places n held t h sound.places)
    (λ u x k i. is_or_not t (λ v. v < n → 1 ≤ times x (ring (moved_to t free s.places) v) → InUse fresh s x)
    (λ a b. absurd (omega (arith, ap (times x) (moved_own s.places n held t h sound.places))))
    (λ v d a b. sound.queued v x a (rw (moved_other s.places n held t h sound.places v (λ e. omega (arith, sound.places.few)) d)
    at b)) u k i)
    (λ x k. sound.in_hand x k)

-- BLANK: no table has a strand
pub blank_strands_sound : (fresh : FirstStrands) → SoundStrands fresh blank_strands 0 []
blank_strands_sound fresh = record {
  places = blank_places_sound;
  long = record {
    long_strands = length-replicate 256 blank_strand;
    long_time = length-replicate {A = ℕ} 256 0;
    long_ambiguous = length-replicate {A = ℕ} 256 0;
    long_variant = length-replicate {A = ℕ} 256 0;
    long_waits = length-replicate {A = ℕ} 256 255;
    long_wants = length-replicate {A = ℕ} 256 0;
  };
  queued = λ t q h k. absurd (omega arith);
  in_hand = λ q k. absurd (omega arith);
}
