-- What taking and enqueueing do to the tables' queues, and that `RingSound` is kept: theorems over the models, no code in sight.
use Prim.Native.Nat.{ℕ, suc, ◌+◌, ◌-◌, ◌≤◌, ◌<◌}
use native.Mathlib.Omega.{arith}
use mathlib.Core.Path.{◌≡◌, refl, sym, ap, ap₂, subst, ◌∙◌}
use mathlib.Core.Bool.{Bool, true, false}
use mathlib.Core.List.{List, [], ◌∷◌, ◌++◌, map, map-append}
use lib.ListN.{length, take, drop, get_or, set, length-set, length-append, length-drop, replicate, length-replicate}
use lib.Seq.{get_or-set_other, get_or-set_same, length-take-le, split_at}
use lib.Dec.{eqb, ltb}
use borrow.Author.Tests.{ne_eqb, eqb-true, eqb-false, lt-ltb, ltb-true, ltb-false}
use Rattle.laws.proofs.Lists.{get_or_zeros}
use Rattle.rings.specs.Lists.{one, times, grown, turned, Full}
use Rattle.rings.specs.Rings.{walk, end, ring_of, held_at, unlinked, shortened, Chain, RingSound, linked_at, linked, lengthened}
use Rattle.rings.proofs.Counts.{is_or_not, map_away, times_append, times_self, times_out, pigeons}
use Rattle.rings.proofs.Walks.{
  ring_size,
  walk_at,
  chain_walk,
  chain_join,
  chain_front,
  chain_back,
  chain_last,
  chain_in,
  ring_frame,
  ring_turn,
  ring_append,
}

-- THE START: every queue is empty, and no place was used
pub ring_start : (t : ℕ) (next tail : List ℕ) → ring_of next tail (replicate 256 0) t ≡ []
ring_start t next tail = ap (λ (m : ℕ). walk m next (get_or tail t 0)) (get_or_zeros 256 t)

pub ring_start_sound : RingSound (replicate 256 0) (replicate 256 0) (replicate 256 0) 0
ring_start_sound = record {
  room = omega arith;
  long_next = length-replicate {A = ℕ} 256 0;
  long_tail = length-replicate {A = ℕ} 256 0;
  long_len = length-replicate {A = ℕ} 256 0;
  closed = λ t. rw (ring_start t (replicate 256 0) (replicate 256 0)) refl;
  once = λ t p. rw (ring_start t (replicate 256 0) (replicate 256 0)) (omega arith);
  small = λ t p h. rw (ring_start t (replicate 256 0) (replicate 256 0)) refl;
  apart = λ t u p n h. rw (ring_start u (replicate 256 0) (replicate 256 0)) refl;
}

module _ (next tail len : List ℕ) (top : ℕ) (sound : RingSound next tail len top) where
  -- the queue of a table, as it was
  abbrev q : ℕ → List ℕ
  q u = ring_of next tail len u

  pub below_top : (t p : ℕ) → 1 ≤ times p (q t) → p < top
  below_top t p h = go (ltb p top) refl
    where
      go : (b : Bool) → ltb p top ≡ b → p < top
      go true e = ltb-true p top e
      go false e = absurd (omega (arith, sound.small t p (ltb-false p top e)))

  pub below : (t p : ℕ) → 1 ≤ times p (q t) → p < 256
  below t p h = omega (arith, below_top t p h, sound.room)

  -- the first place that was never used is free for the taking
  pub ring_fresh_top : top < 256 → RingSound next tail len (top + 1) × ((u : ℕ) → times top (q u) ≡ 0)
  ring_fresh_top h = (
    record {
      room = omega arith;
      long_next = sound.long_next;
      long_tail = sound.long_tail;
      long_len = sound.long_len;
      closed = sound.closed;
      once = sound.once;
      small = λ t p k. sound.small t p (omega arith);
      apart = sound.apart;
    },
    λ u. sound.small u top (omega arith),
  )

  -- TAKE
  module _ (t j : ℕ) (has : j < length (q t)) (tt256 : t < 256) where
    abbrev p : ℕ
    p = get_or (q t) j 0

    abbrev b : ℕ
    b = end (get_or tail t 0) (take j (q t))

    abbrev rest : List ℕ
    rest = turned j (q t)

    abbrev next' : List ℕ
    next' = unlinked next b

    abbrev tail' : List ℕ
    tail' = set tail t b

    abbrev len' : List ℕ
    len' = shortened len t

    -- the place that is taken is behind b
    behind : get_or next b 0 ≡ p
    behind = sym (walk_at (get_or len t 0) next (get_or tail t 0) j (omega (arith, ring_size next tail len t)))

    whole : Chain next (get_or tail t 0) (take j (q t) ++ (p ∷ drop (suc j) (q t))) (get_or tail t 0)
    whole = subst (λ (l : List ℕ). Chain next (get_or tail t 0) l (get_or tail t 0)) (split_at (q t) j 0 has) (sound.closed t)

    -- from the place that is taken, through those behind it and those before it, to the place before it
    round : Chain next p rest b
    round = chain_join next p (drop (suc j) (q t)) (get_or tail t 0) (take j (q t)) b
        (chain_back next (get_or tail t 0) (take j (q t)) (p ∷ drop (suc j) (q t)) (get_or tail t 0) whole).1
        (chain_front next (get_or tail t 0) (take j (q t)) (p ∷ drop (suc j) (q t)) (get_or tail t 0) whole)

    counts : (x : ℕ) → times x rest + one (eqb x p) ≡ times x (q t)
    counts x = times_out x (q t) j has

    b_in : 1 ≤ times b (q t)
    b_in = omega (arith, chain_in next p rest b round, counts b)

    ring : Chain next' b rest b
    ring = rw behind (ring_turn next p b rest round (omega (arith, counts b, sound.once t b))
        (λ h. omega (arith, below t b b_in, sound.long_next)))

    tail_t : get_or tail' t 0 ≡ b
    tail_t = get_or-set_same tail t b 0 (omega (arith, sound.long_tail))

    len_t : get_or len' t 0 ≡ length rest
    len_t =
        let d : length (drop (suc j) (q t)) ≡ length (q t) - suc j = length-drop (suc j) (q t) in
        let k : length (take j (q t)) ≡ j = length-take-le j (q t) (omega arith) in
        let e : length rest ≡ get_or len t 0 - 1 =
        omega (arith, length-append (drop (suc j) (q t)) (take j (q t)), ring_size next tail len t) in
        get_or-set_same len t (get_or len t 0 - 1) 0 (omega (arith, sound.long_len)) ∙ sym e

    pub ring_unlink_own : ring_of next' tail' len' t ≡ rest
    ring_unlink_own = ap₂ (λ (m a : ℕ). walk m next' a) len_t tail_t ∙ chain_walk next' b rest b ring

    module _ (u : ℕ) (n : u ≡ t → ⊥) where
      other_tail : get_or tail' u 0 ≡ get_or tail u 0
      other_tail = get_or-set_other tail t u b 0 n

      other_ring : Chain next' (get_or tail u 0) (q u) (get_or tail u 0)
      other_ring = ring_frame next b (get_or next (get_or next b 0) 0) (get_or tail u 0) (q u) (sound.closed u) (sound.apart t u b n b_in)

      pub ring_unlink_other : ring_of next' tail' len' u ≡ q u
      ring_unlink_other =
          ap₂ (λ (m a : ℕ). walk m next' a) (get_or-set_other len t u (get_or len t 0 - 1) 0 n ∙ sym (ring_size next tail len u)) other_tail
          ∙ chain_walk next' (get_or tail u 0) (q u) (get_or tail u 0) other_ring

    fewer : (u x : ℕ) → times x (ring_of next' tail' len' u) ≤ times x (q u)
    fewer = is_or_not t (λ u. (x : ℕ) → times x (ring_of next' tail' len' u) ≤ times x (q u))
        (λ x. rw ring_unlink_own (omega (arith, counts x))) (λ u n x. rw (ring_unlink_other u n) (omega arith))

    pub ring_unlink_sound : RingSound next' tail' len' top
    ring_unlink_sound = record {
      room = sound.room;
      long_next = length-set next b (get_or next (get_or next b 0) 0) ∙ sound.long_next;
      long_tail = length-set tail t b ∙ sound.long_tail;
      long_len = length-set len t (get_or len t 0 - 1) ∙ sound.long_len;
      closed = is_or_not t (λ u. Chain next' (get_or tail' u 0) (ring_of next' tail' len' u) (get_or tail' u 0))
          (rw (ring_unlink_own, tail_t) ring) (λ u n. rw (ring_unlink_other u n, other_tail u n) (other_ring u n));
      once = λ u x. omega (arith, fewer u x, sound.once u x);
      small = λ u x h. omega (arith, fewer u x, sound.small u x h);
      apart = λ u v x n h. omega (arith, fewer v x, sound.apart u v x n (omega (arith, fewer u x)));
    }

    pub ring_unlink_used : get_or (ring_of next tail len t) j 0 < top
    ring_unlink_used = below_top t p (omega (arith, counts p, times_self p))

    -- the place that was taken waits nowhere
    pub ring_unlink_out : (u : ℕ) → times p (ring_of next' tail' len' u) ≡ 0
    ring_unlink_out = is_or_not t (λ u. times p (ring_of next' tail' len' u) ≡ 0)
        (rw ring_unlink_own (omega (arith, counts p, times_self p, sound.once t p)))
        (λ u e. rw (ring_unlink_other u e) (sound.apart t u p e (omega (arith, counts p, times_self p))))

  -- ENQUEUE a place that waits nowhere
  module _ (t p : ℕ) (fresh : (u : ℕ) → times p (q u) ≡ 0) (place : p < top) (table : t < 256) where
    abbrev next_e : List ℕ
    next_e = linked next tail len t p

    abbrev tail_e : List ℕ
    tail_e = set tail t p

    abbrev len_e : List ℕ
    len_e = lengthened len t

    once_more : (x : ℕ) (b : Bool) → eqb x p ≡ b → times x (q t) + one (eqb x p) ≤ 1
    once_more x true e =
        let z : times x (q t) ≡ 0 = ap (λ (y : ℕ). times y (q t)) (eqb-true x p e) ∙ fresh t in
        omega (arith, ap one e)
    once_more x false e = omega (arith, ap one e, sound.once t x)

    counts_e : (x : ℕ) → times x (q t ++ (p ∷ [])) ≡ times x (q t) + one (eqb x p)
    counts_e x = omega (arith, times_append x (q t) (p ∷ []))

    small_e : (x : ℕ) → top ≤ x → times x (q t ++ (p ∷ [])) ≡ 0
    small_e x h = omega (arith, counts_e x, sound.small t x h, ap one (ne_eqb x p (λ e. omega arith)))

    once_e : (x : ℕ) → times x (q t ++ (p ∷ [])) ≤ 1
    once_e x = omega (arith, counts_e x, once_more x (eqb x p) refl)

    room : get_or len t 0 < 256
    room = omega (arith, pigeons top (q t ++ (p ∷ [])) once_e small_e, sound.room, length-append (q t) (p ∷ []), ring_size next tail len t)

    ring_e : Chain next_e p (q t ++ (p ∷ [])) p
    ring_e = go (eqb (get_or len t 0) 0) refl (q t) refl
      where
        go : (b : Bool) → eqb (get_or len t 0) 0 ≡ b → (l : List ℕ) → q t ≡ l → Chain next_e p (q t ++ (p ∷ [])) p
        go true e [] i = rw (i, e) (get_or-set_same next p p 0 (omega (arith, sound.long_next, sound.room)), refl)
        go true e (x ∷ l) i = absurd (omega (arith, ring_size next tail len t, ap length i, eqb-true (get_or len t 0) 0 e))
        go false e [] i = absurd (eqb-false (get_or len t 0) 0 e (sym (ring_size next tail len t) ∙ ap length i))
        go false e (x ∷ l) i =
            let c : Chain next (get_or tail t 0) (x ∷ l) (get_or tail t 0) = rw i at (sound.closed t) in
            let h : 1 ≤ times (get_or tail t 0) (q t) = rw i (chain_last next (get_or tail t 0) x l (get_or tail t 0) c) in
            let is : next_e ≡ set (set next p (get_or next (get_or tail t 0) 0)) (get_or tail t 0) p =
            ap (λ (b : Bool). linked_at b next (get_or tail t 0) p) e in
            subst (λ (n : List ℕ). Chain n p (q t ++ (p ∷ [])) p) (sym is)
            (subst (λ (k : List ℕ). Chain (set (set next p (get_or next (get_or tail t 0) 0)) (get_or tail t 0) p) p (k ++ (p ∷ [])) p) (sym i)
            (ring_append next (get_or tail t 0) p x l c (rw i at (fresh t)) (rw i at (sound.once t (get_or tail t 0)))
            (omega (arith, sound.long_next, sound.room)) (omega (arith, sound.long_next, below t (get_or tail t 0) h))))

    tail_e_t : get_or tail_e t 0 ≡ p
    tail_e_t = get_or-set_same tail t p 0 (omega (arith, sound.long_tail))

    len_e_t : get_or len_e t 0 ≡ length (q t ++ (p ∷ []))
    len_e_t =
        let g : grown (ltb (get_or len t 0) 256) (get_or len t 0) ≡ get_or len t 0 + 1 = ap (λ (b : Bool). grown b (get_or len t 0))
        (lt-ltb (get_or len t 0) 256 room) in
        get_or-set_same len t (grown (ltb (get_or len t 0) 256) (get_or len t 0)) 0 (omega (arith, sound.long_len))
        ∙ omega (arith, g, length-append (q t) (p ∷ []), ring_size next tail len t)

    pub ring_enqueue_own : ring_of next_e tail_e len_e t ≡ q t ++ (p ∷ [])
    ring_enqueue_own = ap₂ (λ (m a : ℕ). walk m next_e a) len_e_t tail_e_t ∙ chain_walk next_e p (q t ++ (p ∷ [])) p ring_e

    module _ (u : ℕ) (n : u ≡ t → ⊥) where
      tail_e_u : get_or tail_e u 0 ≡ get_or tail u 0
      tail_e_u = get_or-set_other tail t u p 0 n

      ring_e_u : Chain next_e (get_or tail u 0) (q u) (get_or tail u 0)
      ring_e_u = go (eqb (get_or len t 0) 0) refl (q t) refl
        where
          go : (b : Bool) → eqb (get_or len t 0) 0 ≡ b → (l : List ℕ) → q t ≡ l → Chain next_e (get_or tail u 0) (q u) (get_or tail u 0)
          go true e l i = rw e (ring_frame next p p (get_or tail u 0) (q u) (sound.closed u) (fresh u))
          go false e [] i = absurd (eqb-false (get_or len t 0) 0 e (sym (ring_size next tail len t) ∙ ap length i))
          go false e (x ∷ l) i =
              let c : Chain next (get_or tail t 0) (x ∷ l) (get_or tail t 0) = rw i at (sound.closed t) in
              let h : 1 ≤ times (get_or tail t 0) (q t) = rw i (chain_last next (get_or tail t 0) x l (get_or tail t 0) c) in
              rw e (ring_frame (set next p (get_or next (get_or tail t 0) 0)) (get_or tail t 0) p (get_or tail u 0) (q u)
              (ring_frame next p (get_or next (get_or tail t 0) 0) (get_or tail u 0) (q u) (sound.closed u) (fresh u))
              (sound.apart t u (get_or tail t 0) n h))

      pub ring_enqueue_other : ring_of next_e tail_e len_e u ≡ q u
      ring_enqueue_other =
          ap₂ (λ (m a : ℕ). walk m next_e a) (get_or-set_other len t u (grown (ltb (get_or len t 0) 256) (get_or len t 0)) 0 n ∙ sym
          (ring_size next tail len u))
          tail_e_u
          ∙ chain_walk next_e (get_or tail u 0) (q u) (get_or tail u 0) ring_e_u

    full_e : Full next_e
    full_e = go (eqb (get_or len t 0) 0)
      where
        go : (b : Bool) → Full (linked_at b next (get_or tail t 0) p)
        go true = length-set next p p ∙ sound.long_next
        go false = length-set (set next p (get_or next (get_or tail t 0) 0)) (get_or tail t 0) p
            ∙ length-set next p (get_or next (get_or tail t 0) 0) ∙ sound.long_next

    -- where a place is in the queues after it: as before, and p behind t's
    apart_e : (u v x : ℕ) → (v ≡ u → ⊥) → 1 ≤ times x (ring_of next_e tail_e len_e u) → times x (ring_of next_e tail_e len_e v) ≡ 0
    apart_e = is_or_not t (λ u. (v x : ℕ) → (v ≡ u → ⊥) → 1 ≤ times x (ring_of next_e tail_e len_e u)
        → times x (ring_of next_e tail_e len_e v) ≡ 0)
        (λ v x n h. rw (ring_enqueue_other v n) (new v x n (eqb x p) refl (rw ring_enqueue_own at h)))
        (λ u m. is_or_not t (λ v. (x : ℕ) → (v ≡ u → ⊥) → 1 ≤ times x (ring_of next_e tail_e len_e u)
        → times x (ring_of next_e tail_e len_e v) ≡ 0)
        (λ x n h. rw ring_enqueue_own (old u x n (rw (ring_enqueue_other u m) at h)))
        (λ v k x n h. rw (ring_enqueue_other v k) (sound.apart u v x n (rw (ring_enqueue_other u m) at h))))
      where
        new : (v x : ℕ) → (v ≡ t → ⊥) → (b : Bool) → eqb x p ≡ b → 1 ≤ times x (q t ++ (p ∷ [])) → times x (q v) ≡ 0
        new v x n true e h = ap (λ (y : ℕ). times y (q v)) (eqb-true x p e) ∙ fresh v
        new v x n false e h = sound.apart t v x n (omega (arith, counts_e x, ap one e))

        old : (u x : ℕ) → (t ≡ u → ⊥) → 1 ≤ times x (q u) → times x (q t ++ (p ∷ [])) ≡ 0
        old u x n h =
            let d : x ≡ p → ⊥ = λ e. omega (arith, fresh u, h, ap (λ (y : ℕ). times y (q u)) e) in
            omega (arith, counts_e x, sound.apart u t x n h, ap one (ne_eqb x p d))

    pub ring_enqueue_sound : RingSound next_e tail_e len_e top
    ring_enqueue_sound = record {
      room = sound.room;
      long_next = full_e;
      long_tail = length-set tail t p ∙ sound.long_tail;
      long_len = length-set len t (grown (ltb (get_or len t 0) 256) (get_or len t 0)) ∙ sound.long_len;
      closed = is_or_not t (λ u. Chain next_e (get_or tail_e u 0) (ring_of next_e tail_e len_e u) (get_or tail_e u 0))
          (rw (ring_enqueue_own, tail_e_t) ring_e) (λ u n. rw (ring_enqueue_other u n, tail_e_u u n) (ring_e_u u n));
      once = is_or_not t (λ u. (x : ℕ) → times x (ring_of next_e tail_e len_e u) ≤ 1)
          (λ x. rw ring_enqueue_own (once_e x)) (λ u n x. rw (ring_enqueue_other u n) (sound.once u x));
      small = is_or_not t (λ u. (x : ℕ) → top ≤ x → times x (ring_of next_e tail_e len_e u) ≡ 0)
          (λ x h. rw ring_enqueue_own (small_e x h)) (λ u n x h. rw (ring_enqueue_other u n) (sound.small u x h));
      apart = apart_e;
    }

    -- what is put at a place that waits nowhere is in no queue, and in the table's once the place is enqueued
    module _ {A : Type 0} (d : A) (store : List A) (s : A) where
      pub ring_put : (u : ℕ) → held_at d (set store p s) (q u) ≡ held_at d store (q u)
      ring_put u = map_away store p s d (q u) (fresh u)

      pub ring_put_enqueue : length store ≡ 256 → held_at d (set store p s) (ring_of next_e tail_e len_e t) ≡ held_at d store (q t)
          ++ (s ∷ [])
      ring_put_enqueue long =
          let f : ℕ → A = λ x. get_or (set store p s) x d in
          ap (map f) ring_enqueue_own ∙ map-append f (q t) (p ∷ [])
          ∙ ap₂ (λ (l : List A) (z : A). l ++ (z ∷ [])) (ring_put t) (get_or-set_same store p s d (omega (arith, sound.room)))

      pub ring_put_enqueue_other : (u : ℕ) → (u ≡ t → ⊥) → held_at d (set store p s) (ring_of next_e tail_e len_e u) ≡ held_at d store (q u)
      ring_put_enqueue_other u n = ap (map (λ x. get_or (set store p s) x d)) (ring_enqueue_other u n) ∙ ring_put u
