-- What moving a whole queue behind another does to the tables' queues, and that `RingSound` is kept.
use Prim.Native.Nat.{ℕ, zero, suc, ◌+◌, ◌≤◌, ◌<◌}
use native.Mathlib.Omega.{arith}
use mathlib.Core.Path.{◌≡◌, refl, sym, ap, ap₂, ◌∙◌}
use mathlib.Core.Bool.{Bool, true, false}
use mathlib.Core.List.{List, [], ◌∷◌, ◌++◌, append-nil}
use lib.ListN.{length, get_or, set, length-set, length-append}
use lib.Seq.{get_or-set_other, get_or-set_same}
use lib.Dec.{eqb}
use borrow.Author.Tests.{le-ltb, eq-eqb, ne_eqb}
use Rattle.rings.specs.Lists.{times, Full}
use Rattle.rings.specs.Rings.{joined_by, joined, walk, ring_of, RingMoved, moved_next, moved_tail, Chain, RingSound}
use Rattle.rings.proofs.Counts.{is_or_not, times_append, pigeons}
use Rattle.rings.proofs.Walks.{ring_size, chain_walk, chain_last, ring_frame, ring_splice}
use Rattle.rings.proofs.RingViews.{below}

-- two queues have room together
joined_within : (k m : ℕ) → k ≤ 256 → m ≤ 256 → joined k m ≡ k + m
joined_within k m h i = ap₂ (λ (b c : Bool). joined_by b c k m) (le-ltb 256 k h) (le-ltb 256 m i)

module _ (next tail len : List ℕ) (top : ℕ) (sound : RingSound next tail len top) where
  -- the queue of a table, as it was
  abbrev q : ℕ → List ℕ
  q u = ring_of next tail len u

  -- MOVE: f's queue goes behind g's
  module _ (f g : ℕ) (n : g ≡ f → ⊥) (hf : f < 256) (hg : g < 256) (n' t' l' : List ℕ) (did : RingMoved next tail len f g n' t' l') where
    both : (x : ℕ) → times x (q g ++ q f) ≡ times x (q g) + times x (q f)
    both x = times_append x (q g) (q f)

    -- no place is in both, so the two are at most 256 together
    once_both : (x : ℕ) → times x (q g ++ q f) ≤ 1
    once_both x = go (times x (q f)) refl
      where
        go : (k : ℕ) → times x (q f) ≡ k → times x (q g ++ q f) ≤ 1
        go zero e = omega (arith, both x, sound.once g x)
        go (suc k) e = omega (arith, both x, sound.once f x, sound.apart f g x n (omega arith))

    small_both : (x : ℕ) → top ≤ x → times x (q g ++ q f) ≡ 0
    small_both x h = omega (arith, both x, sound.small g x h, sound.small f x h)

    room_both : get_or len g 0 + get_or len f 0 ≤ 256
    room_both =
        omega (
          arith,
          pigeons top (q g ++ q f) once_both small_both,
          sound.room,
          length-append (q g) (q f),
          ring_size next tail len g,
          ring_size next tail len f,
        )

    lens : l' ≡ set (set len f 0) g (get_or len g 0 + get_or len f 0)
    lens = did.size ∙ ap (set (set len f 0) g) (joined_within (get_or len g 0) (get_or len f 0) (omega (arith, room_both))
        (omega (arith, room_both)))

    len_g : get_or l' g 0 ≡ length (q g ++ q f)
    len_g =
        let h : g < length (set len f 0) = omega (arith, length-set len f 0, sound.long_len) in
        ap (λ (l : List ℕ). get_or l g 0) lens ∙ get_or-set_same (set len f 0) g (get_or len g 0 + get_or len f 0) 0 h
        ∙ omega (arith, length-append (q g) (q f), ring_size next tail len g, ring_size next tail len f)

    len_f : get_or l' f 0 ≡ 0
    len_f = ap (λ (l : List ℕ). get_or l f 0) lens ∙ get_or-set_other (set len f 0) g f (get_or len g 0 + get_or len f 0) 0 (λ e. n (sym e))
        ∙ get_or-set_same len f 0 0 (omega (arith, sound.long_len))

    len_u : (u : ℕ) → (u ≡ g → ⊥) → (u ≡ f → ⊥) → get_or l' u 0 ≡ get_or len u 0
    len_u u a b = ap (λ (l : List ℕ). get_or l u 0) lens ∙ get_or-set_other (set len f 0) g u (get_or len g 0 + get_or len f 0) 0 a
        ∙ get_or-set_other len f u 0 0 b

    -- by what the two queues are: the ring of g, and every other
    Rings : List ℕ → List ℕ → Type 0
    Rings m a = Chain m (get_or a g 0) (q g ++ q f) (get_or a g 0)
        × ((u : ℕ) → (u ≡ g → ⊥) → (u ≡ f → ⊥) → Chain m (get_or tail u 0) (q u) (get_or tail u 0))

    rings : Rings n' t'
    unfolding Rings
    rings = rw (did.links, did.ends) (go (q f) refl (q g) refl)
      where
        zero_of : (t : ℕ) → q t ≡ [] → eqb (get_or len t 0) 0 ≡ true
        zero_of t i = eq-eqb (get_or len t 0) 0 (sym (ring_size next tail len t) ∙ ap length i)

        some_of : (t x : ℕ) (l : List ℕ) → q t ≡ x ∷ l → eqb (get_or len t 0) 0 ≡ false
        some_of t x l i = ne_eqb (get_or len t 0) 0 (λ e. omega (arith, ring_size next tail len t, ap length i, e))

        go : (l : List ℕ) → q f ≡ l → (m : List ℕ) → q g ≡ m
            → Rings (moved_next (eqb (get_or len f 0) 0) (eqb (get_or len g 0) 0) next (get_or tail f 0) (get_or tail g 0))
            (moved_tail (eqb (get_or len f 0) 0) tail g (get_or tail f 0))
        go [] i m k = rw (zero_of f i, i, append-nil (q g)) (sound.closed g, λ u a b. sound.closed u)
        go (x ∷ l) i [] k =
            rw (some_of f x l i, zero_of g k, k, get_or-set_same tail g (get_or tail f 0) 0 (omega (arith, sound.long_tail)))
            (sound.closed f, λ u a b. sound.closed u)
        go (x ∷ l) i (y ∷ m) k =
            let cf : Chain next (get_or tail f 0) (x ∷ l) (get_or tail f 0) = rw i at (sound.closed f) in
            let cg : Chain next (get_or tail g 0) (y ∷ m) (get_or tail g 0) = rw k at (sound.closed g) in
            let inf : 1 ≤ times (get_or tail f 0) (q f) = rw i (chain_last next (get_or tail f 0) x l (get_or tail f 0) cf) in
            let ing : 1 ≤ times (get_or tail g 0) (q g) = rw k (chain_last next (get_or tail g 0) y m (get_or tail g 0) cg) in
            rw (some_of f x l i, some_of g y m k, get_or-set_same tail g (get_or tail f 0) 0 (omega (arith, sound.long_tail))) (
              rw (i, k) (ring_splice next (get_or tail f 0) (get_or tail g 0) x y l m cf cg
                  (rw k at (sound.apart f g (get_or tail f 0) n inf)) (rw i at (sound.apart g f (get_or tail g 0) (λ e. n (sym e)) ing))
                  (rw i at (sound.once f (get_or tail f 0))) (rw k at (sound.once g (get_or tail g 0)))
                  (omega (arith, sound.long_next, below next tail len top sound f (get_or tail f 0) inf))
                  (omega (arith, sound.long_next, below next tail len top sound g (get_or tail g 0) ing))),
              λ u a b. ring_frame (set next (get_or tail f 0) (get_or next (get_or tail g 0) 0)) (get_or tail g 0) (get_or next (get_or tail f 0) 0)
                  (get_or tail u 0) (q u)
                  (ring_frame next (get_or tail f 0) (get_or next (get_or tail g 0) 0) (get_or tail u 0) (q u) (sound.closed u)
                  (sound.apart f u (get_or tail f 0) b inf))
                  (sound.apart g u (get_or tail g 0) a ing),
            )

    tail_u : (u : ℕ) → (u ≡ g → ⊥) → get_or t' u 0 ≡ get_or tail u 0
    tail_u u a = ap (λ (l : List ℕ). get_or l u 0) did.ends ∙ go (eqb (get_or len f 0) 0)
      where
        go : (b : Bool) → get_or (moved_tail b tail g (get_or tail f 0)) u 0 ≡ get_or tail u 0
        go true = refl
        go false = get_or-set_other tail g u (get_or tail f 0) 0 a

    pub ring_move_to : ring_of n' t' l' g ≡ q g ++ q f
    unfolding Rings
    ring_move_to = ap (λ (m : ℕ). walk m n' (get_or t' g 0)) len_g ∙ chain_walk n' (get_or t' g 0) (q g ++ q f) (get_or t' g 0) rings.0

    pub ring_move_from : ring_of n' t' l' f ≡ []
    ring_move_from = ap (λ (m : ℕ). walk m n' (get_or t' f 0)) len_f

    pub ring_move_other : (u : ℕ) → (u ≡ g → ⊥) → (u ≡ f → ⊥) → ring_of n' t' l' u ≡ q u
    unfolding Rings
    ring_move_other u a b =
        ap₂ (λ (m x : ℕ). walk m n' x) (len_u u a b ∙ sym (ring_size next tail len u)) (tail_u u a)
        ∙ chain_walk n' (get_or tail u 0) (q u) (get_or tail u 0) (rings.1 u a b)

    -- what holds of the three kinds of queue holds of all
    each : (P : ℕ → List ℕ → Type 0) → P g (q g ++ q f) → P f [] → ((u : ℕ) → (u ≡ g → ⊥) → (u ≡ f → ⊥) → P u (q u)) → (u : ℕ)
        → P u (ring_of n' t' l' u)
    each P pg pf pu = is_or_not g (λ u. P u (ring_of n' t' l' u)) (rw ring_move_to pg)
        (λ u a. is_or_not f (λ v. (v ≡ g → ⊥) → P v (ring_of n' t' l' v)) (λ b. rw ring_move_from pf)
        (λ v b c. rw (ring_move_other v c b) (pu v c b)) u a)

    pub ring_move_sound : RingSound n' t' l' top
    unfolding Rings
    ring_move_sound = record {
      room = sound.room;
      long_next = ap length did.links ∙ full_next (eqb (get_or len f 0) 0) (eqb (get_or len g 0) 0);
      long_tail = ap length did.ends ∙ full_tail (eqb (get_or len f 0) 0);
      long_len = ap length lens ∙ length-set (set len f 0) g (get_or len g 0 + get_or len f 0) ∙ length-set len f 0 ∙ sound.long_len;
      closed = each (λ u l. Chain n' (get_or t' u 0) l (get_or t' u 0)) rings.0 refl (λ u a b. rw (tail_u u a) (rings.1 u a b));
      once = each (λ u l. (x : ℕ) → times x l ≤ 1) once_both (λ x. omega arith) (λ u a b x. sound.once u x);
      small = each (λ u l. (x : ℕ) → top ≤ x → times x l ≡ 0) small_both (λ x h. refl) (λ u a b x h. sound.small u x h);
      apart = λ u v x k h. each (λ w l. (w ≡ u → ⊥) → times x l ≡ 0)
          (λ i. to u x i h) (λ i. refl) (λ w a b i. there u w x a b i h) v k;
    }
      where
        full_next : (x y : Bool) → Full (moved_next x y next (get_or tail f 0) (get_or tail g 0))
        full_next true y = sound.long_next
        full_next false true = sound.long_next
        full_next false false =
            length-set (set next (get_or tail f 0) (get_or next (get_or tail g 0) 0)) (get_or tail g 0) (get_or next (get_or tail f 0) 0)
            ∙ length-set next (get_or tail f 0) (get_or next (get_or tail g 0) 0) ∙ sound.long_next

        full_tail : (x : Bool) → Full (moved_tail x tail g (get_or tail f 0))
        full_tail true = sound.long_tail
        full_tail false = length-set tail g (get_or tail f 0) ∙ sound.long_tail

        -- a place of the queue u is not in the joined queue, nor in a third
        to : (u x : ℕ) → (g ≡ u → ⊥) → 1 ≤ times x (ring_of n' t' l' u) → times x (q g ++ q f) ≡ 0
        to u x i h = each (λ w l. (g ≡ w → ⊥) → 1 ≤ times x l → times x (q g ++ q f) ≡ 0)
            (λ j k. absurd (j refl)) (λ j k. absurd (omega arith))
            (λ w a b j k. omega (arith, both x, sound.apart w g x j k, sound.apart w f x (λ e. b (sym e)) k)) u i h

        there : (u w x : ℕ) → (w ≡ g → ⊥) → (w ≡ f → ⊥) → (w ≡ u → ⊥) → 1 ≤ times x (ring_of n' t' l' u) → times x (q w) ≡ 0
        there u w x a b i h = each (λ v l. (w ≡ v → ⊥) → 1 ≤ times x l → times x (q w) ≡ 0)
            (λ j k. either x k (times x (q g)) refl) (λ j k. absurd (omega arith)) (λ v c d j k. sound.apart v w x j k) u i h
          where
            either : (y : ℕ) → 1 ≤ times y (q g ++ q f) → (k : ℕ) → times y (q g) ≡ k → times y (q w) ≡ 0
            either y k zero e = sound.apart f w y b (omega (arith, both y))
            either y k (suc m) e = sound.apart g w y a (omega arith)
