-- What clearing leaves of sound places: one table more that has lost its queue, one call after another, and places that follow one another
-- in the free ring. A call only appends to that ring, so that the places taken still follow one another there.
use Prim.Native.Nat.{ℕ, zero, suc, ◌+◌, ◌≤◌, ◌<◌}
use native.Mathlib.Omega.{arith}
use mathlib.Core.Path.{◌≡◌, refl, sym, ap, ◌∙◌}
use mathlib.Core.Bool.{Bool, true, false, ◌||◌}
use mathlib.Core.List.{List, [], ◌∷◌, ◌++◌, map, append-nil, append_assoc}
use lib.ListN.{length, get_or}
use lib.Dec.{eqb}
use borrow.Author.Tests.{eq-eqb, ne_eqb}
use Rattle.definitions.specs.{TableIndex}
use Rattle.definitions.specs.Stop.{Stops, stop, go}
use Rattle.definitions.specs.Lists.{any_passes}
use Rattle.definitions.specs.Strand.{Strand}
use Rattle.definitions.specs.Table.{Table}
use Rattle.small_steps.specs.Decide.{strands_left}
use Rattle.rings.specs.Lists.{times}
use Rattle.rings.specs.Rings.{walk, Chain}
use Rattle.rings.proofs.Walks.{chain_back}
use Rattle.stores.specs.declared.places.Places.{Places}
use Rattle.stores.specs.Numbers.{free}
use Rattle.stores.specs.Places.{ring, moved_to}
use Rattle.stores.specs.Sound.{waiting, SoundPlaces}
use Rattle.rings.proofs.Counts.{is_or_not}
use Rattle.stores.proofs.PlacesWaiting.{waiting_one}
use Rattle.stores.proofs.PlacesMoves.{moved_own, moved_other}
use Rattle.control.specs.declared.clear_strands_after_cycle.Cleared.{Cleared}
use Rattle.control.specs.ClearStrandsAfterCycle.{rings_in, queue_unless, queue_left, Emptied}

-- ONE TABLE MORE is emptied
pub passes_more : (t u : ℕ) (gone : List ℕ) → (u ≡ t → ⊥) → any_passes (eqb u) (t ∷ gone) ≡ any_passes (eqb u) gone
passes_more t u gone d = ap (λ (b : Bool). b || any_passes (eqb u) gone) (ne_eqb u t d)

pub passes_here : (t : ℕ) (gone : List ℕ) → any_passes (eqb t) (t ∷ gone) ≡ true
passes_here t gone = ap (λ (b : Bool). b || any_passes (eqb t) gone) (eq-eqb t t refl)

module _ (n : ℕ) (held : List ℕ) (was p p' : Places) (gone : List ℕ) (t : ℕ) (e : Emptied n held was gone p) (sound : SoundPlaces p' n held)
    (own : ring p' t ≡ []) (other : (u : ℕ) → u < n → (u ≡ t → ⊥) → ring p' u ≡ ring p u)
    (more : (q : ℕ) → times q (ring p' free) ≡ times q (ring p free) + times q (ring p t)) where
  more_left : (u : ℕ) → u < n → ring p' u ≡ queue_left (t ∷ gone) u (ring was u)
  more_left = is_or_not t (λ u. u < n → ring p' u ≡ queue_left (t ∷ gone) u (ring was u))
      (λ h. rw (passes_here t gone) own) (λ u d h. rw (passes_more t u gone d) (other u h d ∙ e.left u h))

  -- a place of the table's queue was freed with it, or before
  freed_here : (q : ℕ) (b : Bool) → any_passes (eqb t) gone ≡ b → t < n → 1 ≤ times q (ring was t) → 1 ≤ times q (ring p' free)
  freed_here q true i h k = omega (arith, more q, e.freed t q h i k)
  freed_here q false i h k =
      let s : ring p t ≡ ring was t = e.left t h ∙ ap (λ (b : Bool). queue_unless b (ring was t)) i in
      omega (arith, more q, ap (times q) s)

  more_freed : (u q : ℕ) → u < n → any_passes (eqb u) (t ∷ gone) ≡ true → 1 ≤ times q (ring was u) → 1 ≤ times q (ring p' free)
  more_freed u q = is_or_not t
      (λ v. v < n → any_passes (eqb v) (t ∷ gone) ≡ true → 1 ≤ times q (ring was v) → 1 ≤ times q (ring p' free))
      (λ h i k. freed_here q (any_passes (eqb t) gone) refl h k)
      (λ v d h i k. omega (arith, more q, e.freed v q h (sym (passes_more t v gone d) ∙ i) k)) u

  pub emptied_more : Emptied n held was (t ∷ gone) p'
  emptied_more = record { sound = sound; left = more_left; freed = more_freed }

-- A CALL: what it leaves of the places p that it found. The free ring has grown at its end.
pub record Went (n : ℕ) (held : List ℕ) (was p : Places) (gone : List TableIndex) (p' : Places) : Type 0 where
  pub emptied : Emptied n held was gone p'
  pub fewer : waiting p' n ≤ waiting p n
  pub more : List ℕ
  pub grown : ring p' free ≡ ring p free ++ more

abbrev pub Agrees : (n : ℕ) → (held : List ℕ) → (was p : Places) → Cleared → Stops (List TableIndex) → Type 0
Agrees n held was p c (stop k) = (k ≡ 29) × (c.met_29 ≡ true)
Agrees n held was p c (go gone) = (c.met_29 ≡ false) × Went n held was p gone (rings_in was.top c)

pub went_nowhere : (n : ℕ) (held : List ℕ) (was p : Places) (gone : List ℕ) → Emptied n held was gone p → Went n held was p gone p
went_nowhere n held was p gone e = record { emptied = e; fewer = omega arith; more = []; grown = sym (append-nil (ring p free)) }

went_on : (n : ℕ) (held : List ℕ) (was p q r : Places) (gone gone' : List ℕ) → Went n held was p gone q → Went n held was q gone' r
    → Went n held was p gone' r
went_on n held was p q r gone gone' v w = record {
  emptied = w.emptied;
  fewer = omega (arith, v.fewer, w.fewer);
  more = v.more ++ w.more;
  grown = w.grown ∙ ap (λ (l : List ℕ). l ++ w.more) v.grown ∙ append_assoc (ring p free) v.more w.more;
}

-- what a first call left, and then a second
pub agrees_on : (n : ℕ) (held : List ℕ) (was p q : Places) (gone : List ℕ) (c : Cleared) → Went n held was p gone q
    → (r : Stops (List TableIndex))
    → Agrees n held was q c r → Agrees n held was p c r
agrees_on n held was p q gone c v (stop k) a = a
agrees_on n held was p q gone c v (go gone') a = (a.0, went_on n held was p q (rings_in was.top c) gone gone' v a.1)

-- TWO PLACES that follow one another in a ring are linked
linked_on : (p : Places) (n : ℕ) (held : List ℕ) → SoundPlaces p n held → (t : ℕ) (front : List ℕ) (x y : ℕ) (back : List ℕ)
    → ring p t ≡ front ++ (x ∷ y ∷ back) → get_or p.next x 0 ≡ y
linked_on p n held sound t front x y back e =
    let c : Chain p.next (get_or p.tail t 0) (front ++ (x ∷ y ∷ back)) (get_or p.tail t 0) = rw e at (sound.rings.closed t) in
    (chain_back p.next (get_or p.tail t 0) front (x ∷ y ∷ back) (get_or p.tail t 0) c).1.0

-- a walk along a list starts at a
abbrev pub Starts : ℕ → List ℕ → Type 0
Starts a [] = Unit {0}
Starts a (x ∷ l) = a ≡ x

-- the place behind x is the first of l, where x and l stand in the free ring, and it has grown since
pub starts_next : (p : Places) (n : ℕ) (held : List ℕ) → SoundPlaces p n held → (front : List ℕ) (x : ℕ) (l back : List ℕ)
    → ring p free ≡ front ++ (x ∷ (l ++ back)) → Starts (get_or p.next x 0) l
starts_next p n held sound front x [] back e = tt
starts_next p n held sound front x (y ∷ l) back e = linked_on p n held sound free front x y (l ++ back) e

pub starts_walk : (m : ℕ) (next : List ℕ) (a : ℕ) → Starts (get_or next a 0) (walk m next a)
starts_walk zero next a = tt
starts_walk (suc m) next a = refl

-- how many wait when a queue is taken
pub waiting_moved : (p : Places) (n : ℕ) (held : List ℕ) (t : ℕ) (h : t < n) (sound : SoundPlaces p n held)
    → waiting (moved_to t free p) n + length (ring p t) ≡ waiting p n
waiting_moved p n held t h sound =
    let w : waiting (moved_to t free p) n + length (ring p t) ≡ waiting p n + length (ring (moved_to t free p) t) =
    waiting_one p (moved_to t free p) n t h (λ u k d. ap length (moved_other p n held t h sound u (λ e. omega (arith, sound.few)) d)) in
    omega (arith, w, ap length (moved_own p n held t h sound))

-- the strands that the definitions find in a table are those that wait there
pub strands_found : (strand_at : ℕ → Strand) (n : ℕ) (held : List ℕ) (was : Places) (gone : List ℕ) (p : Places) → Emptied n held was gone p
    → (t : ℕ) → t < n → (table : Table) → table.strands ≡ map strand_at (ring was t) → strands_left gone t table ≡ map strand_at (ring p t)
strands_found strand_at n held was gone p e t h table q = by_test (any_passes (eqb t) gone) ∙ ap (map strand_at) (sym (e.left t h))
  where
    by_test : (b : Bool) → elim b [ true ↦ [] | false ↦ table.strands ] ≡ map strand_at (queue_unless b (ring was t))
    by_test true = refl
    by_test false = q
