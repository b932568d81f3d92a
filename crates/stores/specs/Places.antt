-- What the operations on places do, as functions on the record. Crate `rings` has the code, but for `take_place`.
use Rattle.std.specs.Prelude.{ℕ, ◌+◌, ◌≡◌, Bool, true, false, ◌&&◌, List, [], ◌∷◌, length, take, get_or, set, replicate, eqb, ltb}
use Rattle.rings.specs.Lists.{first_index}
use Rattle.sizes.specs.Limits.{most_places}
use Rattle.rings.specs.Rings.{ring_of, end, linked, lengthened, moved_next, moved_tail, joined, place_if, unlinked, shortened}
use Rattle.stores.specs.declared.places.Places.{Places}
use Rattle.stores.specs.Numbers.{free}

abbrev pub ring : Places → ℕ → List ℕ
ring p t = ring_of p.next p.tail p.len t

-- places by their four parts
abbrev pub places : (next tail len : List ℕ) → (top : ℕ) → Places
places next tail len top = record { next = next; tail = tail; len = len; top = top }

-- `ring_enqueue`: q at the end of ring t
abbrev pub enqueued : (t q : ℕ) → Places → Places
enqueued t q p = record {
  next = linked p.next p.tail p.len t q;
  tail = set p.tail t q;
  len = lengthened p.len t;
  top = p.top;
}

-- the place before the one at j in ring t
abbrev pub before : (t j : ℕ) → Places → ℕ
before t j p = end (get_or p.tail t 0) (take j (ring p t))

-- `ring_unlink`: ring t without the place behind b, turned so that what was behind that is first
abbrev pub unlinked_at : (t b : ℕ) → Places → Places
unlinked_at t b p = record {
  next = unlinked p.next b;
  tail = set p.tail t b;
  len = shortened p.len t;
  top = p.top;
}

-- ring t without its place at j
abbrev pub taken_at : (t j : ℕ) → Places → Places
taken_at t j p = unlinked_at t (before t j p) p

-- the first place of ring t that passes the test is taken; as it was where none does
abbrev pub taken_if : (found : Bool) → (t j : ℕ) → Places → Places
taken_if true t j p = taken_at t j p
taken_if false t j p = p

abbrev pub first_of : (ℕ → Bool) → (t : ℕ) → Places → ℕ
first_of test t p = first_index test (ring p t)

abbrev pub has_one : (ℕ → Bool) → (t : ℕ) → Places → Bool
has_one test t p = ltb (first_of test t p) (length (ring p t))

abbrev pub taken : (ℕ → Bool) → (t : ℕ) → Places → Places
taken test t p = taken_if (has_one test t p) t (first_of test t p) p

abbrev pub taken_place : (ℕ → Bool) → (t : ℕ) → Places → ℕ
taken_place test t p = place_if (has_one test t p) (get_or (ring p t) (first_of test t p) 0)

-- `ring_pop`: ring t, which has a place, without its first
abbrev pub popped : (t : ℕ) → Places → Places
popped t p = record {
  next = unlinked p.next (get_or p.tail t 0);
  tail = p.tail;
  len = shortened p.len t;
  top = p.top;
}

-- the first place that was never used is used
abbrev pub begun : Places → Places
begun p = record { next = p.next; tail = p.tail; len = p.len; top = p.top + 1 }

-- `take_place`: a free place, else one that was never used, else none
abbrev pub freed_if : (any room : Bool) → Places → Places
freed_if true room p = popped free p
freed_if false true p = begun p
freed_if false false p = p

abbrev pub free_place_if : (any room : Bool) → Places → ℕ
free_place_if true room p = get_or (ring p free) 0 0
free_place_if false true p = p.top
free_place_if false false p = most_places

abbrev pub any_free : Places → Bool
any_free p = ltb 0 (get_or p.len free 0)

abbrev pub any_unused : Places → Bool
any_unused p = ltb p.top most_places

abbrev pub freed : Places → Places
freed p = freed_if (any_free p) (any_unused p) p

abbrev pub free_place : Places → ℕ
free_place p = free_place_if (any_free p) (any_unused p) p

-- what `take_place` leaves
pub record TookPlace (next tail len : List ℕ) (top : ℕ) (next' len' : List ℕ) (top' r : ℕ) : Type 0 where
  pub is : r ≡ free_place (places next tail len top)
  pub left : places next' tail len' top' ≡ freed (places next tail len top)

-- `ring_move`: ring f goes behind ring g
abbrev pub moved_to : (f g : ℕ) → Places → Places
moved_to f g p = record {
  next = moved_next (eqb (get_or p.len f 0) 0) (eqb (get_or p.len g 0) 0) p.next (get_or p.tail f 0) (get_or p.tail g 0);
  tail = moved_tail (eqb (get_or p.len f 0) 0) p.tail g (get_or p.tail f 0);
  len = set (set p.len f 0) g (joined (get_or p.len g 0) (get_or p.len f 0));
  top = p.top;
}

-- `find_number`: a place by the numbers beside it
abbrev pub numbered_by : (by_key : Bool) → (variant v key k : ℕ) → Bool
numbered_by true variant v key k = eqb variant v && eqb key k
numbered_by false variant v key k = eqb variant v

abbrev pub numbered : (by_key : Bool) → (variant : List ℕ) → (v : ℕ) → (key : List ℕ) → (k : ℕ) → ℕ → Bool
numbered by_key variant v key k q = numbered_by by_key (get_or variant q 0) v (get_or key q 0) k

-- the first of a list of places that passes the test, or none
abbrev pub found_or : Bool → (q r : ℕ) → ℕ
found_or true q r = q
found_or false q r = r

abbrev pub found_in : (ℕ → Bool) → List ℕ → ℕ
found_in test [] = most_places
found_in test (q ∷ l) = found_or (test q) q (found_in test l)

-- no place was used
abbrev pub blank_places : Places
blank_places = record { next = replicate most_places 0; tail = replicate most_places 0; len = replicate most_places 0; top = 0 }
