-- What the rings mean: a table's queue is what a walk along the links from the table's last place meets, as many steps as the queue is
-- long.
use Rattle.std.specs.Prelude.{
  ℕ,
  zero,
  suc,
  ◌+◌,
  ◌-◌,
  ◌≤◌,
  ◌≡◌,
  Bool,
  true,
  false,
  List,
  [],
  ◌∷◌,
  map,
  get_or,
  set,
  eqb,
  ltb,
  Option,
  Some,
  None,
}
use Rattle.sizes.specs.Limits.{most_places}
use Rattle.rings.specs.Lists.{times, grown, Full}

abbrev pub walk : ℕ → List ℕ → ℕ → List ℕ
walk zero next a = []
walk (suc m) next a = get_or next a 0 ∷ walk m next (get_or next a 0)

abbrev pub ring_of : List ℕ → List ℕ → List ℕ → ℕ → List ℕ
ring_of next tail len t = walk (get_or len t 0) next (get_or tail t 0)

module _ {A : Type 0} where
  -- what a store holds at the places of a queue; d is what is read past its end
  abbrev pub held_at : A → List A → List ℕ → List A
  held_at d store places = map (λ p. get_or store p d) places

-- where a walk from a through the list ends
abbrev pub end : ℕ → List ℕ → ℕ
end a [] = a
end a (x ∷ l) = end x l

-- A place as a number, which is most_places where there is none. A place is a byte, so that this tells the one from the other.
abbrev pub place_number : Option ℕ → ℕ
place_number None = most_places
place_number (Some p) = p

-- a place's number, or that of none
abbrev pub place_if : Bool → ℕ → ℕ
place_if true p = p
place_if false p = most_places

abbrev pub has_any : List ℕ → ℕ → Bool
has_any len t = ltb 0 (get_or len t 0)

-- `ring_unlink`: the place behind b is out of the links
abbrev pub unlinked : List ℕ → ℕ → List ℕ
unlinked next b = set next b (get_or next (get_or next b 0) 0)

abbrev pub shortened : List ℕ → ℕ → List ℕ
shortened len t = set len t (get_or len t 0 - 1)

-- `ring_pop`: the first place is behind the last, a
abbrev pub popped_next : Bool → List ℕ → ℕ → List ℕ
popped_next true next a = unlinked next a
popped_next false next a = next

abbrev pub linked_at : Bool → List ℕ → ℕ → ℕ → List ℕ
linked_at true next last p = set next p p
linked_at false next last p = set (set next p (get_or next last 0)) last p

abbrev pub linked : List ℕ → List ℕ → List ℕ → ℕ → ℕ → List ℕ
linked next tail len t p = linked_at (eqb (get_or len t 0) 0) next (get_or tail t 0) p

abbrev pub lengthened : List ℕ → ℕ → List ℕ
lengthened len t = set len t (grown (ltb (get_or len t 0) 256) (get_or len t 0))

-- the links from a through the list end at b
abbrev pub Chain : List ℕ → ℕ → List ℕ → ℕ → Type 0
Chain next a [] b = a ≡ b
Chain next a (x ∷ l) b = (get_or next a 0 ≡ x) × Chain next x l b

-- what ring_move does: f's queue goes behind g's
abbrev pub moved_next : Bool → Bool → List ℕ → ℕ → ℕ → List ℕ
moved_next true g next a b = next
moved_next false true next a b = next
moved_next false false next a b = set (set next a (get_or next b 0)) b (get_or next a 0)

abbrev pub moved_tail : Bool → List ℕ → ℕ → ℕ → List ℕ
moved_tail true tail g a = tail
moved_tail false tail g a = set tail g a

-- the length of two queues together; a length above 256, which no queue has, counts for nothing
abbrev pub joined_by : (over over' : Bool) → ℕ → ℕ → ℕ
joined_by true b k m = 0
joined_by false true k m = 0
joined_by false false k m = k + m

abbrev pub joined : ℕ → ℕ → ℕ
joined k m = joined_by (ltb 256 k) (ltb 256 m) k m

pub record RingMoved (next tail len : List ℕ) (f g : ℕ) (next' tail' len' : List ℕ) : Type 0 where
  pub links : next' ≡ moved_next (eqb (get_or len f 0) 0) (eqb (get_or len g 0) 0) next (get_or tail f 0) (get_or tail g 0)
  pub ends : tail' ≡ moved_tail (eqb (get_or len f 0) 0) tail g (get_or tail f 0)
  pub size : len' ≡ set (set len f 0) g (joined (get_or len g 0) (get_or len f 0))

-- a queue moved behind itself stays where it is
pub record RingMove (next tail len : List ℕ) (f g : ℕ) (next' tail' len' : List ℕ) : Type 0 where
  pub stays : f ≡ g → (next' ≡ next) × (tail' ≡ tail) × (len' ≡ len)
  pub moves : (f ≡ g → ⊥) → RingMoved next tail len f g next' tail' len'

-- each queue is a ring, and a place is in one queue at most, once; the places from top on were never used
pub record RingSound (next tail len : List ℕ) (top : ℕ) : Type 0 where
  pub room : top ≤ 256
  pub long_next : Full next
  pub long_tail : Full tail
  pub long_len : Full len
  pub closed : (t : ℕ) → Chain next (get_or tail t 0) (ring_of next tail len t) (get_or tail t 0)
  pub once : (t p : ℕ) → times p (ring_of next tail len t) ≤ 1
  pub small : (t p : ℕ) → top ≤ p → times p (ring_of next tail len t) ≡ 0
  pub apart : (t u p : ℕ) → (u ≡ t → ⊥) → 1 ≤ times p (ring_of next tail len t) → times p (ring_of next tail len u) ≡ 0
