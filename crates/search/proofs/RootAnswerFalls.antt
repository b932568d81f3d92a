-- What makes the loop of searches end: a turn leaves fewer turns, and a search that has ended leaves none to start, or one from a later
-- index, or a round fewer.
use Prim.Native.Nat.{ℕ, suc, ◌+◌, ◌*◌, ◌-◌, ◌≤◌, ◌<◌, zero-le}
use native.Mathlib.Nat.{le_refl, le_trans, lt_of_le_of_lt, suc-mul, mul-le-mul_right}
use native.Mathlib.Omega.{arith}
use mathlib.Core.Bool.{Bool, true, false}
use mathlib.Core.List.{List, [], ◌∷◌}
use mathlib.Core.Path.{◌≡◌, refl, sym, ap, ap₂, subst, ◌∙◌}
use lib.Dec.{eqb, leb, ltb}
use lib.ListN.{get_or}
use borrow.Author.Tests.{ltb-true, ltb-false, leb-true}
use Rattle.laws.proofs.Bools.{case_bool}
use Rattle.rings.specs.Rings.{ring_of}
use Rattle.stores.specs.Numbers.{flag_at}
use Rattle.search.specs.declared.course.Asked.{Asked}
use Rattle.search.specs.declared.course.Course.{Course}
use Rattle.search.specs.declared.course.Ending.{Ending}
use Rattle.search.specs.declared.course.Mode.{Mode}
use Rattle.search.specs.Course.{is_peek}
use Rattle.search.specs.Falls.{left_by, left_of}
use Rattle.search.specs.RootAnswer.{first_valid, index_by, index_from, stored_answer, pushes_by, from_index, start_by, start}
use Rattle.search.specs.RootAnswer.{finish, is_invalid, is_exceeded, last_index, skip_by, round_by}
use Rattle.search.specs.RootAnswer.{next_by, unless_over, ended_so, end_search}

-- THE INDEX IS NONE BELOW

module _ (key : List ℕ) (from : ℕ) where
  pub valid_from : (i : ℕ) (ps : List ℕ) → from ≤ first_valid key from i ps
  valid_from i [] = case_bool (λ n. from ≤ n) (ltb i from) (λ e. le_refl from) (λ e. ltb-false i from e)
  valid_from i (p ∷ ps) =
      let later = valid_from (suc i) ps in
      case_bool (λ n. from ≤ n) (leb from i)
      (λ e. case_bool (λ n. from ≤ n) (eqb (get_or key p 0) 0) (λ z. leb-true from i e) (λ d. later))
      (λ e. later)

index_by_from : (peeks : Bool) (from valid : ℕ) → from ≤ valid → from ≤ index_by peeks from valid
index_by_from true from valid h = h
index_by_from false from valid h = le_refl from

pub index_from_from : (mode : Mode) (next tail len key : List ℕ) (t from : ℕ) → from ≤ index_from mode next tail len key t from
index_from_from mode next tail len key t from =
    let ps = ring_of next tail len t in
    index_by_from (is_peek mode) from (first_valid key from 0 ps) (valid_from key from 0 ps)

-- THE NUMBER THAT FALLS

-- x, y and z are products, of which no more is known here
product_falls : (x y z k d : ℕ) → z ≡ x + suc k → z ≤ y → suc (x + (k - 0)) < suc (y + d)
product_falls x y z k d e h = omega arith

more_falls : (a b k d : ℕ) → a < b → suc (a * suc k + (k - 0)) < suc (b * suc k + d)
more_falls a b k d h =
    product_falls (a * suc k) (b * suc k) (suc a * suc k) k d (suc-mul a (suc k)) (mul-le-mul_right (suc k) h)

module _ (k more i d : ℕ) where
  index_falls : i < 256 → left_by false k more (suc i) 0 < left_by false k more i d
  index_falls h =
      let less : more * 258 + (257 - suc i) < more * 258 + (257 - i) = omega arith in
      more_falls (more * 258 + (257 - suc i)) (more * 258 + (257 - i)) k (k - d) less

  round_falls : 0 < more → left_by false k (more - 1) i 0 < left_by false k more i d
  round_falls h =
      let less : (more - 1) * 258 + (257 - i) < more * 258 + (257 - i) = omega arith in
      more_falls ((more - 1) * 258 + (257 - i)) (more * 258 + (257 - i)) k (k - d) less

product_most : (x y k : ℕ) → x ≤ y → suc (x + k) ≤ suc (y + k)
product_most x y k h = omega arith

index_most : (k more i j : ℕ) → i ≤ j → left_by false k more j 0 ≤ left_by false k more i 0
index_most k more i j h =
    let less : more * 258 + (257 - j) ≤ more * 258 + (257 - i) = omega arith in
    product_most ((more * 258 + (257 - j)) * suc k) ((more * 258 + (257 - i)) * suc k) (k - 0) (mul-le-mul_right (suc k) less)

product_turn : (x k d : ℕ) → suc d < k → suc (x + (k - suc d)) < suc (x + (k - d))
product_turn x k d h = omega arith

over_most : (over : Bool) (k more i d : ℕ) → left_by over k more i d ≤ left_by false k more i d
over_most true k more i d = zero-le
over_most false k more i d = le_refl (left_by false k more i d)

-- A FURTHER SEARCH

module _ (asked : Asked) where
  -- as much as is left before the first turn of a search at the course's index
  abbrev before : (over : Bool) → Course → ℕ
  before over c = left_by over asked.limit c.more c.index 0

  push_left : (late none_left : Bool) (c : Course)
      → left_of asked (pushes_by late none_left c) ≤ left_by false asked.limit c.more c.index c.done
  push_left true none_left c = zero-le
  push_left false true c = zero-le
  push_left false false c = le_refl (left_by false asked.limit c.more c.index c.done)

  start_by_left : (missing floundered new : Bool) (i : ℕ) (stored : Ending) (c : Course) → c.index ≤ i
      → left_of asked (start_by missing floundered new asked i stored c) ≤ before false c
  start_by_left true floundered new i stored c h = zero-le
  start_by_left false true new i stored c h = zero-le
  start_by_left false false true i stored c h =
      le_trans (push_left (leb asked.clock_limit c.clock) (eqb asked.limit 0) (from_index i c))
      (index_most asked.limit c.more c.index i h)
  start_by_left false false false i stored c h = zero-le

  module _ (floundered next tail len variant key ambiguous : List ℕ) where
    abbrev started : Course → Course
    started c = start asked floundered next tail len variant key ambiguous c

    start_left : (c : Course) → left_of asked (started c) ≤ before false c
    start_left c =
        let i = index_from asked.mode next tail len key asked.table c.index in
        start_by_left (leb c.count asked.table) (flag_at asked.table floundered) (eqb i (get_or len asked.table 0)) i
        (stored_answer next tail len variant key ambiguous asked.table i) c
        (index_from_from asked.mode next tail len key asked.table c.index)

    goes_on_left : (over : Bool) (c : Course) → c.over ≡ over → left_of asked (unless_over over c (started c)) ≤ before over c
    goes_on_left true c e = subst (λ (b : Bool). left_by b asked.limit c.more c.index c.done ≤ 0) (sym e) zero-le
    goes_on_left false c e = start_left c

    -- m is what a search has ended in; d turns of it were done where what is left was told before
    module _ (m : Course) (ended : m.over ≡ true) (d : ℕ) where
      abbrev most : ℕ
      most = left_by false asked.limit m.more m.index d

      stays : before m.over m < most
      stays = subst (λ (b : Bool). before b m < most) (sym ended) (omega arith)

      skip_falls : (b : Bool) → ltb m.index last_index ≡ b → before (skip_by b m).over (skip_by b m) < most
      skip_falls true e = index_falls asked.limit m.more m.index d (ltb-true m.index last_index e)
      skip_falls false e = stays

      round_by_falls : (b : Bool) → ltb 0 m.more ≡ b → before (round_by b m).over (round_by b m) < most
      round_by_falls true e = round_falls asked.limit m.more m.index d (ltb-true 0 m.more e)
      round_by_falls false e = stays

      next_falls : (peeks invalid exceeded : Bool)
          → before (next_by peeks invalid exceeded m).over (next_by peeks invalid exceeded m) < most
      next_falls false invalid exceeded = stays
      next_falls true true exceeded = skip_falls (ltb m.index last_index) refl
      next_falls true false true = round_by_falls (ltb 0 m.more) refl
      next_falls true false false = stays

    ended_falls : (c : Course) (d : ℕ)
        → left_of asked (end_search asked floundered next tail len variant key ambiguous c)
        < left_by false asked.limit c.more c.index d
    ended_falls c d =
        let n = ended_so asked floundered next tail len variant key ambiguous c in
        let m = finish c.flow (stored_answer next tail len variant key ambiguous asked.table c.index) c in
        lt_of_le_of_lt (goes_on_left n.over n refl)
        (next_falls m refl d (is_peek asked.mode) (is_invalid m.ending) (is_exceeded m.ending))

    -- c' is the course at the search's end, after its last turn
    pub end_falls : (c c' : Course) → c.over ≡ false → c'.index ≡ c.index → c'.more ≡ c.more
        → left_of asked (end_search asked floundered next tail len variant key ambiguous c') < left_of asked c
    end_falls c c' over index more =
        subst (λ (x : ℕ). left_of asked (end_search asked floundered next tail len variant key ambiguous c') < x)
        (ap₂ (λ (n i : ℕ). left_by false asked.limit n i c.done) more index
        ∙ sym (ap (λ (b : Bool). left_by b asked.limit c.more c.index c.done) over))
        (ended_falls c' c.done)

  -- A FURTHER TURN

  -- c' is the course a turn later, over or not
  pub done_falls : (c c' : Course) → c.over ≡ false → c'.index ≡ c.index → c'.more ≡ c.more → c'.done ≡ suc c.done
      → suc c.done < asked.limit → left_of asked c' < left_of asked c
  done_falls c c' over index more done h =
      let k = asked.limit in
      lt_of_le_of_lt
      (subst (λ (x : ℕ). left_of asked c' ≤ x)
      (ap₂ (λ (n i : ℕ). left_by false k n i c'.done) more index ∙ ap (left_by false k c.more c.index) done)
      (over_most c'.over k c'.more c'.index c'.done))
      (subst (λ (b : Bool). left_by false k c.more c.index (suc c.done) < left_by b k c.more c.index c.done) (sym over)
      (product_turn ((c.more * 258 + (257 - c.index)) * suc k) k c.done h))
