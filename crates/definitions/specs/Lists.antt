-- The operations of Vec and VecDeque that the Rust uses, over lists; and what holds of each one of a list.
use Rattle.std.specs.Prelude.{ℕ, suc, ◌+◌, ◌-◌, Bool, true, false, ◌&&◌, ◌||◌, List, [], ◌∷◌, ◌++◌, length, take, drop, set, eqb}
use Rattle.std.proofs.Math.Option.{Option, none, some}
use Rattle.std.proofs.Math.ListN.{get_elem?}

module _ {A : Type 0} where
  -- `push`, `push_back`
  abbrev pub push : List A → A → List A
  push l a = l ++ (a ∷ [])

  abbrev pub is_empty : List A → Bool
  is_empty [] = true
  is_empty (a ∷ l) = false

  -- `remove(i)`
  abbrev pub remove : List A → ℕ → List A
  remove l i = take i l ++ drop (suc i) l

  -- `swap_remove(i)`: the last one takes the place
  abbrev pub swap_remove : List A → ℕ → List A
  swap_remove l i = elim (get_elem? l (length l - 1)) [ none ↦ l | some last ↦ take (length l - 1) (set l i last) ]

  -- `rotate_left(n)`
  abbrev pub rotate_left : List A → ℕ → List A
  rotate_left l n = drop n l ++ take n l

  -- `position`: the place of the first one that passes the test
  abbrev pub position : (A → Bool) → List A → Option ℕ
  position test [] = none
  position test (a ∷ l) = elim (test a) [
    | true ↦ some 0
    | false ↦ elim (position test l) [ none ↦ none | some i ↦ some (suc i) ]
  ]

  abbrev pub any_passes : (A → Bool) → List A → Bool
  any_passes test [] = false
  any_passes test (a ∷ l) = test a || any_passes test l

  -- each one of a list
  abbrev pub Each : (A → Type 0) → List A → Type 0
  Each P [] = Unit {0}
  Each P (a ∷ l) = P a × Each P l

  abbrev pub total : (A → ℕ) → List A → ℕ
  total f [] = 0
  total f (a ∷ l) = f a + total f l

-- two lists of numbers are the same
abbrev pub same : List ℕ → List ℕ → Bool
same [] [] = true
same [] (y ∷ ys) = false
same (x ∷ xs) [] = false
same (x ∷ xs) (y ∷ ys) = eqb x y && same xs ys
