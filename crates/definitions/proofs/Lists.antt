-- What the operations on lists do: whether a list is empty, how long it is, what stands at its places, what holds of each one of it, and
-- sums over it.
use Prim.Native.Nat.{ℕ, zero, suc, ◌+◌, ◌-◌, ◌≤◌, ◌<◌}
use native.Mathlib.Omega.{arith}
use mathlib.Core.Path.{◌≡◌, refl, sym, ap, subst, ◌∙◌}
use mathlib.Core.Bool.{Bool, true, false, true≢false, false≢true}
use mathlib.Core.Option.{Option, none, some}
use mathlib.Core.List.{List, [], ◌∷◌, ◌++◌, append-nil}
use lib.ListN.{length, get_elem?, set, take, drop, length-append, length-take, length-drop, drop_of_length-le}
use lib.Seq.{take-append_seam}
use lib.Dec.{eqb, eqb-suc-zero}
use Rattle.laws.specs.Spans.{span}
use Rattle.laws.proofs.Options.{no_such, same_some}
use Rattle.laws.proofs.Bools.{case_bool}
use Rattle.laws.proofs.Lists.{last_place, last_one, snoc}
use Rattle.laws.specs.All.{All, end, more}
use Rattle.laws.proofs.All.{all_append, all_take, all_drop, all_set, all_at}
use Rattle.laws.proofs.Totals.{total_append}
use Rattle.definitions.specs.Lists.{push, is_empty, remove, swap_remove, rotate_left, position, total}
use Rattle.definitions.specs.Turn.{other_than}

module _ {A : Type 0} where
  -- Empty or not.

  pub is_nil : (l : List A) → is_empty l ≡ true → length l ≡ 0
  is_nil [] e = refl
  is_nil (a ∷ l) e = absurd (false≢true e)

  pub nil_is : (l : List A) → is_empty l ≡ true → l ≡ []
  nil_is [] e = refl
  nil_is (a ∷ l) e = absurd (false≢true e)

  pub not_nil : (l : List A) → is_empty l ≡ false → 0 < length l
  not_nil [] e = absurd (true≢false e)
  not_nil (a ∷ l) e = omega arith

  pub no_nil : (l : List A) → 0 < length l → is_empty l ≡ false
  no_nil [] lt = absurd (omega arith)
  no_nil (a ∷ l) lt = refl

  pub is_empty_push : (xs : List A) (x : A) → is_empty (xs ++ (x ∷ [])) ≡ false
  is_empty_push [] x = refl
  is_empty_push (y ∷ xs) x = refl

  -- the first n of an array that has a place
  pub take_empty : (n : ℕ) (l : List A) → 0 < length l → eqb n 0 ≡ is_empty (take n l)
  take_empty zero l h = refl
  take_empty (suc n) [] h = absurd (omega arith)
  take_empty (suc n) (a ∷ l) h = eqb-suc-zero n

  -- `remove`.

  pub length_remove : (l : List A) (i : ℕ) → i < length l → suc (length (remove l i)) ≡ length l
  length_remove [] i lt = absurd (omega arith)
  length_remove (a ∷ []) zero lt = refl
  length_remove (a ∷ b ∷ l) zero lt = refl
  length_remove (a ∷ l) (suc i) lt = let x = length_remove l i (omega arith) in omega arith

  -- without its last one, a list is its first ones
  pub remove_last : (l : List A) → remove l (length l - 1) ≡ take (length l - 1) l
  remove_last l =
      ap (λ (r : List A). take (length l - 1) l ++ r) (drop_of_length-le l {i = suc (length l - 1)} (omega arith))
      ∙ append-nil (take (length l - 1) l)

  pub remove_push : (xs : List A) (x : A) → remove (xs ++ (x ∷ [])) (length xs) ≡ xs
  remove_push [] x = refl
  remove_push (y ∷ xs) x = ap (λ (z : List A). y ∷ z) (remove_push xs x)

  -- `rotate_left`.

  pub length_rotate_left : (l : List A) (i : ℕ) → length (rotate_left l i) ≡ length l
  length_rotate_left l i = let a = length-append (drop i l) (take i l) in let b = length-take i l in let c = length-drop i l in omega arith

  -- `swap_remove`.

  -- where it has a last one
  pub swap_remove_is : (l : List A) (i : ℕ) (z : A) → get_elem? l (length l - 1) ≡ some z → swap_remove l i ≡ take (length l - 1) (set l i z)
  swap_remove_is l i z e = rw (e, swap_remove)

  swap_remove_push : (m : List A) (z : A) (i : ℕ) → swap_remove (m ++ (z ∷ [])) i ≡ take (length m) (set (m ++ (z ∷ [])) i z)
  swap_remove_push m z i =
      let l = m ++ (z ∷ []) in
      let e : get_elem? l (length l - 1) ≡ some z = ap (get_elem? l) (last_place m z) ∙ last_one m z in
      swap_remove_is l i z e ∙ ap (λ k. take k (set l i z)) (last_place m z)

  swapped_total : (f : A → ℕ) (m : List A) (z : A) (i : ℕ) (a : A) → get_elem? (m ++ (z ∷ [])) i ≡ some a
      → total f (take (length m) (set (m ++ (z ∷ [])) i z)) + f a ≡ total f (m ++ (z ∷ []))
  swapped_total f [] z zero a e = let k : f z ≡ f a = ap f (same_some e) in omega arith
  swapped_total f [] z (suc i) a e = absurd (no_such e)
  swapped_total f (b ∷ m) z zero a e = let k : f b ≡ f a = ap f (same_some e) in let x = ap (total f) (take-append_seam m (z ∷ [])) in
      let y = total_append f m (z ∷ []) in omega arith
  swapped_total f (b ∷ m) z (suc i) a e = let x = swapped_total f m z i a e in omega arith

  swapped_front : (f : A → ℕ) (m : List A) (z : A) (i : ℕ) (a : A) → get_elem? (m ++ (z ∷ [])) i ≡ some a
      → total f (take i (take (length m) (set (m ++ (z ∷ [])) i z))) ≡ total f (take i (m ++ (z ∷ [])))
  swapped_front f [] z zero a e = refl
  swapped_front f [] z (suc i) a e = absurd (no_such e)
  swapped_front f (b ∷ m) z zero a e = refl
  swapped_front f (b ∷ m) z (suc i) a e = let x = swapped_front f m z i a e in omega arith

  -- what is taken out, and what stands before it
  pub record Swapped (f : A → ℕ) (l : List A) (i : ℕ) (a : A) : Type 0 where
    pub less : total f (swap_remove l i) + f a ≡ total f l
    pub front : total f (take i (swap_remove l i)) ≡ total f (take i l)

  swapped_snoc : (f : A → ℕ) (m : List A) (z : A) (i : ℕ) (a : A) → get_elem? (m ++ (z ∷ [])) i ≡ some a → Swapped f (m ++ (z ∷ [])) i a
  swapped_snoc f m z i a e = record {
    less = rw (swap_remove_push m z i) (swapped_total f m z i a e);
    front = rw (swap_remove_push m z i) (swapped_front f m z i a e);
  }

  pub swapped : (f : A → ℕ) (l : List A) (i : ℕ) (a : A) → get_elem? l i ≡ some a → Swapped f l i a
  swapped f [] i a e = absurd (no_such e)
  swapped f (b ∷ l) i a e =
      let r = snoc b l in
      subst (λ q. Swapped f q i a) r.2 (swapped_snoc f r.0 r.1 i a (ap (λ q. get_elem? q i) r.2 ∙ e))

  -- `position`.

  -- the place that a search finds, and what stands there
  pub position_at : (test : A → Bool) (l : List A) (i : ℕ) → position test l ≡ some i
      → (a : A) × (get_elem? l i ≡ some a) × (test a ≡ true)
  position_at test [] i e = absurd (no_such e)
  position_at test (b ∷ l) i e = at (position_at test l) (test b) refl i e
    where
      later : (o : Option ℕ) → position test l ≡ o → (i : ℕ) → elim o [ none ↦ none | some j ↦ some (suc j) ] ≡ some i
          → (j : ℕ) × (position test l ≡ some j) × (suc j ≡ i)
      later none k i e = absurd (no_such e)
      later (some j) k i e = (j, k, same_some e)

      at : ((i : ℕ) → position test l ≡ some i → (a : A) × (get_elem? l i ≡ some a) × (test a ≡ true)) → (t : Bool) → test b ≡ t → (i : ℕ)
          → elim t [ true ↦ some 0 | false ↦ elim (position test l) [ none ↦ none | some j ↦ some (suc j) ] ] ≡ some i
          → (a : A) × (get_elem? (b ∷ l) i ≡ some a) × (test a ≡ true)
      at h true k i e = (b, subst (λ z. get_elem? (b ∷ l) z ≡ some b) (same_some e) refl, k)
      at h false k i e = let r = later (position test l) refl i e in let q = h r.0 r.1 in
          (q.0, subst (λ z. get_elem? (b ∷ l) z ≡ some q.0) r.2 q.1, q.2)

  -- a search that finds nothing
  pub position_none : (test : A → Bool) (l : List A) → position test l ≡ none → (i : ℕ) (a : A) → get_elem? l i ≡ some a → test a ≡ false
  position_none test [] e i a k = absurd (no_such k)
  position_none test (b ∷ l) e i a k = at (test b) refl e (position_none test l) i k
    where
      later : (o : Option ℕ) → ◌≡◌ {A = Option ℕ} (elim o [ none ↦ none | some j ↦ some (suc j) ]) none → o ≡ none
      later none e = refl
      later (some j) e = absurd (no_such (sym e))

      at : (t : Bool) → test b ≡ t → ◌≡◌ {A = Option ℕ}
          (elim t [ true ↦ some 0 | false ↦ elim (position test l) [ none ↦ none | some j ↦ some (suc j) ] ]) none
          → (position test l ≡ none → (i : ℕ) (a : A) → get_elem? l i ≡ some a → test a ≡ false) → (i : ℕ) → get_elem? (b ∷ l) i ≡ some a
          → test a ≡ false
      at true q e h i k = absurd (no_such (sym e))
      at false q e h zero k = ap test (sym (same_some k)) ∙ q
      at false q e h (suc i) k = h (later (position test l) e) i a k

module _ {A : Type 0} (test : A → Bool) (f : ℕ → A) where
  -- of what a function gives at places side by side
  pub position_missed : (s n : ℕ) → ((i : ℕ) → s ≤ i → i < s + n → test (f i) ≡ false) → position test (span f s n) ≡ none
  position_missed s zero h = refl
  position_missed s (suc n) h =
      rw (h s (omega arith) (omega arith), position_missed (suc s) n (λ i a b. h i (omega arith) (omega arith))) refl

  pub position_found : (s n k : ℕ) → k < n → ((i : ℕ) → s ≤ i → i < s + k → test (f i) ≡ false) → test (f (s + k)) ≡ true
      → position test (span f s n) ≡ some k
  position_found s zero k lt h e = absurd (omega arith)
  position_found s (suc n) zero lt h e =
      let z : s + 0 ≡ s = omega arith in
      rw (subst (λ (i : ℕ). test (f i) ≡ true) z e) refl
  position_found s (suc n) (suc k) lt h e =
      let z : s + suc k ≡ suc s + k = omega arith in
      rw (
        h s (omega arith) (omega arith),
        position_found (suc s) n k (omega arith) (λ i a b. h i (omega arith) (omega arith)) (subst (λ (i : ℕ). test (f i) ≡ true) z e),
      ) refl

-- What holds of each one.

module _ {A : Type 0} {P : A → Type 0} where
  pub all_push : {l : List A} {a : A} → All P l → P a → All P (push l a)
  all_push x p = all_append x (more p end)

  pub all_remove : {l : List A} (i : ℕ) → All P l → All P (remove l i)
  all_remove i x = all_append (all_take i x) (all_drop (suc i) x)

  pub all_rotate : {l : List A} (i : ℕ) → All P l → All P (rotate_left l i)
  all_rotate i x = all_append (all_drop i x) (all_take i x)

  all_swapped : {l : List A} (i : ℕ) (o : Option A) → get_elem? l (length l - 1) ≡ o → All P l
      → All P (elim o [ none ↦ l | some z ↦ take (length l - 1) (set l i z) ])
  all_swapped i none e x = x
  all_swapped {l} i (some z) e x = all_take (length l - 1) (all_set i x (all_at (length l - 1) x e))

  pub all_swap_remove : {l : List A} (i : ℕ) → All P l → All P (swap_remove l i)
  all_swap_remove {l} i x = all_swapped i (get_elem? l (length l - 1)) refl x

  -- what was taken out, put back
  pub all_unremove : (l : List A) (i : ℕ) (a : A) → get_elem? l i ≡ some a → P a → All P (remove l i) → All P l
  all_unremove [] i a e r x = end
  all_unremove (b ∷ []) zero a e r x = more (subst P (sym (same_some e)) r) end
  all_unremove (b ∷ c ∷ l) zero a e r x = more (subst P (sym (same_some e)) r) x
  all_unremove (b ∷ l) (suc i) a e r (more y x) = more y (all_unremove l i a e r x)

  -- the last one of a list written over the one at i, and the end cut off
  all_unswap : (l : List A) (z : A) (i : ℕ) (a : A) → get_elem? (l ++ (z ∷ [])) i ≡ some a → P a
      → All P (take (length l) (set (l ++ (z ∷ [])) i z)) → All P (l ++ (z ∷ []))
  all_unswap [] z zero a e r x = more (subst P (sym (same_some e)) r) end
  all_unswap [] z (suc i) a e r x = absurd (no_such e)
  all_unswap (b ∷ l) z zero a e r (more y x) = more (subst P (sym (same_some e)) r) (rest l x)
    where
      rest : (l : List A) → All P (take (length l) (l ++ (z ∷ []))) → All P (l ++ (z ∷ []))
      rest [] x = more y end
      rest (b ∷ l) (more w x) = more w (rest l x)
  all_unswap (b ∷ l) z (suc i) a e r (more y x) = more y (all_unswap l z i a e r x)

  pub all_unswap_remove : (l : List A) (i : ℕ) (a : A) → get_elem? l i ≡ some a → P a → All P (swap_remove l i) → All P l
  all_unswap_remove [] i a e r x = end
  all_unswap_remove (b ∷ l) i a e r x =
      let q = snoc b l in
      let m = q.0 in
      let z = q.1 in
      subst (All P) q.2 (all_unswap m z i a (ap (λ (w : List A). get_elem? w i) q.2 ∙ e) r
      (subst (All P) (swap_remove_is (m ++ (z ∷ [])) i z (ap (get_elem? (m ++ (z ∷ []))) (last_place m z) ∙ last_one m z)
      ∙ ap (λ (k : ℕ). take k (set (m ++ (z ∷ [])) i z)) (last_place m z))
      (subst (λ (w : List A). All P (swap_remove w i)) (sym q.2) x)))

-- Goals but one.

pub length_other_than : (goal : ℕ) (ds : List ℕ) → length (other_than goal ds) ≤ length ds
length_other_than goal [] = omega arith
length_other_than goal (d ∷ ds) = let x = length_other_than goal ds in
    case_bool (λ (l : List ℕ). length l ≤ suc (length ds)) (eqb d goal) (λ e. omega arith) (λ e. omega arith)
