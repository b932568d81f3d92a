-- The model doesn't depend on which levels are taken: two numberings of one book, k and l, have the same goals in it. By the levels of k,
-- from the lowest on: what is derived at a level is true in the other model, and back, there by the levels of l.
use Prim.Native.Nat.{ℕ, zero, suc, ◌≤◌, ◌<◌}
use native.Mathlib.Omega.{arith}
use native.Mathlib.Decide.{dec_lt}
use mathlib.Core.Path.{◌≡◌, subst}
use mathlib.Core.List.{[], ◌∷◌}
use Rattle.promises.proofs.Plain.Model.{pos, neg, Body, Book, LevelBody, levels, levels_end, Levelled}
use Rattle.promises.proofs.Plain.Model.{Derived, done, lower, here, absent, Below, In, TrueBody, all, all_end}
use Rattle.promises.proofs.Plain.Model.{below_in, below_lt, in_below, level_head, level_tail, closed}

module _ (book : Book) (k l : ℕ → ℕ) (by_k : Levelled book k) (by_l : Levelled book l) where
  -- the models agree on the goals below level n of k
  abbrev Agree : ℕ → Type 0
  Agree n = (h : ℕ) → k h < n → (In book k h → In book l h) × (In book l h → In book k h)

  module _ (n : ℕ) (agree : Agree n) where
    -- what k derives at level n is true in l's model
    onward : {b : Body} → LevelBody k n b → Derived book k n (Below book k n) b → TrueBody (In book l) b
    onward ls done = all_end
    onward ls (lower {h = h} x d) = all ((agree h (below_lt book k n h x)).0 (below_in book k n h x)) (onward (level_tail ls) d)
    onward ls (here {h = h} c e m d r) =
        all (closed book l by_l h c m (onward (subst (λ i. LevelBody k i c) e (by_k h c m)) d)) (onward (level_tail ls) r)
    onward ls (absent {h = h} x d) =
        all {l = neg h} (λ i. x (in_below book k n h ((agree h (level_head ls)).1 i) (level_head ls))) (onward (level_tail ls) d)

    -- what l has of level n of k, below its own level m, is in k's model
    abbrev Back : ℕ → Type 0
    Back m = (h : ℕ) → k h ≤ n → l h < m → In book l h → In book k h

    module _ (m : ℕ) (back : Back m) where
      -- what l derives at its level m of goals up to level n of k is true in k's model
      returning : {b : Body} → LevelBody k n b → LevelBody l m b → Derived book l m (Below book l m) b → TrueBody (In book k) b
      returning ks ls done = all_end
      returning ks ls (lower {h = h} x d) =
          all (back h (level_head ks) (below_lt book l m h x) (below_in book l m h x)) (returning (level_tail ks) (level_tail ls) d)
      returning ks ls (here {h = h} c e mem d r) =
          all (closed book k by_k h c mem
          (returning (lift (level_head ks) (by_k h c mem)) (subst (λ i. LevelBody l i c) e (by_l h c mem)) d))
          (returning (level_tail ks) (level_tail ls) r)
        where
          lift : {i : ℕ} {b : Body} → i ≤ n → LevelBody k i b → LevelBody k n b
          lift o levels_end = levels_end
          lift o (levels {l = pos g} v vs) = levels {l = pos g} (omega arith) (lift o vs)
          lift o (levels {l = neg g} v vs) = levels {l = neg g} (omega arith) (lift o vs)
      returning ks ls (absent {h = h} x d) =
          all {l = neg h} (λ i. x (in_below book l m h ((agree h (level_head ks)).0 i) (level_head ls)))
          (returning (level_tail ks) (level_tail ls) d)

      back_here : (h : ℕ) → k h ≤ n → l h ≡ m → Derived book l m (Below book l m) (pos h ∷ []) → In book k h
      back_here h o e d = first (returning (levels o levels_end) (levels {l = pos h} (omega arith) levels_end) d)
        where
          first : TrueBody (In book k) (pos h ∷ []) → In book k h
          first (all t ts) = t

    back_to : (m : ℕ) → Back m
    back_to zero h o lt i = absurd (omega arith)
    back_to (suc m) h o lt i = on (back_to m) (dec_lt (l h) m)
      where
        on : Back m → Dec (l h < m) → In book k h
        on back (yes s) = back h o s i
        on back (no s) =
            let e : l h ≡ m = omega arith in
            back_here m back h o e (subst (λ j. Derived book l j (Below book l j) (pos h ∷ [])) e i)

    onward_here : (h : ℕ) → k h ≡ n → In book k h → In book l h
    onward_here h e i =
        first (onward (levels {l = pos h} (omega arith) levels_end) (subst (λ j. Derived book k j (Below book k j) (pos h ∷ [])) e i))
      where
        first : TrueBody (In book l) (pos h ∷ []) → In book l h
        first (all t ts) = t

  all_agree : (n : ℕ) → Agree n
  all_agree zero h lt = absurd (omega arith)
  all_agree (suc n) h lt = on (all_agree n) (dec_lt (k h) n)
    where
      on : Agree n → Dec (k h < n) → (In book k h → In book l h) × (In book l h → In book k h)
      on agree (yes s) = agree h s
      on agree (no s) =
          let e : k h ≡ n = omega arith in
          (onward_here n agree h e, back_to n agree (suc (l h)) h (omega arith) (omega arith))

  pub one_model : (h : ℕ) → (In book k h → In book l h) × (In book l h → In book k h)
  one_model h = all_agree (suc (k h)) h (omega arith)
