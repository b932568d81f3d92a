-- Walks and passes: a pass's level of a goal is the most "not"s that a walk of so many steps from it meets. A walk of more steps than there
-- are goals comes to one of them twice: what lies between can be left out, or it is a cycle through "not".
use Prim.Native.Nat.{ℕ, zero, suc, ◌+◌, ◌≤◌, ◌<◌}
use native.Mathlib.Omega.{arith}
use native.Mathlib.Decide.{ℕ_discrete, dec_lt}
use mathlib.Core.Path.{◌≡◌, refl, sym, ap, subst, ◌∙◌}
use mathlib.Core.Logic.{◌⊎◌, inl, inr}
use mathlib.Core.Option.{some}
use mathlib.Core.List.{List, [], ◌∷◌, Memᴰ}
use lib.ListN.{length, get_elem?}
use Rattle.laws.proofs.Options.{no_such, same_some}
use Rattle.laws.proofs.Distinct.{Distinct, Under, few_distinct}
use Rattle.definitions.specs.Book.{Literal, Clause, Book, goal_of}
use Rattle.papers.specs.Model.{clauses_of}
use Rattle.papers.specs.Levels.{level_in, literal_asks, literals_ask, clauses_ask, passes, is_not, Walk, stays, goes, OnNotCycle}
use Rattle.papers.proofs.Passes.{clause_inside, larger_one, asks, asked_by, pass_at, start_at}

-- Who asks.

abbrev AskedIn : List ℕ → List Literal → (n : ℕ) → Type 0
AskedIn ls rest n = (l : Literal) × Memᴰ l rest × (literal_asks ls l ≡ n)

abbrev AskedOf : List ℕ → List Clause → (n : ℕ) → Type 0
AskedOf ls cs n = (c : Clause) × Memᴰ c cs × AskedIn ls c.literals n

-- what is asked is nothing, or a literal asks it
module _ (ls : List ℕ) where
  literals_by : (rest : List Literal) → (literals_ask ls rest ≡ 0) ⊎ AskedIn ls rest (literals_ask ls rest)
  literals_by [] = inl refl
  literals_by (l ∷ rest) = on (literals_by rest) (larger_one (literal_asks ls l) (literals_ask ls rest))
    where
      n : ℕ
      n = literals_ask ls (l ∷ rest)

      on : (literals_ask ls rest ≡ 0) ⊎ AskedIn ls rest (literals_ask ls rest)
          → (n ≡ literal_asks ls l) ⊎ (n ≡ literals_ask ls rest) → (n ≡ 0) ⊎ AskedIn ls (l ∷ rest) n
      on r (inl e) = inr (l, Memᴰ.head refl, sym e)
      on (inl z) (inr e) = inl (e ∙ z)
      on (inr (k, m, q)) (inr e) = inr (k, Memᴰ.tail m, q ∙ sym e)

  clauses_by : (cs : List Clause) → (clauses_ask ls cs ≡ 0) ⊎ AskedOf ls cs (clauses_ask ls cs)
  clauses_by [] = inl refl
  clauses_by (c ∷ cs) = on (clauses_by cs) (literals_by c.literals) (larger_one (literals_ask ls c.literals) (clauses_ask ls cs))
    where
      n : ℕ
      n = clauses_ask ls (c ∷ cs)

      on : (clauses_ask ls cs ≡ 0) ⊎ AskedOf ls cs (clauses_ask ls cs)
          → (literals_ask ls c.literals ≡ 0) ⊎ AskedIn ls c.literals (literals_ask ls c.literals)
          → (n ≡ literals_ask ls c.literals) ⊎ (n ≡ clauses_ask ls cs) → (n ≡ 0) ⊎ AskedOf ls (c ∷ cs) n
      on r (inl z) (inl e) = inl (e ∙ z)
      on r (inr (l, m, q)) (inl e) = inr (c, Memᴰ.head refl, (l, m, q ∙ sym e))
      on (inl z) s (inr e) = inl (e ∙ z)
      on (inr (d, m, (l, ml, q))) s (inr e) = inr (d, Memᴰ.tail m, (l, ml, q ∙ sym e))

-- A walk from a goal, with the goals that it leaves one after the other, and how many "not"s it meets.
data Trail (book : Book) : (from : ℕ) (left : List ℕ) (nots : ℕ) → Type 0 where
  ends : {g : ℕ} → Trail book g [] 0
  leaves :
      {g n : ℕ} {gs : List ℕ} (c : Clause) (l : Literal) → Memᴰ c (clauses_of book g) → Memᴰ l c.literals →
      Trail book (goal_of l) gs n →
      Trail book g (g ∷ gs) (is_not l + n)

module _ (book : Book) where
  -- a pass's level is that of a walk of so many steps
  attained : (k g : ℕ) → (gs : List ℕ) × (length gs ≤ k) × Trail book g gs (level_in (passes k book) g)
  attained zero g = ([], omega arith, subst (Trail book g []) (sym (start_at book g)) ends)
  attained (suc k) g = on (attained k) (clauses_by (passes k book) (clauses_of book g))
    where
      now : ℕ
      now = clauses_ask (passes k book) (clauses_of book g)

      is : level_in (passes (suc k) book) g ≡ now
      is = pass_at book (passes k book) g

      on : ((h : ℕ) → (gs : List ℕ) × (length gs ≤ k) × Trail book h gs (level_in (passes k book) h))
          → (now ≡ 0) ⊎ AskedOf (passes k book) (clauses_of book g) now
          → (gs : List ℕ) × (length gs ≤ suc k) × Trail book g gs (level_in (passes (suc k) book) g)
      on before (inl z) = ([], omega arith, subst (Trail book g []) (sym (is ∙ z)) ends)
      on before (inr (c, mc, (l, ml, q))) =
          let r = before (goal_of l) in
          let x = r.1 in (
            g ∷ r.0,
            omega arith,
            subst (Trail book g (g ∷ r.0)) (sym (asks (passes k book) l) ∙ q ∙ sym is) (leaves c l mc ml r.2),
          )

  -- and no walk of so many steps meets more
  bounded : {g n : ℕ} {gs : List ℕ} (k : ℕ) → Trail book g gs n → length gs ≤ k → n ≤ level_in (passes k book) g
  bounded k ends h = omega arith
  bounded zero (leaves {gs = gs} c l mc ml t) h = absurd (omega arith)
  bounded (suc k) (leaves {g = g} {n = n} c l mc ml t) h =
      let x = bounded k t (omega arith) in
      let y = asked_by (passes k book) (clauses_of book g) c l mc ml in
      let z = asks (passes k book) l in
      let w = pass_at book (passes k book) g in
      omega arith

  -- a goal that is left has a clause
  left_under : {g n : ℕ} {gs : List ℕ} → Trail book g gs n → Under (length book) gs
  left_under ends i h e = absurd (no_such e)
  left_under (leaves {g = g} c l mc ml t) zero h e = subst (λ (k : ℕ). k < length book) (same_some e) (clause_inside book g c mc)
  left_under (leaves c l mc ml t) (suc i) h e = left_under t i h e

  -- the way to a goal that is left, and the way on from there
  record Parted (g h : ℕ) (n most : ℕ) : Type 0 where
    there : ℕ
    onward : ℕ
    left : List ℕ
    to : Walk book g h there
    from : Trail book h left onward
    all : there + onward ≡ n
    shorter : length left ≤ most

  parted : {g n : ℕ} {gs : List ℕ} (i h : ℕ) → Trail book g gs n → get_elem? gs i ≡ some h → Parted g h n (length gs)
  parted i h ends e = absurd (no_such e)
  parted zero h (leaves {g = g} {n = n} {gs = gs} c l mc ml t) e =
      subst (λ (k : ℕ). Parted g k (is_not l + n) (suc (length gs))) (same_some e) (record {
        there = 0;
        onward = is_not l + n;
        left = g ∷ gs;
        to = stays;
        from = leaves c l mc ml t;
        all = omega arith;
        shorter = omega arith;
      })
  parted (suc i) h (leaves {g = g} {n = n} {gs = gs} c l mc ml t) e =
      let r = parted i h t e in
      let x = r.all in
      let y = r.shorter in
      record {
        there = is_not l + r.there;
        onward = r.onward;
        left = r.left;
        to = goes c l mc ml r.to;
        from = r.from;
        all = omega arith;
        shorter = omega arith;
      }

  abbrev pub SomeCycle : Type 0
  SomeCycle = (h : ℕ) × OnNotCycle book h

  abbrev Shorter : (g n most : ℕ) → Type 0
  Shorter g n most = (gs : List ℕ) × (length gs < most) × Trail book g gs n

  -- from a goal by a walk back to it, and on
  come_back : (g u v w most : ℕ) (hs : List ℕ) → Walk book g g u → Trail book g hs v → u + v ≡ w → length hs < most
      → Shorter g w most ⊎ SomeCycle
  come_back g zero v w most hs t r e h = let z : v ≡ w = omega arith in inl (hs, h, subst (Trail book g hs) z r)
  come_back g (suc u) v w most hs t r e h = inr (g, (u, t))

  -- The goals that a walk leaves are different; or a shorter one from the same goal meets as many "not"s; or there is a cycle.

  member : (g : ℕ) (gs : List ℕ) → ((i : ℕ) × (get_elem? gs i ≡ some g)) ⊎ ((i : ℕ) → get_elem? gs i ≡ some g → ⊥)
  member g [] = inr (λ i e. no_such e)
  member g (h ∷ gs) = on (member g gs) (ℕ_discrete h g)
    where
      off : (h ≡ g → ⊥) → ((i : ℕ) → get_elem? gs i ≡ some g → ⊥) → (i : ℕ) → get_elem? (h ∷ gs) i ≡ some g → ⊥
      off o none_of zero e = o (same_some e)
      off o none_of (suc i) e = none_of i e

      on : ((i : ℕ) × (get_elem? gs i ≡ some g)) ⊎ ((i : ℕ) → get_elem? gs i ≡ some g → ⊥) → Dec (h ≡ g)
          → ((i : ℕ) × (get_elem? (h ∷ gs) i ≡ some g)) ⊎ ((i : ℕ) → get_elem? (h ∷ gs) i ≡ some g → ⊥)
      on r (yes e) = inl (0, ap some e)
      on (inl (i, e)) (no o) = inl (suc i, e)
      on (inr none_of) (no o) = inr (off o none_of)

  one_more : (g : ℕ) (gs : List ℕ) → ((i : ℕ) → get_elem? gs i ≡ some g → ⊥) → Distinct gs → Distinct (g ∷ gs)
  one_more g gs none_of d zero zero h e f = refl
  one_more g gs none_of d zero (suc j) h e f = absurd (none_of j (f ∙ sym e))
  one_more g gs none_of d (suc i) zero h e f = absurd (none_of i (e ∙ sym f))
  one_more g gs none_of d (suc i) (suc j) h e f = ap suc (d i j h e f)

  cut : {g n : ℕ} {gs : List ℕ} → Trail book g gs n → Distinct gs ⊎ (Shorter g n (length gs) ⊎ SomeCycle)
  cut ends = inl (λ i j h e f. absurd (no_such e))
  cut (leaves {g = g} {n = n} {gs = gs} c l mc ml t) = on (cut t) (member g gs)
    where
      on : Distinct gs ⊎ (Shorter (goal_of l) n (length gs) ⊎ SomeCycle)
          → ((i : ℕ) × (get_elem? gs i ≡ some g)) ⊎ ((i : ℕ) → get_elem? gs i ≡ some g → ⊥)
          → Distinct (g ∷ gs) ⊎ (Shorter g (is_not l + n) (suc (length gs)) ⊎ SomeCycle)
      on (inr (inr k)) m = inr (inr k)
      on (inr (inl (hs, h, r))) m = inr (inl (g ∷ hs, (omega arith), leaves c l mc ml r))
      on (inl d) (inr none_of) = inl (one_more g gs none_of d)
      on (inl d) (inl (i, e)) =
          let p = parted i g t e in
          let x = p.all in
          let y = p.shorter in
          inr (come_back g (is_not l + p.there) p.onward (is_not l + n) (suc (length gs)) p.left (goes c l mc ml p.to) p.from
          (omega arith) (omega arith))

  -- One pass more than there are goals gives nothing more, unless there is a cycle.
  pub no_more : (g : ℕ) → (level_in (passes (suc (length book)) book) g ≤ level_in (passes (length book) book) g) ⊎ SomeCycle
  no_more g = few (attained (suc (length book)) g)
    where
      n : ℕ
      n = length book

      top : ℕ
      top = level_in (passes (suc n) book) g

      many : (gs : List ℕ) → n < length gs → length gs ≤ suc n → Trail book g gs top → Distinct gs ⊎ (Shorter g top (length gs) ⊎ SomeCycle)
          → (top ≤ level_in (passes n book) g) ⊎ SomeCycle
      many gs h k t (inl d) = absurd (let x = few_distinct n gs d (left_under t) in omega arith)
      many gs h k t (inr (inl (hs, s, r))) = inl (bounded n r (omega arith))
      many gs h k t (inr (inr c)) = inr c

      on : (gs : List ℕ) → Dec (n < length gs) → length gs ≤ suc n → Trail book g gs top → (top ≤ level_in (passes n book) g) ⊎ SomeCycle
      on gs (yes h) k t = many gs h k t (cut t)
      on gs (no h) k t = inl (bounded n t (omega arith))

      few : (gs : List ℕ) × (length gs ≤ suc n) × Trail book g gs top → (top ≤ level_in (passes n book) g) ⊎ SomeCycle
      few (gs, k, t) = on gs (dec_lt n (length gs)) k t
