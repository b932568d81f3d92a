-- Books, levels and the layered least model, with the two facts about it that the machine's proof uses: it is closed under the clauses
-- (`closed`), and no goal of an unfounded set is in it (`unfounded`).
use Prim.Native.Nat.{ℕ, zero, suc, ◌≤◌, ◌<◌}
use native.Mathlib.Omega.{arith}
use native.Mathlib.Decide.{dec_lt}
use mathlib.Core.Path.{◌≡◌, refl, sym, subst}
use mathlib.Core.Logic.{◌⊎◌, inl, inr}
use mathlib.Core.List.Memᴰ
use mathlib.Core.List.{List, [], ◌∷◌, Memᴰ}

pub data Lit : Type 0 where
  pos : ℕ → Lit
  neg : ℕ → Lit

-- the chosen literal of a body (the book's last one) stands first
abbrev pub Body : Type 0
Body = List Lit

abbrev pub Book : Type 0
Book = ℕ → List Body

abbrev pub literal_goal : Lit → ℕ
literal_goal (pos h) = h
literal_goal (neg h) = h

-- a literal of a clause of a goal of level n
abbrev pub LevelLit : (ℕ → ℕ) → ℕ → Lit → Type 0
LevelLit level n (pos h) = level h ≤ n
LevelLit level n (neg h) = level h < n

pub data LevelBody (level : ℕ → ℕ) (n : ℕ) : Body → Type 0 where
  levels_end : LevelBody level n []
  levels : {l : Lit} {b : Body} → LevelLit level n l → LevelBody level n b → LevelBody level n (l ∷ b)

-- the least set of one level n, over the sets of the levels below: `Derived b` says that each literal of b is true there
pub data Derived (book : Book) (level : ℕ → ℕ) (n : ℕ) (Below : ℕ → Type 0) : Body → Type 0 where
  done : Derived book level n Below []
  lower : {h : ℕ} {b : Body} → Below h → Derived book level n Below b → Derived book level n Below (pos h ∷ b)
  here : {h : ℕ} {b : Body} (c : Body) → level h ≡ n → Memᴰ c (book h) → Derived book level n Below c → Derived book level n Below b
      → Derived book level n Below (pos h ∷ b)
  absent : {h : ℕ} {b : Body} → (Below h → ⊥) → Derived book level n Below b → Derived book level n Below (neg h ∷ b)

module _ (book : Book) (level : ℕ → ℕ) where
  -- the goals of the levels below n that are in the model
  abbrev pub Below : ℕ → ℕ → Type 0
  Below zero h = ⊥
  Below (suc n) h = Below n h ⊎ ((level h ≡ n) × Derived book level n (Below n) (pos h ∷ []))

  -- the layered least model
  abbrev pub In : ℕ → Type 0
  In h = Derived book level (level h) (Below (level h)) (pos h ∷ [])

-- truth of a literal and of a body, and a literal that is false, in a set of goals
abbrev pub TrueLit : (ℕ → Type 0) → Lit → Type 0
TrueLit I (pos h) = I h
TrueLit I (neg h) = I h → ⊥

abbrev pub FalseLit : (ℕ → Type 0) → Lit → Type 0
FalseLit I (pos h) = I h → ⊥
FalseLit I (neg h) = I h

pub data TrueBody (I : ℕ → Type 0) : Body → Type 0 where
  all_end : TrueBody I []
  all : {l : Lit} {b : Body} → TrueLit I l → TrueBody I b → TrueBody I (l ∷ b)

abbrev pub FalseBody : (ℕ → Type 0) → Body → Type 0
FalseBody I b = (l : Lit) × Memᴰ l b × FalseLit I l

-- a body that is false, or has a positive literal in U
abbrev pub Blocked : (I U : ℕ → Type 0) → Body → Type 0
Blocked I U b = FalseBody I b ⊎ ((h : ℕ) × Memᴰ (pos h) b × U h)

module _ (book : Book) (level : ℕ → ℕ) where
  pub below_in : (n h : ℕ) → Below book level n h → In book level h
  below_in zero h b = absurd b
  below_in (suc n) h (inl b) = below_in n h b
  below_in (suc n) h (inr p) = subst (λ m. Derived book level m (Below book level m) (pos h ∷ [])) (sym p.0) p.1

  pub below_lt : (n h : ℕ) → Below book level n h → level h < n
  below_lt zero h b = absurd b
  below_lt (suc n) h (inl b) = let i = below_lt n h b in omega arith
  below_lt (suc n) h (inr p) = let i = p.0 in omega arith

  pub in_below : (n h : ℕ) → In book level h → level h < n → Below book level n h
  in_below zero h i lt = absurd (omega arith)
  in_below (suc n) h i lt = go (in_below n h i) (dec_lt (level h) n)
    where
      go : (level h < n → Below book level n h) → Dec (level h < n) → Below book level (suc n) h
      go r (yes l) = inl (r l)
      go r (no o) =
          let e : level h ≡ n = omega arith in
          inr (e, subst (λ m. Derived book level m (Below book level m) (pos h ∷ [])) e i)

  -- what a derivation of one literal proves
  derived_in : (n h : ℕ) {b : Body} → Derived book level n (Below book level n) (pos h ∷ b) → In book level h
  derived_in n h (lower x d) = below_in n h x
  derived_in n h (here c e m d r) = subst (λ k. Derived book level k (Below book level k) (pos h ∷ [])) (sym e) (here c e m d done)

  prepend : (n h : ℕ) {b : Body} → Derived book level n (Below book level n) (pos h ∷ []) → Derived book level n (Below book level n) b
      → Derived book level n (Below book level n) (pos h ∷ b)
  prepend n h (lower x d) r = lower x r
  prepend n h (here c e m d s) r = here c e m d r

  derive_pos : (n h : ℕ) {b : Body} → Dec (level h < n) → level h ≤ n → In book level h → Derived book level n (Below book level n) b
      → Derived book level n (Below book level n) (pos h ∷ b)
  derive_pos n h (yes l) o i r = lower (in_below n h i l) r
  derive_pos n h (no l) o i r =
      let e : level h ≡ n = omega arith in
      prepend n h (subst (λ m. Derived book level m (Below book level m) (pos h ∷ [])) e i) r

  true_derived : (n : ℕ) {b : Body} → LevelBody level n b → TrueBody (In book level) b → Derived book level n (Below book level n) b
  true_derived n levels_end all_end = done
  true_derived n (levels {l = pos h} lv ls) (all t ts) = derive_pos n h (dec_lt (level h) n) lv t (true_derived n ls ts)
  true_derived n (levels {l = neg h} lv ls) (all t ts) = absent (λ x. t (below_in n h x)) (true_derived n ls ts)

pub either {ℓ} : {A B : Type 0} {C : Type ℓ} → (A → C) → (B → C) → A ⊎ B → C
either f g (inl a) = f a
either f g (inr b) = g b

pub level_head : {level : ℕ → ℕ} {n : ℕ} {l : Lit} {b : Body} → LevelBody level n (l ∷ b) → LevelLit level n l
level_head (levels v vs) = v

pub level_tail : {level : ℕ → ℕ} {n : ℕ} {l : Lit} {b : Body} → LevelBody level n (l ∷ b) → LevelBody level n b
level_tail (levels v vs) = vs

-- the first literal is false or in U
abbrev HitLit : (I U : ℕ → Type 0) → Lit → Type 0
HitLit I U (pos h) = (I h → ⊥) ⊎ U h
HitLit I U (neg h) = I h

hit_false : (I U : ℕ → Type 0) (l : Lit) → FalseLit I l → HitLit I U l
hit_false I U (pos h) f = inl f
hit_false I U (neg h) f = f

blocked_nil : {I U : ℕ → Type 0} → Blocked I U [] → ⊥
blocked_nil (inl (l, m, f)) = Memᴰ.not-nil m
blocked_nil (inr (h, m, u)) = Memᴰ.not-nil m

blocked_cons : {I U : ℕ → Type 0} {l : Lit} {b : Body} → Blocked I U (l ∷ b) → HitLit I U l ⊎ Blocked I U b
blocked_cons {I} {U} (inl (l, Memᴰ.head e, f)) = inl (subst (HitLit I U) e (hit_false I U l f))
blocked_cons (inl (l, Memᴰ.tail m, f)) = inr (inl (l, m, f))
blocked_cons {I} {U} (inr (h, Memᴰ.head e, u)) = inl (subst (HitLit I U) e (inr u))
blocked_cons (inr (h, Memᴰ.tail m, u)) = inr (inr (h, m, u))

abbrev pub Levelled : Book → (ℕ → ℕ) → Type 0
Levelled book level = (g : ℕ) (c : Body) → Memᴰ c (book g) → LevelBody level (level g) c

module _ (book : Book) (level : ℕ → ℕ) (levelled : Levelled book level) where
  -- the model is closed under the clauses
  pub closed : (g : ℕ) (c : Body) → Memᴰ c (book g) → TrueBody (In book level) c → In book level g
  closed g c m t = here c refl m (true_derived book level (level g) (levelled g c m) t) done

  -- each goal of the model has a clause that is true in it
  derived_true : (n : ℕ) {b : Body} → LevelBody level n b → Derived book level n (Below book level n) b → TrueBody (In book level) b
  derived_true n ls done = all_end
  derived_true n ls (lower {h = h} x d) = all (below_in book level n h x) (derived_true n (level_tail ls) d)
  derived_true n ls (here {h = h} c e m d r) = all (derived_in book level n h (here c e m d r)) (derived_true n (level_tail ls) r)
  derived_true n ls (absent {h = h} x d) = all {l = neg h} (λ i. x (in_below book level n h i (level_head ls)))
      (derived_true n (level_tail ls) d)

  pub supported : (g : ℕ) → In book level g → (c : Body) × Memᴰ c (book g) × TrueBody (In book level) c
  supported g (lower x d) = absurd (let o = below_lt book level (level g) g x in omega arith)
  supported g (here c e m d r) = (c, m, derived_true (level g) (levelled g c m) d)

  module _ (U : ℕ → Type 0) (blocked : (g : ℕ) → U g → (c : Body) → Memᴰ c (book g) → Blocked (In book level) U c) where
    no_body : (n : ℕ) → ((h : ℕ) → U h → Below book level n h → ⊥) → {b : Body} → LevelBody level n b
        → Derived book level n (Below book level n) b → Blocked (In book level) U b → ⊥
    no_body n low ls done k = blocked_nil k
    no_body n low ls (lower {h = h} x d) k =
        either (either (λ f. f (below_in book level n h x)) (λ u. low h u x)) (no_body n low (level_tail ls) d) (blocked_cons k)
    no_body n low ls (here {h = h} c e m d r) k =
        either (either (λ f. f (derived_in book level n h (here c e m d r)))
        (λ u. no_body n low (subst (λ i. LevelBody level i c) e (levelled h c m)) d (blocked h u c m)))
        (no_body n low (level_tail ls) r) (blocked_cons k)
    no_body n low ls (absent {h = h} x d) k =
        either (λ i. x (in_below book level n h i (level_head ls))) (no_body n low (level_tail ls) d) (blocked_cons k)

    derived_block : (n h : ℕ) → ((h : ℕ) → U h → Below book level n h → ⊥) → U h → level h ≡ n
        → Derived book level n (Below book level n) (pos h ∷ []) → ⊥
    derived_block n h low u e d = no_body n low (levels (omega arith) levels_end) d (inr (h, Memᴰ.head refl, u))

    no_below : (n h : ℕ) → U h → Below book level n h → ⊥
    no_below zero h u b = b
    no_below (suc n) h u (inl b) = no_below n h u b
    no_below (suc n) h u (inr p) = derived_block n h (no_below n) u p.0 p.1

    -- no goal of an unfounded set is in the model
    pub unfounded : (h : ℕ) → U h → In book level h → ⊥
    unfounded h u d = derived_block (level h) h (no_below (level h)) u refl d
