-- Laws of walks along links: where links lead, chains, and what a write to one link does to a chain; and the ring functions at their tests'
-- answers.
use Prim.Native.Nat.{ℕ, zero, suc, ◌-◌, ◌≤◌, ◌<◌}
use native.Mathlib.Omega.{arith}
use mathlib.Core.Path.{◌≡◌, refl, sym, ap, ap₂, subst, ◌∙◌}
use mathlib.Core.Bool.{Bool, true, false}
use mathlib.Core.List.{List, [], ◌∷◌, ◌++◌}
use lib.ListN.{length, take, get_or, set, length-set}
use lib.Seq.{get_or-set_same, get_or-set_other, set-get_or}
use lib.Dec.{eqb, ltb}
use borrow.Author.Tests.{eq-eqb, ne_eqb, lt-ltb, le-ltb}
use Rattle.rings.specs.Lists.{one, times}
use Rattle.rings.specs.Rings.{
  walk,
  end,
  Chain,
  ring_of,
  place_if,
  has_any,
  unlinked,
  shortened,
  popped_next,
  RingMoved,
  moved_next,
  moved_tail,
  joined,
}

pub length_walk : (m : ℕ) (next : List ℕ) (a : ℕ) → length (walk m next a) ≡ m
length_walk zero next a = refl
length_walk (suc m) next a = ap suc (length_walk m next (get_or next a 0))

-- a queue is as long as its number says
pub ring_size : (next tail len : List ℕ) (t : ℕ) → length (ring_of next tail len t) ≡ get_or len t 0
ring_size next tail len t = length_walk (get_or len t 0) next (get_or tail t 0)

pub end_append : (a : ℕ) (l m : List ℕ) → end a (l ++ m) ≡ end (end a l) m
end_append a [] m = refl
end_append a (x ∷ l) m = end_append x l m

-- one link on
pub walk_step : (n : ℕ) (next : List ℕ) (a : ℕ) → 0 < n → walk n next a ≡ get_or next a 0 ∷ walk (n - 1) next (get_or next a 0)
walk_step zero next a h = absurd (omega arith)
walk_step (suc n) next a h = let e : n ≡ suc n - 1 = omega arith in ap (λ (k : ℕ). get_or next a 0 ∷ walk k next (get_or next a 0)) e

-- the place that n links lead to
abbrev pub after : ℕ → List ℕ → ℕ → ℕ
after zero next a = a
after (suc n) next a = after n next (get_or next a 0)

pub after_step : (n : ℕ) (next : List ℕ) (a : ℕ) → 0 < n → after n next a ≡ after (n - 1) next (get_or next a 0)
after_step zero next a h = absurd (omega arith)
after_step (suc n) next a h = let e : n ≡ suc n - 1 = omega arith in ap (λ (k : ℕ). after k next (get_or next a 0)) e

-- the place at j is the one behind where j links lead
pub walk_after : (m : ℕ) (next : List ℕ) (a j : ℕ) → j < m → get_or (walk m next a) j 0 ≡ get_or next (after j next a) 0
walk_after zero next a j h = absurd (omega arith)
walk_after (suc m) next a zero h = refl
walk_after (suc m) next a (suc j) h = walk_after m next (get_or next a 0) j (omega arith)

-- CHAINS
pub chain_walk : (next : List ℕ) (a : ℕ) (l : List ℕ) (b : ℕ) → Chain next a l b → walk (length l) next a ≡ l
chain_walk next a [] b c = refl
chain_walk next a (x ∷ l) b c =
    ap₂ (λ (y : ℕ) (k : List ℕ). y ∷ k) c.0 (ap (walk (length l) next) c.0 ∙ chain_walk next x l b c.1)

pub chain_end : (next : List ℕ) (a : ℕ) (l : List ℕ) (b : ℕ) → Chain next a l b → end a l ≡ b
chain_end next a [] b c = c
chain_end next a (x ∷ l) b c = chain_end next x l b c.1

pub chain_join : (next : List ℕ) (a : ℕ) (l : List ℕ) (b : ℕ) (m : List ℕ) (c : ℕ) → Chain next a l b → Chain next b m c
    → Chain next a (l ++ m) c
chain_join next a [] b m c p q = subst (λ (x : ℕ). Chain next x m c) (sym p) q
chain_join next a (x ∷ l) b m c p q = (p.0, chain_join next x l b m c p.1 q)

pub chain_front : (next : List ℕ) (a : ℕ) (l m : List ℕ) (c : ℕ) → Chain next a (l ++ m) c → Chain next a l (end a l)
chain_front next a [] m c p = refl
chain_front next a (x ∷ l) m c p = (p.0, chain_front next x l m c p.1)

pub chain_back : (next : List ℕ) (a : ℕ) (l m : List ℕ) (c : ℕ) → Chain next a (l ++ m) c → Chain next (end a l) m c
chain_back next a [] m c p = p
chain_back next a (x ∷ l) m c p = chain_back next x l m c p.1

-- the end of a chain is in it
pub chain_last : (next : List ℕ) (a x : ℕ) (l : List ℕ) (b : ℕ) → Chain next a (x ∷ l) b → 1 ≤ times b (x ∷ l)
chain_last next a x [] b c = omega (arith, ap one (eq-eqb b x (sym c.1)))
chain_last next a x (y ∷ l) b c = omega (arith, chain_last next x y l b c.1)

-- a write to a link that the chain does not go by
pub chain_frame : (next : List ℕ) (z v a : ℕ) (l : List ℕ) (b : ℕ) → Chain next a l b → (a ≡ z → ⊥) → times z l ≡ 0
    → Chain (set next z v) a l b
chain_frame next z v a [] b c n e = c
chain_frame next z v a (x ∷ l) b c n e =
    let o : one (eqb z x) ≡ 0 = omega arith in (
      get_or-set_other next z a v 0 n ∙ c.0,
      chain_frame next z v x l b c.1 (λ d. omega (arith, o, ap one (eq-eqb z x (sym d)))) (omega arith),
    )

-- a write to the link of the place where it ends
pub chain_keep : (next : List ℕ) (z v a : ℕ) (l : List ℕ) → Chain next a l z → times z (a ∷ l) ≤ 1 → Chain (set next z v) a l z
chain_keep next z v a [] c h = c
chain_keep next z v a (x ∷ l) c h = (
  get_or-set_other next z a v 0 (λ d. omega (arith, chain_last next a x l z c, ap one (eq-eqb z a (sym d)))) ∙ c.0,
  chain_keep next z v x l c.1 (omega arith),
)

-- a ring: the same, with no word on where it starts
pub ring_frame : (next : List ℕ) (z v a : ℕ) (l : List ℕ) → Chain next a l a → times z l ≡ 0 → Chain (set next z v) a l a
ring_frame next z v a [] c e = c
ring_frame next z v a (x ∷ l) c e =
    chain_frame next z v a (x ∷ l) a c (λ d. omega (arith, chain_last next a x l a c, ap (λ (k : ℕ). times k (x ∷ l)) d)) e

-- a chain from p to z becomes a ring at z when z's link is set to where p's leads
pub ring_turn : (next : List ℕ) (p z : ℕ) (l : List ℕ) → Chain next p l z → times z l ≤ 1 → (1 ≤ times z l → z < length next)
    → Chain (set next z (get_or next p 0)) z l z
ring_turn next p z [] c h k = refl
ring_turn next p z (x ∷ l) c h k =
    (get_or-set_same next z (get_or next p 0) 0 (k (chain_last next p x l z c)) ∙ c.0, chain_keep next z (get_or next p 0) x l c.1 h)

-- the place at j is the one behind the end of those before it
pub walk_at : (m : ℕ) (next : List ℕ) (a j : ℕ) → j < m → get_or (walk m next a) j 0 ≡ get_or next (end a (take j (walk m next a))) 0
walk_at zero next a j h = absurd (omega arith)
walk_at (suc m) next a zero h = refl
walk_at (suc m) next a (suc j) h = walk_at m next (get_or next a 0) j (omega arith)

-- where a chain ends: at its start or in it
pub chain_in : (next : List ℕ) (a : ℕ) (l : List ℕ) (b : ℕ) → Chain next a l b → 1 ≤ times b (a ∷ l)
chain_in next a [] b c = omega (arith, ap one (eq-eqb b a (sym c)))
chain_in next a (x ∷ l) b c = omega (arith, chain_last next a x l b c)

-- a place p is linked in behind the last place l of a ring
pub ring_append : (next : List ℕ) (l p x : ℕ) (m : List ℕ) → Chain next l (x ∷ m) l → times p (x ∷ m) ≡ 0 → times l (x ∷ m) ≤ 1
    → p < length next → l < length next → Chain (set (set next p (get_or next l 0)) l p) p ((x ∷ m) ++ (p ∷ [])) p
ring_append next l p x m c fresh once hp hl =
    let next₁ : List ℕ = set next p (get_or next l 0) in
    let apart : l ≡ p → ⊥ = λ e. omega (arith, chain_last next l x m l c, ap (λ (k : ℕ). times k (x ∷ m)) e) in
    let c₁ : Chain next₁ l (x ∷ m) l = ring_frame next p (get_or next l 0) l (x ∷ m) c fresh in
    let c₂ : Chain next₁ p (x ∷ m) l = (get_or-set_same next p (get_or next l 0) 0 hp ∙ c.0, c₁.1) in
    let c₃ : Chain (set next₁ l p) p (x ∷ m) l = chain_keep next₁ l p p (x ∷ m) c₂ (omega (arith, ap one (ne_eqb l p apart))) in
    let h : l < length next₁ = omega (arith, length-set next p (get_or next l 0)) in
    chain_join (set next₁ l p) p (x ∷ m) l (p ∷ []) p c₃ (get_or-set_same next₁ l p 0 h, refl)

-- two rings become one: those of b, and then those of a, when their last places' links are exchanged
pub ring_splice : (next : List ℕ) (a b x y : ℕ) (l m : List ℕ) → Chain next a (x ∷ l) a → Chain next b (y ∷ m) b
    → times a (y ∷ m) ≡ 0 → times b (x ∷ l) ≡ 0 → times a (x ∷ l) ≤ 1 → times b (y ∷ m) ≤ 1 → a < length next → b < length next
    → Chain (set (set next a (get_or next b 0)) b (get_or next a 0)) a ((y ∷ m) ++ (x ∷ l)) a
ring_splice next a b x y l m ca cb a∉ b∉ a≤ b≤ ha hb =
    let next₁ : List ℕ = set next a (get_or next b 0) in
    let next₂ : List ℕ = set next₁ b (get_or next a 0) in
    let apart : b ≡ a → ⊥ = λ e. omega (arith, chain_last next b y m b cb, ap (λ (k : ℕ). times k (y ∷ m)) e) in
    let y≢a : y ≡ a → ⊥ = λ e. omega (arith, a∉, ap one (eq-eqb a y (sym e))) in
    let x≢b : x ≡ b → ⊥ = λ e. omega (arith, b∉, ap one (eq-eqb b x (sym e))) in
    let c₁ : Chain next₁ a (y ∷ m) b = (
      get_or-set_same next a (get_or next b 0) 0 ha
          ∙ cb.0,
      chain_frame next a (get_or next b 0) y m b cb.1 y≢a (omega arith),
    ) in
    let c₂ : Chain next₂ a (y ∷ m) b = chain_keep next₁ b (get_or next a 0) a (y ∷ m) c₁ (omega (arith, ap one (ne_eqb b a apart))) in
    let h : b < length next₁ = omega (arith, length-set next a (get_or next b 0)) in
    let d₁ : Chain next₁ x l a = chain_keep next a (get_or next b 0) x l ca.1 a≤ in
    let d₂ : Chain next₂ b (x ∷ l) a = (
      get_or-set_same next₁ b (get_or next a 0) 0 h
          ∙ ca.0,
      chain_frame next₁ b (get_or next a 0) x l a d₁ x≢b (omega arith),
    ) in
    chain_join next₂ a (y ∷ m) b (x ∷ l) a c₂ d₂

-- `ring_move` at the tests' answers
pub ring_moved : (next tail len : List ℕ) (f g : ℕ) (x y : Bool) (s : ℕ) → eqb (get_or len f 0) 0 ≡ x → eqb (get_or len g 0) 0 ≡ y
    → s ≡ joined (get_or len g 0) (get_or len f 0)
    → RingMoved next tail len f g (moved_next x y next (get_or tail f 0) (get_or tail g 0)) (moved_tail x tail g (get_or tail f 0))
    (set (set len f 0) g s)
ring_moved next tail len f g x y s ex ey es = record {
  links = ap₂ (λ (u v : Bool). moved_next u v next (get_or tail f 0) (get_or tail g 0)) (sym ex) (sym ey);
  ends = ap (λ (u : Bool). moved_tail u tail g (get_or tail f 0)) (sym ex);
  size = ap (set (set len f 0) g) es;
}

-- `ring_unlink`
pub unlink_is : (next len : List ℕ) (t b p k : ℕ) → p ≡ get_or next b 0 → k ≡ get_or len t 0 - 1
    → (set next b (get_or next p 0) ≡ unlinked next b) × (set len t k ≡ shortened len t)
unlink_is next len t b p k ep ek = (ap (λ (x : ℕ). set next b (get_or next x 0)) ep, ap (set len t) ek)

-- `ring_pop` at the test's answers
module _ (next tail len : List ℕ) (t : ℕ) where
  abbrev a : ℕ
  a = get_or tail t 0

  pub pop_none : get_or len t 0 ≡ 0
      → (256 ≡ place_if (has_any len t) (get_or next a 0)) × (next ≡ popped_next (has_any len t) next a) × (len ≡ shortened len t)
  pop_none e =
      let b : has_any len t ≡ false = le-ltb 0 (get_or len t 0) (omega arith) in
      let z : get_or len t 0 - 1 ≡ get_or len t 0 = omega arith in (
        sym (ap (λ (c : Bool). place_if c (get_or next a 0)) b),
        sym (ap (λ (c : Bool). popped_next c next a) b),
        sym (ap (set len t) z ∙ set-get_or len t 0),
      )

  pub pop_some : (get_or len t 0 ≡ 0 → ⊥)
      → (get_or next a 0 ≡ place_if (has_any len t) (get_or next a 0)) × (unlinked next a ≡ popped_next (has_any len t) next a)
  pop_some n =
      let b : has_any len t ≡ true = lt-ltb 0 (get_or len t 0) (omega arith) in
      (sym (ap (λ (c : Bool). place_if c (get_or next a 0)) b), sym (ap (λ (c : Bool). popped_next c next a) b))

-- `ring_at` at the test's answers
module _ (next tail len : List ℕ) (t index : ℕ) where
  abbrev at : ℕ
  at = get_or (ring_of next tail len t) index 0

  pub at_none : get_or len t 0 ≤ index → 256 ≡ place_if (ltb index (get_or len t 0)) at
  at_none h = sym (ap (λ (c : Bool). place_if c at) (le-ltb index (get_or len t 0) h))

  pub at_some : index < get_or len t 0 → (p : ℕ) → p ≡ after index next (get_or tail t 0)
      → get_or next p 0 ≡ place_if (ltb index (get_or len t 0)) at
  at_some h p e =
      ap (λ (x : ℕ). get_or next x 0) e ∙ sym (walk_after (get_or len t 0) next (get_or tail t 0) index h)
      ∙ sym (ap (λ (c : Bool). place_if c at) (lt-ltb index (get_or len t 0) h))
