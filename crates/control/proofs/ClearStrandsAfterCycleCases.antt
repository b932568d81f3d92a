-- `clear_strands_after_cycle` at its tests' answers: what `clear` says of an empty queue and of one that is taken, and one step along the
-- places taken. The bound of the model is out of sight from here on: any number that is not below the waiting strands will do.
use Prim.Native.Nat.{ℕ, zero, suc, ◌+◌, ◌-◌, ◌≤◌, ◌<◌}
use native.Mathlib.Nat.{mod-lt}
use native.Mathlib.Omega.{arith}
use mathlib.Core.Path.{◌≡◌, refl, sym, ap, ap₂, ◌∙◌}
use mathlib.Core.Bool.{Bool, true, false}
use mathlib.Core.List.{List, [], ◌∷◌}
use lib.ListN.{get_or, set}
use lib.Seq.{get_or-set_other}
use lib.Dec.{eqb, ltb}
use borrow.Author.Tests.{lt-ltb, le-ltb, eq-eqb, ne_eqb, eqb-true, eqb-false}
use Rattle.rings.specs.Rings.{joined, RingMove}
use Rattle.control.specs.declared.clear_strands_after_cycle.Cleared.{Cleared}
use Rattle.control.specs.ClearStrandsAfterCycle.{
  cleared,
  lengths,
  live,
  awaited,
  met,
  taken,
  first_place,
  clear_each,
  clear_within,
  clear,
}

-- HOW MANY WAIT
set_zero : (l : List ℕ) (i : ℕ) → get_or (set l i 0) i 0 ≡ 0
set_zero [] i = refl
set_zero (x ∷ l) zero = refl
set_zero (x ∷ l) (suc i) = set_zero l i

lengths_above : (n i x : ℕ) (l : List ℕ) → n ≤ i → lengths n (set l i x) ≡ lengths n l
unfolding lengths
lengths_above zero i x l h = refl
lengths_above (suc n) i x l h =
    ap₂ (λ (a b : ℕ). a + b) (get_or-set_other l i n x 0 (λ e. omega arith)) (lengths_above n i x l (omega arith))

lengths_one : (n t : ℕ) (l : List ℕ) (b : Bool) → eqb n t ≡ b → (t < n → lengths n (set l t 0) + get_or l t 0 ≡ lengths n l) → t < suc n
    → get_or (set l t 0) n 0 + lengths n (set l t 0) + get_or l t 0 ≡ get_or l n 0 + lengths n l
lengths_one n t l true e below h =
    let i : n ≡ t = eqb-true n t e in
    let a : get_or (set l t 0) n 0 ≡ 0 = ap (λ (k : ℕ). get_or (set l t 0) k 0) i ∙ set_zero l t in
    omega (arith, a, ap (λ (k : ℕ). get_or l k 0) i, lengths_above n t 0 l (omega arith))
lengths_one n t l false e below h =
    let d : n ≡ t → ⊥ = eqb-false n t e in
    omega (arith, get_or-set_other l t n 0 0 d, below (omega arith))

lengths_emptied : (n t : ℕ) (l : List ℕ) → t < n → lengths n (set l t 0) + get_or l t 0 ≡ lengths n l
unfolding lengths
lengths_emptied zero t l h = absurd (omega arith)
lengths_emptied (suc n) t l h = lengths_one n t l (eqb n t) refl (lengths_emptied n t l) h

table_small : (w : ℕ) → awaited w < 64
table_small w = mod-lt w (omega arith)

-- as many fewer as the queue that is taken had
pub live_taken : (w : ℕ) (c : Cleared) → live (taken (awaited w) c) + get_or c.len (awaited w) 0 ≡ live c
live_taken w c =
    let t = awaited w in
    let a : live (taken t c) ≡ lengths 64 (set c.len t 0) = lengths_above 64 64 (joined (get_or c.len 64 0) (get_or c.len t 0))
    (set c.len t 0) (omega arith) in
    omega (arith, lengths_emptied 64 t c.len (table_small w))

-- a call's work on a table, that leaves no more waiting than there were
abbrev Call : Type 0
Call = ℕ → Cleared → Cleared

abbrev Falling : Call → Type 0
Falling go = (w : ℕ) (c : Cleared) → live (go w c) ≤ live c

module _ (waits : List ℕ) where
  -- a call at its test's answer, and one step along the places taken at its two tests' answers
  abbrev entered : (empty : Bool) → Call → (t : ℕ) → Cleared → Cleared
  entered empty go t c = elim empty [ true ↦ c | false ↦ clear_each waits go (get_or c.len t 0) (first_place t c) (taken t c) ]

  abbrev after : (was_met : Bool) → Call → (m p : ℕ) → Cleared → Cleared
  after was_met go m p d = elim was_met [ true ↦ d | false ↦ clear_each waits go m (get_or d.next p 0) d ]

  abbrev step : (selected : Bool) → Call → (m p : ℕ) → (c d : Cleared) → Cleared
  step selected go m p c d = elim selected [ false ↦ met c | true ↦ after d.met_29 go m p d ]

  -- NO MORE WAIT
  after_falls : (b : Bool) (go : Call) (m p : ℕ) (d : Cleared) → live (clear_each waits go m (get_or d.next p 0) d) ≤ live d
      → live (after b go m p d) ≤ live d
  after_falls true go m p d h = omega arith
  after_falls false go m p d h = h

  step_falls : (b : Bool) (go : Call) (m p : ℕ) (c d : Cleared) → live d ≤ live c → live (after d.met_29 go m p d) ≤ live d
      → live (step b go m p c d) ≤ live c
  step_falls true go m p c d h i = omega (arith, i)
  step_falls false go m p c d h i = omega arith

  each_falls : (go : Call) → Falling go → (m p : ℕ) (c : Cleared) → live (clear_each waits go m p c) ≤ live c
  unfolding clear_each
  each_falls go f zero p c = omega arith
  each_falls go f (suc m) p c =
      let d = go (get_or waits p 0) c in
      step_falls (ltb (get_or waits p 0) 128) go m p c d (f (get_or waits p 0) c)
      (after_falls d.met_29 go m p d (each_falls go f m (get_or d.next p 0) d))

  entered_falls : (b : Bool) (go : Call) (w : ℕ) (c : Cleared) → Falling go → live (entered b go (awaited w) c) ≤ live c
  entered_falls true go w c f = omega arith
  entered_falls false go w c f = omega (
    arith,
    live_taken w c,
    each_falls go f (get_or c.len (awaited w) 0) (first_place (awaited w) c) (taken (awaited w) c),
  )

  within_falls : (bound : ℕ) → Falling (clear_within waits bound)
  unfolding clear_within
  within_falls zero w c = omega arith
  within_falls (suc bound) w c =
      entered_falls (eqb (get_or c.len (awaited w) 0) 0) (clear_within waits bound) w c (within_falls bound)

  pub clear_falls : Falling (clear waits)
  clear_falls w c = within_falls (live c) w c

  -- TWO THAT AGREE where at most k wait leave the same
  abbrev Agree : ℕ → Call → Call → Type 0
  Agree k go go' = (w : ℕ) (c : Cleared) → live c ≤ k → go w c ≡ go' w c

  after_same : (b : Bool) (go go' : Call) (m p : ℕ) (d : Cleared)
      → clear_each waits go m (get_or d.next p 0) d ≡ clear_each waits go' m (get_or d.next p 0) d → after b go m p d ≡ after b go' m p d
  after_same true go go' m p d e = refl
  after_same false go go' m p d e = e

  step_same : (b : Bool) (go go' : Call) (m p : ℕ) (c d d' : Cleared) → d ≡ d'
      → after d.met_29 go m p d ≡ after d.met_29 go' m p d
      → step b go m p c d ≡ step b go' m p c d'
  step_same true go go' m p c d d' e i = i ∙ ap (step true go' m p c) e
  step_same false go go' m p c d d' e i = refl

  each_same : (go go' : Call) (k : ℕ) → Falling go → Agree k go go' → (m p : ℕ) (c : Cleared) → live c ≤ k
      → clear_each waits go m p c ≡ clear_each waits go' m p c
  unfolding clear_each
  each_same go go' k f agree zero p c h = refl
  each_same go go' k f agree (suc m) p c h =
      let d = go (get_or waits p 0) c in
      step_same (ltb (get_or waits p 0) 128) go go' m p c d (go' (get_or waits p 0) c) (agree (get_or waits p 0) c h)
      (after_same d.met_29 go go' m p d
      (each_same go go' k f agree m (get_or d.next p 0) d (omega (arith, f (get_or waits p 0) c))))

  entered_same : (b : Bool) (go go' : Call) (w : ℕ) (c : Cleared) → eqb (get_or c.len (awaited w) 0) 0 ≡ b → Falling go
      → ((k : ℕ) → k < live c → Agree k go go') → entered b go (awaited w) c ≡ entered b go' (awaited w) c
  entered_same true go go' w c e f agree = refl
  entered_same false go go' w c e f agree =
      let t = awaited w in
      let n : get_or c.len t 0 ≡ 0 → ⊥ = eqb-false (get_or c.len t 0) 0 e in
      each_same go go' (live (taken t c)) f (agree (live (taken t c)) (omega (arith, live_taken w c)))
      (get_or c.len t 0) (first_place t c) (taken t c) (omega arith)

  -- an empty queue, at any bound
  within_empty : (b w : ℕ) (c : Cleared) → get_or c.len (awaited w) 0 ≡ 0 → clear_within waits b w c ≡ c
  unfolding clear_within
  within_empty zero w c e = refl
  within_empty (suc b) w c e =
      ap (λ (x : Bool). entered x (clear_within waits b) (awaited w) c) (eq-eqb (get_or c.len (awaited w) 0) 0 e)

  none_wait : (w : ℕ) (c : Cleared) → live c ≤ 0 → get_or c.len (awaited w) 0 ≡ 0
  none_wait w c h = omega (arith, live_taken w c)

  -- two bounds that are enough
  within_same : (b b' w : ℕ) (c : Cleared) → live c ≤ b → live c ≤ b' → clear_within waits b w c ≡ clear_within waits b' w c
  unfolding clear_within
  within_same zero b' w c h h' = sym (within_empty b' w c (none_wait w c h))
  within_same (suc b) zero w c h h' = within_empty (suc b) w c (none_wait w c h')
  within_same (suc b) (suc b') w c h h' =
      entered_same (eqb (get_or c.len (awaited w) 0) 0) (clear_within waits b) (clear_within waits b') w c refl (within_falls b)
      (λ k i v d j. within_same b b' v d (omega arith) (omega arith))

  -- THE CALL: an empty queue is left, and of another the places are gone through when it is taken
  pub clear_empty : (w : ℕ) (c : Cleared) → get_or c.len (awaited w) 0 ≡ 0 → clear waits w c ≡ c
  clear_empty w c e = within_empty (live c) w c e

  entered_clear : (b w : ℕ) (c : Cleared) → live c ≡ b → (get_or c.len (awaited w) 0 ≡ 0 → ⊥)
      → clear_within waits b w c ≡ entered false (clear waits) (awaited w) c
  unfolding clear_within
  entered_clear zero w c e n = absurd (n (none_wait w c (omega arith)))
  entered_clear (suc b) w c e n =
      let some = ne_eqb (get_or c.len (awaited w) 0) 0 n in
      ap (λ (x : Bool). entered x (clear_within waits b) (awaited w) c) some
      ∙ entered_same false (clear_within waits b) (clear waits) w c some (within_falls b)
      (λ k i v d j. within_same b (live d) v d (omega arith) (omega arith))

  pub clear_some : (w : ℕ) (c : Cleared) → (get_or c.len (awaited w) 0 ≡ 0 → ⊥)
      → clear waits w c ≡ clear_each waits (clear waits) (get_or c.len (awaited w) 0) (first_place (awaited w) c) (taken (awaited w) c)
  clear_some w c n = entered_clear (live c) w c refl n

  -- THE LOOP: one place more, at the answers of its tests; m places are left
  module _ (go : Call) where
    pub each_over : (m p : ℕ) (c : Cleared) → m ≤ 0 → clear_each waits go m p c ≡ c
    unfolding clear_each
    each_over zero p c h = refl
    each_over (suc m) p c h = absurd (omega arith)

    pub each_nothing : (m p : ℕ) (c : Cleared) → 0 < m → 128 ≤ get_or waits p 0 → clear_each waits go m p c ≡ met c
    unfolding clear_each
    each_nothing zero p c h k = absurd (omega arith)
    each_nothing (suc m) p c h k =
        ap (λ (x : Bool). step x go m p c (go (get_or waits p 0) c)) (le-ltb (get_or waits p 0) 128 k)

    pub each_step : (m p : ℕ) (c : Cleared) → get_or waits p 0 < 128 → (d : Cleared) → go (get_or waits p 0) c ≡ d → (b : Bool)
        → d.met_29 ≡ b
        → clear_each waits go (suc m) p c ≡ after b go m p d
    unfolding clear_each
    each_step m p c k d e b f = ap (λ (x : Bool). step x go m p c (go (get_or waits p 0) c)) (lt-ltb (get_or waits p 0) 128 k)
        ∙ ap (step true go m p c) e ∙ ap (λ (x : Bool). after x go m p d) f

    pub each_met : (m p : ℕ) (c : Cleared) → 0 < m → get_or waits p 0 < 128 → (d : Cleared) → go (get_or waits p 0) c ≡ d → d.met_29 ≡ true
        → clear_each waits go m p c ≡ d
    each_met zero p c h k d e f = absurd (omega arith)
    each_met (suc m) p c h k d e f = each_step m p c k d e true f

    pub each_on : (m p : ℕ) (c : Cleared) → 0 < m → get_or waits p 0 < 128 → (d : Cleared) → go (get_or waits p 0) c ≡ d → d.met_29 ≡ false
        → clear_each waits go m p c ≡ clear_each waits go (m - 1) (get_or d.next p 0) d
    each_on zero p c h k d e f = absurd (omega arith)
    each_on (suc m) p c h k d e f =
        let n : m ≡ suc m - 1 = omega arith in
        each_step m p c k d e false f ∙ ap (λ (x : ℕ). clear_each waits go x (get_or d.next p 0) d) n

-- THE CODE takes a queue by `ring_move`: k is the table as an index, a the last place of its queue, p the first
module _ (waits next tail len n' t' l' : List ℕ) (w k a p : ℕ) (table : k ≡ awaited w) (some : get_or len k 0 ≡ 0 → ⊥)
    (last : a ≡ get_or tail k 0) (first : p ≡ get_or next a 0) (did : RingMove next tail len (awaited w) 64 n' t' l') where
  abbrev entry : Cleared
  entry = cleared false next tail len

  moved : cleared false n' t' l' ≡ taken (awaited w) entry
  moved =
      let d = did.moves (λ e. omega (arith, table_small w)) in
      cc

  found : get_or len (awaited w) 0 ≡ 0 → ⊥
  found e = some (ap (λ (x : ℕ). get_or len x 0) table ∙ e)

  pub code_clears : clear waits w entry ≡ clear_each waits (clear waits) (get_or len k 0) p (cleared false n' t' l')
  code_clears =
      let place : p ≡ first_place (awaited w) entry =
      first ∙ ap (λ (x : ℕ). get_or next x 0) (last ∙ ap (λ (x : ℕ). get_or tail x 0) table) in
      clear_some waits w entry found
      ∙ ap₂ (λ (m q : ℕ). clear_each waits (clear waits) m q (taken (awaited w) entry)) (ap (λ (x : ℕ). get_or len x 0) (sym table))
      (sym place)
      ∙ ap (clear_each waits (clear waits) (get_or len k 0) p) (sym moved)

  pub code_falls : lengths 64 l' < lengths 64 len
  code_falls =
      let e : lengths 64 l' ≡ live (taken (awaited w) entry) = ap live moved in
      omega (arith, live_taken w entry, found)
