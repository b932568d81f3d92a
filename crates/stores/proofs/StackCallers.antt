-- The two forms of `pop` that give the caller's strand, as the definitions', and the places that the entries hold, for each operation.
-- From the views of EntryViews.
use Prim.Native.Nat.{ℕ, zero, suc, ◌+◌, ◌-◌, ◌≤◌, ◌<◌}
use native.Mathlib.Omega.{arith}
use native.Mathlib.Numerals.{add-one}
use mathlib.Core.Path.{◌≡◌, refl, sym, ap, ap₂, subst, ◌∙◌}
use mathlib.Core.Bool.{Bool, true, false}
use mathlib.Core.Option.{Option, none, some}
use mathlib.Core.List.{List, ◌∷◌}
use lib.ListN.{length, get_or, set, length-set}
use lib.Seq.{get_or-set_same, get_or-set_other}
use lib.Dec.{eqb}
use borrow.Author.Tests.{lt-ltb, eq-eqb, ne_eqb, eqb-true, eqb-false}
use Rattle.definitions.specs.Stop.{go, ◌>>=◌, unwrap}
use Rattle.definitions.specs.Stack.{
  StackEntry,
  with_active,
  no_caller,
  caller,
  pop_and_take_caller_strand,
  pop_and_borrow_caller_strand,
  active,
  active_count,
}
use Rattle.definitions.specs.Strand as said_strand
use Rattle.rings.specs.Lists.{times}
use Rattle.sizes.specs.Limits.{most_places}
use Rattle.rings.specs.Rings.{place_if}
use Rattle.rings.proofs.Counts.{times_self}
use Rattle.stores.specs.declared.queue.Strands.{Strands}
use Rattle.stores.specs.declared.stack.Stack.{Stack}
use Rattle.stores.specs.View.{FirstStrands, strand_at, active_strand_at, entry_at, entries, entered, active_places}
use Rattle.stores.specs.Sound.{SoundStack}
use Rattle.stores.specs.Numbers.{set_if, add_if}
use Rattle.stores.specs.Stack.{has_caller, caller_place, caller_written, top_written, pushed, popped, caller_taken, activated}
use Rattle.stores.proofs.QueueStores.{HeldStill}
use Rattle.stores.proofs.StackCases.{some_caller, some_top}
use Rattle.stores.proofs.StackViews.{entries_same, entered_kept}

pub no_caller_view : (fresh : FirstStrands) (k : Stack) (s : Strands) → k.depth < 2
    → (pop_and_take_caller_strand (entered fresh k s) ≡ go no_caller) × (pop_and_borrow_caller_strand (entered fresh k s) ≡ go no_caller)
no_caller_view fresh k s h = go_on k.depth h
  where
    go_on : (n : ℕ) → n < 2 → (pop_and_take_caller_strand (entries fresh k s n) ≡ go no_caller)
        × (pop_and_borrow_caller_strand (entries fresh k s n) ≡ go no_caller)
    go_on zero h = (refl, refl)
    go_on (suc zero) h = (refl, refl)
    go_on (suc (suc n)) h = absurd (omega arith)

module _ (fresh : FirstStrands) (k : Stack) (s : Strands) (sound : SoundStack k) (two : 2 ≤ k.depth) where
  abbrev j : ℕ
  j = k.depth - 2

  abbrev p : ℕ
  p = get_or k.active j 0

  has : has_caller k.depth ≡ true
  has = some_caller k.depth two sound.few

  pub caller_place_is : caller_place k.depth k.active ≡ get_or k.active (k.depth - 2) 0
  caller_place_is = ap (λ (b : Bool). place_if b p) has

  abbrev k' : Stack
  k' = record {
    depth = k.depth - 1;
    table = k.table;
    clock = k.clock;
    positive = k.positive;
    negative = k.negative;
    active = set k.active j 256;
  }

  taken_is : caller_taken k ≡ k'
  taken_is = ap (λ (b : Bool). record {
    depth = k.depth - 1;
    table = k.table;
    clock = k.clock;
    positive = k.positive;
    negative = k.negative;
    active = set_if b j 256 k.active;
  }) has

  whole : entered fresh k s ≡ entry_at fresh k s (suc j) ∷ entry_at fresh k s j ∷ entries fresh k s j
  whole = let e : k.depth ≡ suc (suc j) = omega arith in ap (entries fresh k s) e

  module _ (some_strand : caller_place k.depth k.active ≡ 256 → ⊥) where
    is_some : active_strand_at fresh s p ≡ some (strand_at fresh s p)
    is_some = ap (λ (b : Bool). elim b as (λ (c : Bool). Option said_strand.Strand) [ true ↦ none | false ↦ some (strand_at fresh s p) ])
        (ne_eqb p 256 (λ e. some_strand (caller_place_is ∙ e)))

    popped_top : entered fresh (popped k) s ≡ entry_at fresh k s j ∷ entries fresh k s j
    popped_top = let e : k.depth - 1 ≡ suc j = omega arith in ap (entries fresh (popped k) s) e
        ∙ ap (λ (es : List StackEntry). entry_at fresh k s j ∷ es) (entries_same fresh k (popped k) s s j (λ i h. refl))

    taken_top : entered fresh (caller_taken k) s ≡ with_active (entry_at fresh k s j) none ∷ entries fresh k s j
    taken_top =
        let e : k.depth - 1 ≡ suc j = omega arith in
        ap (λ (r : Stack). entered fresh r s) taken_is ∙ ap (entries fresh k' s) e
        ∙ ap₂ (λ (x : Option said_strand.Strand) (es : List StackEntry). with_active (entry_at fresh k s j) x ∷ es)
        (ap (active_strand_at fresh s) (get_or-set_same k.active j 256 0 (omega (arith, sound.few, sound.long_active))))
        (entries_same fresh k k' s s j (λ i h. ap (λ (q : ℕ). with_active (entry_at fresh k s i) (active_strand_at fresh s q))
        (get_or-set_other k.active j i 256 0 (λ e. omega arith))))

    pub borrow_caller_view : pop_and_borrow_caller_strand (entered fresh k s) ≡ go
        (caller (strand_at fresh s (caller_place k.depth k.active)) (entered fresh (popped k) s))
    borrow_caller_view =
        ap pop_and_borrow_caller_strand whole
        ∙ ap (λ (o : Option said_strand.Strand). unwrap o >>= λ x. go (caller x (entry_at fresh k s j ∷ entries fresh k s j))) is_some
        ∙ ap₂ (λ (x : said_strand.Strand) (es : List StackEntry). go (caller x es)) (ap (strand_at fresh s) (sym caller_place_is))
        (sym popped_top)

    pub take_caller_view : pop_and_take_caller_strand (entered fresh k s) ≡ go
        (caller (strand_at fresh s (caller_place k.depth k.active)) (entered fresh (caller_taken k) s))
    take_caller_view =
        ap pop_and_take_caller_strand whole
        ∙ ap (λ (o : Option said_strand.Strand). unwrap o >>= λ x. go
        (caller x (with_active (entry_at fresh k s j) none ∷ entries fresh k s j))) is_some
        ∙ ap₂ (λ (x : said_strand.Strand) (es : List StackEntry). go (caller x es)) (ap (strand_at fresh s) (sym caller_place_is))
        (sym taken_top)

  pub take_caller_sound : SoundStack (caller_taken k)
  take_caller_sound = subst SoundStack (sym taken_is) (record {
    few = omega (arith, sound.few);
    long_table = sound.long_table;
    long_clock = sound.long_clock;
    long_positive = sound.long_positive;
    long_negative = sound.long_negative;
    long_active = length-set k.active j 256 ∙ sound.long_active;
    places = λ i h. at i (eqb i j) refl h;
  })
    where
      at : (i : ℕ) (b : Bool) → eqb i j ≡ b → i < k.depth - 1 → get_or (set k.active j 256) i 0 ≤ 256
      at i true e h = omega (
        arith,
        ap (λ (n : ℕ). get_or (set k.active j 256) n 0) (eqb-true i j e),
        get_or-set_same k.active j 256 0
            (omega (arith, sound.few, sound.long_active)),
      )
      at i false e h =
          let n : i ≡ j → ⊥ = eqb-false i j e in
          omega (arith, get_or-set_other k.active j i 256 0 n, sound.places i (omega arith))

-- THE PLACES THAT THE ENTRIES HOLD
pub places_same : (l m : List ℕ) (n : ℕ) → ((i : ℕ) → i < n → get_or m i 0 ≡ get_or l i 0) → active_places m n ≡ active_places l n
places_same l m zero h = refl
places_same l m (suc n) h =
    ap₂ (λ (x : ℕ) (r : List ℕ). elim (eqb x 256) [ true ↦ r | false ↦ x ∷ r ]) (h n (omega arith))
    (places_same l m n (λ i k. h i (omega arith)))

place_none : (l : List ℕ) (n : ℕ) → get_or l n 0 ≡ 256 → active_places l (suc n) ≡ active_places l n
place_none l n e = ap (λ (b : Bool). elim b as (λ (c : Bool). List ℕ) [
  | true ↦ active_places l n
  | false ↦ get_or l n 0
      ∷ active_places l n
]) (eq-eqb (get_or l n 0) 256 e)

place_some : (l : List ℕ) (n : ℕ) → (get_or l n 0 ≡ 256 → ⊥) → active_places l (suc n) ≡ get_or l n 0 ∷ active_places l n
place_some l n d = ap (λ (b : Bool). elim b as (λ (c : Bool). List ℕ) [
  | true ↦ active_places l n
  | false ↦ get_or l n 0
      ∷ active_places l n
]) (ne_eqb (get_or l n 0) 256 d)

-- each place that an entry has is among them, so that a change of no held place is none of the stack
held_more : (l : List ℕ) (n q : ℕ) (b : Bool) → 1 ≤ times q (active_places l n)
    → 1 ≤ times q (elim b as (λ (c : Bool). List ℕ) [ true ↦ active_places l n | false ↦ get_or l n 0 ∷ active_places l n ])
held_more l n q true h = h
held_more l n q false h = omega arith

pub active_held : (l : List ℕ) (n i : ℕ) → i < n → (get_or l i 0 ≡ most_places → ⊥) → 1 ≤ times (get_or l i 0) (active_places l n)
active_held l zero i h d = absurd (omega arith)
active_held l (suc n) i h d = at (eqb i n) refl (λ k. active_held l n i k d)
  where
    at : (b : Bool) → eqb i n ≡ b → (i < n → 1 ≤ times (get_or l i 0) (active_places l n))
        → 1 ≤ times (get_or l i 0) (active_places l (suc n))
    at true e below =
        subst (λ (j : ℕ). (get_or l j 0 ≡ most_places → ⊥) → 1 ≤ times (get_or l j 0) (active_places l (suc n))) (sym (eqb-true i n e))
        (λ o. rw (place_some l n o) (omega (arith, times_self (get_or l n 0)))) d
    at false e below =
        let apart : i ≡ n → ⊥ = eqb-false i n e in
        held_more l n (get_or l i 0) (eqb (get_or l n 0) most_places) (below (omega arith))

pub entered_holds : (fresh : FirstStrands) (k : Stack) (s s'' : Strands)
    → HeldStill fresh s s'' (active_places k.active k.depth) → entered fresh k s'' ≡ entered fresh k s
entered_holds fresh k s s'' holds =
    entered_kept fresh k s s'' (λ i h d. holds (get_or k.active i 0) (active_held k.active k.depth i h d))

-- as many as the definitions count
pub active_is : (fresh : FirstStrands) (k : Stack) (s : Strands) (n : ℕ)
    → active (entries fresh k s n) ≡ length (active_places k.active n)
active_is fresh k s zero = refl
active_is fresh k s (suc n) = at (eqb (get_or k.active n 0) 256) (active_is fresh k s n)
  where
    at : (b : Bool) → active (entries fresh k s n) ≡ length (active_places k.active n)
        → active_count (elim b as (λ (c : Bool). Option said_strand.Strand) [
          | true ↦ none
          | false ↦ some
              (strand_at fresh s (get_or k.active n 0))
        ]) + active (entries fresh k s n)
        ≡ length {A = ℕ} (elim b as (λ (c : Bool). List ℕ) [
          | true ↦ active_places k.active n
          | false ↦ get_or k.active n 0
              ∷ active_places k.active n
        ])
    at true e = omega arith
    at false e = omega arith

-- a push holds nothing more
pub push_places : (k : Stack) (t time most : ℕ) → SoundStack k → k.depth < 64
    → active_places (pushed t time most k).active (pushed t time most k).depth ≡ active_places k.active k.depth
push_places k t time most sound room =
    let l : List ℕ = set k.active k.depth 256 in
    ap₂ (λ (m : List ℕ) (n : ℕ). active_places m n) (ap (λ (b : Bool). set_if b k.depth 256 k.active) (lt-ltb k.depth 64 room))
    (ap (λ (b : Bool). add_if b k.depth) (lt-ltb k.depth 64 room) ∙ add-one k.depth)
    ∙ place_none l k.depth (get_or-set_same k.active k.depth 256 0 (omega (arith, sound.long_active)))
    ∙ places_same k.active l k.depth (λ i h. get_or-set_other k.active k.depth i 256 0 (λ e. omega arith))

-- a pop of an entry that holds nothing
pub pop_places : (k : Stack) → 1 ≤ k.depth → get_or k.active (k.depth - 1) 0 ≡ 256
    → active_places k.active k.depth ≡ active_places (popped k).active (popped k).depth
pop_places k h e = let d : k.depth ≡ suc (k.depth - 1) = omega arith in ap (active_places k.active) d
    ∙ place_none k.active (k.depth - 1) e

module _ (k : Stack) (sound : SoundStack k) (h : 1 ≤ k.depth) where
  abbrev top : ℕ
  top = k.depth - 1

  written : (x : ℕ) → top_written k.depth x k.active ≡ set k.active (k.depth - 1) x
  written x = ap (λ (b : Bool). set_if b top x k.active) (some_top k.depth (λ e. omega arith) (omega (arith, sound.few)))

  beneath : (x : ℕ) → active_places (set k.active top x) top ≡ active_places k.active top
  beneath x = places_same k.active (set k.active top x) top (λ i a. get_or-set_other k.active top i x 0 (λ e. omega arith))

  there : (x : ℕ) → get_or (set k.active top x) top 0 ≡ x
  there x = get_or-set_same k.active top x 0 (omega (arith, sound.few, sound.long_active))

  depth_is : k.depth ≡ suc (k.depth - 1)
  depth_is = omega arith

  -- the top holds a place that it didn't
  pub activate_places : (q : ℕ) → (q ≡ 256 → ⊥) → get_or k.active (k.depth - 1) 0 ≡ 256
      → active_places (activated q k).active (activated q k).depth ≡ q ∷ active_places k.active k.depth
  activate_places q d e =
      ap₂ (λ (l : List ℕ) (n : ℕ). active_places l n) (written q) depth_is
      ∙ place_some (set k.active top q) top (λ i. d (sym (there q) ∙ i))
      ∙ ap₂ (λ (x : ℕ) (r : List ℕ). x ∷ r) (there q)
      (beneath q ∙ sym (place_none k.active top e) ∙ ap (active_places k.active) (sym depth_is))

  -- or no longer the one that it held
  pub deactivate_places : (get_or k.active (k.depth - 1) 0 ≡ 256 → ⊥)
      → active_places k.active k.depth ≡ get_or k.active (k.depth - 1) 0
      ∷ active_places (activated 256 k).active (activated 256 k).depth
  deactivate_places d =
      ap (active_places k.active) depth_is ∙ place_some k.active top d
      ∙ ap (λ (r : List ℕ). get_or k.active top 0 ∷ r)
      (sym (ap₂ (λ (l : List ℕ) (n : ℕ). active_places l n) (written 256) depth_is ∙ place_none (set k.active top 256) top (there 256)
      ∙ beneath 256))

-- the caller's strand is taken
pub take_caller_places : (k : Stack) → SoundStack k → 2 ≤ k.depth → get_or k.active (k.depth - 1) 0 ≡ 256
    → (caller_place k.depth k.active ≡ 256 → ⊥)
    → active_places k.active k.depth ≡ caller_place k.depth k.active
    ∷ active_places (caller_taken k).active (caller_taken k).depth
take_caller_places k sound two e d =
    let a : k.depth ≡ suc (k.depth - 1) = omega arith in
    let b : k.depth - 1 ≡ suc (k.depth - 2) = omega arith in
    let has : has_caller k.depth ≡ true = some_caller k.depth two sound.few in
    let at : caller_place k.depth k.active ≡ get_or k.active (k.depth - 2) 0 = ap
    (λ (c : Bool). place_if c (get_or k.active (k.depth - 2) 0)) has in
    let l : caller_written k.depth k.active ≡ set k.active (k.depth - 2) 256 = ap
    (λ (c : Bool). set_if c (k.depth - 2) 256 k.active) has in
    ap (active_places k.active) a ∙ place_none k.active (k.depth - 1) e ∙ ap (active_places k.active) b
    ∙ place_some k.active (k.depth - 2) (λ z. d (at ∙ z))
    ∙ ap₂ (λ (x : ℕ) (r : List ℕ). x ∷ r) (sym at)
    (sym (ap₂ (λ (m : List ℕ) (n : ℕ). active_places m n) l b
    ∙ place_none (set k.active (k.depth - 2) 256) (k.depth - 2)
    (get_or-set_same k.active (k.depth - 2) 256 0 (omega (arith, sound.few, sound.long_active)))
    ∙ places_same k.active (set k.active (k.depth - 2) 256) (k.depth - 2)
    (λ j h. get_or-set_other k.active (k.depth - 2) j 256 0 (λ z. omega arith))))
