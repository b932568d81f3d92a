-- What the stack's operations do to its view, each as the definition does, and that `SoundStack` is kept. From the laws of `set`.
use Prim.Native.Nat.{ℕ, zero, suc, ◌-◌, ◌≤◌, ◌<◌}
use native.Mathlib.Omega.{arith}
use native.Mathlib.Numerals.{add-one}
use mathlib.Core.Path.{◌≡◌, refl, sym, ap, ap₂, subst, ◌∙◌}
use mathlib.Core.Bool.{Bool, true, false}
use mathlib.Core.Option.{Option, none, some}
use mathlib.Core.List.{List, [], ◌∷◌}
use lib.ListN.{length, get_or, set, length-set, length-replicate}
use lib.Seq.{get_or-set_same, get_or-set_other}
use lib.Dec.{eqb}
use borrow.Author.Tests.{lt-ltb, le-ltb, eqb-true, eqb-false}
use Rattle.definitions.specs.Stop.{go}
use Rattle.definitions.specs.Stack.{StackEntry, with_active, with_minimums, top, change_top, push_entry}
use Rattle.definitions.specs.Strand as said_strand
use Rattle.sizes.specs.Limits.{most_places}
use Rattle.strands.specs.declared.Strand.{Strand}
use Rattle.stores.specs.declared.queue.Strands.{Strands}
use Rattle.stores.specs.declared.stack.Stack.{Stack}
use Rattle.stores.specs.View.{FirstStrands, strand_at, active_strand_at, entry_at, entries, entered}
use Rattle.stores.specs.Sound.{SoundStack}
use Rattle.stores.specs.Queue.{written}
use Rattle.stores.specs.Numbers.{set_if, add_if}
use Rattle.stores.specs.Stack.{has_top, top_written, pushed, popped, activated, minimized, blank_stack}
use Rattle.stores.proofs.StackCases.{some_top}
use Rattle.stores.proofs.QueueViews.{written_away}

pub entries_same : (fresh : FirstStrands) (k k' : Stack) (s s'' : Strands) (n : ℕ)
    → ((i : ℕ) → i < n → entry_at fresh k' s'' i ≡ entry_at fresh k s i) → entries fresh k' s'' n ≡ entries fresh k s n
entries_same fresh k k' s s'' zero h = refl
entries_same fresh k k' s s'' (suc n) h = ap₂ (λ (e : StackEntry) (es : List StackEntry). e ∷ es) (h n (omega arith))
    (entries_same fresh k k' s s'' n (λ i j. h i (omega arith)))

abbrev entry_of : (t c p n : ℕ) → Option said_strand.Strand → StackEntry
entry_of t c p n a = record { table = t; clock = c; cyclic_minimums = record { positive = p; negative = n }; active_strand = a }

entry_is : (fresh : FirstStrands) (s : Strands) (t t' c c' p p' n n' a a' : ℕ) → t ≡ t' → c ≡ c' → p ≡ p' → n ≡ n' → a ≡ a'
    → entry_of t c p n (active_strand_at fresh s a) ≡ entry_of t' c' p' n' (active_strand_at fresh s a')
entry_is fresh s t t' c c' p p' n n' a a' et ec ep en ea = cc

-- PUSH
module _ (fresh : FirstStrands) (k : Stack) (s : Strands) (t time most : ℕ) (sound : SoundStack k) (room : k.depth < 64) where
  abbrev d : ℕ
  d = k.depth

  abbrev k' : Stack
  k' = record {
    depth = suc d;
    table = set k.table d t;
    clock = set k.clock d time;
    positive = set k.positive d most;
    negative = set k.negative d most;
    active = set k.active d 256;
  }

  pushed_is : pushed t time most k ≡ k'
  pushed_is =
      ap (λ (b : Bool). record {
        depth = add_if b d;
        table = set_if b d t k.table;
        clock = set_if b d time k.clock;
        positive = set_if b d most k.positive;
        negative = set_if b d most k.negative;
        active = set_if b d 256 k.active;
      }) (lt-ltb d 64 room)
      ∙ ap (λ (m : ℕ). record {
        depth = m;
        table = set k.table d t;
        clock = set k.clock d time;
        positive = set k.positive d most;
        negative = set k.negative d most;
        active = set k.active d 256;
      }) (add-one d)

  new_entry : entry_at fresh k' s d ≡ entry_of t time most most none
  new_entry = entry_is fresh s (get_or (set k.table d t) d 0) t (get_or (set k.clock d time) d 0) time
      (get_or (set k.positive d most) d 0) most (get_or (set k.negative d most) d 0) most
      (get_or (set k.active d 256) d 0) 256
      (get_or-set_same k.table d t 0 (omega (arith, sound.long_table)))
      (get_or-set_same k.clock d time 0 (omega (arith, sound.long_clock)))
      (get_or-set_same k.positive d most 0 (omega (arith, sound.long_positive)))
      (get_or-set_same k.negative d most 0 (omega (arith, sound.long_negative)))
      (get_or-set_same k.active d 256 0 (omega (arith, sound.long_active)))

  old_entry : (i : ℕ) → i < d → entry_at fresh k' s i ≡ entry_at fresh k s i
  old_entry i h =
      let n : i ≡ d → ⊥ = λ e. omega arith in
      entry_is fresh s (get_or (set k.table d t) i 0) (get_or k.table i 0) (get_or (set k.clock d time) i 0) (get_or k.clock i 0)
      (get_or (set k.positive d most) i 0) (get_or k.positive i 0) (get_or (set k.negative d most) i 0) (get_or k.negative i 0)
      (get_or (set k.active d 256) i 0) (get_or k.active i 0)
      (get_or-set_other k.table d i t 0 n) (get_or-set_other k.clock d i time 0 n) (get_or-set_other k.positive d i most 0 n)
      (get_or-set_other k.negative d i most 0 n) (get_or-set_other k.active d i 256 0 n)

  pub push_view : entered fresh (pushed t time most k) s ≡ push_entry t (record { positive = most; negative = most }) time
      (entered fresh k s)
  push_view =
      ap (λ (r : Stack). entered fresh r s) pushed_is
      ∙ ap₂ (λ (e : StackEntry) (es : List StackEntry). e ∷ es) new_entry (entries_same fresh k k' s s d old_entry)

  pub push_sound : SoundStack (pushed t time most k)
  push_sound = subst SoundStack (sym pushed_is) (record {
    few = omega arith;
    long_table = length-set k.table d t ∙ sound.long_table;
    long_clock = length-set k.clock d time ∙ sound.long_clock;
    long_positive = length-set k.positive d most ∙ sound.long_positive;
    long_negative = length-set k.negative d most ∙ sound.long_negative;
    long_active = length-set k.active d 256 ∙ sound.long_active;
    places = λ i h. active_at i (eqb i d) refl h;
  })
    where
      active_at : (i : ℕ) (b : Bool) → eqb i d ≡ b → i < suc d → get_or (set k.active d 256) i 0 ≤ 256
      active_at i true e h = omega (
        arith,
        ap (λ (j : ℕ). get_or (set k.active d 256) j 0) (eqb-true i d e),
        get_or-set_same k.active d 256 0 (omega (arith, sound.long_active)),
      )
      active_at i false e h = let n : i ≡ d → ⊥ = eqb-false i d e in omega
          (arith, get_or-set_other k.active d i 256 0 n, sound.places i (omega arith))

-- a full stack is as it was
pub push_full : (k : Stack) (t time most : ℕ) → 64 ≤ k.depth → pushed t time most k ≡ k
push_full k t time most h =
    ap (λ (b : Bool). record {
      depth = add_if b k.depth;
      table = set_if b k.depth t k.table;
      clock = set_if b k.depth time k.clock;
      positive = set_if b k.depth most k.positive;
      negative = set_if b k.depth most k.negative;
      active = set_if b k.depth 256 k.active;
    }) (le-ltb k.depth 64 h)

-- POP, and the top
popped_entries : (fresh : FirstStrands) (k : Stack) (s : Strands) (n : ℕ) → entries fresh (popped k) s n ≡ entries fresh k s n
popped_entries fresh k s n = entries_same fresh k (popped k) s s n (λ i h. refl)

module _ (fresh : FirstStrands) (k : Stack) (s : Strands) where
  pub pop_view : 1 ≤ k.depth → entered fresh k s ≡ entry_at fresh k s (k.depth - 1) ∷ entered fresh (popped k) s
  pop_view h =
      let e : k.depth ≡ suc (k.depth - 1) = omega arith in
      ap (entries fresh k s) e ∙ ap (λ (es : List StackEntry). entry_at fresh k s (k.depth - 1) ∷ es)
      (sym (popped_entries fresh k s (k.depth - 1)))

  pub top_view : 1 ≤ k.depth → top (entered fresh k s) ≡ go (entry_at fresh k s (k.depth - 1))
  top_view h = ap top (pop_view h)

  pub empty_view : k.depth ≡ 0 → entered fresh k s ≡ []
  empty_view e = ap (entries fresh k s) e

  pub pop_sound : SoundStack k → SoundStack (popped k)
  pop_sound sound = record {
    few = omega (arith, sound.few);
    long_table = sound.long_table;
    long_clock = sound.long_clock;
    long_positive = sound.long_positive;
    long_negative = sound.long_negative;
    long_active = sound.long_active;
    places = λ i h. sound.places i (omega arith);
  }

-- THE TOP, changed
module _ (fresh : FirstStrands) (k : Stack) (s : Strands) (sound : SoundStack k) (h : 1 ≤ k.depth) where
  abbrev j : ℕ
  j = k.depth - 1

  is_top : has_top k.depth ≡ true
  is_top = some_top k.depth (λ e. omega arith) (omega (arith, sound.few))

  top_at : (x : ℕ) (l : List ℕ) → length l ≡ 64 → get_or (top_written k.depth x l) j 0 ≡ x
  top_at x l long = ap (λ (b : Bool). get_or (set_if b j x l) j 0) is_top ∙ get_or-set_same l j x 0 (omega (arith, sound.few))

  top_away : (x : ℕ) (l : List ℕ) (i : ℕ) → i < j → get_or (top_written k.depth x l) i 0 ≡ get_or l i 0
  top_away x l i a = ap (λ (b : Bool). get_or (set_if b j x l) i 0) is_top ∙ get_or-set_other l j i x 0 (λ e. omega arith)

  top_long : (x : ℕ) (l : List ℕ) → length l ≡ 64 → length (top_written k.depth x l) ≡ 64
  top_long x l long = ap (λ (b : Bool). length (set_if b j x l)) is_top ∙ length-set l j x ∙ long

  change_is : (change : StackEntry → StackEntry) (k' : Stack) → k'.depth ≡ k.depth → entry_at fresh k' s j ≡ change (entry_at fresh k s j)
      → ((i : ℕ) → i < j → entry_at fresh k' s i ≡ entry_at fresh k s i) → change_top (entered fresh k s) change ≡ go (entered fresh k' s)
  change_is change k' e here there =
      let d : k.depth ≡ suc j = omega arith in
      ap (λ (n : ℕ). change_top (entries fresh k s n) change) d
      ∙ ap go (ap₂ (λ (x : StackEntry) (es : List StackEntry). x ∷ es) (sym here) (sym (entries_same fresh k k' s s j there))
      ∙ ap (entries fresh k' s) (sym d ∙ sym e))

  -- the top's active strand
  pub activate_view : (place : ℕ) → change_top (entered fresh k s) (λ e. with_active e (active_strand_at fresh s place)) ≡ go
      (entered fresh (activated place k) s)
  activate_view place = change_is (λ e. with_active e (active_strand_at fresh s place)) (activated place k) refl
      (ap (λ (p : ℕ). with_active (entry_at fresh k s j) (active_strand_at fresh s p)) (top_at place k.active sound.long_active))
      (λ i a. ap (λ (p : ℕ). with_active (entry_at fresh k s i) (active_strand_at fresh s p)) (top_away place k.active i a))

  pub activate_sound : (place : ℕ) → place ≤ 256 → SoundStack (activated place k)
  activate_sound place few = record {
    few = sound.few;
    long_table = sound.long_table;
    long_clock = sound.long_clock;
    long_positive = sound.long_positive;
    long_negative = sound.long_negative;
    long_active = top_long place k.active sound.long_active;
    places = λ i a. at i (eqb i j) refl a;
  }
    where
      at : (i : ℕ) (b : Bool) → eqb i j ≡ b → i < k.depth → get_or (top_written k.depth place k.active) i 0 ≤ 256
      at i true e a = omega (
        arith,
        ap (λ (n : ℕ). get_or (top_written k.depth place k.active) n 0) (eqb-true i j e),
        top_at place
            k.active sound.long_active,
      )
      at i false e a =
          let n : i ≡ j → ⊥ = eqb-false i j e in
          omega (arith, top_away place k.active i (omega arith), sound.places i a)

  -- the top's minimums
  pub minimize_view : (p n : ℕ) → change_top (entered fresh k s) (λ e. with_minimums e (record { positive = p; negative = n })) ≡ go
      (entered fresh (minimized p n k) s)
  minimize_view p n = change_is (λ e. with_minimums e (record { positive = p; negative = n })) (minimized p n k) refl
      (ap₂ (λ (x y : ℕ). with_minimums (entry_at fresh k s j) (record { positive = x; negative = y }))
      (top_at p k.positive sound.long_positive) (top_at n k.negative sound.long_negative))
      (λ i a. ap₂ (λ (x y : ℕ). with_minimums (entry_at fresh k s i) (record { positive = x; negative = y }))
      (top_away p k.positive i a) (top_away n k.negative i a))

  pub minimize_sound : (p n : ℕ) → SoundStack (minimized p n k)
  minimize_sound p n = record {
    few = sound.few;
    long_table = sound.long_table;
    long_clock = sound.long_clock;
    long_positive = top_long p k.positive sound.long_positive;
    long_negative = top_long n k.negative sound.long_negative;
    long_active = sound.long_active;
    places = sound.places;
  }

-- what the entries' places show is as it was
pub entered_kept : (fresh : FirstStrands) (k : Stack) (s s'' : Strands)
    → ((i : ℕ) → i < k.depth → (get_or k.active i 0 ≡ most_places → ⊥)
    → strand_at fresh s'' (get_or k.active i 0) ≡ strand_at fresh s (get_or k.active i 0))
    → entered fresh k s'' ≡ entered fresh k s
entered_kept fresh k s s'' kept =
    entries_same fresh k k s s'' k.depth
    (λ i h. ap (with_active (entry_at fresh k s i)) (active_kept i h (eqb (get_or k.active i 0) most_places) refl))
  where
    active_kept : (i : ℕ) → i < k.depth → (b : Bool) → eqb (get_or k.active i 0) most_places ≡ b
        → ◌≡◌ {A = Option said_strand.Strand} (elim b [ true ↦ none | false ↦ some (strand_at fresh s'' (get_or k.active i 0)) ])
        (elim b [ true ↦ none | false ↦ some (strand_at fresh s (get_or k.active i 0)) ])
    active_kept i h true e = refl
    active_kept i h false e = ap some (kept i h (eqb-false (get_or k.active i 0) most_places e))

-- a strand written at a place that no entry has
pub entered_away : (fresh : FirstStrands) (k : Stack) (s : Strands) (q time : ℕ) (x : Strand)
    → ((i : ℕ) → i < k.depth → get_or k.active i 0 ≡ q → ⊥) → entered fresh k (written q time x s) ≡ entered fresh k s
entered_away fresh k s q time x away =
    entered_kept fresh k s (written q time x s) (λ i h d. written_away fresh s q time x (get_or k.active i 0) (away i h))

-- BLANK
pub blank_stack_sound : SoundStack blank_stack
blank_stack_sound = record {
  few = omega arith;
  long_table = length-replicate {A = ℕ} 64 0;
  long_clock = length-replicate {A = ℕ} 64 0;
  long_positive = length-replicate {A = ℕ} 64 0;
  long_negative = length-replicate {A = ℕ} 64 0;
  long_active = length-replicate {A = ℕ} 64 256;
  places = λ i h. absurd (omega arith);
}

pub blank_stack_view : (fresh : FirstStrands) (s : Strands) → entered fresh blank_stack s ≡ []
blank_stack_view fresh s = refl
