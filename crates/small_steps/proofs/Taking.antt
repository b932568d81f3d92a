-- Taking a strand: the live strands and the heads are the same before and after.
use Prim.Native.Nat.{ℕ, zero, suc, ◌+◌}
use native.Mathlib.Omega.{arith}
use mathlib.Core.Path.{◌≡◌, refl, sym, ap, ◌∙◌}
use mathlib.Core.Option.{none, some}
use mathlib.Core.List.{List, [], ◌∷◌, ◌++◌, map}
use lib.ListN.{length, get_elem?, set, drop, take}
use Rattle.definitions.specs.Lists.{rotate_left}
use Rattle.definitions.specs.Strand.{Strand}
use Rattle.definitions.specs.Table.{Table, with_strands, take_strands, pop_front}
use Rattle.definitions.specs.Tables.{Tables, Forest, with_tables, queued, held}
use Rattle.definitions.specs.Stack.{StackEntry, Stack, with_active, active, active_count}
use Rattle.definitions.proofs.Lists.{length_rotate_left}
use Rattle.laws.proofs.Options.{no_such, same_some}
use Rattle.laws.proofs.Totals.{total_set}
use Rattle.small_steps.specs.Acts.{changed}
use Rattle.small_steps.proofs.Writing.{heads, changed_is}

-- The strand taken.

-- the queue without the strand at a place
abbrev pub without : ℕ → Table → Table
without first t = with_strands t (drop 1 (rotate_left t.strands first))

rotated : (l m : List Strand) (i : ℕ) (s : Strand) → get_elem? l i ≡ some s → drop i l ++ m ≡ s ∷ drop 1 (drop i l ++ m)
rotated [] m i s e = absurd (no_such e)
rotated (a ∷ l) m zero s e = ap (λ (z : Strand). z ∷ l ++ m) (same_some e)
rotated (a ∷ l) m (suc i) s e = rotated l m i s e

pub dequeues : (t : Table) (first : ℕ) (s : Strand) → get_elem? t.strands first ≡ some s
    → pop_front (with_strands t (rotate_left t.strands first)) ≡ some (s, without first t)
dequeues t first s e = pops (rotate_left t.strands first) (rotated t.strands (take first t.strands) first s e)
  where
    pops : (l : List Strand) → l ≡ s ∷ drop 1 l → pop_front (with_strands t l) ≡ some (s, with_strands t (drop 1 l))
    pops [] q = absurd (empty q)
      where
        empty : [] ≡ s ∷ [] → ⊥
        empty q = let z : ◌≡◌ {A = ℕ} 0 1 = ap length q in omega arith
    pops (a ∷ l) q = ap (λ (z : Strand). some (z, with_strands t l)) (first_same q)
      where
        first_same : a ∷ l ≡ s ∷ l → a ≡ s
        first_same q = cc

heads_set : (ts : Tables) (i : ℕ) (t t' : Table) → get_elem? ts i ≡ some t → take_strands t' ≡ take_strands t
    → map take_strands (set ts i t') ≡ map take_strands ts
heads_set [] i t t' k e = refl
heads_set (u ∷ ts) zero t t' k e = ap (λ (z : Table). z ∷ map take_strands ts) (e ∙ ap take_strands (sym (same_some k)))
heads_set (u ∷ ts) (suc i) t t' k e = ap (λ (l : Tables). take_strands u ∷ l) (heads_set ts i t t' k e)

-- the live strands before are those after, and the one in hand
pub live_active : (f : Forest) (e : StackEntry) (es : Stack) (s : Strand) → e.active_strand ≡ some s
    → queued f + active (e ∷ es) ≡ active (with_active e none ∷ es) + 1 + queued f
live_active f e es s q = let one : active_count e.active_strand ≡ 1 = ap active_count q in omega arith

module _ (f : Forest) (i : ℕ) (t : Table) (k : get_elem? f.tables i ≡ some t) (first : ℕ) (s : Strand)
    (q : get_elem? t.strands first ≡ some s) where
  shorter : (l : List Strand) → l ≡ s ∷ drop 1 l → length l ≡ suc (length (drop 1 l))
  shorter l e = ap length e

  pub live_queued : (es : Stack) → queued f + active es ≡ active es + 1 + queued (changed f i (without first))
  live_queued es =
      let a = total_set (λ u. length u.strands) f.tables i t (without first t) k in
      let b = ap queued (changed_is f i t (without first) k) in
      let c = shorter (rotate_left t.strands first) (rotated t.strands (take first t.strands) first s q) in
      let d = length_rotate_left t.strands first in
      omega arith

  pub same_heads : heads (changed f i (without first)) ≡ heads f
  same_heads = ap heads (changed_is f i t (without first) k)
      ∙ ap (λ (ts : Tables). with_tables f ts) (heads_set f.tables i t (without first t) k refl)

  pub same_held : held (changed f i (without first)) ≡ held f
  same_held = let a = total_set (λ u. length u.answers) f.tables i t (without first t) k in let b = ap held
      (changed_is f i t (without first) k) in omega arith
