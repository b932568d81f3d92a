-- The forest after clearing: what `emptied` of crate `small_steps` makes of it is the view with the rings that clearing left.
use Prim.Native.Nat.{ℕ, ◌≤◌, ◌<◌}
use native.Mathlib.Omega.{arith}
use mathlib.Core.Path.{◌≡◌, refl, sym, ap, ◌∙◌}
use mathlib.Core.Bool.{Bool, true, false}
use mathlib.Core.Option.{Option, none, some}
use mathlib.Core.List.{List, [], ◌∷◌, map}
use lib.ListN.{set}
use lib.Dec.{ltb}
use borrow.Author.Tests.{ltb-true, ltb-false}
use Rattle.definitions.specs.{TableIndex}
use Rattle.definitions.specs.Strand.{Strand}
use Rattle.definitions.specs.Table.{Table, with_strands, take_strands}
use Rattle.definitions.specs.Tables.{Forest, with_tables}
use Rattle.small_steps.specs.Acts.{changed, emptied}
use Rattle.small_steps.specs.Decide.{strands_left}
use Rattle.laws.specs.Spans.{span}
use Rattle.stores.specs.declared.places.Places.{Places}
use Rattle.stores.specs.Places.{ring}
use Rattle.stores.proofs.ListsSpans.{span_at, span_past, span_same, span_set}
use Rattle.control.specs.ClearStrandsAfterCycle.{Shows, Emptied}
use Rattle.control.proofs.ClearStrandsAfterCycleSound.{passes_here, passes_more, strands_found}

-- a table without its queue where it is in `gone`
abbrev left_table : (ℕ → Table) → List TableIndex → ℕ → Table
left_table table gone t = with_strands (table t) (strands_left gone t (table t))

abbrev left_if : Bool → Table → Table
left_if is-gone table = with_strands table (elim is-gone [ true ↦ [] | false ↦ table.strands ])

module _ (table : ℕ → Table) (n : ℕ) (f : Forest) (view : f.tables ≡ span table 0 n) where
  abbrev with_left : List ℕ → Forest
  with_left gone = with_tables f (span (left_table table gone) 0 n)

  left_same : (i u : ℕ) (gone : List ℕ) → (u ≡ i → ⊥) → left_table table (i ∷ gone) u ≡ left_table table gone u
  left_same i u gone d = ap (λ (b : Bool). left_if b (table u)) (passes_more i u gone d)

  left_none : (i : ℕ) (gone : List ℕ) → left_table table (i ∷ gone) i ≡ take_strands (left_table table gone i)
  left_none i gone = ap (λ (b : Bool). left_if b (table i)) (passes_here i gone)

  abbrev changed_if : (i : ℕ) (gone : List ℕ) → Option Table → Forest
  changed_if i gone o = elim o [
    | none ↦ with_left gone
    | some t ↦ with_tables f
        (set (span (left_table table gone) 0 n) i (take_strands t))
  ]

  changed_tables : (i : ℕ) (gone : List ℕ) (b : Bool) → ltb i n ≡ b → changed (with_left gone) i take_strands ≡ with_left (i ∷ gone)
  changed_tables i gone true e =
      let h : i < n = ltb-true i n e in
      ap (changed_if i gone) (span_at (left_table table gone) n i h)
      ∙ ap (with_tables f) (ap (set (span (left_table table gone) 0 n) i) (sym (left_none i gone))
      ∙ sym (span_set (left_table table gone) (left_table table (i ∷ gone)) n i h (λ u k d. left_same i u gone d)))
  changed_tables i gone false e =
      let h : n ≤ i = ltb-false i n e in
      ap (changed_if i gone) (span_past (left_table table gone) n i h)
      ∙ ap (with_tables f) (sym (span_same (left_table table gone) (left_table table (i ∷ gone)) n
      (λ u k. left_same i u gone (λ d. omega arith))))

  emptied_tables : (gone : List ℕ) → emptied gone f ≡ with_left gone
  emptied_tables [] = ap (with_tables f) view
  emptied_tables (i ∷ gone) =
      ap (λ (g : Forest). changed g i take_strands) (emptied_tables gone) ∙ changed_tables i gone (ltb i n) refl

  pub emptied_view : (waits : List ℕ) (strand_at : ℕ → Strand) (was : Places) → Shows waits strand_at n was table
      → (held : List ℕ) (gone : List TableIndex) (p : Places) → Emptied n held was gone p
      → emptied gone f ≡ with_tables f (span (λ t. with_strands (table t) (map strand_at (ring p t))) 0 n)
  emptied_view waits strand_at was shows held gone p e = emptied_tables gone
      ∙ ap (with_tables f) (span_same (λ t. with_strands (table t) (map strand_at (ring p t))) (left_table table gone) n
      (λ t h. ap (with_strands (table t)) (strands_found strand_at n held was gone p e t h (table t) (shows.queues t))))
