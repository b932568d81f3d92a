-- Clearing after a cycle: `clear_strands_after_cycle` empties the queues of the tables that were decided.
use Prim.Native.Nat.{ℕ, zero, suc}
use native.Mathlib.Decide.{ℕ_discrete}
use mathlib.Core.Path.{◌≡◌, refl, sym, ap, subst, ◌∙◌}
use mathlib.Core.Bool.{Bool, true, false, not, ◌||◌}
use mathlib.Core.Option.{Option, none, some}
use mathlib.Core.List.{List, [], ◌∷◌}
use lib.ListN.{get_elem?, set}
use lib.Dec.{eqb}
use Rattle.definitions.specs.{TableIndex}
use Rattle.definitions.specs.Stop.{Stops, go, ◌>>=◌, ◌>>◌, unwrap}
use Rattle.definitions.specs.Lists.{is_empty, any_passes}
use Rattle.definitions.specs.Strand.{Strand}
use Rattle.definitions.specs.Table.{Table, with_strands, take_strands}
use Rattle.definitions.specs.Tables.{Forest, with_tables, table_at, change_table}
use Rattle.definitions.specs.Turn.{clear_each, clear_strands_after_cycle}
use Rattle.laws.proofs.Lists.{set_here, set_other}
use borrow.Author.Tests.{eq-eqb, ne_eqb}
use Rattle.small_steps.specs.Acts.{changed, emptied}
use Rattle.small_steps.specs.Decide.{or, no_table, strands_left, decide_each, decide_clear}
use Rattle.small_steps.proofs.Matches.{Matches, asserts, both_stop, both_go, Goes, asserting, going, after, sure, by_option, assert}
use Rattle.small_steps.proofs.Writing.{changes}

-- the option, changed
abbrev pub mapped : {A : Type 0} → (A → A) → Option A → Option A
mapped c none = none
mapped c (some a) = some (c a)

-- a place after a change
changed_at : (f : Forest) (j i : ℕ) (c : Table → Table) → get_elem?
    (changed f j c).tables i ≡ elim (eqb i j) [ true ↦ mapped c (get_elem? f.tables i) | false ↦ get_elem? f.tables i ]
changed_at f j i c = by (ℕ_discrete i j)
  where
    same : (k : ℕ) (o : Option Table) → get_elem? f.tables k ≡ o
        → get_elem? (elim o as (λ _. Forest) [ none ↦ f | some t ↦ with_tables f (set f.tables k (c t)) ]).tables k ≡ mapped c o
    same k none q = q
    same k (some t) q = set_here f.tables k t (c t) q

    other : (j ≡ i → ⊥) → (o : Option Table) → get_elem?
        (elim o as (λ _. Forest) [ none ↦ f | some t ↦ with_tables f (set f.tables j (c t)) ]).tables i ≡ get_elem? f.tables i
    other n none = refl
    other n (some t) = set_other f.tables j i (c t) n

    by : Dec (i ≡ j) → get_elem? (changed f j c).tables i ≡
        elim (eqb i j) [ true ↦ mapped c (get_elem? f.tables i) | false ↦ get_elem? f.tables i ]
    by (yes q) = subst (λ z. get_elem? (changed f z c).tables i ≡
        elim (eqb i z) [ true ↦ mapped c (get_elem? f.tables i) | false ↦ get_elem? f.tables i ]) q
        (same i (get_elem? f.tables i) refl ∙ ap
        (λ (b : Bool). elim b [ true ↦ mapped c (get_elem? f.tables i) | false ↦ get_elem? f.tables i ])
        (sym (eq-eqb i i refl)))
    by (no n) = other (λ q. n (sym q)) (get_elem? f.tables j)
        ∙ ap (λ (b : Bool). elim b [ true ↦ mapped c (get_elem? f.tables i) | false ↦ get_elem? f.tables i ]) (sym (ne_eqb i j n))

module _ (f : Forest) where
  -- a table, after these have lost their queues
  abbrev pub left : (gone : List TableIndex) (i : TableIndex) → Table → Table
  left gone i t = with_strands t (strands_left gone i t)

  pub emptied_at : (gone : List TableIndex) (i : TableIndex)
      → get_elem? (emptied gone f).tables i ≡ mapped (left gone i) (get_elem? f.tables i)
  emptied_at [] i = unchanged (get_elem? f.tables i)
    where
      unchanged : (o : Option Table) → o ≡ mapped (left [] i) o
      unchanged none = refl
      unchanged (some t) = refl
  emptied_at (j ∷ gone) i = changed_at (emptied gone f) j i take_strands
      ∙ ap (λ (o : Option Table). elim (eqb i j) [ true ↦ mapped take_strands o | false ↦ o ]) (emptied_at gone i)
      ∙ on (eqb i j) refl (get_elem? f.tables i)
    where
      on : (b : Bool) → eqb i j ≡ b → (o : Option Table) →
          elim b [ true ↦ mapped take_strands (mapped (left gone i) o) | false ↦ mapped (left gone i) o ] ≡ mapped
          (λ t. with_strands t (elim (b || any_passes (eqb i) gone) [ true ↦ [] | false ↦ t.strands ])) o
      on true q none = refl
      on true q (some t) = refl
      on false q none = refl
      on false q (some t) = refl

  abbrev pub Empties : Forest → List TableIndex → Type 0
  Empties g gone = g ≡ emptied gone f

  abbrev pub Clears : (List Strand → Forest → Stops Forest) → (List Strand → List TableIndex → Stops (List TableIndex)) → Type 0
  Clears clear decide = (ss : List Strand) (gone : List TableIndex) → Matches Empties (clear ss (emptied gone f)) (decide ss gone)

  each : (clear : List Strand → Forest → Stops Forest) (decide : List Strand → List TableIndex → Stops (List TableIndex))
      → Clears clear decide → Clears (clear_each clear) (decide_each f decide)
  each clear decide h [] gone = both_go refl
  each clear decide h (s ∷ ss) gone = by_option {o = s.selected_subgoal} refl (λ e. both_stop)
      (λ selected e. waits selected.subgoal_table (get_elem? f.tables selected.subgoal_table)
      (emptied_at gone selected.subgoal_table) (λ gone'. each clear decide h ss gone'))
    where
      waits : (i : TableIndex) (o : Option Table) → get_elem? (emptied gone f).tables i ≡ mapped (left gone i) o
          → ((gone' : List TableIndex) → Matches Empties (clear_each clear ss (emptied gone' f)) (decide_each f decide ss gone'))
          → Matches Empties (table_at (emptied gone f) i >>= λ table. change_table (emptied gone f) i take_strands >>= λ f'. clear
          table.strands f' >>= λ f''. clear_each clear ss f'')
          (decide (strands_left gone i (or no_table o)) (i ∷ gone) >>= λ gone'. decide_each f decide ss gone')
      waits i none q rest = sure _ (subst (λ (z : Option Table). Goes no_table (unwrap z)) (sym q) asserting) asserted
        where
          asserted : Matches Empties (change_table (emptied gone f) i take_strands >>= λ f'. clear [] f' >>= λ f''. clear_each clear ss f'')
              (decide (strands_left gone i no_table) (i ∷ gone) >>= λ gone'. decide_each f decide ss gone')
          asserted = subst (λ (z : Option Table). Matches Empties
              ((unwrap z >>= λ t. go (with_tables (emptied gone f) (set (emptied gone f).tables i (take_strands t)))) >>= λ f'. clear []
              f' >>= λ f''. clear_each clear ss f'')
              (decide (strands_left gone i no_table) (i ∷ gone) >>= λ gone'. decide_each f decide ss gone')) (sym q) asserts
      waits i (some t) q rest =
          sure _ (subst (λ (z : Option Table). Goes (left gone i t) (unwrap z)) (sym q) going)
          (sure _ (changes (emptied gone f) i take_strands)
          (after (h (strands_left gone i t) (i ∷ gone))
          (λ g gone' x. subst (λ z. Matches Empties (clear_each clear ss z) (decide_each f decide ss gone')) (sym x) (rest gone'))))

  pub clears_strands : (depth : ℕ) → Clears (clear_strands_after_cycle depth) (decide_clear f depth)
  clears_strands zero ss gone = assert (not (is_empty ss)) (both_go refl)
  clears_strands (suc depth) ss gone = each (clear_strands_after_cycle depth) (decide_clear f depth) (clears_strands depth) ss gone
