-- What a search and a peek are refused by before their limits are looked at: for a sound forest, the first three of the definitions' tests.
use Prim.Native.Nat.{ℕ, zero, suc, ◌%◌, ◌≤◌, ◌<◌}
use native.Mathlib.Omega.{arith}
use mathlib.Core.Bool.{Bool, true, false, not, ◌&&◌}
use mathlib.Core.List.{List, ◌∷◌}
use mathlib.Core.Logic.{◌⊎◌, inl, inr}
use mathlib.Core.Option.{Option, none, some}
use mathlib.Core.Path.{◌≡◌, refl, sym, ap, ap₂, ◌∙◌}
use lib.Dec.{eqb, leb, ltb}
use lib.ListN.{length, get_or, get_elem?}
use borrow.Author.Tests.{lt-ltb, le-ltb, le-leb, lt-leb, ne_eqb, ltb-false, leb-false}
use Rattle.definitions.specs.Forest.{is_marked, not_made, index_above}
use Rattle.definitions.specs.Refusal.{Refusable, refused, Test, ◌refuses◌, unless}
use Rattle.definitions.specs.Table.{Table}
use Rattle.asserts.specs.Sound.{Reached}
use Rattle.asserts.proofs.Unwinding.{Ended}
use Rattle.stores.specs.Numbers.{flag_at}
use Rattle.stores.proofs.TablesViews.{table_there, floundered_view}
use Rattle.control.specs.Stores.{Stores, first_strands}
use Rattle.control.proofs.Stores.{table_held}
use Rattle.search.proofs.StoredAnswers.{answers_counted}
use Rattle.batch.specs.Refusal.{refusal_by}
use Rattle.batch.proofs.RefusalCases.{refusal_marked}
use Rattle.forest.specs.declared.Forest.{Forest}
use Rattle.forest.specs.Searches.{refusal_of}
use Rattle.forest.specs.View.{stores_in, view, Sound}
use Rattle.forest.proofs.Running.{tables_counted}

-- WHAT THE NUMBER MEANS: 0 goes on to the tests that follow
module _ {A : Type 0} where
  abbrev pub refused_or : ℕ → List Test → A → Refusable A
  refused_or zero rest a = unless rest a
  refused_or (suc n) rest a = refused (suc n)

  pub refused_some : (n : ℕ) (rest : List Test) (a : A) → 0 < n → refused_or n rest a ≡ refused n
  refused_some zero rest a h = absurd (omega arith)
  refused_some (suc n) rest a h = refl

  pub refused_none : (n : ℕ) (rest : List Test) (a : A) → n ≡ 0 → refused_or n rest a ≡ unless rest a
  refused_none n rest a e = ap (λ (k : ℕ). refused_or k rest a) e

  -- the three tests, in this order
  abbrev tested : (marked missing above : Bool) → List Test → A → Refusable A
  tested marked missing above rest a = unless (marked refuses 20 ∷ missing refuses 10 ∷ above refuses 11 ∷ rest) a

  missing_tested : (marked floundered above past : Bool) (rest : List Test) (a : A)
      → tested marked true above rest a ≡ refused_or (refusal_by marked true floundered past) rest a
  missing_tested true floundered above past rest a = refl
  missing_tested false floundered above past rest a = refl

  made_tested : (marked floundered past : Bool) (rest : List Test) (a : A)
      → tested marked false (past && not floundered) rest a ≡ refused_or (refusal_by marked false floundered past) rest a
  made_tested true floundered past rest a = refl
  made_tested false true true rest a = refl
  made_tested false true false rest a = refl
  made_tested false false true rest a = refl
  made_tested false false false rest a = refl

refusal_none : (marked missing floundered past : Bool) → refusal_by marked missing floundered past ≡ 0
    → (marked ≡ false) × (missing ≡ false) × ((floundered ≡ true) ⊎ (past ≡ false))
refusal_none true missing floundered past e = absurd (omega arith)
refusal_none false true floundered past e = absurd (omega arith)
refusal_none false false true past e = (refl, refl, inl refl)
refusal_none false false false true e = absurd (omega arith)
refusal_none false false false false e = (refl, refl, inr refl)

marked_test : (n : ℕ) → not (eqb n 0) ≡ ltb 0 n
marked_test zero = refl
marked_test (suc n) = ap not (ne_eqb (suc n) 0 (λ e. omega arith)) ∙ sym (lt-ltb 0 (suc n) (omega arith))

-- a marked forest is refused with 20, whatever it is
pub marked_refused : (f : Forest) (t i : ℕ) → (f.mark ≡ 0 → ⊥) → refusal_of f t i ≡ 20
marked_refused f t i m = sym (refusal_marked f.mark f.stores.tables.count f.stores.tables.floundered f.stores.answers.places.len t i (at f.mark m))
  where
    at : (n : ℕ) → (n ≡ 0 → ⊥) → 0 < n
    at zero m = absurd (m refl)
    at (suc n) m = omega arith

-- FOR A SOUND FOREST it is the definitions' first three tests
module _ (f : Forest) (o : Sound f) (t i : ℕ) where
  abbrev z : Stores
  z = stores_in f

  module _ (there : t < f.stores.tables.count) where
    pub table_small : t % 256 ≡ t
    table_small = omega (arith, o.sounds.tables.few)

    flag_is : flag_at (t % 256) f.stores.tables.floundered ≡ (table_held z t).floundered
    flag_is =
        ap (λ (j : ℕ). flag_at j f.stores.tables.floundered) table_small
        ∙ floundered_view (first_strands z.book) z.tables z.strands z.answers o.sounds.tables t there

    count_is : get_or f.stores.answers.places.len (t % 256) 0 ≡ length (table_held z t).answers
    count_is = ap (λ (j : ℕ). get_or f.stores.answers.places.len j 0) table_small ∙ sym (answers_counted z o.sounds t there)

    is_made : get_elem? (view f).tables t ≡ some (table_held z t)
    is_made = table_there (first_strands z.book) z.tables z.strands z.answers t there

    above_is : index_above (view f) t i ≡ (ltb (get_or f.stores.answers.places.len (t % 256) 0) i && not (flag_at (t % 256) f.stores.tables.floundered))
    above_is =
        ap (λ (x : Option Table). elim x as (λ (y : Option Table). Bool) [
          | none ↦ false
          | some table ↦ ltb (length table.answers) i && not table.floundered
        ]) is_made
        ∙ ap₂ (λ (n : ℕ) (b : Bool). ltb n i && not b) (sym count_is) (sym flag_is)

  module _ {A : Type 0} (rest : List Test) (a : A) where
    by_missing : (missing : Bool) → leb f.stores.tables.count t ≡ missing
        → unless (is_marked (view f) refuses 20 ∷ missing refuses 10 ∷ index_above (view f) t i refuses 11 ∷ rest) a
        ≡ refused_or (refusal_by (ltb 0 f.mark) missing (flag_at (t % 256) f.stores.tables.floundered)
        (ltb (get_or f.stores.answers.places.len (t % 256) 0) i)) rest a
    by_missing true e =
        ap (λ (m : Bool). tested m true (index_above (view f) t i) rest a) (marked_test f.mark)
        ∙ missing_tested (ltb 0 f.mark) (flag_at (t % 256) f.stores.tables.floundered) (index_above (view f) t i)
        (ltb (get_or f.stores.answers.places.len (t % 256) 0) i) rest a
    by_missing false e =
        ap₂ (λ (m b : Bool). tested m false b rest a) (marked_test f.mark) (above_is (leb-false f.stores.tables.count t e))
        ∙ made_tested (ltb 0 f.mark) (flag_at (t % 256) f.stores.tables.floundered) (ltb (get_or f.stores.answers.places.len (t % 256) 0) i) rest a

    pub refusal_is : unless (is_marked (view f) refuses 20 ∷ not_made (view f) t refuses 10 ∷ index_above (view f) t i refuses 11 ∷ rest) a
        ≡ refused_or (refusal_of f t i) rest a
    refusal_is =
        ap (λ (n : ℕ). tested (is_marked (view f)) (leb n t) (index_above (view f) t i) rest a) (tables_counted f)
        ∙ by_missing (leb f.stores.tables.count t) refl

  -- where none of them refuses, there is the table, and it has the answers below the index
  module _ (e : refusal_of f t i ≡ 0) where
    passed : (ltb 0 f.mark ≡ false) × (leb f.stores.tables.count t ≡ false)
        × ((flag_at (t % 256) f.stores.tables.floundered ≡ true) ⊎ (ltb (get_or f.stores.answers.places.len (t % 256) 0) i ≡ false))
    passed =
        refusal_none (ltb 0 f.mark) (leb f.stores.tables.count t) (flag_at (t % 256) f.stores.tables.floundered)
        (ltb (get_or f.stores.answers.places.len (t % 256) 0) i) e

    pub table_made : t < f.stores.tables.count
    table_made = leb-false f.stores.tables.count t passed.1

    pub asked_ended : Ended f.book.goals t i (view f)
    asked_ended =
        record { sound = o.forest; own = table_held z t; is_made = is_made table_made; reached = reached_by passed.2 }
      where
        reached_by : (flag_at (t % 256) f.stores.tables.floundered ≡ true) ⊎ (ltb (get_or f.stores.answers.places.len (t % 256) 0) i ≡ false)
            → Reached (table_held z t) i
        reached_by (inl u) = inl (sym (flag_is table_made) ∙ u)
        reached_by (inr h) = inr (omega (arith, ltb-false (get_or f.stores.answers.places.len (t % 256) 0) i h, count_is table_made))
