-- What a sound state holds at most: 64 tables, 64 entries on the stack, and in one table 256 strands and 256 answers.
use Prim.Native.Nat.{ℕ, zero, suc, ◌≤◌, ◌<◌}
use native.Mathlib.Omega.{arith}
use mathlib.Core.Path.{◌≡◌, refl, sym, ap, subst, ◌∙◌}
use mathlib.Core.Option.{some}
use mathlib.Core.List.{List, [], ◌∷◌, map}
use lib.ListN.{length, get_elem?, length-map}
use Rattle.definitions.specs.{Minimums}
use Rattle.definitions.specs.Table.{Table}
use Rattle.definitions.specs.Tables.{Tables, Forest}
use Rattle.definitions.specs.Stack.{Stack}
use Rattle.laws.proofs.Distinct.{Distinct, few_distinct}
use Rattle.laws.proofs.Options.{no_such, same_some}
use Rattle.laws.proofs.Maps.{at_map}
use Rattle.laws.proofs.All.{all_at}
use Rattle.laws.proofs.Lists.{place_under}
use Rattle.laws.proofs.Totals.{total_one}
use Rattle.asserts.specs.Sound.{SoundForest, Below, Off, Searching}

-- a table for a goal
pub few_tables : {n : ℕ} {f : Forest} → SoundForest n f → length f.tables ≤ n
few_tables {n} {f} s =
    let few = few_distinct n (map (λ t. t.table_goal) f.tables) distinct
    (λ i g e. let r = at_map (λ t. t.table_goal) f.tables i g e in
    subst (λ z. z < n) r.2 (all_at i s.sound_tables r.1).goal_named) in
    let size = length-map f.tables (λ t. t.table_goal) in
    omega arith
  where
    distinct : Distinct (map (λ t. t.table_goal) f.tables)
    distinct i j g a b =
        let p = at_map (λ t. t.table_goal) f.tables i g a in
        let q = at_map (λ t. t.table_goal) f.tables j g b in
        s.tables_apart i j p.0 q.0 p.1 q.1 (p.2 ∙ sym q.2)

pub tables_at_most : {n : ℕ} {f : Forest} → SoundForest n f → length f.tables ≤ 64
tables_at_most s = let a = few_tables s in let b = s.few_goals in omega arith

-- the stack's tables

abbrev tables_of : Stack → List ℕ
tables_of es = map (λ e. e.table) es

distinct_more : (t : ℕ) (es : Stack) → Off t es → Distinct (tables_of es) → Distinct (t ∷ tables_of es)
distinct_more t es o d zero zero g a b = refl
distinct_more t es o d zero (suc j) g a b = let r = at_map (λ e. e.table) es j g b in absurd (all_at j o r.1 (r.2 ∙ sym (same_some a)))
distinct_more t es o d (suc i) zero g a b = let r = at_map (λ e. e.table) es i g a in absurd (all_at i o r.1 (r.2 ∙ sym (same_some b)))
distinct_more t es o d (suc i) (suc j) g a b = ap suc (d i j g a b)

below_distinct : (n : ℕ) (ts : Tables) (root first table clock : ℕ) (es : Stack) → Below n ts root first table clock es
    → Distinct (tables_of es)
below_distinct n ts root first table clock [] x = λ i j g a. absurd (no_such a)
below_distinct n ts root first table clock (e ∷ es) x =
    distinct_more e.table es x.3 (below_distinct n ts root first e.table e.clock es x.2)

below_made : (n : ℕ) (ts : Tables) (root first table clock : ℕ) (es : Stack) → Below n ts root first table clock es → (i g : ℕ)
    → get_elem? (tables_of es) i ≡ some g → g < length ts
below_made n ts root first table clock [] x i g a = absurd (no_such a)
below_made n ts root first table clock (e ∷ es) x zero g a =
    subst (λ z. z < length ts) (same_some a) (place_under ts e.table x.0.own x.0.is_made)
below_made n ts root first table clock (e ∷ es) x (suc i) g a = below_made n ts root first e.table e.clock es x.2 i g a

pub entries_at_most : {n root index first : ℕ} {f : Forest} {table clock : ℕ} {m : Minimums} {es : Stack}
    → Searching n root index first f table clock m es → suc (length es) ≤ 64
entries_at_most {n} {root} {index} {first} {f} {table} {clock} {m} {es} x =
    let few = few_distinct (length f.tables) (table ∷ tables_of es)
    (distinct_more table es x.off (below_distinct n f.tables root first table clock es x.below)) made in
    let size = length-map es (λ e. e.table) in
    let tables = tables_at_most x.forest in
    omega arith
  where
    made : (i g : ℕ) → get_elem? (table ∷ tables_of es) i ≡ some g → g < length f.tables
    made zero g a = subst (λ z. z < length f.tables) (same_some a)
        (place_under f.tables table x.standing.own x.standing.is_made)
    made (suc i) g a = below_made n f.tables root first table clock es x.below i g a

-- one table's strands and answers
module _ {n : ℕ} {f : Forest} (s : SoundForest n f) (i : ℕ) (t : Table) (e : get_elem? f.tables i ≡ some t) where
  pub strands_at_most : length t.strands ≤ 256
  strands_at_most = let a = total_one (λ u. length u.strands) f.tables i t e in let b = s.few_strands in omega arith

  pub answers_at_most : length t.answers ≤ 256
  answers_at_most = let a = total_one (λ u. length u.answers) f.tables i t e in let b = s.few_answers in omega arith
