-- There is room for the tables that are to be made: no two tables are for one goal, so that there are as many as the book has goals at
-- most.
use Prim.Native.Nat.{ℕ, ◌+◌, ◌≤◌, ◌<◌}
use native.Mathlib.Omega.{arith}
use mathlib.Core.Path.{◌≡◌, sym, ap, subst, ◌∙◌}
use mathlib.Core.Bool.{true≢false}
use mathlib.Core.List.{List, [], ◌∷◌, ◌++◌, map}
use mathlib.Core.Logic.{◌⊎◌, inl, inr}
use mathlib.Core.Option.{none, some}
use lib.Dec.{eqb}
use lib.ListN.{length, get_elem?, length-map}
use borrow.Author.Tests.{eq-eqb}
use Rattle.definitions.specs.Table.{Table}
use Rattle.definitions.specs.Tables.{Tables, Forest, index_of}
use Rattle.laws.proofs.Distinct.{few_distinct}
use Rattle.laws.specs.All.{All}
use Rattle.laws.proofs.All.{all_first, all_rest, all_at, all_map}
use Rattle.laws.proofs.Lists.{at_push}
use Rattle.laws.proofs.Maps.{at_map}
use Rattle.definitions.proofs.Lists.{all_push, position_none}
use Rattle.asserts.specs.Sound.{TablesApart, SoundForest}
use Rattle.small_steps.specs.Acts.{built, with_made}
use Rattle.control.specs.declared.select_subgoal.Made.{Made}
use Rattle.control.specs.SelectSubgoal.{noted_goals, New, Noted}
use Rattle.control.proofs.SelectTables.{built_goal, length_noted}

module _ (ts : Tables) (t : Table) (apart : TablesApart ts) (new : index_of t.table_goal ts ≡ none) where
  not_there : (i : ℕ) (u : Table) → get_elem? ts i ≡ some u → u.table_goal ≡ t.table_goal → ⊥
  not_there i u a q =
      true≢false (sym (eq-eqb u.table_goal t.table_goal q)
      ∙ position_none (λ v. eqb v.table_goal t.table_goal) ts new i u a)

  by_place : (i j : ℕ) (u v : Table) → (get_elem? ts i ≡ some u) ⊎ ((t ≡ u) × (i ≡ length ts))
      → (get_elem? ts j ≡ some v) ⊎ ((t ≡ v) × (j ≡ length ts))
      → u.table_goal ≡ v.table_goal → i ≡ j
  by_place i j u v (inl a) (inl b) e = apart i j u v a b e
  by_place i j u v (inl a) (inr b) e = absurd (not_there i u a (e ∙ ap (λ w. w.table_goal) (sym b.0)))
  by_place i j u v (inr a) (inl b) e = absurd (not_there j v b (sym e ∙ ap (λ w. w.table_goal) (sym a.0)))
  by_place i j u v (inr a) (inr b) e = a.1 ∙ sym b.1

  pushed_apart : TablesApart (ts ++ (t ∷ []))
  pushed_apart i j u v a b e = by_place i j u v (at_push ts t i u a) (at_push ts t j v b) e

module _ (f : Forest) where
  pub made_apart : (made : List ℕ) → New f made → TablesApart f.tables → TablesApart (with_made f made).tables
  made_apart [] new apart = apart
  made_apart (g ∷ made) new apart =
      let t = built (with_made f made).book g in
      pushed_apart (with_made f made).tables t (made_apart made new.1 apart)
      (ap (λ (h : ℕ). index_of h (with_made f made).tables) (built_goal g (with_made f made).book) ∙ new.0)

  pub made_named : (n : ℕ) (made : List ℕ) → All (λ g. g < n) made → All (λ t. t.table_goal < n) f.tables
      → All (λ t. t.table_goal < n) (with_made f made).tables
  made_named n [] named all = all
  made_named n (g ∷ made) named all =
      all_push (made_named n made (all_rest named) all)
      (subst (λ (h : ℕ). h < n) (sym (built_goal g (with_made f made).book)) (all_first named))

few_tables : (n : ℕ) (ts : Tables) → TablesApart ts → All (λ t. t.table_goal < n) ts → length ts ≤ n
few_tables n ts apart named =
    let few = few_distinct n (map (λ t. t.table_goal) ts)
    (λ i j g a b.
    let u = at_map (λ t. t.table_goal) ts i g a in
    let v = at_map (λ t. t.table_goal) ts j g b in
    apart i j u.0 v.0 u.1 v.1 (u.2 ∙ sym v.2))
    (λ i g a.
    let u = at_map (λ t. t.table_goal) ts i g a in
    subst (λ (h : ℕ). h < n) u.2 (all_at i named u.1)) in
    let same = length-map ts (λ t. t.table_goal) in
    omega arith

-- the tables made and those noted are 64 together at most
pub room_for_noted : (f : Forest) (m : Made) → SoundForest (length f.book) f → Noted f m → length f.tables + m.count ≤ 64
room_for_noted f m sound noted =
    let few = few_tables (length f.book) (with_made f (noted_goals m)).tables
    (made_apart f (noted_goals m) noted.new sound.tables_apart)
    (made_named f (length f.book) (noted_goals m) noted.named (all_map (λ t s. s.goal_named) sound.sound_tables)) in
    let long = length_noted f m.goals m.count in
    let goals = sound.few_goals in
    omega arith
