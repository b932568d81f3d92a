-- The searches among the entries: `first_of` over their tables is `is_active`; `coinductive_from` is the definitions' test of the entries
-- up to the top. From the search among numbers and the definition of `all_from`.
use Prim.Native.Nat.{ℕ, zero, suc, ◌+◌, ◌-◌, ◌≤◌, ◌<◌}
use native.Mathlib.Omega.{arith}
use mathlib.Core.Path.{◌≡◌, refl, sym, ap, ap₂, ◌∙◌}
use mathlib.Core.Bool.{Bool, true, false, ◌&&◌}
use mathlib.Core.Option.{Option, none, some}
use lib.ListN.{take, get_or}
use lib.Dec.{eqb, ltb}
use borrow.Author.Tests.{lt-ltb, le-ltb, ltb-true, ltb-false}
use Rattle.definitions.specs.Stop.{Stops, go, ◌>>=◌}
use Rattle.definitions.specs.Stack.{is_active, top_of_stack_from}
use Rattle.definitions.specs.Table.{Table}
use Rattle.definitions.specs.Tables.{Forest}
use Rattle.definitions.specs.Turn.{coinductive_entries}
use Rattle.stores.specs.declared.queue.Strands.{Strands}
use Rattle.stores.specs.declared.table.Answers.{Answers}
use Rattle.stores.specs.declared.tables.Tables.{Tables}
use Rattle.stores.specs.declared.stack.Stack.{Stack}
use Rattle.stores.specs.Numbers.{flag, first_at, all_from, within}
use Rattle.stores.specs.Stack.{coinductive_at}
use Rattle.stores.specs.View.{FirstStrands, tables, entries, entered}
use Rattle.stores.proofs.ListsSpans.{first_if}
use Rattle.stores.proofs.NumbersSearch.{choose, first_bound, first_more}
use Rattle.stores.proofs.TablesViews.{table_at_is}

-- one entry more on top: what is found beneath it counts, one further down
abbrev on_top : Bool → Option ℕ
on_top b = elim b [ true ↦ some 0 | false ↦ none ]

abbrev deeper : (beneath here : Option ℕ) → Option ℕ
deeper o here = elim o [ some depth ↦ some (suc depth) | none ↦ here ]

beneath_some : (o here : Option ℕ) (i : ℕ) → o ≡ some i → (r : Option ℕ) → some (suc i) ≡ r → deeper o here ≡ r
beneath_some o here i e r d = ap (λ (x : Option ℕ). deeper x here) e ∙ d

beneath_none : (o here : Option ℕ) → o ≡ none → (r : Option ℕ) → here ≡ r → deeper o here ≡ r
beneath_none o here e r d = ap (λ (x : Option ℕ). deeper x here) e ∙ d

-- IS_ACTIVE: the entry nearest the bottom, counted from the top
module _ (fresh : FirstStrands) (k : Stack) (s : Strands) (t : ℕ) where
  abbrev on : ℕ → Bool
  on i = eqb (get_or k.table i 0) t

  active_from : (n : ℕ) → is_active t (entries fresh k s n) ≡ first_if (ltb (first_at on 0 n) n) (n - 1 - first_at on 0 n)
  active_from zero = refl
  active_from (suc n) = at (ltb (first_at on 0 n) n) refl (active_from n)
    where
      next : (b : Bool) → on n ≡ b → first_at on 0 n ≡ n
          → on_top b ≡ (first_if (ltb (first_at on 0 (suc n)) (suc n)) (suc n - 1 - first_at on 0 (suc n)))
      next b e f =
          let z : 0 + n ≡ n = omega arith in
          let m : first_at on 0 (suc n) ≡ choose b n (suc n) = (first_more on 0 n).1 (f ∙ sym z) ∙ ap (λ (j : ℕ). choose (on j) j (suc j)) z
          ∙ ap (λ (c : Bool). choose c n (suc n)) e in
          found b ∙ sym (ap (λ (j : ℕ). first_if (ltb j (suc n)) (suc n - 1 - j)) m)
        where
          found : (c : Bool) → on_top c ≡ (first_if (ltb (choose c n (suc n)) (suc n)) (suc n - 1 - choose c n (suc n)))
          found true = let z : 0 ≡ suc n - 1 - n = omega arith in ap some z
              ∙ sym (ap (λ (b : Bool). first_if b (suc n - 1 - n)) (lt-ltb n (suc n) (omega arith)))
          found false = sym (ap (λ (b : Bool). first_if b (suc n - 1 - suc n)) (le-ltb (suc n) (suc n) (omega arith)))

      at : (b : Bool) → ltb (first_at on 0 n) n ≡ b → is_active t (entries fresh k s n) ≡ first_if (ltb (first_at on 0 n) n)
          (n - 1 - first_at on 0 n)
          → is_active t (entries fresh k s (suc n)) ≡ first_if (ltb (first_at on 0 (suc n)) (suc n)) (suc n - 1 - first_at on 0 (suc n))
      at true e below =
          let h : first_at on 0 n < n = ltb-true (first_at on 0 n) n e in
          let m : first_at on 0 (suc n) ≡ first_at on 0 n = (first_more on 0 n).0 (omega arith) in
          let d : suc (n - 1 - first_at on 0 n) ≡ suc n - 1 - first_at on 0 (suc n) = omega (arith, m) in
          let b : ltb (first_at on 0 (suc n)) (suc n) ≡ true = lt-ltb (first_at on 0 (suc n)) (suc n) (omega (arith, m)) in
          beneath_some (is_active t (entries fresh k s n)) (on_top (on n)) (n - 1 - first_at on 0 n)
          (below ∙ ap (λ (c : Bool). first_if c (n - 1 - first_at on 0 n)) e)
          (first_if (ltb (first_at on 0 (suc n)) (suc n)) (suc n - 1 - first_at on 0 (suc n)))
          (ap some d ∙ sym (ap (λ (c : Bool). first_if c (suc n - 1 - first_at on 0 (suc n))) b))
      at false e below =
          let h : n ≤ first_at on 0 n = ltb-false (first_at on 0 n) n e in
          beneath_none (is_active t (entries fresh k s n)) (on_top (on n))
          (below ∙ ap (λ (c : Bool). first_if c (n - 1 - first_at on 0 n)) e)
          (first_if (ltb (first_at on 0 (suc n)) (suc n)) (suc n - 1 - first_at on 0 (suc n)))
          (next (on n) refl (omega (arith, first_bound on 0 n)))

  within_is : k.depth ≤ 64 → within k.depth ≡ k.depth
  within_is h = omega arith

  -- `is_active` of the definitions, by what `first_of` finds among the entries' tables
  pub is_active_view : k.depth ≤ 64 → (r : ℕ) → r ≡ first_at on 0 (within k.depth)
      → is_active t (entered fresh k s) ≡ first_if (ltb r k.depth) (k.depth - 1 - r)
  is_active_view h r e = active_from k.depth ∙ ap (λ (i : ℕ). first_if (ltb i k.depth) (k.depth - 1 - i))
      (sym (e ∙ ap (first_at on 0) (within_is h)))

-- THE COINDUCTIVE TEST
and_comm : (b c : Bool) → b && c ≡ c && b
and_comm true true = refl
and_comm true false = refl
and_comm false true = refl
and_comm false false = refl

and_assoc : (b c d : Bool) → b && (c && d) ≡ (b && c) && d
and_assoc true c d = refl
and_assoc false c d = refl

all_snoc : (test : ℕ → Bool) (i n : ℕ) → all_from test i (suc n) ≡ test (i + n) && all_from test i n
all_snoc test i zero = let e : i ≡ i + 0 = omega arith in ap (λ (j : ℕ). test j && true) e
all_snoc test i (suc n) =
    let e : suc i + n ≡ i + suc n = omega arith in
    ap (λ (b : Bool). test i && b) (all_snoc test (suc i) n ∙ ap (λ (j : ℕ). test j && all_from test (suc i) n) e)
    ∙ and_assoc (test i) (test (i + suc n)) (all_from test (suc i) n)
    ∙ ap (λ (b : Bool). b && all_from test (suc i) n) (and_comm (test i) (test (i + suc n)))
    ∙ sym (and_assoc (test (i + suc n)) (test i) (all_from test (suc i) n))

module _ (fresh : FirstStrands) (k : Stack) (s : Strands) (ts : Tables) (a : Answers) (f : Forest) (is : f.tables ≡ tables fresh ts s a)
    (few : ts.count ≤ 64) where
  abbrev test : ℕ → Bool
  test = coinductive_at k.table ts.coinductive

  flag_is : (i : ℕ) → get_or k.table i 0 < ts.count → flag (get_or ts.coinductive (get_or k.table i 0) 0) ≡ test i
  flag_is i h = sym (ap (λ (b : Bool). b && flag (get_or ts.coinductive (get_or k.table i 0) 0))
      (lt-ltb (get_or k.table i 0) 64 (omega arith)))

  up_to_top : (n m : ℕ) → m ≤ n → ((i : ℕ) → i < n → get_or k.table i 0 < ts.count)
      → coinductive_entries f (take m (entries fresh k s n)) ≡ go (all_from test (n - m) m)
  up_to_top n zero h made = nothing n
    where
      nothing : (j : ℕ) → coinductive_entries f (take 0 (entries fresh k s j)) ≡ go true
      nothing zero = refl
      nothing (suc j) = refl
  up_to_top zero (suc m) h made = absurd (omega arith)
  up_to_top (suc n) (suc m) h made =
      let e : (n - m) + m ≡ n = omega arith in
      let z : suc n - suc m ≡ n - m = omega arith in
      ap₂ (λ (x : Stops Table) (y : Stops Bool). x >>= λ t. y >>= λ o. go (t.coinductive_goal && o))
      (table_at_is fresh ts s a f is (get_or k.table n 0) (made n (omega arith)))
      (up_to_top n m (omega arith) (λ i j. made i (omega arith)))
      ∙ ap (λ (b : Bool). go (b && all_from test (n - m) m)) (flag_is n (made n (omega arith)))
      ∙ ap go (ap (λ (j : ℕ). test j && all_from test (n - m) m) (sym e) ∙ sym (all_snoc test (n - m) m)
      ∙ ap (λ (j : ℕ). all_from test j (suc m)) (sym z))

  -- the entries from one up to the top, by what `coinductive_from` says
  pub coinductive_from_view : k.depth ≤ 64 → ((i : ℕ) → i < k.depth → get_or k.table i 0 < ts.count) → (from : ℕ) → from < k.depth
      → (r : Bool) → r ≡ all_from (coinductive_at k.table ts.coinductive) from (within k.depth - from)
      → coinductive_entries f (top_of_stack_from (k.depth - 1 - from) (entered fresh k s)) ≡ go r
  coinductive_from_view small made from h r e =
      let m : suc (k.depth - 1 - from) ≡ k.depth - from = omega arith in
      let w : within k.depth - from ≡ k.depth - from = omega arith in
      let b : k.depth - (k.depth - from) ≡ from = omega arith in
      ap (λ (n : ℕ). coinductive_entries f (take n (entered fresh k s))) m ∙ up_to_top k.depth (k.depth - from) (omega arith) made
      ∙ ap go (ap (λ (j : ℕ). all_from test j (k.depth - from)) b ∙ ap (all_from test from) (sym w) ∙ sym e)
