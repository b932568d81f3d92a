-- Floundering and reconsidering mean what the definitions do at the last literal and at each index; nothing but the clause changes, and
-- soundness is kept.
use Prim.Native.Nat.{ℕ, zero, suc, ◌+◌, ◌-◌, ◌≤◌, ◌<◌, min}
use native.Mathlib.Nat.{min-eq_left}
use native.Mathlib.Omega.{arith}
use mathlib.Core.Bool.{Bool, true, false}
use mathlib.Core.List.{List, map}
use mathlib.Core.Option.{Option, none, some}
use mathlib.Core.Path.{◌≡◌, refl, sym, ap, ap₂, ◌∙◌}
use lib.Dec.{eqb, leb, ltb}
use lib.ListN.{length, take, get_or, get_elem?, length-set}
use borrow.Author.Tests.{ltb-true, leb-true, leb-false, lt-ltb, le-ltb, eqb-false}
use Rattle.definitions.specs as said
use Rattle.definitions.specs.Book as books
use Rattle.definitions.specs.Lists.{push, remove, swap_remove}
use Rattle.definitions.specs.Logic.{flounder_subgoal, reconsider_from, reconsider_floundered_subgoals}
use Rattle.definitions.specs.Slg.{next_subgoal_index}
use Rattle.definitions.specs.Stop.{go, ◌>>=◌, unwrap}
use Rattle.definitions.specs.Strand.{with_floundered}
use Rattle.laws.specs.Pairs.{paired}
use Rattle.laws.proofs.Pairs.{length_paired, paired_at, paired_set, paired_moved}
use Rattle.book.specs.View.{meant}
use Rattle.book.specs.declared.Literal.{Literal}
use Rattle.strands.specs.declared.Strand.{Strand}
use Rattle.strands.specs.Fields.{no_literal}
use Rattle.strands.specs.Floundering.{last_literal, flounder_by, flounder}
use Rattle.strands.specs.Floundering.{aside_at, time_at, taken_back, reconsider_by, reconsider_at, reconsider_down, reconsider}
use Rattle.strands.specs.View.{Sound, clause, floundered, Kept}
use Rattle.strands.proofs.FieldViews.{kept_on}
use Rattle.strands.proofs.FlounderCases.{flounder_last}
use Rattle.strands.proofs.Lists.{length_view, view_at, view_past, view_push, view_swap_remove}
use Rattle.strands.proofs.LiteralCases.{index_is, found_at, removed}

-- A strand's floundered literals with their times, in arrays of eight.

abbrev pairs : Strand → List (Literal × ℕ)
pairs s = paired s.floundered s.floundered_time

pairs_long : (s : Strand) → Sound s → length (pairs s) ≡ 8
pairs_long s o = length_paired 8 s.floundered s.floundered_time o.floundered_long o.times_long

abbrev shown : ℕ → List (Literal × ℕ) → List said.FlounderedSubgoal
shown n fs = map floundered (take n fs)

-- Floundering the last literal.

-- the literal l, which stands at i, set aside
abbrev pub aside : said.ExClause → ℕ → books.Literal → said.ExClause
aside x i l =
    with_floundered x (remove x.subgoals i)
    (push x.floundered_subgoals (record { floundered_literal = l; floundered_time = x.answer_time }))

flounder_found : (x : said.ExClause) (i : ℕ) (l : books.Literal) → get_elem? x.subgoals i ≡ some l
    → flounder_subgoal x i ≡ go (aside x i l)
flounder_found x i l e = ap (λ (o : Option books.Literal). unwrap o >>= λ a. go (aside x i a)) e

pub flounder_view : (s : Strand) → Sound s → 0 < s.literal_count
    → flounder_subgoal (clause s) (next_subgoal_index (clause s)) ≡ go (clause (flounder s))
flounder_view s o some_left =
    let few = o.few_literals in
    let long = o.literals_long in
    let long_floundered = pairs_long s o in
    let i : ℕ = s.literal_count - 1 in
    let within : s.literal_count ≤ 8 = omega arith in
    let e : next_subgoal_index (clause s) ≡ i = index_is s long ∙ ap (λ (k : ℕ). k - 1) (min-eq_left within) in
    ap (λ (k : ℕ). flounder_subgoal (clause s) k) e
    ∙ flounder_found (clause s) i (meant (get_or s.literals i no_literal)) (sym (found_at s long i (omega arith)))
    ∙ ap₂ (λ (ls : List books.Literal) (fs : List said.FlounderedSubgoal). go (with_floundered (clause s) ls fs))
    (ap (λ (k : ℕ). remove (clause s).subgoals k) (sym e) ∙ sym (removed s long i (omega arith)))
    (view_push floundered s.floundered_count (pairs s) (last_literal s, s.answer_time) (omega arith)
    ∙ ap (shown (s.floundered_count + 1))
    (paired_set s.floundered s.floundered_time s.floundered_count (last_literal s) s.answer_time))
    ∙ ap (λ (r : Strand). go (clause r)) (sym (flounder_last s (λ z. omega arith) within (omega arith)))

flounder_by_kept : (s : Strand) (none_left too_many full : Bool) → Kept s (flounder_by none_left too_many full s)
flounder_by_kept s true too_many full = refl
flounder_by_kept s false true full = refl
flounder_by_kept s false false true = refl
flounder_by_kept s false false false = refl

pub flounder_kept : (s : Strand) → Kept s (flounder s)
flounder_kept s = flounder_by_kept s (eqb s.literal_count 0) (ltb 8 s.literal_count) (leb 8 s.floundered_count)

flounder_by_sound : (s : Strand) (none_left too_many full : Bool) → eqb s.literal_count 0 ≡ none_left → Sound s
    → Sound (flounder_by none_left too_many full s)
flounder_by_sound s true too_many full e o = o
flounder_by_sound s false true full e o = o
flounder_by_sound s false false true e o = o
flounder_by_sound s false false false e o = record {
  literals_long = o.literals_long;
  floundered_long = length-set s.floundered s.floundered_count (last_literal s) ∙ o.floundered_long;
  times_long = length-set s.floundered_time s.floundered_count s.answer_time ∙ o.times_long;
  delayed_long = o.delayed_long;
  few_literals = omega (arith, o.few_literals, eqb-false s.literal_count 0 e);
  few_delayed = o.few_delayed;
}

pub flounder_sound : (s : Strand) → Sound s → Sound (flounder s)
flounder_sound s o = flounder_by_sound s (eqb s.literal_count 0) (ltb 8 s.literal_count) (leb 8 s.floundered_count) refl o

-- The definitions' turn, by what stands at the index and by the test of its time.

abbrev returned : said.ExClause → ℕ → said.FlounderedSubgoal → said.ExClause
returned x i f = with_floundered x (push x.subgoals f.floundered_literal) (swap_remove x.floundered_subgoals i)

abbrev turn_by : ℕ → said.ExClause → said.FlounderedSubgoal → Bool → said.ExClause
turn_by i x f b = elim b [ true ↦ reconsider_from i (returned x i f) | false ↦ reconsider_from i x ]

abbrev turn_option : ℕ → said.ExClause → Option said.FlounderedSubgoal → said.ExClause
turn_option i x o = elim o [ none ↦ reconsider_from i x | some f ↦ turn_by i x f (ltb f.floundered_time x.answer_time) ]

turn_found : (i : ℕ) (x : said.ExClause) (f : said.FlounderedSubgoal) (b : Bool) → get_elem? x.floundered_subgoals i ≡ some f
    → ltb f.floundered_time x.answer_time ≡ b → reconsider_from (suc i) x ≡ turn_by i x f b
turn_found i x f b e t = ap (turn_option i x) e ∙ ap (turn_by i x f) t

turn_past : (i : ℕ) (x : said.ExClause) → get_elem? x.floundered_subgoals i ≡ none → reconsider_from (suc i) x ≡ reconsider_from i x
turn_past i x e = ap (turn_option i x) e

-- Reconsidering at one index: a sound strand has room for what returns.
module _ (i : ℕ) (s : Strand) where
  abbrev there : Literal × ℕ
  there = (aside_at i s, time_at i s)

  reconsider_by_kept : (too_many past late full : Bool) → Kept s (reconsider_by too_many past late full i s)
  reconsider_by_kept true past late full = refl
  reconsider_by_kept false true late full = refl
  reconsider_by_kept false false true full = refl
  reconsider_by_kept false false false true = refl
  reconsider_by_kept false false false false = refl

  pub reconsider_at_kept : Kept s (reconsider_at i s)
  reconsider_at_kept =
      reconsider_by_kept (ltb 8 s.floundered_count) (leb s.floundered_count i)
      (leb s.answer_time (time_at i s)) (leb 8 s.literal_count)

  module _ (o : Sound s) where
    reconsider_by_sound : (too_many past late full : Bool) → leb s.floundered_count i ≡ past
        → Sound (reconsider_by too_many past late full i s)
    reconsider_by_sound true past late full e = o
    reconsider_by_sound false true late full e = o
    reconsider_by_sound false false true full e = o
    reconsider_by_sound false false false true e = o
    reconsider_by_sound false false false false e = record {
      literals_long = length-set s.literals s.literal_count (aside_at i s) ∙ o.literals_long;
      floundered_long = length-set s.floundered i (aside_at (s.floundered_count - 1) s) ∙ o.floundered_long;
      times_long = length-set s.floundered_time i (time_at (s.floundered_count - 1) s) ∙ o.times_long;
      delayed_long = o.delayed_long;
      few_literals = omega (arith, o.few_literals, leb-false s.floundered_count i e);
      few_delayed = o.few_delayed;
    }

    pub reconsider_at_sound : Sound (reconsider_at i s)
    reconsider_at_sound =
        reconsider_by_sound (ltb 8 s.floundered_count) (leb s.floundered_count i)
        (leb s.answer_time (time_at i s)) (leb 8 s.literal_count) refl

    one_length : length s.floundered ≡ length s.floundered_time
    one_length = o.floundered_long ∙ sym o.times_long

    floundered_at : i < s.floundered_count → get_elem? (clause s).floundered_subgoals i ≡ some (floundered there)
    floundered_at p =
        let few = o.few_literals in
        let long = pairs_long s o in
        view_at floundered s.floundered_count i (pairs s) (no_literal, 0) (omega arith)
        ∙ ap (λ (f : Literal × ℕ). some (floundered f)) (paired_at s.floundered s.floundered_time i no_literal 0 one_length)

    returned_is : i < s.floundered_count → time_at i s < s.answer_time
        → returned (clause s) i (floundered there) ≡ clause (taken_back i s)
    returned_is p early =
        let few = o.few_literals in
        let long = o.literals_long in
        let long_floundered = pairs_long s o in
        ap₂ (λ (ls : List books.Literal) (fs : List said.FlounderedSubgoal). with_floundered (clause s) ls fs)
        (view_push meant s.literal_count s.literals (aside_at i s) (omega arith))
        (view_swap_remove floundered s.floundered_count i (pairs s) (no_literal, 0) p (omega arith)
        ∙ ap (shown (s.floundered_count - 1))
        (paired_moved s.floundered s.floundered_time i (s.floundered_count - 1) no_literal 0 one_length))

    pass_is : (too_many past late full : Bool) → ltb 8 s.floundered_count ≡ too_many → leb s.floundered_count i ≡ past
        → leb s.answer_time (time_at i s) ≡ late → leb 8 s.literal_count ≡ full
        → reconsider_from (suc i) (clause s) ≡ reconsider_from i (clause (reconsider_by too_many past late full i s))
    pass_is true past late full p q r t = absurd (omega (arith, o.few_literals, ltb-true 8 s.floundered_count p))
    pass_is false true late full p q r t =
        let long = pairs_long s o in
        let beyond = leb-true s.floundered_count i q in
        turn_past i (clause s) (view_past floundered s.floundered_count i (pairs s) (omega arith))
    pass_is false false true full p q r t =
        turn_found i (clause s) (floundered there) false (floundered_at (leb-false s.floundered_count i q))
        (le-ltb _ _ (leb-true s.answer_time (time_at i s) r))
    pass_is false false false true p q r t =
        absurd (omega (arith, o.few_literals, leb-true 8 s.literal_count t, leb-false s.floundered_count i q))
    pass_is false false false false p q r t =
        let stands = leb-false s.floundered_count i q in
        let early = leb-false s.answer_time (time_at i s) r in
        turn_found i (clause s) (floundered there) true (floundered_at stands) (lt-ltb _ _ early)
        ∙ ap (reconsider_from i) (returned_is stands early)

    pub reconsider_at_view : reconsider_from (suc i) (clause s) ≡ reconsider_from i (clause (reconsider_at i s))
    reconsider_at_view =
        pass_is (ltb 8 s.floundered_count) (leb s.floundered_count i)
        (leb s.answer_time (time_at i s)) (leb 8 s.literal_count) refl refl refl refl

-- The loop, and the whole.

pub reconsider_down_view : (i : ℕ) (s : Strand) → Sound s → clause (reconsider_down i s) ≡ reconsider_from i (clause s)
reconsider_down_view zero s o = refl
reconsider_down_view (suc i) s o = reconsider_down_view i (reconsider_at i s) (reconsider_at_sound i s o) ∙ sym (reconsider_at_view i s o)

pub reconsider_down_kept : (i : ℕ) (s : Strand) → Kept s (reconsider_down i s)
reconsider_down_kept zero s = refl
reconsider_down_kept (suc i) s =
    kept_on s (reconsider_at i s) (reconsider_down i (reconsider_at i s)) (reconsider_at_kept i s)
    (reconsider_down_kept i (reconsider_at i s))

pub reconsider_down_sound : (i : ℕ) (s : Strand) → Sound s → Sound (reconsider_down i s)
reconsider_down_sound zero s o = o
reconsider_down_sound (suc i) s o = reconsider_down_sound i (reconsider_at i s) (reconsider_at_sound i s o)

pub reconsider_view : (s : Strand) → Sound s → clause (reconsider s) ≡ reconsider_floundered_subgoals (clause s)
reconsider_view s o =
    let all = length_view floundered s.floundered_count (pairs s) in
    let long = pairs_long s o in
    let same : min s.floundered_count 8 ≡ length (clause s).floundered_subgoals = omega arith in
    reconsider_down_view (min s.floundered_count 8) s o ∙ ap (λ (k : ℕ). reconsider_from k (clause s)) same

pub reconsider_kept : (s : Strand) → Kept s (reconsider s)
reconsider_kept s = reconsider_down_kept (min s.floundered_count 8) s

pub reconsider_sound : (s : Strand) → Sound s → Sound (reconsider s)
reconsider_sound s o = reconsider_down_sound (min s.floundered_count 8) s o
