-- The ways out of the functions of select_subgoal.rt, by the tests of the code and by what its callees give.
use Prim.Native.Nat.{ℕ, suc, ◌+◌, ◌-◌, ◌≤◌, ◌<◌}
use native.Mathlib.Omega.{arith}
use mathlib.Core.Path.{◌≡◌, sym, ap, ap₂, ◌∙◌}
use mathlib.Core.Bool.{Bool, true, false}
use mathlib.Core.List.{List}
use lib.ListN.{get_or}
use lib.Dec.{eqb, ltb}
use borrow.Author.Tests.{lt-ltb, le-ltb, le-leb, lt-leb}
use Rattle.definitions.specs.Book.{bit1, goal_of}
use Rattle.definitions.specs.Fitting.{gets_table}
use Rattle.definitions.specs.Lists.{is_empty}
use Rattle.book.specs.Access.{entry}
use Rattle.book.specs.View.{meant}
use Rattle.book.specs.declared.Literal.{Literal}
use Rattle.strands.specs.declared.Selected.TheVariants.{Nothing, Subgoal}
use Rattle.strands.specs.declared.Selected.{Selected}
use Rattle.strands.specs.declared.Strand.{Strand}
use Rattle.strands.specs.Fields.{with_selected, with_ambiguous}
use Rattle.strands.specs.Floundering as strands
use Rattle.strands.specs.View.{clause, is_negative}
use Rattle.stores.specs.Numbers.{within, flag_at}
use Rattle.stores.proofs.NumbersSearch.{first_bound}
use Rattle.control.specs.declared.select_subgoal.Made.{Made}
use Rattle.control.specs.declared.select_subgoal.Selection.TheVariants as selection
use Rattle.control.specs.declared.select_subgoal.Choice.{Choice}
use Rattle.control.specs.SelectSubgoal.{chosen, noted_count, note_if, note, made_at, noted_at, table_by, table_number, floundered_by}
use Rattle.control.specs.SelectSubgoal.{table_floundered, strands_by, live_with, leaves, selects, propagated_by, propagated, made_by}
use Rattle.control.specs.SelectSubgoal.{made_for, found_by, found_for, taken_by, literal_taken, reconsidered_by, reconsidered}
use Rattle.control.specs.SelectSubgoal.{held_by, held_against, goes_on, idle_by, passed_by, passed, select_from}

-- Noting.
module _ (g : ℕ) (m : Made) where
  pub noted_full : 8 ≤ m.count → m ≡ note g m
  noted_full h = ap (λ (b : Bool). note_if b g m) (sym (le-ltb m.count 8 h))

  pub noted_more : m.count < 8 → note_if true g m ≡ note g m
  noted_more h = ap (λ (b : Bool). note_if b g m) (sym (lt-ltb m.count 8 h))

-- Tables, made or noted.
module _ (goal : List ℕ) (count g : ℕ) (m : Made) where
  pub table_made : (n i : ℕ) → n ≡ within count → i ≡ made_at goal count g → i < n → i ≡ table_number goal count g m
  table_made n i en ei h =
      ei ∙ ap (λ (b : Bool). table_by b (made_at goal count g) (within count + noted_at g m))
      (sym (lt-ltb (made_at goal count g) (within count) (omega arith)))

  pub table_noted : (n i j : ℕ) → n ≡ within count → i ≡ made_at goal count g → j ≡ noted_at g m → n ≤ i
      → n + j ≡ table_number goal count g m
  table_noted n i j en ei ej h =
      ap₂ (λ (a b : ℕ). a + b) en ej ∙ ap (λ (b : Bool). table_by b (made_at goal count g) (within count + noted_at g m))
      (sym (le-ltb (made_at goal count g) (within count) (omega arith)))

module _ (floundered : List ℕ) (count : ℕ) (goal_flags : List ℕ) (t : ℕ) (m : Made) where
  abbrev goal_says : Bool
  goal_says = bit1 (entry 64 goal_flags (get_or m.goals (t - within count) 0))

  pub flag_made : (n : ℕ) → n ≡ within count → t < n → flag_at t floundered ≡ table_floundered floundered count goal_flags t m
  flag_made n en h =
      ap (λ (b : Bool). floundered_by b (ltb (t - within count) (noted_count m)) (flag_at t floundered) goal_says)
      (sym (lt-ltb t (within count) (omega arith)))

  past : within count ≤ t → (b : Bool) → ltb (t - within count) (noted_count m) ≡ b
      → floundered_by false b (flag_at t floundered) goal_says ≡ table_floundered floundered count goal_flags t m
  past h b e =
      ap₂ (λ (x y : Bool). floundered_by x y (flag_at t floundered) goal_says) (sym (le-ltb t (within count) h)) (sym e)

  pub flag_nowhere : (n k : ℕ) → n ≡ within count → k ≡ noted_count m → n ≤ t → k ≤ t - n
      → false ≡ table_floundered floundered count goal_flags t m
  flag_nowhere n k en ek h q = past (omega arith) false (le-ltb (t - within count) (noted_count m) (omega arith))

  pub flag_noted : (n k j : ℕ) → n ≡ within count → k ≡ noted_count m → n ≤ t → j ≡ t - n → j < k
      → bit1 (entry 64 goal_flags (get_or m.goals j 0)) ≡ table_floundered floundered count goal_flags t m
  flag_noted n k j en ek h ej q =
      let e : j ≡ t - within count = omega arith in
      ap (λ (i : ℕ). bit1 (entry 64 goal_flags (get_or m.goals i 0))) e
      ∙ past (omega arith) true (lt-ltb (t - within count) (noted_count m) (omega arith))

module _ (goal_flags goal_len : List ℕ) (g live : ℕ) where
  pub live_none : (b : Bool) → b ≡ bit1 (entry 64 goal_flags g) → b ≡ true → live ≡ live_with goal_flags goal_len g live
  live_none b e p =
      let z : live ≡ live + 0 = omega arith in
      z ∙ ap (λ (b : Bool). live + strands_by b (entry 64 goal_len g)) (sym p ∙ e)

  pub live_more : (b : Bool) (n : ℕ) → b ≡ bit1 (entry 64 goal_flags g) → n ≡ entry 64 goal_len g → b ≡ false
      → live + n ≡ live_with goal_flags goal_len g live
  live_more b n e en p =
      ap (λ (k : ℕ). live + k) en ∙ ap (λ (b : Bool). live + strands_by b (entry 64 goal_len g)) (sym p ∙ e)

-- A choice.
module _ (c : Choice) where
  pub propagated_stuck : (l : Literal) (d : Strand) (b : Bool) → l ≡ chosen c.strand → d ≡ with_selected c.strand Nothing
      → b ≡ is_negative (meant l) → b ≡ true → leaves selection.NotSelected d c ≡ propagated c
  propagated_stuck l d b el ed eb p =
      ap (λ (s : Strand). leaves selection.NotSelected s c) ed
      ∙ ap (λ (b : Bool). propagated_by b c) (sym p ∙ eb ∙ ap (λ (x : Literal). is_negative (meant x)) el)

  pub propagated_on : (l : Literal) (d t : Strand) (b : Bool) → l ≡ chosen c.strand → d ≡ with_selected c.strand Nothing
      → b ≡ is_negative (meant l) → b ≡ false → t ≡ strands.flounder d → leaves selection.Again t c ≡ propagated c
  propagated_on l d t b el ed eb p et =
      ap (λ (s : Strand). leaves selection.Again s c) (et ∙ ap strands.flounder ed)
      ∙ ap (λ (b : Bool). propagated_by b c) (sym p ∙ eb ∙ ap (λ (x : Literal). is_negative (meant x)) el)

  pub reconsidered_none : (b : Bool) → b ≡ is_empty (clause c.strand).floundered_subgoals → b ≡ true
      → leaves selection.NotSelected c.strand c ≡ reconsidered c
  reconsidered_none b e p =
      ap (λ (b : Bool). reconsidered_by b (is_empty (clause (strands.reconsider c.strand)).subgoals) c) (sym p ∙ e)

  back : (b d : Bool) (x : Strand) → b ≡ is_empty (clause c.strand).floundered_subgoals → b ≡ false → x ≡ strands.reconsider c.strand
      → d ≡ is_empty (clause x).subgoals → reconsidered_by false d c ≡ reconsidered c
  back b d x e p ex ed =
      ap₂ (λ (y z : Bool). reconsidered_by y z c) (sym p ∙ e) (ed ∙ ap (λ (s : Strand). is_empty (clause s).subgoals) ex)

  pub reconsidered_stuck : (b d : Bool) (x t : Strand) → b ≡ is_empty (clause c.strand).floundered_subgoals → b ≡ false
      → x ≡ strands.reconsider c.strand → d ≡ is_empty (clause x).subgoals → d ≡ true → t ≡ with_ambiguous x true
      → leaves selection.NotSelected t c ≡ reconsidered c
  reconsidered_stuck b d x t e p ex ed q et =
      ap (λ (s : Strand). leaves selection.NotSelected s c) (et ∙ ap (λ (s : Strand). with_ambiguous s true) ex)
      ∙ back b true x e p ex (sym q ∙ ed)

  pub reconsidered_on : (b d : Bool) (x : Strand) → b ≡ is_empty (clause c.strand).floundered_subgoals → b ≡ false
      → x ≡ strands.reconsider c.strand → d ≡ is_empty (clause x).subgoals → d ≡ false → leaves selection.Again x c ≡ reconsidered c
  reconsidered_on b d x e p ex ed q =
      ap (λ (s : Strand). leaves selection.Again s c) ex ∙ back b false x e p ex (sym q ∙ ed)

  module _ (goal_flags goal_len : List ℕ) (g t : ℕ) where
    abbrev grown : ℕ
    grown = live_with goal_flags goal_len g c.live

    pub made_over : (n : ℕ) → n ≡ grown → 256 < n → leaves (selection.Stop 22) c.strand c ≡ made_for goal_flags goal_len g t c
    made_over n e h = ap (λ (b : Bool). made_by b grown g t c) (sym (lt-ltb 256 grown (omega arith)))

    pub made_new : (n : ℕ) (m : Made) (s : Strand) → n ≡ grown → n ≤ 256 → m ≡ note g c.made → s ≡ selects t c.strand
        → record { selection = selection.Again; live = n; made = m; strand = s } ≡ made_for goal_flags goal_len g t c
    made_new n m s e h em es =
        cc (ap (λ (b : Bool). made_by b grown g t c) (sym (le-ltb 256 grown (omega arith))))

  pub held_floundered : (floundered : List ℕ) (count : ℕ) (goal_flags : List ℕ) (t : ℕ) (b : Bool) (r : Choice)
      → b ≡ table_floundered floundered count goal_flags t c.made → b ≡ true → r ≡ propagated c
      → r ≡ held_against floundered count goal_flags t c
  held_floundered floundered count goal_flags t b r e p er = er ∙ ap (λ (b : Bool). held_by b c) (sym p ∙ e)

  pub held_selected : (floundered : List ℕ) (count : ℕ) (goal_flags : List ℕ) (t : ℕ) (b : Bool)
      → b ≡ table_floundered floundered count goal_flags t c.made → b ≡ false
      → leaves selection.Selected c.strand c ≡ held_against floundered count goal_flags t c
  held_selected floundered count goal_flags t b e p = ap (λ (b : Bool). held_by b c) (sym p ∙ e)

-- A literal is taken.
module _ (goal : List ℕ) (count : ℕ) (goal_flags goal_len : List ℕ) (c : Choice) where
  abbrev number : ℕ → ℕ
  number g = table_number goal count g c.made

  abbrev all_tables : ℕ
  all_tables = within count + noted_count c.made

  pub found_new : (n k g t : ℕ) (r : Choice) → n ≡ within count → k ≡ noted_count c.made → t ≡ number g → n + k ≤ t
      → r ≡ made_for goal_flags goal_len g t c → r ≡ found_for goal count goal_flags goal_len g c
  found_new n k g t r en ek et h er =
      er ∙ ap (λ (t : ℕ). made_for goal_flags goal_len g t c) et
      ∙ ap (λ (b : Bool). found_by b goal_flags goal_len g (number g) c) (sym (le-leb all_tables (number g) (omega arith)))

  pub found_old : (n k g t : ℕ) (s : Strand) → n ≡ within count → k ≡ noted_count c.made → t ≡ number g → t < n + k
      → s ≡ selects t c.strand → leaves selection.Again s c ≡ found_for goal count goal_flags goal_len g c
  found_old n k g t s en ek et h es =
      ap (λ (x : Strand). leaves selection.Again x c) (es ∙ ap (λ (t : ℕ). selects t c.strand) et)
      ∙ ap (λ (b : Bool). found_by b goal_flags goal_len g (number g) c) (sym (lt-leb all_tables (number g) (omega arith)))

  pub literal_gets : (l : Literal) (b : Bool) (g : ℕ) (r : Choice) → l ≡ chosen c.strand → b ≡ gets_table (meant l) → b ≡ true
      → g ≡ goal_of (meant l) → r ≡ found_for goal count goal_flags goal_len g c → r ≡ literal_taken goal count goal_flags goal_len c
  literal_gets l b g r el eb p eg er =
      er ∙ ap (λ (g : ℕ). taken_by true goal count goal_flags goal_len g c) eg
      ∙ ap (λ (b : Bool). taken_by b goal count goal_flags goal_len (goal_of (meant l)) c) (sym p ∙ eb)
      ∙ ap (λ (x : Literal). taken_by (gets_table (meant x)) goal count goal_flags goal_len (goal_of (meant x)) c) el

  pub literal_gets_none : (l : Literal) (b : Bool) (s : Strand) → l ≡ chosen c.strand → b ≡ gets_table (meant l) → b ≡ false
      → s ≡ strands.flounder c.strand → leaves selection.Again s c ≡ literal_taken goal count goal_flags goal_len c
  literal_gets_none l b s el eb p es =
      ap (λ (x : Strand). leaves selection.Again x c) es
      ∙ ap (λ (b : Bool). taken_by b goal count goal_flags goal_len (goal_of (meant l)) c) (sym p ∙ eb)
      ∙ ap (λ (x : Literal). taken_by (gets_table (meant x)) goal count goal_flags goal_len (goal_of (meant x)) c) el

-- The pass and the loop.
module _ (goal floundered : List ℕ) (count : ℕ) (goal_flags goal_len : List ℕ) (c : Choice) where
  abbrev pass_by : Selected → Choice
  pass_by k = passed_by goal floundered count goal_flags goal_len k c

  abbrev pass_idle : Bool → Choice
  pass_idle b = idle_by goal floundered count goal_flags goal_len b c

  abbrev from : ℕ → Choice → Choice
  from passes x = select_from goal floundered count goal_flags goal_len passes x

  pub passed_none_left : (b : Bool) (r : Choice) → c.strand.selected ≡ Nothing → b ≡ is_empty (clause c.strand).subgoals → b ≡ true
      → r ≡ reconsidered c → r ≡ passed goal floundered count goal_flags goal_len c
  passed_none_left b r k e p er = er ∙ ap pass_idle (sym p ∙ e) ∙ ap pass_by (sym k)

  pub passed_literal : (b : Bool) (r : Choice) → c.strand.selected ≡ Nothing → b ≡ is_empty (clause c.strand).subgoals → b ≡ false
      → r ≡ literal_taken goal count goal_flags goal_len c → r ≡ passed goal floundered count goal_flags goal_len c
  passed_literal b r k e p er = er ∙ ap pass_idle (sym p ∙ e) ∙ ap pass_by (sym k)

  pub passed_selected : (i t a : ℕ) (r : Choice) → c.strand.selected ≡ Subgoal i t a
      → r ≡ held_against floundered count goal_flags t c → r ≡ passed goal floundered count goal_flags goal_len c
  passed_selected i t a r k er = er ∙ ap pass_by (sym k)

  pub select_spent : (passes : ℕ) → passes ≡ 0 → leaves selection.NotSelected c.strand c ≡ from passes c
  select_spent passes e = ap (λ (n : ℕ). from n c) (sym e)

  abbrev on_by : ℕ → Bool → Choice
  on_by passes b = elim b [
    | true ↦ from passes (passed goal floundered count goal_flags goal_len c)
    | false ↦ passed goal floundered count goal_flags goal_len c
  ]

  on : (passes : ℕ) (r : Choice) (b : Bool) → (passes ≡ 0 → ⊥) → r ≡ passed goal floundered count goal_flags goal_len c
      → b ≡ goes_on r.selection → on_by (passes - 1) b ≡ from passes c
  on passes r b some_left er eb =
      let e : suc (passes - 1) ≡ passes = omega arith in
      ap (on_by (passes - 1)) (eb ∙ ap (λ (x : Choice). goes_on x.selection) er) ∙ ap (λ (n : ℕ). from n c) e

  pub select_again : (passes : ℕ) (r : Choice) (b : Bool) → (passes ≡ 0 → ⊥) → r ≡ passed goal floundered count goal_flags goal_len c
      → b ≡ goes_on r.selection → b ≡ true → from (passes - 1) r ≡ from passes c
  select_again passes r b some_left er eb p =
      ap (from (passes - 1)) er ∙ ap (on_by (passes - 1)) (sym p) ∙ on passes r b some_left er eb

  pub select_done : (passes : ℕ) (r : Choice) (b : Bool) → (passes ≡ 0 → ⊥) → r ≡ passed goal floundered count goal_flags goal_len c
      → b ≡ goes_on r.selection → b ≡ false → r ≡ from passes c
  select_done passes r b some_left er eb p = er ∙ ap (on_by (passes - 1)) (sym p) ∙ on passes r b some_left er eb

-- the search among the goals noted ends within them
pub noted_within : (g : ℕ) (m : Made) → noted_at g m ≤ 8
noted_within g m = omega (arith, first_bound (λ i. eqb (get_or m.goals i 0) g) 0 (noted_count m))
