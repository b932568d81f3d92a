-- What a strand that has selected its last literal is decided to do means what crate `small_steps` decides, and keeps what it carries
-- sound.
use Prim.Native.Nat.{ℕ, ◌<◌}
use native.Mathlib.Omega.{arith}
use mathlib.Core.Bool.{Bool, true, false, not, ◌&&◌}
use mathlib.Core.List.{[], ◌∷◌, map}
use mathlib.Core.Option.{Option, none, some}
use mathlib.Core.Path.{◌≡◌, refl, sym, ap, ap₂, ◌∙◌}
use lib.Dec.{eqb, leb, leb-suc-suc}
use lib.ListN.{get_elem?}
use Rattle.std.specs.Prelude as code
use Rattle.definitions.specs.{TimeStamp, MAX, is_complete}
use Rattle.definitions.specs as said
use Rattle.definitions.specs.Book as books
use Rattle.definitions.specs.Fitting.{answer_fits, is_trivial}
use Rattle.definitions.specs.Lists.{remove}
use Rattle.definitions.specs.Logic.{next_answer_strand}
use Rattle.definitions.specs.Slg.{next_subgoal_index, delay}
use Rattle.definitions.specs.Stack.{StackEntry, Stack, is_active, top_of_stack_from}
use Rattle.definitions.specs.Stop.{Stops, stop, go, ◌>>=◌, ◌>>◌, stop_if}
use Rattle.definitions.specs.Strand as held
use Rattle.definitions.specs.Table.{Table}
use Rattle.definitions.specs.Tables.{Forest}
use Rattle.small_steps.specs.Acts as split
use Rattle.small_steps.specs.Decide.{or, no_selected, literal_at, table_of, with_literal_floundered, decide_copy, decide_into, decide_merge}
use Rattle.small_steps.specs.Decide.{decide_coinductive, all_coinductive, decide_awaiting, decide_selected}
use Rattle.book.specs.View.{meant}
use Rattle.book.specs.declared.Literal.{Literal}
use Rattle.definitions.proofs.Lists.{take_empty}
use Rattle.strands.specs.declared.Answer.{Answer}
use Rattle.strands.specs.declared.Selected.TheVariants.{Nothing}
use Rattle.strands.specs.declared.Strand.{Strand}
use Rattle.strands.specs.Delaying.{delayed, strand_or, delay_goals}
use Rattle.strands.specs.Fields.{with_selected, next_of}
use Rattle.strands.specs.Floundering.{flounder}
use Rattle.strands.specs.Literals.{without_last, last_removed}
use Rattle.strands.specs.Merging.{taking, take_answer}
use Rattle.strands.specs.View.{Sound, SoundAnswer, Kept, seen, clause, answer, is_negative}
use Rattle.strands.proofs.DelayViews.{delay_view, delay_kept}
use Rattle.strands.proofs.FieldViews.{kept_on, kept_seen, next_answer_view, selected_sound}
use Rattle.strands.proofs.FlounderViews.{flounder_kept}
use Rattle.strands.proofs.MergeViews.{take_view, take_kept}
use Rattle.control.specs.declared.decision.Decision.{Decision}
use Rattle.control.specs.declared.on_subgoal_selected.Look.TheVariants as looks
use Rattle.control.specs.declared.on_subgoal_selected.Look.{Look}
use Rattle.control.specs.Decision.{copy_by, last_literal, meaning}
use Rattle.control.specs.OnSubgoalSelected.{deselected, coinductive_by, coinductive, Selects, merge_not_by, merge_not, merge_into_by}
use Rattle.control.specs.OnSubgoalSelected.{merge_into, merge_positive_by, merge_positive, merge_literal_by, merge_literal}
use Rattle.control.specs.OnSubgoalSelected.{merge_answer_by, merge_answer, push_table, selected_deed, LookMeans, holds_answer}
use Rattle.control.specs.OnSubgoalSelected.{all_are_coinductive, is_on_stack, is_to_push}
use Rattle.control.specs.SelectSubgoal.{chosen}
use Rattle.control.proofs.Seen.{chosen_means, last_removed_clause, some_left, flounder_clause}

index_is : (s : Strand) (k : held.SelectedSubgoal) → Selects s k → k.subgoal_index ≡ next_subgoal_index (clause s)
index_is s k c = let last = c.is_last in omega arith

-- a strand that takes a clause and has nothing selected
abbrev rest : TimeStamp → Strand → said.ExClause → held.Strand
rest time s x = held.with_ex_clause (held.with_selected (seen time s) none) x

module _ (time : TimeStamp) (clock_at : ℕ → TimeStamp) (s : Strand) (a : Answer) where
  abbrev means : Decision → Stops split.Deed
  means d = meaning time clock_at d

  -- the strand without its last literal
  abbrev less : held.Strand
  less = rest time s (without_last (clause s))

  -- An answer for a "not".

  abbrev not_by : (delays ambiguous : Bool) → Stops split.Deed
  not_by delays ambiguous = stop_if delays 27 >> (elim ambiguous as (λ _. Stops split.Deed) [
    | false ↦ go (split.gives_up none)
    | true ↦ go (split.goes_on none (held.with_ex_clause less (held.with_ambiguous less.ex_clause true)))
  ])

  not_by_view : Sound s → (delays ambiguous : Bool) → means (merge_not_by delays ambiguous s a) ≡ not_by delays ambiguous
  not_by_view o true ambiguous = refl
  not_by_view o false true =
      ap (λ (x : said.ExClause). go (split.goes_on none (rest time s (held.with_ambiguous x true))))
      (last_removed_clause (deselected s) (selected_sound s Nothing o))
  not_by_view o false false = refl

  not_view : Sound s → SoundAnswer a → (goal : ℕ) (outsized : Bool)
      → means (merge_not s a) ≡ decide_into none less (books.Negative goal outsized) (answer a)
  not_view o p goal outsized =
      let long = p.delayed_long in
      not_by_view o (not (eqb a.delayed_count 0)) a.ambiguous
      ∙ ap (λ (b : Bool). not_by (not b) a.ambiguous) (take_empty a.delayed_count a.delayed (omega arith))

  -- An answer for a positive literal: where it fits, what delaying its goals comes to; the copy is queued first.

  abbrev going_on : Option held.Strand → Stops said.ExClause → Stops split.Deed
  going_on copy x = x >>= λ y. go (split.goes_on copy (rest time s y))

  abbrev applied_by : (fits : Bool) → Stops said.ExClause → Stops (Option said.ExClause)
  applied_by fits d = elim fits [ false ↦ go none | true ↦ elim d [ stop n ↦ stop n | go x ↦ go (some x) ] ]

  abbrev after_fit : Option held.Strand → Option said.ExClause → Stops split.Deed
  after_fit copy applied = elim applied [
    | none ↦ go (split.gives_up copy)
    | some x ↦ go (split.goes_on copy (held.with_ex_clause less (taking a.ambiguous x)))
  ]

  fitting : (copy : Option held.Strand) (d : Stops said.ExClause)
      → going_on copy (d >>= λ x. go (taking a.ambiguous x)) ≡ (applied_by true d >>= after_fit copy)
  fitting copy (stop n) = refl
  fitting copy (go x) = refl

  into_means : (d : code.Option Strand) (copies : Bool) (copy : Strand) → Kept (deselected s) (strand_or (deselected s) d)
      → means (merge_into_by true d s a copies copy) ≡ going_on (copy_by copies (seen time copy)) (delayed d)
  into_means code.None copies copy k = refl
  into_means (code.Some t) copies copy k =
      ap (λ (r : held.Strand). go (split.goes_on (copy_by copies (seen time copy)) r)) (kept_seen (deselected s) t k time)

  module _ (o : Sound s) (left : 0 < s.literal_count) where
    abbrev taken : code.Option Strand
    taken = take_answer a (deselected s)

    into_by_view : (fits copies : Bool) (copy : Strand) → means (merge_into_by fits taken s a copies copy)
        ≡ (applied_by fits (delay (answer a).delayed_subgoals less.ex_clause) >>= after_fit (copy_by copies (seen time copy)))
    into_by_view true copies copy =
        let c : Option held.Strand = copy_by copies (seen time copy) in
        into_means taken copies copy (take_kept a (deselected s))
        ∙ ap (going_on c) (take_view a (deselected s) (selected_sound s Nothing o) left)
        ∙ fitting c (delay (answer a).delayed_subgoals less.ex_clause)
    into_by_view false copies copy = refl

    module _ (goal : ℕ) (want : books.Want) (outsized : Bool) where
      abbrev positive : books.Literal
      positive = books.Positive goal want outsized

      into_view : (l : Literal) → meant l ≡ positive → (copies : Bool) (copy : Strand)
          → means (merge_into s a l copies copy) ≡ decide_into (copy_by copies (seen time copy)) less positive (answer a)
      into_view l e copies copy =
          ap (λ (m : books.Literal). means (merge_into_by (answer_fits m a.variant) taken s a copies copy)) e
          ∙ into_by_view (answer_fits positive a.variant) copies copy

      module _ (k : held.SelectedSubgoal) (c : Selects s k) where
        -- the copy, by whether the answer is trivial and whether there is room
        abbrev copied_by : (trivial full : Bool) → Stops (Option held.Strand)
        copied_by trivial full = elim trivial [ true ↦ go none | false ↦ stop_if full 22 >> go (some (next_answer_strand (seen time s) k)) ]

        abbrev then_into : Stops (Option held.Strand) → Stops split.Deed
        then_into copy = copy >>= λ x. decide_into x less positive (answer a)

        positive_by_view : (trivial full : Bool) (l : Literal) → meant l ≡ positive
            → means (merge_positive_by trivial full s a l) ≡ then_into (copied_by trivial full)
        positive_by_view true full l e = into_view l e false s
        positive_by_view false true l e = refl
        positive_by_view false false l e =
            into_view l e true (with_selected s (next_of s.selected))
            ∙ ap (λ (r : held.Strand). decide_into (some r) less positive (answer a)) (next_answer_view time s k c.selects c.goes_on)

        positive_view : (live : ℕ) (l : Literal) → meant l ≡ positive
            → means (merge_positive s a l live) ≡ then_into (decide_copy live (seen time s) k positive (answer a))
        positive_view live l e =
            positive_by_view (is_trivial a.variant) (leb 256 live) l e
            ∙ ap (λ (b : Bool). then_into (copied_by (is_trivial a.variant) b)) (sym (leb-suc-suc 256 live))

-- By the literal's sign, and the whole.
module _ (time : TimeStamp) (clock_at : ℕ → TimeStamp) (s : Strand) (o : Sound s) (k : held.SelectedSubgoal) (c : Selects s k) where
  left : 0 < s.literal_count
  left = some_left s o k.subgoal_index c.is_last

  module _ (a : Answer) (p : SoundAnswer a) (live : ℕ) where
    abbrev merging : (i : ℕ) → books.Literal → Stops split.Deed
    merging i l =
        decide_copy live (seen time s) k l (answer a)
        >>= λ copy. decide_into copy (rest time s (held.with_subgoals (clause s) (remove (clause s).subgoals i))) l (answer a)

    literal_view : (l : books.Literal) → meant (chosen s) ≡ l
        → meaning time clock_at (merge_literal s a live) ≡ merging (next_subgoal_index (clause s)) l
    literal_view (books.Positive goal want outsized) e =
        ap (λ (l : books.Literal). meaning time clock_at (merge_literal_by (is_negative l) s a live)) e
        ∙ positive_view time clock_at s a o left goal want outsized k c live (chosen s) e
    literal_view (books.Negative goal outsized) e =
        ap (λ (l : books.Literal). meaning time clock_at (merge_literal_by (is_negative l) s a live)) e
        ∙ not_view time clock_at s a o p goal outsized

    abbrev merge_at : (i : ℕ) → (unwanted : Bool) → Stops split.Deed
    merge_at i unwanted = elim unwanted [
      | true ↦ go (split.goes_on none (rest time s (with_literal_floundered (clause s) i)))
      | false ↦ merging i (literal_at (clause s) i)
    ]

    merge_by_view : (unwanted : Bool) → meaning time clock_at (merge_answer_by unwanted s a live) ≡ merge_at
        (next_subgoal_index (clause s)) unwanted
    merge_by_view true =
        let t : Strand = flounder (deselected s) in
        ap (λ (r : held.Strand). go (split.goes_on none r))
        (kept_seen (deselected s) t (flounder_kept (deselected s)) time
        ∙ ap (rest time s) (flounder_clause (deselected s) (selected_sound s Nothing o) left))
    merge_by_view false = literal_view (last_literal s) (chosen_means s o)

    -- `merge_answer_into_strand`
    pub merge_answer_means : (complete : Bool) (table : Table) → is_complete table.answer_mode ≡ complete
        → meaning time clock_at (merge_answer s a complete live) ≡ decide_merge live (seen time s) k (answer a) table
    merge_answer_means complete table e =
        merge_by_view (complete && a.ambiguous)
        ∙ ap₂ (λ (i : ℕ) (b : Bool). merge_at i (b && a.ambiguous)) (sym (index_is s k c)) (sym e)

  -- `on_coinductive_subgoal`

  abbrev delaying : (i : ℕ) → books.Literal → Stops split.Deed
  delaying i (books.Positive goal want outsized) =
      delay (goal ∷ []) (held.with_subgoals (clause s) (remove (clause s).subgoals i)) >>= λ x. go (split.goes_on none (rest time s x))
  delaying i (books.Negative goal outsized) = stop 28

  cycle_means : (d : code.Option Strand) (a : Answer) → Kept (deselected s) (strand_or (deselected s) d)
      → meaning time clock_at (coinductive_by false d s a) ≡ (delayed d >>= λ x. go (split.goes_on none (rest time s x)))
  cycle_means code.None a kept = refl
  cycle_means (code.Some t) a kept = ap (λ (r : held.Strand). go (split.goes_on none r)) (kept_seen (deselected s) t kept time)

  -- what is kept of the strand without its literal is kept of the strand
  kept_still : (d : code.Option Strand) → Kept (last_removed (deselected s)) (strand_or (last_removed (deselected s)) d)
      → Kept (deselected s) (strand_or (deselected s) d)
  kept_still code.None k = refl
  kept_still (code.Some t) k = kept_on (deselected s) (last_removed (deselected s)) t refl k

  -- by the literal that is chosen
  abbrev goal_of_delayed : books.Literal → code.Option Strand
  goal_of_delayed l = delay_goals (books.goal_of l ∷ []) (last_removed (deselected s))

  abbrev cycle_by : Answer → books.Literal → Stops split.Deed
  cycle_by a l = meaning time clock_at (coinductive_by (is_negative l) (goal_of_delayed l) s a)

  cycle_view : (a : Answer) (l : books.Literal) → cycle_by a l ≡ delaying (next_subgoal_index (clause s)) l
  cycle_view a (books.Positive goal want outsized) =
      let t : Strand = last_removed (deselected s) in
      let u : code.Option Strand = delay_goals (goal ∷ []) t in
      let sound : Sound (deselected s) = selected_sound s Nothing o in
      cycle_means u a (kept_still u (delay_kept (goal ∷ []) t))
      ∙ ap (λ (x : Stops said.ExClause). x >>= λ y. go (split.goes_on none (rest time s y)))
      (delay_view (goal ∷ []) t o.delayed_long ∙ ap (delay (goal ∷ [])) (last_removed_clause (deselected s) sound))
  cycle_view a (books.Negative goal outsized) = refl

  delaying_is : (l : books.Literal) → delaying k.subgoal_index l ≡ decide_coinductive (seen time s) k l
  delaying_is (books.Positive goal want outsized) = refl
  delaying_is (books.Negative goal outsized) = refl

  pub coinductive_means : (a : Answer)
      → meaning time clock_at (coinductive s a) ≡ decide_coinductive (seen time s) k (literal_at (clause s) k.subgoal_index)
  coinductive_means a =
      ap (cycle_by a) (chosen_means s o)
      ∙ cycle_view a (last_literal s)
      ∙ ap (λ (i : ℕ). delaying i (literal_at (clause s) i)) (sym (index_is s k c))
      ∙ delaying_is (literal_at (clause s) k.subgoal_index)

-- `on_subgoal_selected`, by what the look means.

module _ (time : TimeStamp) (clock_at : ℕ → TimeStamp) (s : Strand) (o : Sound s) (k : held.SelectedSubgoal) (c : Selects s k)
    (a : Answer) (p : SoundAnswer a) (live : ℕ) (f : Forest) (e : StackEntry) (es : Stack) where
  abbrev cycle_at : (depth : ℕ) → (coinductive : Bool) → Stops split.Deed
  cycle_at depth all = elim all [
    | true ↦ decide_coinductive (seen time s) k (literal_at (clause s) k.subgoal_index)
    | false ↦ go (split.cycles (seen time s) (literal_at (clause s) k.subgoal_index)
        (record { positive = or 0 (get_elem? (map (λ e. e.clock) (e ∷ es)) depth); negative = MAX }))
  ]

  abbrev no_answer_by : Option ℕ → Stops split.Deed
  no_answer_by on_stack = elim on_stack [
    | some depth ↦ cycle_at depth (all_coinductive f (top_of_stack_from depth (e ∷ es)))
    | none ↦ stop_if (leb f.clock_limit f.clock) 21 >> go (split.pushes (seen time s) k.subgoal_table)
  ]

  abbrev awaiting_by : Option said.Answer → Stops split.Deed
  awaiting_by found = elim found [
    | some b ↦ decide_merge live (seen time s) k b (table_of f e.table)
    | none ↦ no_answer_by (is_active k.subgoal_table (e ∷ es))
  ]

  push_means : (late : Bool) (table : ℕ)
      → meaning time clock_at (push_table late table s a) ≡ (stop_if late 21 >> go (split.pushes (seen time s) table))
  push_means true table = refl
  push_means false table = refl

  module _ (complete late : Bool) (complete_is : is_complete (table_of f e.table).answer_mode ≡ complete)
      (late_is : leb f.clock_limit f.clock ≡ late) where
    awaiting_means : (look : Look) → LookMeans clock_at f (e ∷ es) k a look
        → meaning time clock_at (selected_deed look s a complete live late)
        ≡ decide_awaiting live f e es (seen time s) k (table_of f k.subgoal_table)
    awaiting_means (looks.Answer place) (holds_answer q) =
        merge_answer_means time clock_at s o k c a p live complete (table_of f e.table) complete_is ∙ sym (ap awaiting_by q)
    awaiting_means looks.Coinductive (all_are_coinductive depth q r w) =
        coinductive_means time clock_at s o k c a ∙ sym (ap awaiting_by q ∙ ap no_answer_by r ∙ ap (cycle_at depth) w)
    awaiting_means (looks.Cycle height) (is_on_stack depth q r w clock) =
        ap₂ (λ (i : ℕ) (t : TimeStamp). go (split.cycles (seen time s) (literal_at (clause s) i) (record { positive = t; negative = MAX })))
        (sym (index_is s k c)) clock
        ∙ sym (ap awaiting_by q ∙ ap no_answer_by r ∙ ap (cycle_at depth) w)
    awaiting_means (looks.Push table) (is_to_push q r table_is) =
        push_means late table
        ∙ ap₂ (λ (b : Bool) (t : ℕ). stop_if b 21 >> go (split.pushes (seen time s) t)) (sym late_is) table_is
        ∙ sym (ap awaiting_by q ∙ ap no_answer_by r)

    pub selected_means : (look : Look) → LookMeans clock_at f (e ∷ es) k a look
        → meaning time clock_at (selected_deed look s a complete live late) ≡ decide_selected live f e es (seen time s)
    selected_means look h =
        awaiting_means look h
        ∙ ap
        (λ (j : Option held.SelectedSubgoal). decide_awaiting live f e es (seen time s) (or no_selected j)
        (table_of f (or no_selected j).subgoal_table))
        (sym c.selects)
