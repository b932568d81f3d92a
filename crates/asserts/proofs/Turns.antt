-- A turn of a search over a sound state: no assert is met, and what it comes to is sound.
use Prim.Native.Nat.{ℕ, suc, ◌+◌, ◌≤◌, ◌<◌}
use native.Mathlib.Omega.{arith}
use mathlib.Core.Path.{◌≡◌, refl, sym, ap, subst, ◌∙◌}
use mathlib.Core.Bool.{Bool, true≢false}
use mathlib.Core.Option.{Option, none, some}
use mathlib.Core.List.{List, [], ◌∷◌}
use lib.ListN.{get_elem?, set, length}
use Rattle.definitions.specs.Stop.{go, ◌>>=◌}
use Rattle.definitions.specs.Lists.{position, rotate_left}
use Rattle.definitions.specs.Strand.{Strand, with_pursued}
use Rattle.definitions.specs.Table.{Table, with_strands, pop_front, dequeue_next_strand_that}
use Rattle.definitions.specs.Tables.{Tables, Forest, with_tables, change_table, queued}
use Rattle.definitions.specs.Stack.{StackEntry, Stack, with_active, active, active_count}
use Rattle.definitions.specs.Logic.{SolveState, with_forest, SubGoalSelection, Selected, NotSelected, select_subgoal}
use Rattle.definitions.specs.Turn.{on_subgoal_selected, on_no_remaining_subgoals, on_no_strands_left, eligible, next_strand, turn}
use Rattle.definitions.proofs.Lists.{all_rotate, length_rotate_left}
use Rattle.laws.specs.All.{All}
use Rattle.laws.proofs.All.{all_first, all_rest}
use Rattle.laws.proofs.Options.{case_option}
use Rattle.laws.proofs.Totals.{total_set}
use Rattle.asserts.proofs.Safe.{Safe, goes, after, known, by_option}
use Rattle.asserts.specs.Sound.{SoundStrand, SoundForest, Active, SoundStack, SoundState}
use Rattle.asserts.proofs.Keeping.{grows_above, strand_grows, Kept, strands_kept, table_is, change_is, table_sound}
use Rattle.asserts.proofs.Choosing.{Choice, selects_safely}
use Rattle.asserts.proofs.Unwinding.{Left, Flows}
use Rattle.asserts.proofs.States.{state, stack_kept, leaves}
use Rattle.asserts.proofs.Cycles.{on_selected}
use Rattle.asserts.proofs.Results.{no_remaining}
use Rattle.asserts.proofs.Idle.{no_strands_left}

-- a strand taken from the queue, and the queue that is left
abbrev Dequeued : (n : ℕ) (ts : Tables) (t : Table) → Option (Strand × Table) → Type 0
Dequeued n ts t none = Unit {0}
Dequeued n ts t (some r) = SoundStrand n ts r.0
    × ((ss : List Strand) × (with_strands t ss ≡ r.1) × All (SoundStrand n ts) ss × (suc (length ss) ≡ length t.strands))

popped : (n : ℕ) (ts : Tables) (t : Table) (l : List Strand) → length l ≡ length t.strands → All (SoundStrand n ts) l
    → Dequeued n ts t (pop_front (with_strands t l))
popped n ts t [] e x = tt
popped n ts t (s ∷ ss) e x = (all_first x, (ss, refl, all_rest x, e))

dequeued : (n : ℕ) (ts : Tables) (test : Strand → Bool) (t : Table) → All (SoundStrand n ts) t.strands
    → Dequeued n ts t (dequeue_next_strand_that test t)
dequeued n ts test t x = case_option (Dequeued n ts t) (position test t.strands) (λ e. tt)
    (λ i e. popped n ts t (rotate_left t.strands i) (length_rotate_left t.strands i) (all_rotate i x))

module _ (n root index first : ℕ) where
  -- what is taken
  abbrev Taken : Option (Strand × SolveState) → Type 0
  Taken none = Unit {0}
  Taken (some r) = SoundState n root index first r.1 × SoundStrand n r.1.forest.tables
      r.0 × (queued r.1.forest + active r.1.stack < 256)

  takes : (f : Forest) (e : StackEntry) (es : Stack) (x : SoundStack n root index first f (e ∷ es))
      → Safe Taken (next_strand (state f e es) e x.0.standing.own)
  takes f e es x = by_option e.active_strand
      (λ q. from_queue (dequeue_next_strand_that (eligible e.clock own.answer_mode) own)
      (dequeued n f.tables (eligible e.clock own.answer_mode) own (table_sound x.0.forest e.table k).sound_strands))
      (λ s q. goes {a = some (s, state f (with_active e none) es)} (
        (x.0, tt, (let o = x.2 in omega arith)),
        subst (Active n f.tables) q x.1,
        (let o = x.2 in let one : active_count e.active_strand ≡ 1 = ap active_count q in omega arith),
      ))
    where
      own : Table
      own = x.0.standing.own

      k : get_elem? f.tables e.table ≡ some own
      k = x.0.standing.is_made

      from_queue : (o : Option (Strand × Table)) → Dequeued n f.tables own o → Safe Taken (elim o [
        | none ↦ go none
        | some taken ↦ change_table f e.table (λ _. taken.1) >>= λ f'. go (some (taken.0, with_forest (state f e es) f'))
      ])
      from_queue none d = goes {a = none} tt
      from_queue (some r) d =
          let f' = with_tables f (set f.tables e.table r.1) in
          let c : Kept n f f' = subst (λ t. Kept n f (with_tables f (set f.tables e.table t))) d.1.1
          (strands_kept x.0.forest e.table k d.1.0 (λ q. absurd (true≢false (sym q ∙ x.0.standing.unfloundered)))
          (let o = x.0.forest.few_strands in let p = d.1.3 in omega arith) d.1.2) in
          let less = total_set (λ u. length u.strands) f.tables e.table own r.1 k in
          let left : length r.1.strands ≡ length d.1.0 = ap (λ t. length t.strands) (sym d.1.1) in
          let one = d.1.3 in
          let places = x.2 in
          known _ (change_is f e.table own (λ _. r.1) k)
          (goes {a = some (r.0, state f' e es)} (
            stack_kept n root index first f f' e es x c (omega arith),
            strand_grows
                (grows_above c.grows) r.0 d.0,
            (omega arith),
          ))

  -- after the choice
  chosen_on : (f : Forest) (es : Stack) (c : SubGoalSelection) (strand : Strand) → SoundStack n root index first f es
      → queued f + active es < 256 → SoundStrand n f.tables strand → Choice f strand c → Safe (Flows n root index first) (elim c [
        | Selected ↦ on_subgoal_selected (record { forest = f; stack = es }) strand
        | NotSelected ↦ on_no_remaining_subgoals (record { forest = f; stack = es }) strand
      ])
  chosen_on f [] c strand x free y z = absurd x
  chosen_on f (e ∷ es) Selected strand x free y z = on_selected n root index first f e es x free strand y z
  chosen_on f (e ∷ es) NotSelected strand x free y z = no_remaining n root index first f e es x free strand y z

  kept_on : (f f' : Forest) (es : Stack) → SoundStack n root index first f es → Kept n f f' → queued f' + active es ≤ 256
      → SoundStack n root index first f' es
  kept_on f f' [] x k o = absurd x
  kept_on f f' (e ∷ es) x k o = stack_kept n root index first f f' e es x k o

  forest_of : (f : Forest) (es : Stack) → SoundStack n root index first f es → SoundForest n f
  forest_of f [] x = absurd x
  forest_of f (e ∷ es) x = x.0.forest

  places_of : (f : Forest) (es : Stack) → SoundStack n root index first f es → queued f + active es ≤ 256
  places_of f [] x = absurd x
  places_of f (e ∷ es) x = x.2

  turns_on : (f : Forest) (es : Stack) → SoundStack n root index first f es
      → Safe (Flows n root index first) (turn (record { forest = f; stack = es }))
  turns_on f [] x = absurd x
  turns_on f (e ∷ es) x =
      known _ (table_is f e.table x.0.standing.own x.0.standing.is_made)
      (after (takes f e es x) next)
    where
      next : (o : Option (Strand × SolveState)) → Taken o → Safe (Flows n root index first) (elim o [
        | none ↦ on_no_strands_left (state f e es)
        | some taken ↦ select_subgoal taken.1 (with_pursued taken.0 e.clock) >>= λ chosen. elim chosen.selection [
          | Selected ↦ on_subgoal_selected (with_forest taken.1 chosen.forest) chosen.strand
          | NotSelected ↦ on_no_remaining_subgoals (with_forest taken.1 chosen.forest) chosen.strand
        ]
      ])
      next none z = no_strands_left n root index first f e es x
      next (some r) z = after (selects_safely r.1 (with_pursued r.0 e.clock) (forest_of r.1.forest r.1.stack z.0) z.1
          z.2) (λ c y.
          let o = y.places in
          chosen_on c.forest r.1.stack c.selection c.strand
          (kept_on r.1.forest c.forest r.1.stack z.0 y.kept (omega arith)) (omega arith) y.sound y.choice)

  -- a turn over a sound state
  pub turn_keeps : (s : SolveState) → SoundState n root index first s → Safe (Flows n root index first) (turn s)
  turn_keeps s x = turns_on s.forest s.stack x

  -- a sound state can be put back
  left_on : (f : Forest) (es : Stack) → SoundStack n root index first f es → Left n root index (record { forest = f; stack = es })
  left_on f [] x = absurd x
  left_on f (e ∷ es) x = leaves n root index first f e es x

  pub state_left : (s : SolveState) → SoundState n root index first s → Left n root index s
  state_left s x = left_on s.forest s.stack x

  -- over another forest
  pub state_kept : (s : SolveState) (f' : Forest) → SoundState n root index first s → Kept n s.forest f' → queued f' ≡ queued s.forest
      → SoundState n root index first (with_forest s f')
  state_kept s f' x k e = kept_on s.forest f' s.stack x k (let o = places_of s.forest s.stack x in omega arith)

  pub state_forest : (s : SolveState) → SoundState n root index first s → SoundForest n s.forest
  state_forest s x = forest_of s.forest s.stack x
