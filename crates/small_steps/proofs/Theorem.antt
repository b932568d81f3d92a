-- A turn is what is decided, done: the stops of a turn are those of deciding, and what it leaves is what performing leaves.
use Prim.Native.Nat.{ℕ, suc, ◌+◌, ◌*◌}
use mathlib.Core.Path.{◌≡◌, refl, sym, ap, subst, ◌∙◌}
use mathlib.Core.Bool.{Bool}
use mathlib.Core.Option.{Option, none, some}
use mathlib.Core.List.{List, [], ◌∷◌}
use lib.ListN.{length, get_elem?}
use Rattle.definitions.specs.{TableIndex}
use Rattle.definitions.specs.Stop.{Stops, stop, go, ◌>>=◌}
use Rattle.definitions.specs.Lists.{position, rotate_left}
use Rattle.definitions.specs.Strand.{Strand, with_pursued}
use Rattle.definitions.specs.Table.{Table, with_strands, pop_front, dequeue_next_strand_that}
use Rattle.definitions.specs.Tables.{Forest, with_mark, change_table, queued, held}
use Rattle.definitions.specs.Stack.{StackEntry, Stack, with_active, active}
use Rattle.definitions.specs.Logic.{SubGoalSelection, Selected, NotSelected, SolveState, with_forest, Flow, continue, return_ok, return_err}
use Rattle.definitions.specs.Logic.{select_subgoal}
use Rattle.definitions.specs.Turn.{on_subgoal_selected, on_no_remaining_subgoals, on_no_strands_left, eligible, turn, Searched, stopped}
use Rattle.definitions.specs.Turn.{fail, put_back, ok_ending, search_turns}
use Rattle.definitions.proofs.Lists.{position_at}
use Rattle.asserts.proofs.Safe.{Safe}
use Rattle.asserts.proofs.Keeping.{change_is}
use Rattle.asserts.specs.Sound.{SoundState}
use Rattle.asserts.proofs.States.{state}
use Rattle.asserts.proofs.Unwinding.{Flows}
use Rattle.asserts.proofs.Turns.{turn_keeps}
use Rattle.small_steps.specs.Acts.{Origin, was_active, was_queued, Deed, Act, takes, perform_deed, perform, taken, with_made, changed}
use Rattle.small_steps.specs.Decide.{or, no_table, no_strand, table_of, Picked, picking, decide_subgoal, decide_deed, decide_idle}
use Rattle.small_steps.specs.Decide.{decide}
use Rattle.small_steps.proofs.Matches.{Matches, asserts, both_stop, both_go, after, on_unwrap, matched, safe_too}
use Rattle.small_steps.proofs.Writing.{changed_is, heads}
use Rattle.small_steps.proofs.Deeds.{Does, on_selected}
use Rattle.small_steps.proofs.Answers.{no_remaining}
use Rattle.small_steps.proofs.Choosing.{seen, chooses, heads_made, held_made}
use Rattle.small_steps.proofs.Taking.{without, dequeues, live_active, live_queued, same_heads, same_held}
use Rattle.small_steps.proofs.Idle.{Acts, none_left}

-- a deed is part of an act
as_act : {st s : SolveState} {r : Stops Flow} {d : Stops Deed} (act : Deed → Act)
    → ((deed : Deed) → perform_deed deed st ≡ perform (act deed) s) → Matches (Does st) r d
    → Matches (Acts s) r (d >>= λ deed. go (act deed))
as_act act h asserts = asserts
as_act act h both_stop = both_stop
as_act act h (both_go {b = deed} e) = both_go (e ∙ h deed)

picked_as : (p : Picked) {c : SubGoalSelection} {strand : Strand} {live : ℕ} → p.selection ≡ c → p.strand ≡ strand → p.view.live ≡ live
    → p ≡ picking c strand (record { live = live; made = p.view.made })
picked_as p {c} {strand} a b d = ap (λ z. picking z p.strand p.view) a ∙ ap (λ z. picking c z p.view) b
    ∙ ap (λ z. picking c strand (record { live = z; made = p.view.made })) d

-- The strand is taken: f, e and es are what is left, and `read` is the forest before.
module _ (s : SolveState) (origin : Origin) (f read : Forest) (same : heads f ≡ heads read) (answered : held f ≡ held read)
    (e : StackEntry) (es : Stack) (is_taken : taken origin s ≡ state f e es) where
  abbrev others : ℕ
  others = active (e ∷ es) + 1

  abbrev goes_by : SubGoalSelection → Forest → Strand → Stops Flow
  goes_by c g strand = elim c [
    | Selected ↦ on_subgoal_selected (state g e es) strand
    | NotSelected ↦ on_no_remaining_subgoals (state g e es) strand
  ]

  abbrev decides_by : Picked → Stops Act
  decides_by p = decide_deed (held read) read e es p >>= λ deed. go (takes origin p.view.made deed)

  does_same : (made : List ℕ) (deed : Deed) → perform_deed deed (state (with_made f made) e es) ≡ perform (takes origin made deed) s
  does_same made deed = ap (λ st. perform_deed deed (with_forest st (with_made st.forest made))) (sym is_taken)

  by_choice : (c : SubGoalSelection) (strand : Strand) (made : List ℕ)
      → Matches (Acts s) (goes_by c (with_made f made) strand) (decides_by (picking c strand (seen others (with_made f made) made)))
  by_choice Selected strand made = as_act (takes origin made) (does_same made)
      (on_selected (with_made f made) (with_made read made) (heads_made f read same made) e es strand)
  by_choice NotSelected strand made =
      subst (λ n. Matches (Acts s) (goes_by NotSelected (with_made f made) strand)
      (decide_deed n read e es (picking NotSelected strand (seen others (with_made f made) made)) >>= λ deed. go
      (takes origin made deed))) (held_made f made ∙ answered)
      (as_act (takes origin made) (does_same made)
      (no_remaining (with_made f made) (with_made read made) (heads_made f read same made) e es strand))

  with_strand : (strand : Strand) → Matches (Acts s)
      (select_subgoal (state f e es) strand >>= λ c. goes_by c.selection c.forest c.strand)
      (decide_subgoal read (seen others f []) strand >>= decides_by)
  with_strand strand = after (chooses others f read same
      (2 * (length strand.ex_clause.subgoals + length strand.ex_clause.floundered_subgoals) + 4) [] strand) (λ c p x.
      let made = p.view.made in
      let g = x.same_forest in
      subst (λ z. Matches (Acts s) (goes_by c.selection z c.strand) (decides_by p)) (sym g)
      (subst (λ z. Matches (Acts s) (goes_by c.selection (with_made f made) c.strand) (decides_by z))
      (sym (picked_as p x.same_selection x.same_strand (x.same_live ∙ ap (λ z. others + queued z) g)))
      (by_choice c.selection c.strand made)))

module _ (f : Forest) (e : StackEntry) (es : Stack) where
  abbrev s : SolveState
  s = state f e es

  abbrev after_next : Option (Strand × SolveState) → Stops Flow
  after_next next = elim next [
    | none ↦ on_no_strands_left s
    | some r ↦ select_subgoal r.1 (with_pursued r.0 e.clock) >>= λ c. elim c.selection [
      | Selected ↦ on_subgoal_selected (with_forest r.1 c.forest) c.strand
      | NotSelected ↦ on_no_remaining_subgoals (with_forest r.1 c.forest) c.strand
    ]
  ]

  module _ (t : Table) (k : get_elem? f.tables e.table ≡ some t) where
    abbrev decided : (live : ℕ) → Strand → Origin → Stops Act
    decided live strand origin = decide_subgoal f (record { live = live; made = [] }) (with_pursued strand e.clock) >>= λ p. decide_deed
        (held f) f e es p >>= λ deed. go (takes origin p.view.made deed)

    abbrev after_strand : Option (Strand × Origin) → Stops Act
    after_strand o = elim o [
      | none ↦ decide_idle s e t
      | some r ↦ decided (queued f + active (e ∷ es)) r.0 r.1
    ]

    abbrev test : Strand → Bool
    test = eligible e.clock t.answer_mode

    abbrev dequeued : Option (Strand × Table) → Stops (Option (Strand × SolveState))
    dequeued o = elim o [
      | none ↦ go none
      | some r ↦ change_table f e.table (λ _. r.1) >>= λ f'. go (some (r.0, with_forest s f'))
    ]

    taken_from : (first : ℕ) (strand : Strand) → get_elem? t.strands first ≡ some strand
        → Matches (Acts s) (dequeued (some (strand, without first t)) >>= after_next) (after_strand (some (strand, was_queued first)))
    taken_from first strand q =
        let f' = changed f e.table (without first) in
        subst (λ z. Matches (Acts s) ((z >>= λ g. go (some (strand, with_forest s g))) >>= after_next)
        (after_strand (some (strand, was_queued first))))
        (sym (change_is f e.table t (λ _. without first t) k ∙ ap go (sym (changed_is f e.table t (without first) k))))
        (subst (λ n. Matches (Acts s) (after_next (some (strand, state f' e es))) (decided n strand (was_queued first)))
        (sym (live_queued f e.table t k first strand q (e ∷ es)))
        (with_strand s (was_queued first) f' f (same_heads f e.table t k first strand q)
        (same_held f e.table t k first strand q) e es refl (with_pursued strand e.clock)))

    from_queue : (o : Option ℕ) → position test t.strands ≡ o
        → Matches (Acts s) (dequeued (elim o [ none ↦ none | some first ↦ pop_front (with_strands t (rotate_left t.strands first)) ])
        >>= after_next) (after_strand (elim o [
          | none ↦ none
          | some first ↦ some (or no_strand (get_elem? t.strands first), was_queued first)
        ]))
    from_queue none q = none_left f e es t k
    from_queue (some first) q =
        let r = position_at test t.strands first q in
        subst (λ z. Matches (Acts s) (dequeued z >>= after_next)
        (after_strand (some (or no_strand (get_elem? t.strands first), was_queued first)))) (sym (dequeues t first r.0 r.1))
        (subst (λ (z : Option Strand). Matches (Acts s) (dequeued (some (r.0, without first t)) >>= after_next)
        (after_strand (some (or no_strand z, was_queued first)))) (sym r.1)
        (taken_from first r.0 r.1))

    from_active : (o : Option Strand) → e.active_strand ≡ o → Matches (Acts s) ((elim o [
      | some strand ↦ go (some (strand, state f (with_active e none) es))
      | none ↦ dequeued (dequeue_next_strand_that test t)
    ]) >>= after_next) (after_strand (elim o [
      | some strand ↦ some (strand, was_active)
      | none ↦ elim (position test t.strands) [
        | none ↦ none
        | some first ↦ some (or no_strand (get_elem? t.strands first), was_queued first)
      ]
    ]))
    from_active none q = from_queue (position test t.strands) refl
    from_active (some strand) q =
        subst (λ n. Matches (Acts s) (after_next (some (strand, state f (with_active e none) es))) (decided n strand was_active))
        (sym (live_active f e es strand q))
        (with_strand s was_active f f refl refl (with_active e none) es refl (with_pursued strand e.clock))

  turn_matches : Matches (Acts s) (turn s) (decide s)
  turn_matches = on_unwrap (get_elem? f.tables e.table) no_table _ (λ k. from_active (table_of f e.table) k e.active_strand refl)

matches_on : (f : Forest) (es : Stack) → Matches (Acts (record { forest = f; stack = es })) (turn (record { forest = f; stack = es }))
    (decide (record { forest = f; stack = es }))
matches_on f [] = asserts
matches_on f (e ∷ es) = turn_matches f e es

-- In every state a turn asserts, or decides and performs.
pub matches : (s : SolveState) → Matches (λ flow act. flow ≡ perform act s) (turn s) (decide s)
matches s = matches_on s.forest s.stack

-- what follows a flow, in a turn of a search
abbrev pub after_flow : (limit done : ℕ) → TableIndex → (index : ℕ) → Flow → Searched
after_flow limit done t i flow = elim flow [
  | continue s ↦ search_turns limit (suc done) t i s
  | return_ok s ↦ put_back (ok_ending s t i) (suc done) s
  | return_err e s ↦ put_back (fail e) (suc done) s
]

by_decision : {A B C : Type 0} (d : Stops A) (p : A → B) (x : ℕ → C) (y : B → C)
    → ◌≡◌ {A = C} (elim (d >>= λ a. go (p a)) as (λ _. C) [ stop n ↦ x n | go b ↦ y b ])
    (elim d as (λ _. C) [ stop n ↦ x n | go a ↦ y (p a) ])
by_decision (stop n) p x y = refl
by_decision (go a) p x y = refl

module _ (n root index first : ℕ) (s : SolveState) (x : SoundState n root index first s) where
  -- in a sound state it doesn't assert
  pub split : turn s ≡ (decide s >>= λ act. go (perform act s))
  split = matched (λ act. perform act s) (matches s) (turn_keeps n root index first s x)

  -- deciding stops by a number of document 01, and performing what is decided keeps the state sound
  pub decides_safely : Safe (λ act. Flows n root index first (perform act s)) (decide s)
  decides_safely = safe_too (λ act. perform act s) (matches s) (turn_keeps n root index first s x)

  -- a turn of a search: a stop comes before anything is written, so that there is nothing to undo
  pub search_splits : (limit done : ℕ) (t : TableIndex) (i : ℕ) → search_turns (suc limit) done t i s ≡ elim (decide s) [
    | stop m ↦ put_back (stopped m) done (with_forest s (with_mark s.forest m))
    | go act ↦ after_flow limit done t i (perform act s)
  ]
  search_splits limit done t i =
      ap (λ r. elim r as (λ _. Searched) [
        | stop m ↦ put_back (stopped m) done
            (with_forest s (with_mark s.forest m))
        | go flow ↦ after_flow limit done t i flow
      ]) split
      ∙ by_decision (decide s) (λ act. perform act s) (λ m. put_back (stopped m) done (with_forest s (with_mark s.forest m)))
      (after_flow limit done t i)
