-- Choosing a literal: `select_subgoal` leaves the forest with the tables that were decided to be made.
use Prim.Native.Nat.{ℕ, zero, suc, ◌+◌}
use native.Mathlib.Omega.{arith}
use mathlib.Core.Path.{◌≡◌, refl, sym, ap, subst, ◌∙◌}
use mathlib.Core.Bool.{Bool, true, false}
use mathlib.Core.Option.{Option, none, some}
use mathlib.Core.List.{List, [], ◌∷◌, ◌++◌, map}
use lib.ListN.{length, get_elem?, length-map}
use lib.Dec.{eqb, ltb}
use Rattle.definitions.specs.{TableIndex}
use Rattle.definitions.specs.Book.{Literal, Positive, Negative, goal_of, Goal, Book}
use Rattle.definitions.specs.Fitting.{gets_table}
use Rattle.definitions.specs.Stop.{Stops, stop, go, ◌>>=◌, unwrap}
use Rattle.definitions.specs.Lists.{is_empty, position}
use Rattle.definitions.specs.Strand.{SelectedSubgoal, Strand, with_ex_clause, with_selected, with_ambiguous}
use Rattle.definitions.specs.Table.{Table, new, with_strands, take_strands, mark_floundered}
use Rattle.definitions.specs.Tables.{Tables, Forest, with_tables, insert_table, index_of, queued, held}
use Rattle.definitions.specs.Slg.{next_subgoal_index}
use Rattle.sizes.specs.Limits.{most_strands}
use Rattle.definitions.specs.Logic.{SubGoalSelection, Selected, NotSelected, Selection, selecting, initial_strand}
use Rattle.definitions.specs.Logic.{build_table, flounder_subgoal, reconsider_floundered_subgoals, propagate_floundered_subgoal}
use Rattle.definitions.specs.Logic.{get_or_create_table_for_subgoal, select_from}
use Rattle.laws.proofs.Totals.{total_append}
use Rattle.small_steps.specs.Acts.{built, with_made}
use Rattle.small_steps.specs.Decide.{no_literal, no_table, literal_at, with_literal_floundered, propagated, View, decide_table}
use Rattle.small_steps.specs.Decide.{Picked}
use Rattle.small_steps.specs.Decide.{picking, decide_from}
use Rattle.small_steps.proofs.Matches.{Matches, asserts, both_go, Goes, asserting, going, goes_after, goes_unwrap, after, then, sure}
use Rattle.small_steps.proofs.Matches.{on_unwrap, by_option, guard, assert, by_bool}
use Rattle.small_steps.proofs.Writing.{heads, same_head}
use Rattle.small_steps.proofs.Deeds.{flounders_literal}

-- Tables that are built.

abbrev building : (goal : ℕ) → Goal → Stops Table
building goal x = elim x.floundered [
  | true ↦ go (mark_floundered (new goal x.coinductive))
  | false ↦ go (with_strands (new goal x.coinductive) (map initial_strand x.clauses))
]

pub builds : (book : Book) (goal : ℕ) → Goes (built book goal) (build_table book goal)
builds book goal = on (get_elem? book goal)
  where
    either : (b : Bool) (t u : Table) → Goes {A = Table}
        (elim (elim b as (λ _. Stops Table) [ true ↦ go t | false ↦ go u ]) as (λ _. Table) [ stop n ↦ new goal false | go x ↦ x ])
        (elim b as (λ _. Stops Table) [ true ↦ go t | false ↦ go u ])
    either true t u = going
    either false t u = going

    on : (o : Option Goal) → Goes {A = Table} (elim (unwrap o >>= building goal) as (λ _. Table) [ stop n ↦ new goal false | go x ↦ x ])
        (unwrap o >>= building goal)
    on none = asserting
    on (some x) = either x.floundered (mark_floundered (new goal x.coinductive))
        (with_strands (new goal x.coinductive) (map initial_strand x.clauses))

pub unanswered : (book : Book) (goal : ℕ) → (built book goal).answers ≡ []
unanswered book goal = on (get_elem? book goal)
  where
    either : (b : Bool) (t u : Table) → t.answers ≡ [] → u.answers ≡ []
        → (elim (elim b as (λ _. Stops Table) [ true ↦ go t | false ↦ go u ])
        as (λ _. Table) [ stop n ↦ new goal false | go x ↦ x ]).answers ≡ []
    either true t u p q = p
    either false t u p q = q

    on : (o : Option Goal) → (elim (unwrap o >>= building goal) as (λ _. Table) [ stop n ↦ new goal false | go x ↦ x ]).answers ≡ []
    on none = refl
    on (some x) = either x.floundered (mark_floundered (new goal x.coinductive))
        (with_strands (new goal x.coinductive) (map initial_strand x.clauses)) refl refl

pub held_made : (f : Forest) (made : List ℕ) → held (with_made f made) ≡ held f
held_made f [] = refl
held_made f (goal ∷ made) =
    let t = built (with_made f made).book goal in
    let x = total_append (λ u. length u.answers) (with_made f made).tables (t ∷ []) in
    let y : length t.answers ≡ 0 = ap length (unanswered (with_made f made).book goal) in
    let z = held_made f made in
    omega arith

-- Heads.

same_position : (goal : ℕ) (ts : Tables) → position (λ t. eqb t.table_goal goal) (map take_strands ts) ≡ position
    (λ t. eqb t.table_goal goal) ts
same_position goal [] = refl
same_position goal (t ∷ ts) = ap (λ (o : Option ℕ). elim (eqb t.table_goal goal) [
  | true ↦ some 0
  | false ↦ elim o [ none ↦ none | some i ↦ some (suc i) ]
]) (same_position goal ts)

heads_push : (ts : Tables) (t : Table) → map take_strands (ts ++ (t ∷ [])) ≡ map take_strands ts ++ (take_strands t ∷ [])
heads_push [] t = refl
heads_push (u ∷ ts) t = ap (λ (l : Tables). take_strands u ∷ l) (heads_push ts t)

heads_with : (f : Forest) (t : Table) → heads (with_tables f (insert_table t f.tables)) ≡ with_tables (heads f)
    (insert_table (take_strands t) (heads f).tables)
heads_with f t = ap (λ (ts : Tables). with_tables f ts) (heads_push f.tables t)

pub heads_made : (f g : Forest) → heads f ≡ heads g → (made : List ℕ) → heads (with_made f made) ≡ heads (with_made g made)
heads_made f g e [] = e
heads_made f g e (goal ∷ made) =
    heads_with (with_made f made) (built (with_made f made).book goal)
    ∙ ap (λ (h : Forest). with_tables h (insert_table (take_strands (built h.book goal)) h.tables)) (heads_made f g e made)
    ∙ sym (heads_with (with_made g made) (built (with_made g made).book goal))

-- what is known of a forest, where so many strands are in no queue
abbrev pub seen : (others : ℕ) → Forest → (made : List ℕ) → View
seen others f made = record { live = others + queued f; made = made }

propagates : (s : Strand) (selected : SelectedSubgoal) → Goes (propagated s selected) (propagate_floundered_subgoal s selected)
propagates s selected = goes_after _ (goes_unwrap (get_elem? s.ex_clause.subgoals selected.subgoal_index) no_literal)
    (by_literal (literal_at s.ex_clause selected.subgoal_index))
  where
    by_literal : (l : Literal) → Goes {A = Bool × Strand} (elim l as (λ _. Bool × Strand) [
      | Positive goal want outsized ↦ (
        false,
        with_ex_clause (with_selected s none)
            (with_literal_floundered s.ex_clause selected.subgoal_index),
      )
      | Negative goal outsized ↦ (true, with_selected s none)
    ]) (elim l as (λ _. Stops (Bool × Strand)) [
      | Positive goal want outsized ↦ flounder_subgoal s.ex_clause selected.subgoal_index >>= λ x. go
          (false, with_ex_clause (with_selected s none) x)
      | Negative goal outsized ↦ go (true, with_selected s none)
    ])
    by_literal (Positive goal want outsized) = goes_after _ (flounders_literal s.ex_clause selected.subgoal_index) going
    by_literal (Negative goal outsized) = going

-- the turn starts from the forest `start`; what is decided is read off `read`, which has the same heads
module _ (others : ℕ) (start read : Forest) (same : heads start ≡ heads read) where
  abbrev Finds : Option TableIndex × Forest → Option TableIndex × View → Type 0
  Finds r d = (r.0 ≡ d.0) × (r.1 ≡ with_made start d.1.made) × (d.1.live ≡ others + queued r.1)

  finds : (made : List ℕ) (l : Literal) → Matches Finds (get_or_create_table_for_subgoal others (with_made start made) l)
      (decide_table read (seen others (with_made start made) made) l)
  finds made l =
      let f = with_made start made in
      let g = with_made read made in
      let e : heads f ≡ heads g = heads_made start read same made in
      let t = built f.book (goal_of l) in
      let counts : others + queued (with_tables f (insert_table t f.tables)) ≡ others + queued f + length
      (built g.book (goal_of l)).strands = one_more f t
      ∙ ap (λ h. others + queued f + length (built h.book (goal_of l)).strands) e in
      let same_length : length f.tables ≡ length g.tables = sym (length-map f.tables take_strands)
      ∙ ap (λ h. length h.tables) e ∙ length-map g.tables take_strands in
      by_bool {b = gets_table l} refl
      (then (by_option (sym (same_position (goal_of l) f.tables) ∙ ap (λ h. index_of (goal_of l) h.tables) e
      ∙ same_position (goal_of l) g.tables)
      (λ new. sure _ (builds f.book (goal_of l))
      (guard (ap (ltb most_strands) counts) 22 (both_go (both_go (ap some same_length, refl, sym counts)))))
      (λ i old. both_go (both_go {b = (some i, seen others f made)} (refl, refl, refl)))))
      (both_go {b = (none, seen others f made)} (refl, refl, refl))
    where
      one_more : (f : Forest) (t : Table) → others + queued (with_tables f (insert_table t f.tables)) ≡ others + queued f + length
          t.strands
      one_more f t = let x = total_append (λ u. length u.strands) f.tables (t ∷ []) in omega arith

  -- what is chosen is what is picked
  pub record Picks (c : Selection) (p : Picked) : Type 0 where
    pub same_selection : p.selection ≡ c.selection
    pub same_strand : p.strand ≡ c.strand
    pub same_forest : c.forest ≡ with_made start p.view.made
    pub same_live : p.view.live ≡ others + queued c.forest

  abbrev Chooses : (passes : ℕ) → Type 0
  Chooses passes = (made : List ℕ) (s : Strand) → Matches Picks (select_from passes others (with_made start made) s)
      (decide_from passes read (seen others (with_made start made) made) s)

  module _ (passes : ℕ) (ih : Chooses passes) (made : List ℕ) (s : Strand) where
    abbrev f : Forest
    f = with_made start made

    picks : (c : SubGoalSelection) (strand : Strand) → Matches Picks (go (selecting c strand f))
        (go (picking c strand (seen others f made)))
    picks c strand = both_go {a = selecting c strand f} {b = picking c strand (seen others f made)}
        (record { same_selection = refl; same_strand = refl; same_forest = refl; same_live = refl })

    after_found : (r : Option TableIndex × Forest) (d : Option TableIndex × View) → Finds r d → (strand : Strand)
        → Matches Picks (select_from passes others r.1 strand) (decide_from passes read d.1 strand)
    after_found r d x strand =
        subst (λ z. Matches Picks (select_from passes others z strand) (decide_from passes read d.1 strand)) (sym x.1)
        (subst (λ z. Matches Picks (select_from passes others (with_made start d.1.made) strand)
        (decide_from passes read (record { live = z; made = d.1.made }) strand)) (sym (x.2 ∙ ap (λ h. others + queued h) x.1))
        (ih d.1.made strand))

    a_pass : Matches Picks (select_from (suc passes) others f s) (decide_from (suc passes) read (seen others f made) s)
    a_pass = by_option {o = s.selected_subgoal} refl
        (λ idle. by_bool {b = is_empty s.ex_clause.subgoals} refl
        (by_bool {b = is_empty s.ex_clause.floundered_subgoals} refl
        (picks NotSelected s)
        (let x = reconsider_floundered_subgoals s.ex_clause in by_bool {b = is_empty x.subgoals} refl
        (assert (is_empty x.floundered_subgoals) (picks NotSelected (with_ex_clause s (with_ambiguous x true))))
        (ih made (with_ex_clause s x))))
        (let i = next_subgoal_index s.ex_clause in
        on_unwrap (get_elem? s.ex_clause.subgoals i) no_literal _
        (λ q. after (finds made (literal_at s.ex_clause i)) (λ r d x. by_option x.0
        (λ b. sure _ (flounders_literal s.ex_clause i) (ih made (with_ex_clause s (with_literal_floundered s.ex_clause i))))
        (λ t b. after_found r d x (with_selected s (some (record { subgoal_index = i; subgoal_table = t; answer_index = 0 }))))))))
        (λ selected busy. on_unwrap (get_elem? f.tables selected.subgoal_table) no_table _
        (λ k. by_bool (ap (λ t. t.floundered)
        (same_head f (with_made read made) (heads_made start read same made) selected.subgoal_table))
        (sure _ (propagates s selected) (by_bool {b = (propagated s selected).0} refl
        (picks NotSelected (propagated s selected).1)
        (ih made (propagated s selected).1)))
        (picks Selected s)))

  pub chooses : (passes : ℕ) → Chooses passes
  chooses zero made s = asserts
  chooses (suc passes) made s = a_pass passes (chooses passes) made s
