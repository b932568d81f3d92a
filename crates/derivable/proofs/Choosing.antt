-- Making a table, choosing a literal and unwinding keep what is kept.
use Prim.Native.Nat.{ℕ, zero, suc, ◌+◌, ◌*◌}
use borrow.Author.Tests.{eqb-true}
use mathlib.Core.Path.{◌≡◌, refl, sym, ap, subst, ◌∙◌}
use mathlib.Core.Bool.{Bool, true, false}
use mathlib.Core.Option.{Option, none, some}
use mathlib.Core.List.{List, [], ◌∷◌, ◌++◌, map, Memᴰ, map-append}
use lib.ListN.{length, get_elem?, length-map}
use lib.Dec.{eqb, ltb}
use Rattle.definitions.specs.{TableIndex, ExClause, Answer}
use Rattle.definitions.specs.Book.{Literal, Positive, Negative, Clause, Goal, Book, goal_of}
use Rattle.definitions.specs.Fitting.{gets_table}
use Rattle.definitions.specs.Stop.{Stops, go, ◌>>=◌}
use Rattle.definitions.specs.Lists.{is_empty}
use Rattle.definitions.specs.Strand.{SelectedSubgoal, Strand, with_ex_clause, with_selected}
use Rattle.definitions.specs.Table.{Table, enqueue_strand}
use Rattle.definitions.specs.Tables.{Forest, with_tables, index_of, change_table, queued}
use Rattle.definitions.specs.Stack.{StackEntry, Stack, active}
use Rattle.definitions.specs.Slg.{next_subgoal_index}
use Rattle.definitions.specs.Logic.{SolveState, initial_strand, build_table, get_or_create_table_for_ucanonical_goal}
use Rattle.definitions.specs.Logic.{get_or_create_table_for_subgoal, flounder_subgoal, reconsider_from, reconsider_floundered_subgoals}
use Rattle.definitions.specs.Logic.{propagate_floundered_subgoal, Selection, SubGoalSelection, Selected}
use Rattle.definitions.specs.Logic.{NotSelected, selecting, select_from}
use Rattle.definitions.specs.Logic.{select_subgoal, unwind_callers, unwind_stack, drop_state}
use Rattle.definitions.proofs.Lists.{all_push, position_at}
use Rattle.laws.proofs.Lists.{at_append, last_one}
use Rattle.laws.proofs.Options.{same_some, no_such, case_option}
use Rattle.laws.proofs.Bools.{case_bool}
use Rattle.laws.specs.All.{All, end, more}
use Rattle.laws.proofs.All.{all_map}
use Rattle.derivable.proofs.Fine.{Fine, stops, goes, after, guard, by_bool, by_option, unwrapping, weaker}
use Rattle.derivable.proofs.Kept.{Within, Closed, KeptTable, KeptForest, KeptActive, KeptEntry, KeptState}
use Rattle.derivable.proofs.Kept.{table_goal_at, enqueues}

module _ {book : Book} {P : List ℕ → ℕ → Strand → Type 0} {Q : ℕ → Answer → Type 0} (closed : Closed book P Q) where
  -- More tables.

  table_more : {gs gs' : List ℕ} → Within gs gs' → (t : Table) → KeptTable book P Q gs t → KeptTable book P Q gs' t
  table_more w t x = record {
    kept_strands = all_map (λ s p. closed.more_tables s w p) x.kept_strands;
    kept_answers = x.kept_answers;
    as_goal = x.as_goal;
  }

  active_more : (gs gs' : List ℕ) → Within gs gs' → (g : ℕ) (o : Option Strand) → KeptActive book P Q gs g o → KeptActive book P Q gs' g o
  active_more gs gs' w g none x = tt
  active_more gs gs' w g (some s) x = closed.more_tables s w x

  pub entry_more : {gs gs' : List ℕ} → Within gs gs' → (e : StackEntry) → KeptEntry book P Q gs e → KeptEntry book P Q gs' e
  entry_more {gs} {gs'} w e x = record {
    goal = x.goal;
    is_made = w e.table x.goal x.is_made;
    kept_active = active_more gs gs' w x.goal e.active_strand x.kept_active;
  }

  -- Making a table.

  initial_kept : {gs : List ℕ} {g : ℕ} (own : Goal) → get_elem? book g ≡ some own → own.floundered ≡ false → (cs : List Clause)
      → ((c : Clause) → Memᴰ c cs → Memᴰ c own.clauses) → All (P gs g) (map initial_strand cs)
  initial_kept own e u [] h = end
  initial_kept own e u (c ∷ cs) h =
      more {a = initial_strand c} (closed.fresh own e u c (h c (Memᴰ.head refl)))
      (initial_kept own e u cs (λ d m. h d (Memᴰ.tail m)))

  pub record Built (goal : ℕ) (t : Table) : Type 0 where
    pub for_goal : t.table_goal ≡ goal
    pub kept : (gs : List ℕ) → KeptTable book P Q gs t

  pub builds : (goal : ℕ) → Fine (Built goal) (build_table book goal)
  builds goal = unwrapping (get_elem? book goal) (λ own e. by_bool own.floundered
      (λ u. goes (record {
        for_goal = refl;
        kept = λ gs. record { kept_strands = end; kept_answers = end; as_goal = λ q. (own, e, q) };
      }))
      (λ u. goes (record {
        for_goal = refl;
        kept = λ gs. record {
          kept_strands = initial_kept own e u own.clauses (λ c m. m);
          kept_answers = end;
          as_goal = λ q. (own, e, q);
        };
      })))

  -- the forest with a table for the goal at that place
  pub record MadeFor (gs : List ℕ) (m goal : ℕ) (r : TableIndex × Forest) : Type 0 where
    pub goals : List ℕ
    pub within : Within gs goals
    pub kept : KeptForest book P Q goals m r.1
    pub is_made : get_elem? goals r.0 ≡ some goal

  with_table : {gs : List ℕ} {m : ℕ} {f : Forest} → KeptForest book P Q gs m f → (goal : ℕ) (t : Table) → Built goal t
      → MadeFor gs m goal (length f.tables, with_tables f (f.tables ++ (t ∷ [])))
  with_table {gs} {m} {f} k goal t b =
      let w : Within gs (gs ++ (goal ∷ [])) = λ i g e. at_append gs (goal ∷ []) i g e in
      record {
        goals = gs ++ (goal ∷ []);
        within = w;
        kept = record {
          book_is = k.book_is;
          mark_is = k.mark_is;
          goals_are = map-append (λ (u : Table). u.table_goal) f.tables (t ∷ [])
              ∙ ap (λ (z : List ℕ). z ++ (t.table_goal ∷ [])) k.goals_are
              ∙ ap (λ (z : ℕ). gs ++ (z ∷ [])) b.for_goal;
          kept_tables = all_push (all_map (table_more w) k.kept_tables) (b.kept (gs ++ (goal ∷ [])));
        };
        is_made = ap (get_elem? (gs ++ (goal ∷ []))) (sym (length-map f.tables (λ u. u.table_goal)) ∙ ap length k.goals_are)
            ∙ last_one gs goal;
      }

  pub makes : {gs : List ℕ} {m : ℕ} {f : Forest} → KeptForest book P Q gs m f → (others goal : ℕ)
      → Fine (MadeFor gs m goal) (get_or_create_table_for_ucanonical_goal others f goal)
  makes {gs} {m} {f} k others goal = by_option (index_of goal f.tables)
      (λ e. after (subst (λ (z : Book). Fine (Built goal) (build_table z goal)) (sym k.book_is) (builds goal))
      (λ t b. guard (ltb 256 (others + queued (with_tables f (f.tables ++ (t ∷ []))))) 22 (λ q. goes (with_table k goal t b))))
      (λ i e. let r = position_at (λ t. eqb t.table_goal goal) f.tables i e in goes (record {
        goals = gs;
        within = λ j g q. q;
        kept = k;
        is_made = table_goal_at k i r.0 r.1 ∙ ap some (eqb-true r.0.table_goal goal r.2);
      }))

  -- the same for a literal, which may get none
  pub record MadeMaybe (gs : List ℕ) (m : ℕ) (l : Literal) (r : Option TableIndex × Forest) : Type 0 where
    pub goals : List ℕ
    pub within : Within gs goals
    pub kept : KeptForest book P Q goals m r.1
    pub is_made : (i : TableIndex) → r.0 ≡ some i → (get_elem? goals i ≡ some (goal_of l)) × (gets_table l ≡ true)

  pub makes_for : {gs : List ℕ} {m : ℕ} {f : Forest} → KeptForest book P Q gs m f → (others : ℕ) (l : Literal)
      → Fine (MadeMaybe gs m l) (get_or_create_table_for_subgoal others f l)
  makes_for {gs} {m} {f} k others l = by_bool (gets_table l)
      (λ e. after (makes k others (goal_of l)) (λ r x. goes (record {
        goals = x.goals;
        within = x.within;
        kept = x.kept;
        is_made = λ i q. (ap (get_elem? x.goals) (sym (same_some q)) ∙ x.is_made, e);
      })))
      (λ e. goes (record { goals = gs; within = λ j g q. q; kept = k; is_made = λ i q. absurd (no_such q) }))

  -- Choosing.

  pub flounders_at : {gs : List ℕ} {g : ℕ} (s : Strand) (i : ℕ) → s.selected_subgoal ≡ none → P gs g s
      → Fine (λ x. P gs g (with_ex_clause s x)) (flounder_subgoal s.ex_clause i)
  flounders_at s i u p = unwrapping (get_elem? s.ex_clause.subgoals i) (λ l e. goes (closed.flounders s i l u e p))

  pub reconsiders : {gs : List ℕ} {g : ℕ} (i : ℕ) (s : Strand) → s.selected_subgoal ≡ none → P gs g s
      → P gs g (with_ex_clause s (reconsider_from i s.ex_clause))
  reconsiders zero s u p = p
  reconsiders {gs} {g} (suc i) s u p = case_option (λ (x : ExClause). P gs g (with_ex_clause s x)) (get_elem?
      s.ex_clause.floundered_subgoals i)
      (λ e. reconsiders i s u p)
      (λ l e. case_bool (λ (x : ExClause). P gs g (with_ex_clause s x)) (ltb l.floundered_time s.ex_clause.answer_time)
      (λ b. reconsiders i (with_ex_clause s _) u (closed.returns s i l u e p))
      (λ b. reconsiders i s u p))

  pub record Chosen (gs : List ℕ) (m g : ℕ) (c : Selection) : Type 0 where
    pub goals : List ℕ
    pub within : Within gs goals
    pub kept : KeptForest book P Q goals m c.forest
    pub kept_strand : P goals g c.strand

  chosen_after : {gs gs' : List ℕ} {m g : ℕ} {r : Stops Selection} → Within gs gs' → Fine (Chosen gs' m g) r → Fine (Chosen gs m g) r
  chosen_after w x = weaker x (λ c y. record {
    goals = y.goals;
    within = λ i g q. y.within i g (w i g q);
    kept = y.kept;
    kept_strand = y.kept_strand;
  })

  here : {gs : List ℕ} {m g : ℕ} {f : Forest} {s : Strand} (c : SubGoalSelection) → KeptForest book P Q gs m f → P gs g s
      → Fine (Chosen gs m g) (go (selecting c s f))
  here {gs} c k p = goes (record { goals = gs; within = λ j g q. q; kept = k; kept_strand = p })

  pub propagates : {gs : List ℕ} {g : ℕ} (s : Strand) (selected : SelectedSubgoal) → P gs g s
      → Fine (λ (r : Bool × Strand). P gs g r.1) (propagate_floundered_subgoal s selected)
  propagates {gs} {g} s selected p = unwrapping (get_elem? s.ex_clause.subgoals selected.subgoal_index) (λ l e. by_literal l)
    where
      by_literal : (l : Literal) → Fine (λ (r : Bool × Strand). P gs g r.1) (elim l [
        | Positive goal want outsized ↦ flounder_subgoal s.ex_clause selected.subgoal_index >>= λ x. go
            (false, with_ex_clause (with_selected s none) x)
        | Negative goal outsized ↦ go (true, with_selected s none)
      ])
      by_literal (Positive goal want outsized) =
          after (flounders_at (with_selected s none) selected.subgoal_index refl (closed.unselected s p)) (λ x q. goes q)
      by_literal (Negative goal outsized) = goes (closed.unselected s p)

  chooses : (passes : ℕ) {gs : List ℕ} {m g : ℕ} (others : ℕ) (f : Forest) (s : Strand) → KeptForest book P Q gs m f → P gs g s
      → Fine (Chosen gs m g) (select_from passes others f s)
  chooses zero others f s k p = stops
  chooses (suc passes) {gs} {m} {g} others f s k p = by_option s.selected_subgoal
      (λ u. by_bool (is_empty s.ex_clause.subgoals)
      (λ none_left. by_bool (is_empty s.ex_clause.floundered_subgoals)
      (λ b. here NotSelected k p)
      (λ b.
      let x = reconsider_floundered_subgoals s.ex_clause in
      let r = reconsiders (length s.ex_clause.floundered_subgoals) s u p in
      by_bool (is_empty x.subgoals)
      (λ c. guard (is_empty x.floundered_subgoals) 0 (λ d. here NotSelected k (closed.stuck (with_ex_clause s x) u r)))
      (λ c. chooses passes others f (with_ex_clause s x) k r)))
      (λ some_left.
      let i = next_subgoal_index s.ex_clause in
      unwrapping (get_elem? s.ex_clause.subgoals i) (λ l e.
      after (makes_for k others l) (λ found z. by_option found.0
      (λ b. after (flounders_at s i u p) (λ x q. chooses passes others f (with_ex_clause s x) k q))
      (λ t b. let y = z.is_made t b in
      chosen_after z.within (chooses passes others found.1 (with_selected s (some _)) z.kept
      (closed.selects s i t l u e y.1 y.0 (closed.more_tables s z.within p))))))))
      (λ selected u. unwrapping (get_elem? f.tables selected.subgoal_table) (λ t e. by_bool t.floundered
      (λ b. after (propagates s selected p) (λ r q. by_bool r.0
      (λ c. here NotSelected k q)
      (λ c. chooses passes others f r.1 k q)))
      (λ b. here Selected k p)))

  pub selects_kept : {gs : List ℕ} {m g : ℕ} (state : SolveState) (s : Strand) → KeptForest book P Q gs m state.forest → P gs g s
      → Fine (Chosen gs m g) (select_subgoal state s)
  selects_kept state s k p =
      let literals = length s.ex_clause.subgoals + length s.ex_clause.floundered_subgoals in
      chooses (2 * literals + 4) (active state.stack + 1) state.forest s k p

  -- Unwinding.

  active_is : {gs : List ℕ} {g : ℕ} (o : Option Strand) → KeptActive book P Q gs g o → (s : Strand) → o ≡ some s → P gs g s
  active_is none x s e = absurd (no_such e)
  active_is {gs} {g} (some t) x s e = subst (P gs g) (same_some e) x

  -- the active strand of an entry
  pub active_kept : {gs : List ℕ} (e : StackEntry) (k : KeptEntry book P Q gs e) (s : Strand) → e.active_strand ≡ some s → P gs k.goal s
  active_kept e k s q = active_is e.active_strand k.kept_active s q

  pub unwinds : {gs : List ℕ} {m : ℕ} (f : Forest) (es : Stack) → KeptForest book P Q gs m f → All (KeptEntry book P Q gs) es
      → Fine (KeptForest book P Q gs m) (unwind_callers f es)
  unwinds f [] k end = goes k
  unwinds f (e ∷ es) k (more x xs) = unwrapping e.active_strand (λ s q.
      after (enqueues k e.table x.goal x.is_made s (active_kept e x s q)) (λ f' k'. unwinds f' es k' xs))

  pub unwinds_stack : {gs : List ℕ} {m : ℕ} (s : SolveState) → KeptState book P Q gs m s → Fine (KeptState book P Q gs m) (unwind_stack s)
  unwinds_stack {gs} {m} s k = by_stack s.stack k.kept_stack
    where
      by_stack : (es : Stack) → All (KeptEntry book P Q gs) es → Fine (KeptState book P Q gs m) (elim es [
        | [] ↦ go s
        | e ∷ es ↦ unwind_callers s.forest es >>= λ f. go (record { forest = f; stack = [] })
      ])
      by_stack [] x = goes k
      by_stack (e ∷ es) (more x xs) = after (unwinds s.forest es k.kept_forest xs)
          (λ f q. goes (record { kept_forest = q; kept_stack = end }))

  pub drops : {gs : List ℕ} {m : ℕ} (s : SolveState) → KeptState book P Q gs m s → Fine (KeptForest book P Q gs m) (drop_state s)
  drops {gs} {m} s k = by_stack s.stack k.kept_stack
    where
      by_stack : (es : Stack) → All (KeptEntry book P Q gs) es → Fine (KeptForest book P Q gs m) (elim es [
        | [] ↦ go s.forest
        | e ∷ es ↦ elim e.active_strand [
          | none ↦ unwind_callers s.forest es
          | some strand ↦ change_table s.forest e.table
              (enqueue_strand strand) >>= λ f. unwind_callers f es
        ]
      ])
      by_stack [] x = goes k.kept_forest
      by_stack (e ∷ es) (more x xs) = by_option e.active_strand
          (λ q. unwinds s.forest es k.kept_forest xs)
          (λ strand q. after (enqueues k.kept_forest e.table x.goal x.is_made strand (active_kept e x strand q))
          (λ f k'. unwinds f es k' xs))
