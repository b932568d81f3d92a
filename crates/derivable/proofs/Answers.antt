-- An answer put to its table, and what that means to the caller.
use Prim.Native.Nat.{ℕ}
use mathlib.Core.Path.{◌≡◌, refl, sym, ap, subst, ◌∙◌}
use mathlib.Core.Bool.{Bool, true, false, not, ◌&&◌}
use mathlib.Core.Option.{Option, none, some}
use mathlib.Core.List.{List, [], ◌∷◌}
use lib.ListN.{length, get_elem?}
use lib.Dec.{leb}
use Rattle.definitions.specs.{TableIndex, Answer, is_complete}
use Rattle.definitions.specs.Book.{Book}
use Rattle.definitions.specs.Fitting.{is_trivial, is_outsized}
use Rattle.definitions.specs.Stop.{go, ◌>>=◌, ◌>>◌, unwrap}
use Rattle.definitions.specs.Lists.{is_empty, push}
use Rattle.definitions.specs.Strand.{Strand}
use Rattle.definitions.specs.Table.{Table, enqueue_strand, with_answers, take_strands, mark_floundered}
use Rattle.sizes.specs.Limits.{most_answers}
use Rattle.definitions.specs.Table.{equal_answer, push_answer, answer}
use Rattle.definitions.specs.Tables.{Forest, table_at, change_table, held}
use Rattle.definitions.specs.Stack.{StackEntry, Stack, with_active}
use Rattle.definitions.specs.Stack.{Popped, no_caller, caller, pop_and_take_caller_strand, pop_and_borrow_caller_strand}
use Rattle.definitions.specs.Logic.{QuantumExceeded, SolveState}
use Rattle.definitions.specs.Logic.{continue, return_ok, return_err, activate}
use Rattle.definitions.specs.Turn.{pursue_answer, create_refinement_strand}
use Rattle.definitions.specs.Turn.{on_answer, on_no_remaining_subgoals}
use Rattle.definitions.proofs.Lists.{nil_is, all_push}
use Rattle.laws.proofs.Bools.{was_true}
use Rattle.laws.proofs.Options.{same_some}
use Rattle.laws.specs.All.{All, end, more}
use Rattle.laws.proofs.All.{all_at}
use Rattle.derivable.proofs.Fine.{Fine, goes, after, guard, by_bool, by_option, unwrapping}
use Rattle.derivable.proofs.Kept.{answer_of, Closed, KeptTable, KeptForest, KeptEntry}
use Rattle.derivable.proofs.Kept.{KeptState, table_goal_at, same_goal, changes, enqueues}
use Rattle.derivable.proofs.Choosing.{active_kept}
use Rattle.derivable.proofs.States.{Flows, onward, goes_on, gives_up, enqueues_top, activates}

module _ {book : Book} {P : List ℕ → ℕ → Strand → Type 0} {Q : ℕ → Answer → Type 0} (closed : Closed book P Q) where
  module _ (gs : List ℕ) (m : ℕ) where
    abbrev Kept : SolveState → Type 0
    Kept s = KeptState book P Q gs m s

    abbrev KeptF : Forest → Type 0
    KeptF f = KeptForest book P Q gs m f

    abbrev Entry : StackEntry → Type 0
    Entry e = KeptEntry book P Q gs e

    -- an answer more, or the same ones
    pushed : (h : ℕ) (a : Answer) (t : Table) → KeptTable book P Q gs t → Q t.table_goal a
        → Fine (λ (r : Option ℕ × Table). (r.1.table_goal ≡ t.table_goal) × KeptTable book P Q gs r.1) (push_answer h a t)
    pushed h a t x y = guard t.floundered 0 (λ b. by_option (equal_answer a t.answers)
        (λ c. guard (leb most_answers h) 23 (λ d. goes {a = (some (length t.answers), with_answers t (push t.answers a))} (
          refl,
          record { kept_strands = x.kept_strands; kept_answers = all_push x.kept_answers y; as_goal = x.as_goal },
        )))
        (λ was c. guard (was.ambiguous && not a.ambiguous) 26 (λ d. goes {a = (none, t)} (refl, x))))

    abbrev cleared-if : Bool → Table → Table
    cleared-if b t = elim b [ true ↦ take_strands t | false ↦ t ]

    cleared : (b : Bool) (t : Table) → KeptTable book P Q gs t → ((cleared-if b t).table_goal ≡ t.table_goal)
        × KeptTable book P Q gs (cleared-if b t)
    cleared true t x = (refl, record { kept_strands = end; kept_answers = x.kept_answers; as_goal = x.as_goal })
    cleared false t x = (refl, x)

    pursues : (f : Forest) → KeptF f → (i g : ℕ) → get_elem? gs i ≡ some g → (strand : Strand) → P gs g strand
        → Fine (λ (r : Option ℕ × Forest). KeptF r.1) (pursue_answer f i strand)
    pursues f k i g q strand p =
        guard (not (is_empty strand.ex_clause.subgoals)) 25 (λ b.
        guard (not (is_empty strand.ex_clause.floundered_subgoals) && not strand.ex_clause.ambiguous) 0 (λ c.
        by_bool (is_outsized strand.ex_clause.subst)
        (λ d. after (changes k i mark_floundered (λ t e x.
        (refl, record { kept_strands = end; kept_answers = end; as_goal = x.as_goal }))) (λ f' y. goes {a = (none, f')} y))
        (λ d. unwrapping (get_elem? f.tables i) (λ t e.
        let same = same_goal k i t e g q in
        let new = answer_of t.table_goal strand.ex_clause in
        after (pushed (held f) new t (all_at i k.kept_tables e)
        (closed.answers strand (nil_is strand.ex_clause.subgoals (was_true (is_empty strand.ex_clause.subgoals) b)) c d
        (subst (λ (z : ℕ). P gs z strand) same p)))
        (λ r y. by_option r.0
        (λ z. goes {a = (none, f)} k)
        (λ index z.
        let w = cleared (not strand.ex_clause.ambiguous && is_trivial strand.ex_clause.subst.variant) r.1 y.1 in
        after (changes k i (λ _. cleared-if (not strand.ex_clause.ambiguous && is_trivial strand.ex_clause.subst.variant)
        r.1) (λ u h v. (w.0 ∙ y.0 ∙ ap (λ (z : Table). z.table_goal) (same_some (sym e ∙ h)), w.1)))
        (λ f' v. goes {a = (some index, f')} v)))))))

    -- what a pop leaves
    abbrev pub Pops : Popped → Type 0
    Pops no_caller = Unit {0}
    Pops (caller s es) = (e : StackEntry) × (rest : Stack) × (es ≡ e ∷ rest) × (x : Entry e) × All Entry rest × P gs x.goal s

    pub pops-taking : (es : Stack) → All Entry es → Fine Pops (pop_and_take_caller_strand es)
    pops-taking [] end = goes {a = no_caller} tt
    pops-taking (e ∷ []) x = goes {a = no_caller} tt
    pops-taking (e ∷ c ∷ es) (more x (more y ys)) = unwrapping c.active_strand (λ s q. goes {a = caller s (with_active c none ∷ es)} (
      with_active c none,
      es,
      refl,
      record { goal = y.goal; is_made = y.is_made; kept_active = tt },
      ys,
      active_kept closed c y s q,
    ))

    pub pops-borrowing : (es : Stack) → All Entry es → Fine Pops (pop_and_borrow_caller_strand es)
    pops-borrowing [] end = goes {a = no_caller} tt
    pops-borrowing (e ∷ []) x = goes {a = no_caller} tt
    pops-borrowing (e ∷ c ∷ es) (more x (more y ys)) = unwrapping c.active_strand (λ s q. goes {a = caller s (c ∷ es)} (
      c,
      es,
      refl,
      y,
      ys,
      active_kept closed c y s q,
    ))

    answered : (s : SolveState) → Kept s → (t : TableIndex) (index : ℕ) → Fine (Flows closed gs m) (on_answer s t index)
    answered s k t index = after (pops-taking s.stack k.kept_stack) by_popped
      where
        by_popped : (r : Popped) → Pops r → Fine (Flows closed gs m) (elim r [
          | caller strand es ↦ activate (record { forest = s.forest; stack = es }) strand >>= λ s''. go (continue s'')
          | no_caller ↦ table_at s.forest t >>= λ table. unwrap (answer table index) >>= λ a. elim (create_refinement_strand a) [
            | none ↦ go (return_ok (record { forest = s.forest; stack = [] }))
            | some strand ↦ change_table s.forest t (enqueue_strand strand) >>= λ f. go (return_ok (record { forest = f; stack = [] }))
          ]
        ])
        by_popped no_caller x = unwrapping (get_elem? s.forest.tables t) (λ u q. unwrapping (answer u index) (λ a here.
            by_option (create_refinement_strand a)
            (λ b. goes {a = return_ok (record { forest = s.forest; stack = [] })}
            (onward closed gs m (record { kept_forest = k.kept_forest; kept_stack = end })))
            (λ strand b.
            let y = all_at index (all_at t k.kept_forest.kept_tables q).kept_answers here in
            after (enqueues k.kept_forest t u.table_goal (table_goal_at k.kept_forest t u q) strand (closed.refines a strand b y))
            (λ f z. goes {a = return_ok (record { forest = f; stack = [] })} (onward closed gs m
            (record { kept_forest = z; kept_stack = end }))))))
        by_popped (caller strand es) x =
            subst (λ (z : Stack). Fine (Flows closed gs m) (activate (record { forest = s.forest; stack = z }) strand >>= λ s''. go
            (continue s'')))
            (sym x.2) (after (activates closed gs m s.forest x.0 x.1 k.kept_forest x.3 x.4 strand x.5)
            (λ s'' y. goes_on closed gs m s'' y))

    pub no_remaining : (f : Forest) (e : StackEntry) (es : Stack) (k : KeptF f) (x : Entry e) (xs : All Entry es) (strand : Strand)
        (p : P gs x.goal strand) → Fine (Flows closed gs m) (on_no_remaining_subgoals (record { forest = f; stack = e ∷ es }) strand)
    no_remaining f e es k x xs strand p = unwrapping (get_elem? f.tables e.table) (λ t q.
        by_bool (is_complete t.answer_mode && strand.ex_clause.ambiguous)
        (λ b. after (enqueues_top closed gs m f e es k x xs strand p) (λ s'' y. goes {a = return_err QuantumExceeded s''}
        (onward closed gs m y)))
        (λ b. after (pursues f k e.table x.goal x.is_made strand p) (λ r y. by_option r.0
        (λ c. gives_up closed gs m QuantumExceeded (record { forest = r.1; stack = e ∷ es })
        (record { kept_forest = y; kept_stack = more x xs }))
        (λ index c. answered (record { forest = r.1; stack = e ∷ es }) (record { kept_forest = y; kept_stack = more x xs })
        e.table index))))
