-- A strand with nothing left to choose: what `on_no_remaining_subgoals` comes to is what is decided about it, and done.
use Prim.Native.Nat.{ℕ}
use mathlib.Core.Path.{◌≡◌, refl, sym, ap, subst, ◌∙◌}
use mathlib.Core.Bool.{Bool, true, false, not, ◌&&◌}
use mathlib.Core.Option.{Option, none, some}
use mathlib.Core.List.{List, [], ◌∷◌}
use lib.ListN.{length, get_elem?, set}
use lib.Dec.{leb}
use Rattle.definitions.specs.{Answer, is_complete}
use Rattle.definitions.specs.Fitting.{is_trivial, is_outsized}
use Rattle.definitions.specs.Stop.{Stops, go, ◌>>=◌, unwrap}
use Rattle.definitions.specs.Lists.{is_empty, push}
use Rattle.definitions.specs.Strand.{Strand}
use Rattle.definitions.specs.Table.{Table, with_strands, with_answers, take_strands, enqueue_strand, mark_floundered, equal_answer}
use Rattle.sizes.specs.Limits.{most_answers}
use Rattle.definitions.specs.Table.{answer}
use Rattle.definitions.specs.Tables.{Forest, with_tables, table_at, change_table, held}
use Rattle.definitions.specs.Stack.{StackEntry, Stack, with_active, caller, no_caller}
use Rattle.definitions.specs.Logic.{QuantumExceeded, SolveState, Flow, continue, return_ok, return_err, activate, unwound}
use Rattle.definitions.specs.Turn.{other_than, pursue_answer, create_refinement_strand, on_answer, on_no_remaining_subgoals}
use Rattle.laws.proofs.Lists.{last_one, set_here}
use Rattle.asserts.proofs.Keeping.{table_is, change_is}
use Rattle.asserts.proofs.Safe.{unwraps}
use Rattle.asserts.proofs.States.{state}
use Rattle.small_steps.specs.Acts.{Deed, gives_up, flounders, answers, stored, answered, perform_deed, changed, top_table}
use Rattle.small_steps.specs.Decide.{table_of, decide_answer, decide_no_remaining}
use Rattle.small_steps.proofs.Matches.{Matches, asserts, both_go, Goes, asserting, going, goes_after, then, sure, by_option, guard}
use Rattle.small_steps.proofs.Matches.{assert}
use Rattle.small_steps.proofs.Matches.{by_bool}
use Rattle.small_steps.proofs.Writing.{changes, changed_is, enqueues, unwinds_up, heads, after_table}
use Rattle.small_steps.proofs.Deeds.{Does}

-- the new answer is the last one
there : (a : Answer) (empties : Bool) (t : Table) → get_elem? (stored a empties t).answers (length t.answers) ≡ some a
there a true t = last_one t.answers a
there a false t = last_one t.answers a

storing : (a : Answer) (empties : Bool) (t : Table) →
    elim empties [ true ↦ take_strands (with_answers t (push t.answers a)) | false ↦ with_answers t (push t.answers a) ] ≡ stored a
    empties t
storing a true t = refl
storing a false t = refl

known : {A : Type 0} {a : A} {r : Stops A} → r ≡ go a → Goes a r
known {a = a} e = subst (λ z. Goes a z) (sym e) going

-- the state with the answer: the caller goes on, or the root has its answer
module _ (f : Forest) (e : StackEntry) (t : Table) (k : get_elem? f.tables e.table ≡ some t) where
  abbrev at_root : Option Strand → Stops Flow
  at_root o = elim o [
    | none ↦ go (return_ok (record { forest = f; stack = [] }))
    | some strand ↦ change_table f e.table (enqueue_strand strand) >>= λ f'. go (return_ok (record { forest = f'; stack = [] }))
  ]

  refines : (o : Option Strand) → Goes (return_ok
      (record {
        forest = (elim o as (λ _. SolveState) [
          | none ↦ state f e []
          | some strand ↦ top_table (enqueue_strand strand)
              (state f e [])
        ]).forest;
        stack = [];
      })) (at_root o)
  refines none = going
  refines (some strand) = goes_after _ (changes f e.table (enqueue_strand strand)) going

  answers_at : (es : Stack) (a : Answer) (i : ℕ) → get_elem? t.answers i ≡ some a
      → Goes (answered a (state f e es)) (on_answer (state f e es) e.table i)
  answers_at [] a i q = goes_after _ (known (table_is f e.table t k))
      (goes_after _ (known (unwraps (answer t i) a q)) (refines (create_refinement_strand a)))
  answers_at (c ∷ es) a i q = on c.active_strand
    where
      on : (o : Option Strand) → Goes (continue (state f (with_active c o) es))
          ((unwrap o >>= λ x. go (caller x (with_active c none ∷ es))) >>= λ popped. elim popped [
            | caller x cs ↦ activate (record { forest = f; stack = cs }) x >>= λ s''. go (continue s'')
            | no_caller ↦ table_at f e.table >>= λ u. unwrap (answer u i) >>= λ b. at_root (create_refinement_strand b)
          ])
      on none = asserting
      on (some x) = going

module _ (f g : Forest) (same : heads f ≡ heads g) (e : StackEntry) (es : Stack) where
  abbrev s : SolveState
  s = state f e es

  abbrev after-answer : Option ℕ × Forest → Stops Flow
  after-answer r = elim r.0 [
    | some index ↦ on_answer (state r.1 e es) e.table index
    | none ↦ unwound QuantumExceeded (state r.1 e es)
  ]

  does : {x : Stops Flow} (deed : Deed) → Goes (perform_deed deed s) x → Matches (Does s) x (go deed)
  does deed asserting = asserts
  does deed going = both_go refl

  module _ (t : Table) (k : get_elem? f.tables e.table ≡ some t) where
    new-answer : (a : Answer) (empties : Bool) → Goes (perform_deed (answers a empties) s)
        (on_answer (state (with_tables f (set f.tables e.table (stored a empties t))) e es) e.table (length t.answers))
    new-answer a empties =
        let f' = with_tables f (set f.tables e.table (stored a empties t)) in
        subst (λ z. Goes (answered a (state z e es)) (on_answer (state f' e es) e.table (length t.answers)))
        (sym (changed_is f e.table t (stored a empties) k))
        (answers_at f' e (stored a empties t) (set_here f.tables e.table t (stored a empties t) k) es a (length t.answers)
        (there a empties t))

    pursues : (ss : List Strand) (strand : Strand) → Matches (λ r deed. Matches (Does s) (after-answer r) (go deed))
        (pursue_answer f e.table strand) (decide_answer (held f) strand (with_strands t ss))
    pursues ss strand =
        let x = strand.ex_clause in
        let a : Answer = record {
          variant = x.subst.variant;
          delayed_subgoals = other_than t.table_goal
              x.delayed_subgoals;
          ambiguous = x.ambiguous;
        } in
        let b = not x.ambiguous && is_trivial x.subst.variant in
        guard {b = not (is_empty x.subgoals)} refl 25
        (assert (not (is_empty x.floundered_subgoals) && not x.ambiguous) (by_bool {b = is_outsized x.subst} refl
        (sure _ (changes f e.table mark_floundered)
        (both_go (does flounders (unwinds_up QuantumExceeded (changed f e.table mark_floundered) e es))))
        (sure _ (known (table_is f e.table t k))
        (then (assert t.floundered (by_option {o = equal_answer a t.answers} refl
        (λ new. guard {b = leb most_answers (held f)} refl 23
        (both_go (sure _ (known (change_is f e.table t
        (λ _. elim b [ true ↦ take_strands (with_answers t (push t.answers a)) | false ↦ with_answers t (push t.answers a) ])
        k))
        (both_go (does (answers a b) (subst (λ u. Goes (perform_deed (answers a b) s)
        (on_answer (state (with_tables f (set f.tables e.table u)) e es) e.table (length t.answers))) (sym (storing a b t))
        (new-answer a b)))))))
        (λ was old. guard {b = was.ambiguous && not a.ambiguous} refl 26
        (both_go (both_go (does (gives_up none) (unwinds_up QuantumExceeded f e es)))))))))))

  -- `on_no_remaining_subgoals`
  pub no_remaining : (strand : Strand) → Matches (Does s) (on_no_remaining_subgoals s strand)
      (decide_no_remaining (held f) strand (table_of g e.table))
  no_remaining strand = after_table f g same e.table (decide_no_remaining (held f) strand)
      (λ t ss k. by_bool {b = is_complete t.answer_mode && strand.ex_clause.ambiguous} refl
      (sure _ (enqueues f e es strand) (both_go refl))
      (then (pursues t k ss strand)))
