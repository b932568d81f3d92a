-- After an answer: the caller has its strand, the root has the answer that was searched for, and a refinement strand is sound.
use Prim.Native.Nat.{ℕ, suc, ◌+◌, ◌<◌}
use native.Mathlib.Omega.{arith}
use mathlib.Core.Path.{◌≡◌, refl, sym, ap, subst, ◌∙◌}
use mathlib.Core.Bool.{true, false, not, ◌&&◌}
use mathlib.Core.Option.{Option, none, some}
use mathlib.Core.List.{List, [], ◌∷◌, map}
use lib.ListN.{length-map, length, get_elem?}
use Rattle.definitions.specs.{Answer, is_complete}
use Rattle.definitions.specs.Book.{any, Positive}
use Rattle.definitions.specs.Stop.{go, ◌>>=◌, unwrap}
use Rattle.definitions.specs.Lists.{is_empty}
use Rattle.definitions.specs.Strand.{Strand}
use Rattle.definitions.specs.Table.{enqueue_strand, answer}
use Rattle.definitions.specs.Tables.{Tables, Forest, queued}
use Rattle.definitions.specs.Stack.{StackEntry, Stack, with_active, caller, active, active_count}
use Rattle.definitions.specs.Logic.{QuantumExceeded, continue, return_ok, return_err, unwound}
use Rattle.definitions.specs.Turn.{create_refinement_strand, on_answer, on_no_remaining_subgoals}
use Rattle.laws.proofs.Options.{no_such, same_some}
use Rattle.laws.specs.All.{All, end, more}
use Rattle.laws.proofs.All.{all_at}
use Rattle.laws.proofs.Bools.{case_bool}
use Rattle.asserts.proofs.Safe.{Safe, goes, after, known, by_bool, by_option, unwraps}
use Rattle.asserts.specs.Sound.{Named, Goals, SoundAnswer, SoundStrand, Rooted, SoundStack}
use Rattle.asserts.proofs.Keeping.{rooted_grows, enqueue_kept, table_is, change_is, table_sound, searching_kept}
use Rattle.asserts.proofs.Unwinding.{Flows, unwinding}
use Rattle.asserts.proofs.States.{state, with_queued, enqueue_is, takes_back, leaves}
use Rattle.asserts.proofs.Answers.{Answered, Pursued, pursues}

as_literals : {n : ℕ} {ds : List ℕ} → Goals n ds → All (Named n) (map (λ g. Positive g any false) ds)
as_literals end = end
as_literals (more p x) = more p (as_literals x)

-- a refinement strand, if there is one
abbrev Refines : (n : ℕ) (ts : Tables) → Option Strand → Type 0
Refines n ts o = (s : Strand) → o ≡ some s → SoundStrand n ts s

refines : {n : ℕ} (ts : Tables) (a : Answer) → SoundAnswer n a → Refines n ts (create_refinement_strand a)
refines {n} ts a g = case_bool (Refines n ts) (is_empty a.delayed_subgoals)
    (λ e s q. absurd (no_such q))
    (λ e s q. subst (SoundStrand n ts) (same_some q) (
      record {
        subgoals_named = as_literals g.0;
        floundered_named = end;
        delayed_named = end;
        few_literals = let o = g.1 in let p = length-map a.delayed_subgoals (λ g. Positive g any false) in omega arith;
        few_delayed = omega arith;
      },
      tt,
    ))

module _ (n root index first : ℕ) where
  answered : (f : Forest) (e : StackEntry) (es : Stack) (x : SoundStack n root index first f (e ∷ es)) (i : ℕ) (f' : Forest)
      → queued f + active (e ∷ es) < 256 → Answered n root index first f e es x i f'
      → Safe (Flows n root index first) (on_answer (state f' e es) e.table i)
  answered f e [] x i f' free a =
      let s = searching_kept x.0 a.kept in
      let is-root : e.table ≡ root = x.0.below.0 in
      let same-own : x.0.rooted.own ≡ x.0.standing.own =
      same_some (sym x.0.rooted.is_made ∙ ap (get_elem? f.tables) (sym is-root) ∙ x.0.standing.is_made) in
      let enough = x.0.rooted.enough in
      let same_length : length x.0.rooted.own.answers ≡ length x.0.standing.own.answers =
      ap (λ t. length t.answers) same-own in
      let one = a.one_more in
      let r : Rooted f'.tables root (suc index) = record {
        own = a.after_table;
        is_made = subst (λ j. get_elem? f'.tables j ≡ some a.after_table) is-root a.is_made;
        enough = omega arith;
      } in
      let g = all_at i (table_sound a.kept.sound e.table a.is_made).sound_answers a.there in
      known _ (table_is f' e.table a.after_table a.is_made)
      (known _ (unwraps (answer a.after_table i) a.the_answer a.there)
      (by_option (create_refinement_strand a.the_answer)
      (λ q. goes {a = return_ok (record { forest = f'; stack = [] })} (refl, a.kept.sound, r))
      (λ strand q.
      let k = enqueue_kept a.kept.sound e.table a.is_made (let o = a.fewer in omega arith) a.unfloundered strand
      (refines f'.tables a.the_answer g strand q) in
      known _ (change_is f' e.table a.after_table (enqueue_strand strand) a.is_made)
      (goes {a = return_ok (record {
        forest = with_queued f' e.table a.after_table strand;
        stack = [];
      })} (refl, k.sound, rooted_grows k.grows r)))))
  answered f e (c ∷ es) x i f' free a =
      let s = searching_kept x.0 a.kept in
      let calls = s.below.1 in
      known _ (known_caller c.active_strand calls.strand calls.is_active)
      (goes {a = continue (state f' (with_active c (some calls.strand)) es)} (
        record {
          forest = s.forest;
          begun = s.begun;
          rooted = s.rooted;
          standing = s.below.0;
          below = s.below.2;
          off = s.below.3;
        },
        calls.sound,
        (let o = a.fewer in let one : active_count c.active_strand ≡ 1 = ap active_count calls.is_active in
            omega arith),
      ))
    where
      known_caller : (o : Option Strand) (strand : Strand) → o ≡ some strand
          → (unwrap o >>= λ s. go (caller s (with_active c none ∷ es))) ≡ go (caller strand (with_active c none ∷ es))
      known_caller o strand q = rw q

  pub no_remaining : (f : Forest) (e : StackEntry) (es : Stack) → SoundStack n root index first f (e ∷ es)
      → queued f + active (e ∷ es) < 256 → (strand : Strand) → SoundStrand n f.tables strand
      → (is_empty strand.ex_clause.subgoals ≡ true
      → (not (is_empty strand.ex_clause.floundered_subgoals) && not strand.ex_clause.ambiguous) ≡ false)
      → Safe (Flows n root index first) (on_no_remaining_subgoals (state f e es) strand)
  no_remaining f e es x free strand y c =
      let own = x.0.standing.own in
      let k = x.0.standing.is_made in
      known _ (table_is f e.table own k)
      (by_bool (is_complete own.answer_mode && strand.ex_clause.ambiguous)
      (λ b. known _ (enqueue_is f e es strand own k)
      (goes {a = return_err QuantumExceeded (state (with_queued f e.table own strand) e es)} (
        refl,
        leaves n root index first (with_queued f e.table own strand) e es
            (takes_back n root index first f e es strand x free y),
      )))
      (λ b. after (pursues n root index first f e es x strand y.0 c) (λ r p. pursued r.0 r.1 p)))
    where
      pursued : (o : Option ℕ) (f' : Forest) → Pursued n root index first f e es x o f' → Safe (Flows n root index first) (elim o [
        | some i ↦ on_answer (state f' e es) e.table i
        | none ↦ unwound QuantumExceeded (state f' e es)
      ])
      pursued none f' p = unwinding QuantumExceeded refl e p.0 p.1 p.2
      pursued (some i) f' p = answered f e es x i f' free p
