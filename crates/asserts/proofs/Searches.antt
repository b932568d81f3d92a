-- A search over a sound forest ends without an assert, and leaves a sound forest. Where its answer has delayed goals, that is stored.
use Prim.Native.Nat.{ℕ, zero, suc, ◌≤◌}
use native.Mathlib.Omega.{arith}
use borrow.Author.Tests.{eq-eqb}
use mathlib.Core.Path.{◌≡◌, refl, sym, ap, subst, ◌∙◌}
use mathlib.Core.Bool.{true, false, true≢false, false≢true}
use mathlib.Core.Logic.{inl, inr}
use mathlib.Core.List.{[]}
use lib.ListN.{length, get_elem?}
use lib.Dec.{eqb}
use Rattle.definitions.specs.{Answer, minimums_MAX}
use Rattle.definitions.specs.Stop.{Stops, stop, go, ◌>>=◌, unwrap}
use Rattle.definitions.specs.Lists.{is_empty}
use Rattle.definitions.specs.Table.{Table, answer, next_answer_index}
use Rattle.definitions.specs.Tables.{Forest, with_mark, table_at}
use Rattle.definitions.specs.Stack.{Stack, push_entry}
use Rattle.definitions.specs.Logic.{InvalidAnswer, SolveState, with_forest, Flow, continue, return_ok, return_err}
use Rattle.definitions.specs.Turn.{Ending, found, fail, cut, stopped, Searched, put_back, stored_answer, ok_ending, search_turns, begin}
use Rattle.definitions.specs.Turn.{root_answer}
use Rattle.definitions.specs.Forest.{is_invalid}
use Rattle.laws.proofs.Lists.{at_place, place_under, no_place}
use Rattle.laws.proofs.Options.{same_some, case_option}
use Rattle.laws.specs.All.{end}
use Rattle.laws.proofs.Bools.{case_bool}
use Rattle.asserts.proofs.Safe.{NotZero, case_stops, case_safe, stop_go}
use Rattle.asserts.proofs.Safe.{unwrapped, unwraps}
use Rattle.asserts.specs.Sound.{Reached, SoundForest, Rooted, SoundState}
use Rattle.asserts.proofs.Keeping.{grows_same, steady_same, Kept, ticks, table_is}
use Rattle.asserts.proofs.Unwinding.{Ended, ended_kept, Left, Flows}
use Rattle.asserts.proofs.Turns.{turn_keeps, state_left, state_kept, state_forest}

-- no assert
abbrev pub Fine : Ending → Type 0
Fine (found a) = Unit {0}
Fine (fail e) = Unit {0}
Fine cut = Unit {0}
Fine (stopped n) = NotZero n

pub record Well (n root index : ℕ) (r : Searched) : Type 0 where
  pub ended : Ended n root index r.forest
  pub fine : Fine r.ending
  pub when_invalid : is_invalid r.ending ≡ true → Rooted r.forest.tables root (suc index)

-- a mark changes nothing else
pub mark_kept : {n : ℕ} {f : Forest} (m : ℕ) → SoundForest n f → Kept n f (with_mark f m)
mark_kept {n} {f} m s = record {
  sound = record {
    goals = s.goals;
    few_goals = s.few_goals;
    tables_apart = s.tables_apart;
    as_goals = s.as_goals;
    sound_book = s.sound_book;
    sound_tables = s.sound_tables;
    few_answers = s.few_answers;
    few_strands = s.few_strands;
    clock_within = s.clock_within;
    limit_within = s.limit_within;
  };
  clock_kept = omega arith;
  grows = grows_same steady_same f.tables;
}

stored_fine : {root index : ℕ} (f : Forest) → Rooted f.tables root (suc index) → Fine (stored_answer f root index)
stored_fine {root} {index} f x =
    let o = x.enough in
    let a = at_place x.own.answers index (omega arith) in
    on (table_at f root >>= λ t. unwrap (answer t index)) a.0
    (ap (λ r. r >>= λ t. unwrap (answer t index)) (table_is f root x.own x.is_made)
    ∙ unwraps (answer x.own index) a.0 a.1)
  where
    on : (r : Stops Answer) (a : Answer) → r ≡ go a → Fine (elim r [
      | stop n ↦ stopped n
      | go a ↦ elim (is_empty a.delayed_subgoals)
          [ true ↦ found (record { variant = a.variant; ambiguous = a.ambiguous }) | false ↦ fail InvalidAnswer ]
    ])
    on (stop n) a e = stop_go e
    on (go b) a e = case_bool Fine (is_empty b.delayed_subgoals) (λ q. tt) (λ q. tt)

module _ (n root index : ℕ) where
  -- the search is put back
  puts_back : (ending : Ending) (turns : ℕ) (s : SolveState) → Left n root index s → Fine ending → is_invalid ending ≡ false
      → Well n root index (put_back ending turns s)
  puts_back ending turns s x fine valid = case_safe (Well n root index) x.1
      (λ m z. record { ended = x.0; fine = z; when_invalid = λ e. absurd (false≢true e) })
      (λ f y. record { ended = y; fine = fine; when_invalid = λ e. absurd (true≢false (sym e ∙ valid)) })

  -- with the answer in the root's table
  puts_answer : (turns : ℕ) (f : Forest) (es : Stack) → es ≡ [] → SoundForest n f → Rooted f.tables root (suc index)
      → Well n root index (put_back (ok_ending (record { forest = f; stack = es }) root index) turns (record { forest = f; stack = es }))
  puts_answer turns f es e s x = subst (λ q. Well n root index
      (put_back (ok_ending (record { forest = f; stack = q }) root index) turns (record { forest = f; stack = q }))) (sym e) (record {
        ended = record { sound = s; own = x.own; is_made = x.is_made; reached = let o = x.enough in inr (omega arith) };
        fine = stored_fine f x;
        when_invalid = λ q. x;
      })

  module _ (first : ℕ) where
    abbrev Onward : (limit done : ℕ) → Type 0
    Onward limit done = (s : SolveState) → SoundState n root index first s → Well n root index (search_turns limit done root index s)

    on_flow : (limit done : ℕ) → Onward limit (suc done) → (flow : Flow) → Flows n root index first flow → Well n root index (elim flow [
      | continue s'' ↦ search_turns limit (suc done) root index s''
      | return_ok s'' ↦ put_back (ok_ending s'' root index) (suc done) s''
      | return_err e s'' ↦ put_back (fail e) (suc done) s''
    ])
    on_flow limit done ih (continue s) x = ih s x
    on_flow limit done ih (return_ok s) x = puts_answer (suc done) s.forest s.stack x.0 x.1 x.2
    on_flow limit done ih (return_err e s) x = puts_back (fail e) (suc done) s x.1 tt x.0

    searches : (limit done : ℕ) → Onward limit done
    searches zero done s x = puts_back cut done s (state_left n root index first s x) tt refl
    searches (suc limit) done s x = case_safe (Well n root index) (turn_keeps n root index first s x)
        (λ m z. let f' = with_mark s.forest m in puts_back (stopped m) done (with_forest s f')
        (state_left n root index first (with_forest s f')
        (state_kept n root index first s f' x (mark_kept m (state_forest n root index first s x)) refl)) z refl)
        (λ flow y. on_flow limit done (searches limit (suc done)) flow y)

  begins : (limit : ℕ) (f : Forest) (x : Ended n root index f) → x.own.floundered ≡ false → index ≤ length x.own.answers
      → Well n root index (begin limit root index f)
  begins limit f x u o = case_safe (Well n root index) (ticks x.sound)
      (λ m z. record { ended = ended_kept x (mark_kept m x.sound); fine = z; when_invalid = λ e. absurd (false≢true e) })
      (λ f' d.
      let k = d.0 in
      let few = k.sound.few_strands in
      let t = k.grows.grown root x.own x.is_made in
      let more-now = t.related.more_answers in
      let within = k.sound.clock_within in
      let below-max = k.sound.limit_within in
      searches f'.clock limit 0 (record { forest = f'; stack = push_entry root minimums_MAX f'.clock [] }) (
        record {
          forest = k.sound;
          begun = omega arith;
          rooted = record { own = t.after; is_made = t.is_made; enough = omega arith };
          standing = record {
            own = t.after;
            is_made = t.is_made;
            unfloundered = t.related.same_floundered ∙ u;
            clock_late = omega arith;
            positive_late = omega arith;
            negative_late = omega arith;
          };
          below = (refl, refl);
          off = end;
        },
        tt,
        (omega arith),
      ))

  unfloundered_reached : (t : Table) → t.floundered ≡ false → Reached t index → index ≤ length t.answers
  unfloundered_reached t u (inl e) = absurd (true≢false (sym e ∙ u))
  unfloundered_reached t u (inr o) = o

  -- a search for an answer that is stored or comes next
  pub root_answers : (limit : ℕ) (f : Forest) → Ended n root index f → Well n root index (root_answer limit root index f)
  root_answers limit f x = case_stops (Well n root index) (table_at f root)
      (λ m e. stop_go (sym e ∙ table_is f root x.own x.is_made))
      (λ t e.
      let k = unwrapped (get_elem? f.tables root) t e in
      let r = subst (λ u. Reached u index) (same_some (sym x.is_made ∙ k)) x.reached in
      let here : Ended n root index f = record { sound = x.sound; own = t; is_made = k; reached = r } in
      case_bool (Well n root index) t.floundered
      (λ u. record { ended = here; fine = tt; when_invalid = λ q. absurd (false≢true q) })
      (λ u. case_option (Well n root index) (answer t index)
      (λ q.
      let least = no_place t.answers index q in
      let most = unfloundered_reached t u r in
      case_bool (Well n root index) (eqb (next_answer_index t) index)
      (λ b. begins limit f here u most)
      (λ b. absurd (true≢false (sym (eq-eqb (length t.answers) index (omega arith)) ∙ b))))
      (λ a q.
      let under = place_under t.answers index a q in
      let there : Rooted f.tables root (suc index) = record { own = t; is_made = k; enough = under } in
      record { ended = here; fine = stored_fine f there; when_invalid = λ z. there })))
