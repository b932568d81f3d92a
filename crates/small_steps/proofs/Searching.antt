-- A search is its start and then steps until one ends it: `root_answer` of the definitions, turn by turn.
use Prim.Native.Nat.{ℕ, zero, suc, ◌+◌}
use native.Mathlib.Omega.{arith}
use mathlib.Core.Path.{◌≡◌, refl, sym, subst}
use mathlib.Core.Bool.{Bool, true, false}
use mathlib.Core.Option.{Option, none, some}
use mathlib.Core.List.{[]}
use lib.Dec.{eqb, leb}
use Rattle.definitions.specs.{Answer, TableIndex, TimeStamp, minimums_MAX}
use Rattle.definitions.specs.Stop.{Stops, stop, go}
use Rattle.definitions.specs.Table.{Table, answer, next_answer_index}
use Rattle.definitions.specs.Tables.{Forest, with_mark, table_at, increment_clock}
use Rattle.definitions.specs.Stack.{push_entry}
use Rattle.definitions.specs.Logic.{Floundered, SolveState, with_forest, Flow, continue, return_ok, return_err}
use Rattle.definitions.specs.Turn.{turn, Searched, fail, cut, stopped, put_back, ok_ending, search_turns, begin, root_answer}
use borrow.Author.Tests.{le-leb, lt-leb}
use Rattle.small_steps.specs.Steps.{Standing, Progress, ended, stands, cut_short, standing, gone_on, after_turn, stop_short, step}
use Rattle.small_steps.specs.Steps.{pushes_root, start, Ends, at_once, after_step}

-- Both sides go by the same tests.

ends_if : (b : Bool) {p q : Progress} {r s : Searched} → Ends p r → Ends q s
    → Ends (elim b [ true ↦ p | false ↦ q ]) (elim b [ true ↦ r | false ↦ s ])
ends_if true h k = h
ends_if false h k = k

module _ {A : Type 0} {q : A → Progress} {s : A → Searched} where
  ends_option : (o : Option A) {p : Progress} {r : Searched} → Ends p r → ((a : A) → Ends (q a) (s a))
      → Ends (elim o [ none ↦ p | some a ↦ q a ]) (elim o [ none ↦ r | some a ↦ s a ])
  ends_option none h k = h
  ends_option (some a) h k = k a

  ends_stops : (o : Stops A) {p : ℕ → Progress} {r : ℕ → Searched} → ((n : ℕ) → Ends (p n) (r n)) → ((a : A) → Ends (q a) (s a))
      → Ends (elim o [ stop n ↦ p n | go a ↦ q a ]) (elim o [ stop n ↦ r n | go a ↦ s a ])
  ends_stops (stop n) h k = h n
  ends_stops (go a) h k = k a

-- a search with turns left stands; one without is cut
left_over : (w : Standing) (k : ℕ) → w.limit ≡ w.done + suc k → standing w ≡ stands w
left_over w k e = rw (standing, lt-leb w.limit w.done (omega arith))

used_up : (w : Standing) → w.limit ≡ w.done + 0 → standing w ≡ ended (cut_short w)
used_up w e = rw (standing, le-leb w.limit w.done (omega arith))

-- what the definitions do after a turn, with k turns left
abbrev goes_on : ℕ → Standing → Flow → Searched
goes_on k w flow = elim flow [
  | continue s ↦ search_turns k (suc w.done) w.table w.index s
  | return_ok s ↦ put_back (ok_ending s w.table w.index) (suc w.done) s
  | return_err f s ↦ put_back (fail f) (suc w.done) s
]

by_flow : (k : ℕ) (w : Standing) → ((s : SolveState) → Ends (standing (gone_on w s)) (goes_on k w (continue s)))
    → (flow : Flow) → Ends (after_turn w flow) (goes_on k w flow)
by_flow k w rest (continue s) = rest s
by_flow k w rest (return_ok s) = at_once
by_flow k w rest (return_err f s) = at_once

-- k turns are left
turns : (k : ℕ) (w : Standing) → w.limit ≡ w.done + k → Ends (standing w) (search_turns k w.done w.table w.index w.state)
turns zero w e = subst (λ p. Ends p (cut_short w)) (sym (used_up w e)) at_once
turns (suc k) w e =
    subst (λ p. Ends p (search_turns (suc k) w.done w.table w.index w.state)) (sym (left_over w k e))
    (after_step (ends_stops (turn w.state) (λ n. at_once) (by_flow k w (λ s. turns k (gone_on w s) (omega arith)))))

-- the search as its first push leaves it
abbrev pushed_root : (limit : ℕ) → TableIndex → (index : ℕ) → Forest → Standing
pushed_root limit t i f = record {
  state = record { forest = f; stack = push_entry t minimums_MAX f.clock [] };
  table = t;
  index = i;
  limit = limit;
  done = 0;
  first = f.clock;
}

begins : (limit : ℕ) (t : TableIndex) (i : ℕ) (f : Forest) → Ends (pushes_root limit t i f) (begin limit t i f)
begins limit t i f = ends_stops (increment_clock f) (λ n. at_once) (λ f'. turns limit (pushed_root limit t i f') (omega arith))

-- A SEARCH IS ITS START AND THEN STEPS, for every limit and on every forest.
pub search_steps : (limit : ℕ) (t : TableIndex) (i : ℕ) (f : Forest) → Ends (start limit t i f) (root_answer limit t i f)
search_steps limit t i f = ends_stops (table_at f t) (λ n. at_once) (λ table.
    ends_if table.floundered at_once (ends_option (answer table i)
    (ends_if (eqb (next_answer_index table) i) (begins limit t i f) at_once)
    (λ a. at_once)))
