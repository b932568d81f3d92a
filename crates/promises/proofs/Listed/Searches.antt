-- A search and a peek, on any forest: a stop has a number of document 01 and leaves it as the mark, or is an assert; nothing else changes
-- the mark, and the turns are at most those that were allowed. An open stops by 22 alone.
use Prim.Native.Nat.{ℕ, zero, suc, ◌+◌, ◌≤◌}
use native.Mathlib.Omega.{arith}
use mathlib.Core.Bool.{true, false≢true}
use mathlib.Core.List.{[]}
use mathlib.Core.Logic.{◌⊎◌, inl, inr}
use mathlib.Core.Path.{◌≡◌, refl}
use lib.Dec.{eqb}
use Rattle.definitions.specs.{TableIndex, minimums_MAX}
use Rattle.definitions.specs.Lists.{is_empty}
use Rattle.definitions.specs.Stack.{push_entry}
use Rattle.definitions.specs.Stop.{Stops, stop, go}
use Rattle.definitions.specs.Table.{answer, next_answer_index}
use Rattle.definitions.specs.Tables.{Forest, with_mark}
use Rattle.definitions.specs.Logic.{SolveState, with_forest}
use Rattle.definitions.specs.Logic.{Flow, continue, return_ok, return_err}
use Rattle.definitions.specs.Turn.{Ending, found, fail, cut, stopped, Searched, put_back, stored_answer, ok_ending, search_turns, begin}
use Rattle.definitions.specs.Turn.{root_answer}
use Rattle.definitions.specs.Forest.{Opened, opened, Peeked, is_invalid, is_exceeded, skip_invalid, peek_rounds}
use Rattle.laws.proofs.Bools.{case_bool}
use Rattle.laws.proofs.Options.{case_option}
use Rattle.promises.proofs.Listed.Walk.{Comes, stops, goes, Any, then, unwrap_comes, table_comes, drop_comes, Marked, StateMarked}
use Rattle.promises.proofs.Listed.Logic.{Number, FlowMarked, OpenNumber, goal_comes}
use Rattle.promises.proofs.Listed.Turn.{clock_comes, turn_comes}

abbrev IsZero : ℕ → Type 0
IsZero n = n ≡ 0

-- how a search over a forest with mark m ends, and the mark that it leaves
abbrev pub Ends : (m : ℕ) → Ending → (left : ℕ) → Type 0
Ends m (found a) left = left ≡ m
Ends m (fail e) left = left ≡ m
Ends m cut left = left ≡ m
Ends m (stopped n) left = (n ≡ 0) ⊎ (Number n × (left ≡ n))

pub record Searches (m limit : ℕ) (r : Searched) : Type 0 where
  pub ends : Ends m r.ending r.forest.mark
  pub within : r.turns ≤ limit

module _ {A B : Type 0} {N : ℕ → Type 0} {P : A → Type 0} (Q : B → Type 0) where
  case_comes : {r : Stops A} {x : ℕ → B} {y : A → B} → Comes N P r → ((n : ℕ) → N n → Q (x n)) → ((a : A) → P a → Q (y a))
      → Q (elim r [ stop n ↦ x n | go a ↦ y a ])
  case_comes (stops {n = n} z) h k = h n z
  case_comes (goes {a = a} p) h k = k a p

abbrev Onward : (m limit done : ℕ) → Type 0
Onward m limit done = (t : TableIndex) (i most : ℕ) (s : SolveState) → StateMarked m s → done + limit ≤ most
    → Searches m most (search_turns limit done t i s)

module _ {m : ℕ} where
  stored_ends : (f : Forest) (t : TableIndex) (i : ℕ) → Marked m f → Ends m (stored_answer f t i) f.mark
  stored_ends f t i e = case_comes {N = IsZero} {P = Any} (λ x. Ends m x f.mark)
      (then (table_comes refl f t) (λ table _. unwrap_comes refl (answer table i)))
      (λ n z. inl z)
      (λ a _. case_bool (λ x. Ends m x f.mark) (is_empty a.delayed_subgoals) (λ _. e) (λ _. e))

  ok_ends : (s : SolveState) (t : TableIndex) (i : ℕ) → StateMarked m s → Ends m (ok_ending s t i) s.forest.mark
  ok_ends s t i e = case_bool (λ x. Ends m x s.forest.mark) (is_empty s.stack) (λ _. stored_ends s.forest t i e) (λ _. inl refl)

  -- what is put back keeps its mark
  put_back_ends : (ending : Ending) (turns limit : ℕ) (s : SolveState) → Ends m ending s.forest.mark → turns ≤ limit
      → Searches m limit (put_back ending turns s)
  put_back_ends ending turns limit s e o = case_comes {N = IsZero} (Searches m limit) (drop_comes refl s refl)
      (λ n z. record { ends = inl z; within = o })
      (λ f h. record { ends = rw h e; within = o })

  flow_ends : (limit done : ℕ) → Onward m limit (suc done) → (t : TableIndex) (i most : ℕ) (flow : Flow) → FlowMarked m flow
      → done + suc limit ≤ most → Searches m most (elim flow [
        | continue s ↦ search_turns limit (suc done) t i s
        | return_ok s ↦ put_back (ok_ending s t i) (suc done) s
        | return_err e s ↦ put_back (fail e) (suc done) s
      ])
  flow_ends limit done ih t i most (continue s) e o = ih t i most s e (omega arith)
  flow_ends limit done ih t i most (return_ok s) e o = put_back_ends (ok_ending s t i) (suc done) most s (ok_ends s t i e) (omega arith)
  flow_ends limit done ih t i most (return_err r s) e o = put_back_ends (fail r) (suc done) most s e (omega arith)

  turns_end : (limit done : ℕ) → Onward m limit done
  turns_end zero done t i most s e o = put_back_ends cut done most s e (omega arith)
  turns_end (suc limit) done t i most s e o = case_comes (Searches m most) (turn_comes s e)
      (λ n z. put_back_ends (stopped n) done most (with_forest s (with_mark s.forest n)) (inr (z, refl)) (omega arith))
      (λ flow h. flow_ends limit done (turns_end limit (suc done)) t i most flow h o)

  begin_ends : (limit : ℕ) (t : TableIndex) (i : ℕ) (f : Forest) → Marked m f → Searches m limit (begin limit t i f)
  begin_ends limit t i f e = case_comes (Searches m limit) (clock_comes f e)
      (λ n z. record { ends = inr (z, refl); within = omega arith })
      (λ f' h. turns_end limit 0 t i limit (record { forest = f'; stack = push_entry t minimums_MAX f'.clock [] }) h (omega arith))

  pub root_ends : (limit : ℕ) (t : TableIndex) (i : ℕ) (f : Forest) → Marked m f → Searches m limit (root_answer limit t i f)
  root_ends limit t i f e = case_comes {N = IsZero} (Searches m limit) (table_comes refl f t)
      (λ n z. record { ends = inl z; within = omega arith })
      (λ table _. case_bool (Searches m limit) table.floundered
      (λ _. record { ends = e; within = omega arith })
      (λ _. case_option (Searches m limit) (answer table i)
      (λ _. case_bool (Searches m limit) (eqb (next_answer_index table) i)
      (λ _. begin_ends limit t i f e)
      (λ _. record { ends = inl refl; within = omega arith }))
      (λ a _. record { ends = ok_ends (record { forest = f; stack = [] }) t i e; within = omega arith })))

  -- A peek.

  invalid_stays : (e : Ending) (left : ℕ) → is_invalid e ≡ true → Ends m e left → left ≡ m
  invalid_stays (found a) left x h = h
  invalid_stays (fail r) left x h = h
  invalid_stays cut left x h = h
  invalid_stays (stopped n) left x h = absurd (false≢true x)

  exceeded_stays : (e : Ending) (left : ℕ) → is_exceeded e ≡ true → Ends m e left → left ≡ m
  exceeded_stays (found a) left x h = h
  exceeded_stays (fail r) left x h = h
  exceeded_stays cut left x h = h
  exceeded_stays (stopped n) left x h = absurd (false≢true x)

abbrev last_search : Peeked → Searched
last_search p = record { ending = p.ending; turns = p.turns; forest = p.forest }

abbrev pub Peeks : (m limit : ℕ) → Peeked → Type 0
Peeks m limit p = Searches m limit (last_search p)

module _ {m : ℕ} where
  skip_ends : (more limit k : ℕ) (t : TableIndex) (i : ℕ) (f : Forest) → Marked m f → Peeks m limit (skip_invalid more limit k t i f)
  skip_ends zero limit k t i f e = root_ends limit t i f e
  skip_ends (suc more) limit k t i f e =
      let r = root_ends limit t i f e in
      case_bool (Peeks m limit) (is_invalid (root_answer limit t i f).ending)
      (λ x. skip_ends more limit k t (suc i) (root_answer limit t i f).forest
      (invalid_stays (root_answer limit t i f).ending (root_answer limit t i f).forest.mark x r.ends))
      (λ x. r)

  pub rounds_end : (more limit k : ℕ) (t : TableIndex) (i : ℕ) (f : Forest) → Marked m f → Peeks m limit (peek_rounds more limit k t i f)
  rounds_end zero limit k t i f e =
      let p = skip_ends 256 limit k t i f e in
      case_bool (Peeks m limit) (is_exceeded (skip_invalid 256 limit k t i f).ending) (λ x. p) (λ x. p)
  rounds_end (suc more) limit k t i f e =
      let p = skip_ends 256 limit k t i f e in
      let q = skip_invalid 256 limit k t i f in
      case_bool (Peeks m limit) (is_exceeded q.ending)
      (λ x. rounds_end more limit (suc k) t q.index q.forest (exceeded_stays q.ending q.forest.mark x p.ends))
      (λ x. p)

-- An open.

abbrev pub Opens : (m : ℕ) → Stops TableIndex → (left : ℕ) → Type 0
Opens m (stop n) left = OpenNumber n × (left ≡ n)
Opens m (go t) left = left ≡ m

pub opened_ends : {m : ℕ} (f : Forest) (goal : ℕ) → Marked m f → Opens m (opened 0 f goal).table (opened 0 f goal).forest.mark
opened_ends {m} f goal e = case_comes (λ (o : Opened). Opens m o.table o.forest.mark)
    (goal_comes 0 f goal e)
    (λ n z. (z, refl))
    (λ r h. h)
