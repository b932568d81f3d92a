-- An answer that a search or a peek found is stored at its index: the table has more answers than that. Only the end of `root_answer`
-- gives one, and reads it from the table; putting the search back changes queues alone. So are the answers that a peek passes over: it ends
-- at index 256 at most.
use Prim.Native.Nat.{ℕ, zero, suc, ◌≤◌, ◌<◌}
use native.Mathlib.Omega.{arith}
use mathlib.Core.Path.{◌≡◌, refl, sym, ap, subst, ◌∙◌}
use mathlib.Core.Bool.{Bool, true, false, false≢true}
use mathlib.Core.Logic.{inr}
use mathlib.Core.Option.{Option, none, some}
use mathlib.Core.List.{[], ◌∷◌}
use lib.ListN.{length, get_elem?, set}
use lib.Dec.{eqb}
use Rattle.definitions.specs.{Answer}
use Rattle.definitions.specs.Stop.{Stops, stop, go, ◌>>=◌, unwrap}
use Rattle.definitions.specs.Lists.{is_empty}
use Rattle.definitions.specs.Strand.{Strand}
use Rattle.definitions.specs.Table.{Table, enqueue_strand, answer, next_answer_index}
use Rattle.definitions.specs.Tables.{Tables, Forest, with_mark, with_tables, table_at, change_table, increment_clock}
use Rattle.definitions.specs.Stack.{Stack}
use Rattle.definitions.specs.Logic.{RootSearchFail, SolveState, with_forest, Flow, continue, return_ok, return_err}
use Rattle.definitions.specs.Logic.{unwind_callers, drop_state}
use Rattle.definitions.specs.Turn.{Ending, found, fail, cut, stopped, Searched}
use Rattle.definitions.specs.Turn.{put_back, stored_answer, ok_ending, turn, search_turns, begin, root_answer}
use Rattle.definitions.specs.Forest.{Peeked, is_invalid, is_exceeded, skip_invalid, peek_rounds}
use Rattle.laws.proofs.Options.{same_some, case_option}
use Rattle.laws.proofs.Lists.{place_under}
use Rattle.laws.proofs.Bools.{case_bool}
use Rattle.asserts.proofs.Safe.{case_stops, stop_go, unwrapped}
use Rattle.asserts.proofs.Unwinding.{Ended}
use Rattle.asserts.proofs.Searches.{root_answers}
use Rattle.asserts.proofs.Bounds.{answers_at_most}

-- how many answers a table has, if it is made
abbrev answers_of : Option Table → ℕ
answers_of none = 0
answers_of (some t) = length t.answers

abbrev pub answers_at : Forest → (table : ℕ) → ℕ
answers_at f t = answers_of (get_elem? f.tables t)

abbrev pub is_found : Ending → Bool
is_found (found a) = true
is_found (fail e) = false
is_found cut = false
is_found (stopped n) = false

-- Putting back.

-- a forest whose tables have the answers that they had, unless a stop came
abbrev KeepsAnswers : Forest → Stops Forest → Type 0
KeepsAnswers f (stop n) = Unit {0}
KeepsAnswers f (go g) = (t : ℕ) → answers_at g t ≡ answers_at f t

keeps_after : (f : Forest) (r : Stops Forest) (k : Forest → Stops Forest) → KeepsAnswers f r → ((g : Forest) → KeepsAnswers g (k g)) →
    KeepsAnswers f (r >>= k)
keeps_after f (stop n) k x h = tt
keeps_after f (go g) k x h = both (k g) (h g)
  where
    both : (r : Stops Forest) → KeepsAnswers g r → KeepsAnswers f r
    both (stop n) y = tt
    both (go h) y = λ t. y t ∙ x t

set_keeps : (ts : Tables) (i t : ℕ) (u v : Table) → get_elem? ts i ≡ some u → length v.answers ≡ length u.answers →
    answers_of (get_elem? (set ts i v) t) ≡ answers_of (get_elem? ts t)
set_keeps [] i t u v e same = refl
set_keeps (w ∷ ts) zero zero u v e same = same ∙ ap (λ z. length z.answers) (sym (same_some e))
set_keeps (w ∷ ts) zero (suc t) u v e same = refl
set_keeps (w ∷ ts) (suc i) zero u v e same = refl
set_keeps (w ∷ ts) (suc i) (suc t) u v e same = set_keeps ts i t u v e same

enqueue_keeps : (f : Forest) (i : ℕ) (s : Strand) → KeepsAnswers f (change_table f i (enqueue_strand s))
enqueue_keeps f i s = on (get_elem? f.tables i) refl
  where
    on : (o : Option Table) → get_elem? f.tables i ≡ o →
        KeepsAnswers f (unwrap o >>= λ u. go (with_tables f (set f.tables i (enqueue_strand s u))))
    on none e = tt
    on (some u) e = λ t. set_keeps f.tables i t u (enqueue_strand s u) e refl

-- the strand goes back to its table, then what `rest` puts back
queued_keeps : (f : Forest) (i : ℕ) (s : Strand) (rest : Forest → Stops Forest) → ((g : Forest) → KeepsAnswers g (rest g)) →
    KeepsAnswers f (change_table f i (enqueue_strand s) >>= rest)
queued_keeps f i s rest h = keeps_after f (change_table f i (enqueue_strand s)) rest (enqueue_keeps f i s) h

unwind_keeps : (es : Stack) (f : Forest) → KeepsAnswers f (unwind_callers f es)
unwind_keeps [] f = λ t. refl
unwind_keeps (c ∷ es) f = on c.active_strand (unwind_keeps es)
  where
    on : (o : Option Strand) → ((g : Forest) → KeepsAnswers g (unwind_callers g es)) →
        KeepsAnswers f (unwrap o >>= λ s. change_table f c.table (enqueue_strand s) >>= λ g. unwind_callers g es)
    on none h = tt
    on (some s) h = queued_keeps f c.table s (λ g. unwind_callers g es) h

drop_keeps : (f : Forest) (es : Stack) → KeepsAnswers f (drop_state (record { forest = f; stack = es }))
drop_keeps f [] = λ t. refl
drop_keeps f (e ∷ es) = case_option (KeepsAnswers f) e.active_strand
    (λ q. unwind_keeps es f)
    (λ s q. queued_keeps f e.table s (λ g. unwind_callers g es) (unwind_keeps es))

-- A search.

module _ {B : Type 0} (P : B → Type 0) where
  case_flow : (flow : Flow) {x y : SolveState → B} {z : RootSearchFail → SolveState → B} →
      ((s : SolveState) → P (x s)) → ((s : SolveState) → P (y s)) → ((e : RootSearchFail) (s : SolveState) → P (z e s)) →
      P (elim flow [ continue s ↦ x s | return_ok s ↦ y s | return_err e s ↦ z e s ])
  case_flow (continue s) p q r = p s
  case_flow (return_ok s) p q r = q s
  case_flow (return_err e s) p q r = r e s

module _ (root index : ℕ) where
  abbrev StoredIn : Forest → Ending → Type 0
  StoredIn f e = is_found e ≡ true → index < answers_at f root

  abbrev Stored : Searched → Type 0
  Stored r = StoredIn r.forest r.ending

  stored_there : (f : Forest) → StoredIn f (stored_answer f root index)
  stored_there f = case_stops (StoredIn f) (table_at f root >>= λ t. unwrap (answer t index))
      (λ n e q. absurd (false≢true q))
      (λ a e. case_bool (StoredIn f) (is_empty a.delayed_subgoals)
      (λ b q. there a (get_elem? f.tables root) e) (λ b q. absurd (false≢true q)))
    where
      there : (a : Answer) (o : Option Table) → (unwrap o >>= λ t. unwrap (answer t index)) ≡ go a → index < answers_of o
      there a none e = stop_go e
      there a (some t) e = place_under t.answers index a (unwrapped (get_elem? t.answers index) a e)

  puts_stored : (ending : Ending) (turns : ℕ) (s : SolveState) → StoredIn s.forest ending → Stored (put_back ending turns s)
  puts_stored ending turns s x = case_stops Stored (drop_state s)
      (λ n e q. absurd (false≢true q))
      (λ f e q. let same = subst (KeepsAnswers s.forest) e (drop_keeps s.forest s.stack) root in let o = x q in omega arith)

  ok_stored : (s : SolveState) → StoredIn s.forest (ok_ending s root index)
  ok_stored s = case_bool (StoredIn s.forest) (is_empty s.stack) (λ b. stored_there s.forest) (λ b q. absurd (false≢true q))

  turns_stored : (limit done : ℕ) (s : SolveState) → Stored (search_turns limit done root index s)
  turns_stored zero done s = puts_stored cut done s (λ q. absurd (false≢true q))
  turns_stored (suc limit) done s = case_stops Stored (turn s)
      (λ n e. puts_stored (stopped n) done (with_forest s (with_mark s.forest n)) (λ q. absurd (false≢true q)))
      (λ flow e. case_flow Stored flow
      (λ s''. turns_stored limit (suc done) s'')
      (λ s''. puts_stored (ok_ending s'' root index) (suc done) s'' (ok_stored s''))
      (λ r s''. puts_stored (fail r) (suc done) s'' (λ q. absurd (false≢true q))))

  begin_stored : (limit : ℕ) (f : Forest) → Stored (begin limit root index f)
  begin_stored limit f = case_stops Stored (increment_clock f) (λ n e q. absurd (false≢true q)) (λ g e. turns_stored limit 0 _)

  search_stored : (limit : ℕ) (f : Forest) → Stored (root_answer limit root index f)
  search_stored limit f = case_stops Stored (table_at f root)
      (λ n e q. absurd (false≢true q))
      (λ t e. case_bool Stored t.floundered
      (λ u q. absurd (false≢true q))
      (λ u. case_option Stored (answer t index)
      (λ q. case_bool Stored (eqb (next_answer_index t) index) (λ b. begin_stored limit f) (λ b r. absurd (false≢true r)))
      (λ a q. stored_there f)))

-- A peek: it ends at the index asked for or a later one, and what it found is stored there.
pub record PeekStored (root index : ℕ) (p : Peeked) : Type 0 where
  pub not_before : index ≤ p.index
  pub when_found : is_found p.ending ≡ true → p.index < answers_at p.forest root

later_stored : {root index next : ℕ} {p : Peeked} → index ≤ next → PeekStored root next p → PeekStored root index p
later_stored o x = record { not_before = let y = x.not_before in omega arith; when_found = x.when_found }

module _ (root limit : ℕ) where
  skip_stored : (more k index : ℕ) (f : Forest) → PeekStored root index (skip_invalid more limit k root index f)
  skip_stored zero k index f = record { not_before = omega arith; when_found = search_stored root index limit f }
  skip_stored (suc more) k index f =
      case_bool (PeekStored root index) (is_invalid (root_answer limit root index f).ending)
      (λ e. later_stored (omega arith) (skip_stored more k (suc index) (root_answer limit root index f).forest))
      (λ e. record { not_before = omega arith; when_found = search_stored root index limit f })

  pub peek_stored : (more k index : ℕ) (f : Forest) → PeekStored root index (peek_rounds more limit k root index f)
  peek_stored zero k index f =
      let p = skip_stored 256 k index f in
      case_bool (PeekStored root index) (is_exceeded (skip_invalid 256 limit k root index f).ending)
      (λ e. record { not_before = p.not_before; when_found = p.when_found })
      (λ e. p)
  peek_stored (suc more) k index f =
      let r = skip_invalid 256 limit k root index f in
      let p = skip_stored 256 k index f in
      case_bool (PeekStored root index) (is_exceeded r.ending)
      (λ e. later_stored p.not_before (peek_stored more (suc k) r.index r.forest))
      (λ e. p)

-- The last index of a peek, on a sound forest. A search can leave the table floundered and without answers: what was passed over was there
-- before it.
module _ (n root limit : ℕ) where
  abbrev EndsFew : Peeked → Type 0
  EndsFew p = (p.index ≤ 256) × Ended n root p.index p.forest

  skip_few : (more k index : ℕ) (f : Forest) → index ≤ 256 → Ended n root index f → EndsFew (skip_invalid more limit k root index f)
  skip_few zero k index f few x = (few, (root_answers n root index limit f x).ended)
  skip_few (suc more) k index f few x =
      let w = root_answers n root index limit f x in
      case_bool EndsFew (is_invalid (root_answer limit root index f).ending)
      (λ e.
      let y = w.when_invalid e in
      let most = answers_at_most w.ended.sound root y.own y.is_made in
      let later = y.enough in
      skip_few more k (suc index) (root_answer limit root index f).forest (omega arith) (record {
        sound = w.ended.sound;
        own = y.own;
        is_made = y.is_made;
        reached = inr later;
      }))
      (λ e. (few, w.ended))

  peek_few : (more k index : ℕ) (f : Forest) → index ≤ 256 → Ended n root index f → EndsFew (peek_rounds more limit k root index f)
  peek_few zero k index f few x =
      let p = skip_few 256 k index f few x in
      case_bool EndsFew (is_exceeded (skip_invalid 256 limit k root index f).ending) (λ e. p) (λ e. p)
  peek_few (suc more) k index f few x =
      let r = skip_invalid 256 limit k root index f in
      let p = skip_few 256 k index f few x in
      case_bool EndsFew (is_exceeded r.ending) (λ e. peek_few more (suc k) r.index r.forest p.0 p.1) (λ e. p)

  pub peek_index : (more index : ℕ) (f : Forest) → index ≤ 256 → Ended n root index f → (peek_rounds more limit 0 root index f).index ≤ 256
  peek_index more index f few x = (peek_few more 0 index f few x).0
