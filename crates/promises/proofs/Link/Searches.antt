-- Searches: the definitions' loop of turns ends as the machine's does, with its forest.
use Prim.Native.Nat.{ℕ, zero, suc, ◌≤◌, ◌<◌}
use native.Mathlib.Omega.{arith}
use borrow.Author.Tests.{le-leb, lt-leb}
use mathlib.Core.Path.{◌≡◌, refl, ap, subst, ◌∙◌}
use mathlib.Core.Bool.{true, false}
use mathlib.Core.Logic.{inl}
use mathlib.Core.Option.{none, some}
use mathlib.Core.List.{List, [], ◌∷◌}
use lib.ListN.{length, get_elem?}
use Rattle.definitions.specs.{MAX}
use Rattle.definitions.specs.Book.{Book}
use Rattle.definitions.specs.Stop.{Stops, stop, go}
use Rattle.definitions.specs.Tables.{Tables, with_mark, increment_clock}
use Rattle.definitions.specs.Stack.{StackEntry, Stack}
use Rattle.definitions.specs.Logic.{SolveState, with_forest, Flow, continue, return_ok, return_err, NoMoreSolutions, QuantumExceeded}
use Rattle.definitions.specs.Logic.{drop_state}
use Rattle.definitions.specs.Turn.{turn, Ending, found, fail, cut, stopped, Searched, put_back, stored_answer, ok_ending, search_turns}
use Rattle.definitions.specs.Turn.{begin}
use Rattle.laws.proofs.Sums.{sum_add, sum_zeros}
use Rattle.promises.proofs.Plain.Machine as M
use Rattle.promises.proofs.Plain.Steps.{Setting}
use Rattle.promises.proofs.Plain.Turns.{size, Ends, Going, TurnOK, turn_ok}
use Rattle.promises.proofs.Plain.Whole.{clauses, Ready, begin_inv, turn_stored, no_member, going_strands, ready_strands}
use Rattle.promises.proofs.Link.View.{table_of, no_active, entry_of, StackIs, s_end, s_more}
use Rattle.promises.proofs.Link.Tables.{Extends, forest_of, Agree}
use Rattle.promises.proofs.Link.Back.{table_here, Became, dropped_is}
use Rattle.promises.proofs.Link.Turn.{state_of, Lost, TurnIs, going, gave_up, no_more, answered, clock_out, lost, lined_busy}
use Rattle.promises.proofs.Link.Turn.{piled_lined}
use Rattle.promises.proofs.Link.Selected.{ticked}
use Rattle.promises.proofs.Link.Premises.{Premises, setting_of, limits_in, forest_in}
use Rattle.promises.proofs.Link.Turns.{plain_turn_is}

-- an ending beside an outcome, with the mark that the forest bears; 21 comes only with the clock at its limit
pub data EndIs (limit clock : ℕ) : (mark : ℕ) → Ending → M.Outcome → Type 0 where
  found_is : EndIs limit clock 0 (found (record { variant = 0; ambiguous = false })) M.found
  none_is : EndIs limit clock 0 (fail NoMoreSolutions) M.no_more_left
  again_is : EndIs limit clock 0 (fail QuantumExceeded) M.again
  cut_is : EndIs limit clock 0 cut M.cut
  stopped_is : limit ≤ clock → EndIs limit clock 21 (stopped 21) M.clock_ended

-- a search beside a search
pub record SearchIs (G : Premises) (gs : List ℕ) (result : Searched) (o : M.Outcome) (p : M.Forest) : Type 0 where
  pub goals : List ℕ
  pub after : Tables
  pub mark : ℕ
  pub forest : result.forest ≡ forest_in G mark after p.clock
  pub more : Extends gs goals
  pub agree : Agree G.book goals after p
  pub ends : EndIs G.limit p.clock mark result.ending o

pub search_more : {G : Premises} {gs hs : List ℕ} {result : Searched} {o : M.Outcome} {p : M.Forest} → Extends gs hs
    → SearchIs G hs result o p → SearchIs G gs result o p
search_more x s = record {
  goals = s.goals;
  after = s.after;
  mark = s.mark;
  forest = s.forest;
  more = λ i g e. s.more i g (x i g e);
  agree = s.agree;
  ends = s.ends;
}

lost_never : (S : Setting) (r : ℕ) (b a : ℕ → ℕ) (o : M.Outcome) → Lost o → Ends S r b a o → ⊥
lost_never S r b a M.negative_cycled l e = e
lost_never S r b a M.unselected l e = e
lost_never S r b a M.repeated l e = e
lost_never S r b a M.broken l e = e
lost_never S r b a M.found l e = l
lost_never S r b a M.no_more_left l e = l
lost_never S r b a M.again l e = l
lost_never S r b a M.cut l e = l
lost_never S r b a M.clock_ended l e = l
lost_never S r b a M.noted l e = l
lost_never S r b a (M.refused n) l e = l

-- what the loop does with a turn's result
abbrev turned : Stops Flow → (limit done t i : ℕ) → SolveState → Searched
turned x limit done t i s = elim x [
  | stop n ↦ put_back (stopped n) done (with_forest s (with_mark s.forest n))
  | go flow ↦ elim flow [
    | continue s'' ↦ search_turns limit (suc done) t i s''
    | return_ok s'' ↦ put_back (ok_ending s'' t i) (suc done) s''
    | return_err e s'' ↦ put_back (fail e) (suc done) s''
  ]
]

-- the answer that is stored
pub stored_is : {book : Book} (limit mark c : ℕ) {gs : List ℕ} {ts : Tables} {p : M.Forest} → Agree book gs ts p → (t g : ℕ)
    → get_elem? gs t ≡ some g → p.answered g ≡ true
    → stored_answer (forest_of book limit mark ts c) t 0 ≡ found (record { variant = 0; ambiguous = false })
stored_is limit mark c {ts = ts} {p = p} a t g at yes-g =
    let h = table_here a t g at in
    let e : get_elem? ts t ≡ some (table_of g true (p.first g) h.waiting) =
    h.is ∙ ap (λ z. some (table_of g z (p.first g) h.waiting)) yes-g in
    rw (e, stored_answer)

module _ (G : Premises) where
  abbrev RunIs : ℕ → Type 0
  RunIs n = (gs : List ℕ) (ts : Tables) (p : M.Forest) (d : StackEntry) (ds : Stack) (e : M.Entry) (es : List M.Entry) (r : ℕ) (B : ℕ → ℕ)
      → Agree G.book gs ts p → StackIs (length G.book) gs (d ∷ ds) (e ∷ es) → Going (setting_of G) r B (clauses (setting_of G)) p e es
      → (done t : ℕ) → get_elem? gs t ≡ some r → SearchIs G gs
      (search_turns n done t 0 (state_of G.book G.limit ts p.clock (d ∷ ds))) (M.run (limits_in G) n p e es).0
      (M.run (limits_in G) n p e es).1

  turned_is : (n : ℕ) → RunIs n → (gs : List ℕ) (ts : Tables) (p before : M.Forest) (d : StackEntry) (ds : Stack) (r : ℕ) (B : ℕ → ℕ)
      {x : Stops Flow} {y : M.Turn} → Became G.book G.limit 21 p.clock gs
      (drop_state (record { forest = forest_in G 21 ts p.clock; stack = d ∷ ds })) before → before.clock ≡ p.clock
      → TurnIs G.book G.limit gs before r x y → TurnOK (setting_of G) r B (clauses (setting_of G)) y → (done t : ℕ)
      → get_elem? gs t ≡ some r
      → SearchIs G gs (turned x n done t 0 (state_of G.book G.limit ts p.clock (d ∷ ds)))
      (M.follow (limits_in G) y (M.run (limits_in G) n)).0 (M.follow (limits_in G) y (M.run (limits_in G) n)).1
  turned_is n ih gs ts p before d ds r B back now (going {hs = hs} {ts = ts'} {p = p'} {d = d'} {ds = ds'} {e = e'} {es = es'} more a s) ok
      done t at = search_more more (ih hs ts' p' d' ds' e' es' r B a s ok (suc done) t (more t r at))
  turned_is n ih gs ts p before d ds r B back now (gave_up {hs = hs} {ts = ts'} more e a) ok done t at = record {
    goals = hs;
    after = ts';
    mark = 0;
    forest = rw (e, put_back);
    more = more;
    agree = a;
    ends = rw (e, put_back) again_is;
  }
  turned_is n ih gs ts p before d ds r B back now (no_more {hs = hs} {ts = ts'} more e a) ok done t at = record {
    goals = hs;
    after = ts';
    mark = 0;
    forest = rw (e, put_back);
    more = more;
    agree = a;
    ends = rw (e, put_back) none_is;
  }
  turned_is n ih gs ts p before d ds r B back now (answered {hs = hs} {ts = ts'} {p = p'} more a e) ok done t at = record {
    goals = hs;
    after = ts';
    mark = 0;
    forest = refl;
    more = more;
    agree = a;
    ends = rw (stored_is G.limit 0 p'.clock a t r (more t r at) e) found_is;
  }
  turned_is n ih gs ts p before d ds r B back now (clock_out o) ok done t at = record {
    goals = gs;
    after = back.after;
    mark = 21;
    forest = rw (back.is, put_back) (rw now);
    more = λ i g e. e;
    agree = back.agree;
    ends = rw (back.is, put_back) (stopped_is o);
  }
  turned_is n ih gs ts p before d ds r B back now (lost {o = o} {p = p'} l) ok done t at =
      absurd (lost_never (setting_of G) r B (size p' []) o l ok.ends)

  run_is : (n : ℕ) → RunIs n
  run_is zero gs ts p d ds e es r B a s ok done t at =
      let b = dropped_is G.book G.limit 0 p.clock s
      (lined_busy (limits_in G) e es (piled_lined (setting_of G) p.answered _ p.queue e es ok.inv.piled)) a in
      record {
        goals = gs;
        after = b.after;
        mark = 0;
        forest = rw (b.is, put_back);
        more = λ i g e. e;
        agree = b.agree;
        ends = rw (b.is, put_back) cut_is;
      }
  run_is (suc n) gs ts p d ds e es r B a s ok done t at =
      let before = M.with_queue p (M.all_back p.queue (e ∷ es)) in
      let lined = piled_lined (setting_of G) p.answered _ p.queue e es ok.inv.piled in
      let few' = going_strands (setting_of G) r B p e es ok in
      let y = plain_turn_is G.sound G.limit a s lined (omega arith) in
      let z = turn_ok (setting_of G) B (clauses (setting_of G)) p e es ok.inv ok.fewer in
      turned_is n (run_is n) gs ts p before d ds r B
      (dropped_is G.book G.limit 21 p.clock s (lined_busy (limits_in G) e es lined) a) refl
      (subst (λ v. TurnIs G.book G.limit gs before v (turn (state_of G.book G.limit ts p.clock (d ∷ ds)))
      (M.turn (limits_in G) p e es)) ok.root y)
      (subst (λ v. TurnOK (setting_of G) v B (clauses (setting_of G)) (M.turn (limits_in G) p e es)) ok.root z) done t at

  tick_is : (ts : Tables) (c : ℕ) → c < G.limit → increment_clock (forest_in G 0 ts c) ≡ go (forest_in G 0 ts (suc c))
  tick_is ts c lt = rw (lt-leb G.limit c lt)

  full_is : (ts : Tables) (c : ℕ) → G.limit ≤ c → increment_clock (forest_in G 0 ts c) ≡ stop 21
  full_is ts c o = rw (le-leb G.limit c o)

  -- a search for a goal without an answer
  pub begin_is : {gs : List ℕ} {ts : Tables} {p : M.Forest} → Agree G.book gs ts p → Ready (setting_of G) p → (t g n : ℕ)
      → get_elem? gs t ≡ some g → p.answered g ≡ false → (d : Dec (p.clock < G.limit))
      → SearchIs G gs (begin n t 0 (forest_in G 0 ts p.clock)) (M.begin (limits_in G) d p g n).0 (M.begin (limits_in G) d p g n).1
  begin_is {gs} {ts} {p} a ready t g n at no-g (yes lt) =
      let c = suc p.clock in
      rw (tick_is ts p.clock lt, begin)
      (run_is n gs ts (M.tick (limits_in G) p) (entry_of t c MAX MAX none) [] (M.entry_pushed (limits_in G) g c) [] g (size p []) (ticked a)
      (s_more t g c MAX MAX at no_active s_end)
      (record { inv = begin_inv (setting_of G) p g ready no-g lt; root = refl; fewer = λ u. let x = ready.live u in omega arith }) 0 t at)
  begin_is {gs} {ts} {p} a ready t g n at no-g (no o) =
      let full : G.limit ≤ p.clock = omega arith in
      rw (full_is ts p.clock full, begin) (record {
        goals = gs;
        after = ts;
        mark = 21;
        forest = refl;
        more = λ i h e. e;
        agree = a;
        ends = stopped_is full;
      })

  -- a search at index 1, where the answer is stored
  after_stored : {gs : List ℕ} {before p : M.Forest} {r : ℕ} {x : Stops Flow} {y : M.Turn} → TurnIs G.book G.limit gs before r x y
      → y ≡ M.stop M.no_more_left p → (n done t : ℕ) (s : SolveState) → SearchIs G gs (turned x n done t 1 s) M.no_more_left p
  after_stored (going more a s) e n done t s' = absurd (let z : ◌≡◌ {A = ℕ} 0 1 = cc in omega arith)
  after_stored (gave_up more k a) e n done t s' = absurd (let z : ◌≡◌ {A = ℕ} 0 1 = cc in omega arith)
  after_stored {gs = gs} {p = p} (no_more {hs = hs} {ts = ts'} {p = p'} {s = s₀} more k a) e n done t s' =
      let q : p' ≡ p = cc in
      subst (λ v. SearchIs G gs (turned (go (return_err NoMoreSolutions s₀)) n done t 1 s') M.no_more_left v) q (record {
        goals = hs;
        after = ts';
        mark = 0;
        forest = rw (k, put_back);
        more = more;
        agree = a;
        ends = rw (k, put_back) none_is;
      })
  after_stored (answered more a k) e n done t s' = absurd (let z : ◌≡◌ {A = ℕ} 0 1 = cc in omega arith)
  after_stored (clock_out o) e n done t s' = absurd (let z : ◌≡◌ {A = ℕ} 0 1 = cc in omega arith)
  after_stored (lost {o = o} l) e n done t s' = absurd (subst Lost (let z : o ≡ M.no_more_left = cc in z) l)

  pub stored_search : {gs : List ℕ} {ts : Tables} {p : M.Forest} → Agree G.book gs ts p → Ready (setting_of G) p → (t g n : ℕ)
      → get_elem? gs t ≡ some g → p.answered g ≡ true → (d : Dec (p.clock < G.limit))
      → SearchIs G gs (begin (suc n) t 1 (forest_in G 0 ts p.clock)) (M.begin (limits_in G) d p g (suc n)).0
      (M.begin (limits_in G) d p g (suc n)).1
  stored_search {gs} {ts} {p} a ready t g n at yes-g (yes lt) =
      let c = suc p.clock in
      let p' = M.tick (limits_in G) p in
      let e = M.entry_pushed (limits_in G) g c in
      let none_left : p.queue g ≡ [] = no_member (p.queue g) (λ s m. ready.fine.quiet g yes-g s (inl m)) in
      let first : M.turn (limits_in G) p' e [] ≡ M.stop M.no_more_left p' = turn_stored (setting_of G) p' g c none_left in
      let strands = ready_strands (setting_of G) p ready in
      let sums = sum_add (length G.book) (λ u. length (p.queue u)) (λ u. 0) in
      let y = plain_turn_is G.sound G.limit (ticked a {c = suc p.clock}) (s_more t g c MAX MAX at no_active s_end) refl
      (let z = sum_zeros (length G.book) in omega arith) in
      rw (tick_is ts p.clock lt, begin) (rw first
      (after_stored y first n 0 t (state_of G.book G.limit ts c (entry_of t c MAX MAX none ∷ []))))
  stored_search {gs} {ts} {p} a ready t g n at yes-g (no o) =
      let full : G.limit ≤ p.clock = omega arith in
      rw (full_is ts p.clock full, begin) (record {
        goals = gs;
        after = ts;
        mark = 21;
        forest = refl;
        more = λ i h e. e;
        agree = a;
        ends = stopped_is full;
      })
