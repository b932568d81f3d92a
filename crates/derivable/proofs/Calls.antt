-- Searches, peeks and calls keep what is kept; and what is found is stored.
use Prim.Native.Nat.{ℕ, zero, suc, ◌-◌}
use borrow.Author.Tests.{eqb-true}
use mathlib.Core.Path.{◌≡◌, refl, sym, subst, ◌∙◌}
use mathlib.Core.Bool.{Bool, true, false, ◌||◌, false≢true, true≢false}
use mathlib.Core.Option.{Option, none, some}
use mathlib.Core.List.{List, [], ◌∷◌}
use lib.ListN.{length, get_elem?}
use lib.Dec.{eqb, leb}
use Rattle.definitions.specs.{TableIndex, Answer, CompleteAnswer, minimums_MAX}
use Rattle.definitions.specs.Book.{Book}
use Rattle.definitions.specs.Refusal.{Refusable, refused, accepted, ◌refuses◌}
use Rattle.definitions.specs.Stop.{stop, go, ◌>>=◌, unwrap}
use Rattle.definitions.specs.Lists.{is_empty, Each}
use Rattle.definitions.specs.Strand.{Strand}
use Rattle.definitions.specs.Table.{Table, answer, next_answer_index}
use Rattle.definitions.specs.Tables.{Forest, with_mark, table_at}
use Rattle.definitions.specs.Stack.{Stack, push_entry}
use Rattle.definitions.specs.Logic.{InvalidAnswer, Floundered, SolveState, Flow, continue, return_ok, return_err}
use Rattle.definitions.specs.Turn.{Ending, found, fail, cut, stopped, Searched, put_back, stored_answer, ok_ending, search_turns}
use Rattle.definitions.specs.Turn.{begin, root_answer}
use Rattle.definitions.specs.Forest.{is_marked, Opened, opened, open_goal, not_made, index_above, search, is_invalid, is_exceeded, Peeked}
use Rattle.definitions.specs.Forest.{peeked, skip_invalid, peek_rounds, peek, any_future_answer}
use Rattle.definitions.specs.Calls as said
use Rattle.definitions.specs.Calls.{Sitting, Call, Reply, call}
use Rattle.papers.specs.Claim.{about, AboutSays, is_stopped}
use Rattle.definitions.proofs.Lists.{nil_is}
use Rattle.definitions.proofs.Refusal.{all_pass}
use Rattle.laws.proofs.Options.{case_option}
use Rattle.laws.proofs.Bools.{case_bool, was_true}
use Rattle.laws.specs.All.{end, more}
use Rattle.laws.proofs.All.{all_at}
use Rattle.asserts.proofs.Safe.{case_stops, unwrapped}
use Rattle.derivable.proofs.Fine.{case_fine}
use Rattle.derivable.proofs.Kept.{Within, Closed, KeptForest, KeptState, table_goal_at}
use Rattle.derivable.proofs.Choosing.{makes, drops}
use Rattle.derivable.proofs.States.{Onward, Flows, flows_after, ticks}
use Rattle.derivable.proofs.Turns.{turn_kept}

module _ {book : Book} {P : List ℕ → ℕ → Strand → Type 0} {Q : ℕ → Answer → Type 0} (closed : Closed book P Q) where
  -- a forest between two calls, with this mark
  pub record Between (m : ℕ) (f : Forest) : Type 0 where
    pub goals : List ℕ
    pub kept : KeptForest book P Q goals m f

  -- an answer that was found is stored in its table, and has no delayed goals
  pub record Stored (f : Forest) (t : TableIndex) (a : CompleteAnswer) : Type 0 where
    pub own : Table
    pub is_made : get_elem? f.tables t ≡ some own
    pub as_stored : Q own.table_goal (record { variant = a.variant; delayed_subgoals = []; ambiguous = a.ambiguous })
    pub unmarked : f.mark ≡ 0

  abbrev pub Says : Forest → TableIndex → Ending → Type 0
  Says f t (found a) = Stored f t a
  Says f t (fail e) = Unit {0}
  Says f t cut = Unit {0}
  Says f t (stopped n) = Unit {0}

  -- how a search or peek ends, from tables of these goals
  pub record Ends (gs : List ℕ) (t : TableIndex) (e : Ending) (f : Forest) : Type 0 where
    pub mark : ℕ
    pub between : Between mark f
    -- the tables that were there have the goals that they had
    pub within : Within gs between.goals
    pub says : Says f t e
    -- no mark but by a stop, so that a peek goes on with none
    pub unmarked : is_invalid e ≡ true → mark ≡ 0
    pub still_unmarked : is_exceeded e ≡ true → mark ≡ 0
    pub unless_stopped : is_stopped e ≡ false → mark ≡ 0

  marked_kept : {gs : List ℕ} {m : ℕ} {f : Forest} (n : ℕ) → KeptForest book P Q gs m f → KeptForest book P Q gs n (with_mark f n)
  marked_kept n k = record { book_is = k.book_is; mark_is = refl; goals_are = k.goals_are; kept_tables = k.kept_tables }

  -- the stored answer of an unmarked forest
  stored_says : (f : Forest) (t : TableIndex) (i : ℕ) → Between 0 f → Says f t (stored_answer f t i)
  stored_says f t i b = on_table (get_elem? f.tables t) refl
    where
      on_answer : (u : Table) → get_elem? f.tables t ≡ some u → (o : Option Answer) → answer u i ≡ o → Says f t (elim (unwrap o) [
        | stop n ↦ stopped n
        | go a ↦ elim (is_empty a.delayed_subgoals)
            [ true ↦ found (record { variant = a.variant; ambiguous = a.ambiguous }) | false ↦ fail InvalidAnswer ]
      ])
      on_answer u q none e = tt
      on_answer u q (some a) e = case_bool (Says f t) (is_empty a.delayed_subgoals)
          (λ c. record {
            own = u;
            is_made = q;
            as_stored = subst (λ (z : List ℕ). Q u.table_goal
                (record { variant = a.variant; delayed_subgoals = z; ambiguous = a.ambiguous })) (nil_is a.delayed_subgoals c)
                (all_at i (all_at t b.kept.kept_tables q).kept_answers e);
            unmarked = b.kept.mark_is;
          })
          (λ c. tt)

      on_table : (o : Option Table) → get_elem? f.tables t ≡ o → Says f t (elim (unwrap o >>= λ table. unwrap (answer table i)) [
        | stop n ↦ stopped n
        | go a ↦ elim (is_empty a.delayed_subgoals)
            [ true ↦ found (record { variant = a.variant; ambiguous = a.ambiguous }) | false ↦ fail InvalidAnswer ]
      ])
      on_table none q = tt
      on_table (some u) q = on_answer u q (answer u i) refl

  abbrev pub EndsIn : List ℕ → TableIndex → Searched → Type 0
  EndsIn gs t r = Ends gs t r.ending r.forest

  -- a search that is put back, with an ending that found nothing
  puts_back : (from : List ℕ) (t : TableIndex) (gs : List ℕ) → Within from gs → (m : ℕ) (ending : Ending) (turns : ℕ) (s : SolveState)
      → KeptState book P Q gs m s
      → ((f : Forest) → Says f t ending) → (is_invalid ending ≡ true → m ≡ 0) → (is_exceeded ending ≡ true → m ≡ 0)
      → (is_stopped ending ≡ false → m ≡ 0)
      → EndsIn from t (put_back ending turns s)
  puts_back from t gs w m ending turns s k says inv exc stp = case_fine (EndsIn from t) (drops closed s k)
      (λ n. record {
        mark = m;
        between = record { goals = gs; kept = k.kept_forest };
        within = w;
        says = tt;
        unmarked = λ e. absurd (false≢true e);
        still_unmarked = λ e. absurd (false≢true e);
        unless_stopped = λ e. absurd (true≢false e);
      })
      (λ f x. record {
        mark = m;
        between = record { goals = gs; kept = x };
        within = w;
        says = says f;
        unmarked = inv;
        still_unmarked = exc;
        unless_stopped = stp;
      })

  -- with the answer: the stack is empty, and nothing is put back
  puts_answer : (from : List ℕ) (t : TableIndex) (i : ℕ) (gs : List ℕ) → Within from gs → (turns : ℕ) (f : Forest) (es : Stack)
      → KeptState book P Q gs 0 (record { forest = f; stack = es })
      → EndsIn from t (put_back (ok_ending (record { forest = f; stack = es }) t i) turns (record { forest = f; stack = es }))
  puts_answer from t i gs w turns f [] k = record {
    mark = 0;
    between = record { goals = gs; kept = k.kept_forest };
    within = w;
    says = stored_says f t i (record { goals = gs; kept = k.kept_forest });
    unmarked = λ e. refl;
    still_unmarked = λ e. refl;
    unless_stopped = λ e. refl;
  }
  puts_answer from t i gs w turns f (e ∷ es) k =
      puts_back from t gs w 0 (stopped 0) turns (record { forest = f; stack = e ∷ es }) k (λ f'. tt) (λ q. refl) (λ q. refl) (λ q. refl)

  by_flow : (from : List ℕ) (limit done : ℕ) (t : TableIndex) (i : ℕ)
      → ((s : SolveState) → Onward closed from 0 s → EndsIn from t (search_turns limit (suc done) t i s))
      → (flow : Flow) → Flows closed from 0 flow → EndsIn from t (elim flow [
        | continue s'' ↦ search_turns limit (suc done) t i s''
        | return_ok s'' ↦ put_back (ok_ending s'' t i) (suc done) s''
        | return_err e s'' ↦ put_back (fail e) (suc done) s''
      ])
  by_flow from limit done t i ih (continue s'') x = ih s'' x
  by_flow from limit done t i ih (return_ok s'') x =
      puts_answer from t i x.goals x.within (suc done) s''.forest s''.stack x.kept
  by_flow from limit done t i ih (return_err e s'') x =
      puts_back from t x.goals x.within 0 (fail e) (suc done) s'' x.kept (λ f. tt) (λ q. refl) (λ q. refl) (λ q. refl)

  searches_kept : (from : List ℕ) (limit done : ℕ) (t : TableIndex) (i : ℕ) (s : SolveState) → Onward closed from 0 s
      → EndsIn from t (search_turns limit done t i s)
  searches_kept from zero done t i s o =
      puts_back from t o.goals o.within 0 cut done s o.kept (λ f. tt) (λ q. refl) (λ q. refl) (λ q. refl)
  searches_kept from (suc limit) done t i s o = case_fine (EndsIn from t)
      (flows_after closed o.within (turn_kept closed o.goals 0 s o.kept))
      (λ n. puts_back from t o.goals o.within n (stopped n) done (record { forest = with_mark s.forest n; stack = s.stack })
      (record { kept_forest = marked_kept n o.kept.kept_forest; kept_stack = o.kept.kept_stack }) (λ f. tt)
      (λ q. absurd (false≢true q)) (λ q. absurd (false≢true q)) (λ q. absurd (true≢false q)))
      (λ flow x. by_flow from limit done t i (searches_kept from limit (suc done) t i) flow x)

  begins_kept : (limit : ℕ) (t : TableIndex) (i : ℕ) (f : Forest) (b : Between 0 f) (g : ℕ) → get_elem? b.goals t ≡ some g
      → EndsIn b.goals t (begin limit t i f)
  begins_kept limit t i f b g q = case_fine (EndsIn b.goals t) (ticks closed b.goals 0 f b.kept)
      (λ n. record {
        mark = n;
        between = record { goals = b.goals; kept = marked_kept n b.kept };
        within = λ j h r. r;
        says = tt;
        unmarked = λ e. absurd (false≢true e);
        still_unmarked = λ e. absurd (false≢true e);
        unless_stopped = λ e. absurd (true≢false e);
      })
      (λ f' x. searches_kept b.goals limit 0 t i (record { forest = f'; stack = push_entry t minimums_MAX f'.clock [] }) (record {
        goals = b.goals;
        within = λ j h r. r;
        kept = record { kept_forest = x; kept_stack = more (record { goal = g; is_made = q; kept_active = tt }) end };
      }))

  same_forest : (t : TableIndex) (turns : ℕ) (f : Forest) (e : Ending) (b : Between 0 f) → Says f t e
      → EndsIn b.goals t (record { ending = e; turns = turns; forest = f })
  same_forest t turns f e b x = record {
    mark = 0;
    between = b;
    within = λ i g q. q;
    says = x;
    unmarked = λ q. refl;
    still_unmarked = λ q. refl;
    unless_stopped = λ q. refl;
  }

  pub root_kept : (limit : ℕ) (t : TableIndex) (i : ℕ) (f : Forest) (b : Between 0 f) → EndsIn b.goals t (root_answer limit t i f)
  root_kept limit t i f b = case_stops (EndsIn b.goals t) (table_at f t)
      (λ n e. same_forest t 0 f (stopped n) b tt)
      (λ u e. let q = unwrapped (get_elem? f.tables t) u e in
      case_bool (EndsIn b.goals t) u.floundered
      (λ c. same_forest t 0 f (fail Floundered) b tt)
      (λ c. case_option (EndsIn b.goals t) (answer u i)
      (λ h. case_bool (EndsIn b.goals t) (eqb (next_answer_index u) i)
      (λ d. begins_kept limit t i f b u.table_goal (table_goal_at b.kept t u q))
      (λ d. same_forest t 0 f (stopped 0) b tt))
      (λ a h. same_forest t 0 f (stored_answer f t i) b (stored_says f t i b))))

  -- Peeks.

  abbrev pub EndsPeek : List ℕ → TableIndex → Peeked → Type 0
  EndsPeek gs t p = Ends gs t p.ending p.forest

  abbrev pub at_mark : {m : ℕ} {f : Forest} → m ≡ 0 → Between m f → Between 0 f
  at_mark {f = f} e b = record { goals = b.goals; kept = subst (λ (z : ℕ). KeptForest book P Q b.goals z f) e b.kept }

  -- from fewer tables
  ends_after : {gs gs' : List ℕ} {t : TableIndex} {e : Ending} {f : Forest} → Within gs gs' → Ends gs' t e f → Ends gs t e f
  ends_after w x = record {
    mark = x.mark;
    between = x.between;
    within = λ i g q. x.within i g (w i g q);
    says = x.says;
    unmarked = x.unmarked;
    still_unmarked = x.still_unmarked;
    unless_stopped = x.unless_stopped;
  }

  pub skips_kept : (passes limit k : ℕ) (t : TableIndex) (i : ℕ) (f : Forest) (b : Between 0 f)
      → EndsPeek b.goals t (skip_invalid passes limit k t i f)
  skips_kept zero limit k t i f b = root_kept limit t i f b
  skips_kept (suc passes) limit k t i f b =
      let r = root_kept limit t i f b in
      case_bool (EndsPeek b.goals t) (is_invalid (root_answer limit t i f).ending)
      (λ e. ends_after r.within
      (skips_kept passes limit k t (suc i) (root_answer limit t i f).forest (at_mark (r.unmarked e) r.between)))
      (λ e. r)

  pub peeks_kept : (rounds limit k : ℕ) (t : TableIndex) (i : ℕ) (f : Forest) (b : Between 0 f)
      → EndsPeek b.goals t (peek_rounds rounds limit k t i f)
  peeks_kept zero limit k t i f b =
      let p = skips_kept 256 limit k t i f b in
      case_bool (EndsPeek b.goals t) (is_exceeded (skip_invalid 256 limit k t i f).ending) (λ e. p) (λ e. p)
  peeks_kept (suc rest) limit k t i f b =
      let p = skips_kept 256 limit k t i f b in
      case_bool (EndsPeek b.goals t) (is_exceeded (skip_invalid 256 limit k t i f).ending)
      (λ e. ends_after p.within
      (peeks_kept rest limit (suc k) t (skip_invalid 256 limit k t i f).index (skip_invalid 256 limit k t i f).forest
      (at_mark (p.still_unmarked e) p.between)))
      (λ e. p)

  -- Calls.

  -- what a reply says of what was found
  abbrev pub ReplyStored : (at : Option (TableIndex × ℕ)) → Forest → Reply → Type 0
  ReplyStored at f (said.refusal n) = Unit {0}
  ReplyStored at f (said.table t) = Unit {0}
  ReplyStored at f (said.searched e turns) = AboutSays at (λ t i. Says f t e)
  ReplyStored at f (said.peeked e i turns k) = AboutSays at (λ t asked. Says f t e)
  ReplyStored at f (said.future b) = Unit {0}

  -- only a stop marks
  abbrev pub Unmarked : (mark : ℕ) → Reply → Type 0
  Unmarked m (said.refusal n) = Unit {0}
  Unmarked m (said.table t) = Unit {0}
  Unmarked m (said.searched e turns) = is_stopped e ≡ false → m ≡ 0
  Unmarked m (said.peeked e i turns k) = is_stopped e ≡ false → m ≡ 0
  Unmarked m (said.future b) = Unit {0}

  pub record Called (at : Option (TableIndex × ℕ)) (r : Reply × Sitting) : Type 0 where
    pub mark : ℕ
    pub between : Between mark r.1.forest
    pub says : ReplyStored at r.1.forest r.0
    pub unless_stopped : Unmarked mark r.0

  module _ (at : Sitting) (m : ℕ) (b : Between m at.forest) where
    abbrev f : Forest
    f = at.forest

    unmarked_is : is_marked f ≡ false → Between 0 f
    unmarked_is e = subst (λ (z : ℕ). Between z f) (sym b.kept.mark_is ∙ eqb-true f.mark 0 (was_true (eqb f.mark 0) e)) b

    same : (o : Option (TableIndex × ℕ)) (r : Reply) → ReplyStored o f r → Unmarked m r → Called o (r, at)
    same o r x y = record { mark = m; between = b; says = x; unless_stopped = y }

    opens_kept : (goal : ℕ) (o : Refusable Opened) → open_goal f goal ≡ o → Called none (elim o
        [ refused n ↦ (said.refusal n, at) | accepted r ↦ (said.table r.table, said.with_forest at r.forest) ])
    opens_kept goal (refused n) e = same none (said.refusal n) tt tt
    opens_kept goal (accepted r) e =
        let a = all_pass (is_marked f refuses 20 ∷ leb (length f.book) goal refuses 9 ∷ []) (opened 0 f goal) r e in
        let z = unmarked_is a.0.0 in
        subst (λ (o : Opened). Called none (said.table o.table, said.with_forest at o.forest)) a.1
        (case_fine (λ (o : Opened). Called none (said.table o.table, said.with_forest at o.forest))
        (makes closed z.kept 0 goal)
        (λ n. record { mark = n; between = record { goals = z.goals; kept = marked_kept n z.kept }; says = tt; unless_stopped = tt })
        (λ r x. record { mark = 0; between = record { goals = x.goals; kept = x.kept }; says = tt; unless_stopped = tt }))

    searched_kept : (t i limit : ℕ) (o : Refusable Searched) → search f t i limit ≡ o → Called (some (t, i)) (elim o [
      | refused n ↦ (said.refusal n, at)
      | accepted r ↦ (said.searched r.ending r.turns, said.with_forest at r.forest)
    ])
    searched_kept t i limit (refused n) e = same (some (t, i)) (said.refusal n) tt tt
    searched_kept t i limit (accepted r) e =
        let a = all_pass (is_marked f refuses 20 ∷ not_made f t refuses 10 ∷ index_above f t i refuses 11 ∷ eqb limit 0 refuses 12 ∷ [])
        (root_answer limit t i f) r e in
        let z = unmarked_is a.0.0 in
        let w = subst (EndsIn z.goals t) a.1 (root_kept limit t i f z) in
        record { mark = w.mark; between = w.between; says = w.says; unless_stopped = w.unless_stopped }

    peeked_kept : (t i rounds limit : ℕ) (o : Refusable Peeked) → peek f t i rounds limit ≡ o → Called (some (t, i)) (elim o [
      | refused n ↦ (said.refusal n, at)
      | accepted r ↦ (said.peeked r.ending r.index r.turns r.exceeded, said.with_forest at r.forest)
    ])
    peeked_kept t i rounds limit (refused n) e = same (some (t, i)) (said.refusal n) tt tt
    peeked_kept t i rounds limit (accepted r) e =
        let a = all_pass (is_marked f refuses 20 ∷ not_made f t refuses 10 ∷ index_above f t
        i refuses 11 ∷ (eqb rounds 0 || eqb limit 0) refuses 12 ∷ []) (peek_rounds (rounds - 1) limit 0 t i f) r e in
        let z = unmarked_is a.0.0 in
        let w = subst (EndsPeek z.goals t) a.1 (peeks_kept (rounds - 1) limit 0 t i f z) in
        record { mark = w.mark; between = w.between; says = w.says; unless_stopped = w.unless_stopped }

    asked_kept : (t i v : ℕ) (o : Refusable Bool) → Called none (elim o [
      | refused n ↦ (said.refusal n, at)
      | accepted b ↦
          (said.future b, at)
    ])
    asked_kept t i v (refused n) = same none (said.refusal n) tt tt
    asked_kept t i v (accepted c) = same none (said.future c) tt tt

    pub call_kept : (c : Call) → Called (about at c) (call at c)
    call_kept (said.opens goal) = opens_kept goal (open_goal f goal) refl
    call_kept (said.searches t i limit) = searched_kept t i limit (search f t i limit) refl
    call_kept (said.peeks t i rounds limit) = peeked_kept t i rounds limit (peek f t i rounds limit) refl
    call_kept (said.asks_future t i v) = asked_kept t i v (any_future_answer f t i v)

  -- INVARIANCE: of every call of a list, on a forest of which it holds
  pub calls_kept : (cs : List Call) (at : Sitting) (m : ℕ) → Between m at.forest
      → Each (λ c. Called (about c.before c.asked) (c.reply, c.after)) (said.calls at cs)
  calls_kept [] at m b = tt
  calls_kept (c ∷ cs) at m b = let r = call_kept at m b c in (r, calls_kept cs (call at c).1 r.mark r.between)

  -- a forest just made
  pub made_kept : (limit : ℕ) → Between 0 (record { book = book; clock_limit = limit; mark = 0; tables = []; clock = 0 })
  made_kept limit = record { goals = []; kept = record { book_is = refl; mark_is = refl; goals_are = refl; kept_tables = end } }
