-- What a turn leaves, and what the small steps on a state keep: the entry on top, its minimums, giving up, the clock.
use Prim.Native.Nat.{ℕ}
use mathlib.Core.Bool.{not}
use mathlib.Core.List.{List, ◌∷◌}
use lib.Dec.{leb}
use Rattle.definitions.specs.{Answer, Minimums}
use Rattle.definitions.specs.Book.{Literal, Positive, Negative, Book}
use Rattle.definitions.specs.Stop.{Stops, go}
use Rattle.definitions.specs.Strand.{Strand}
use Rattle.definitions.specs.Tables.{Forest, increment_clock}
use Rattle.definitions.specs.Stack.{StackEntry, Stack, active}
use Rattle.definitions.specs.Logic.{RootSearchFail, SolveState}
use Rattle.definitions.specs.Logic.{Flow, continue, return_ok, return_err, unwound, enqueue_at_top, activate}
use Rattle.definitions.specs.Turn.{cycle_minimums}
use Rattle.definitions.specs.Turn.{turn}
use Rattle.laws.specs.All.{All, more}
use Rattle.derivable.proofs.Fine.{Fine, goes, after, guard, weaker}
use Rattle.derivable.proofs.Kept.{Within, Closed, KeptForest, KeptEntry}
use Rattle.derivable.proofs.Kept.{KeptState, enqueues}
use Rattle.derivable.proofs.Choosing.{unwinds_stack}

module _ {book : Book} {P : List ℕ → ℕ → Strand → Type 0} {Q : ℕ → Answer → Type 0} (closed : Closed book P Q) where
  -- what a turn leaves, from tables of these goals
  pub record Onward (gs : List ℕ) (m : ℕ) (s : SolveState) : Type 0 where
    pub goals : List ℕ
    pub within : Within gs goals
    pub kept : KeptState book P Q goals m s

  abbrev pub Flows : List ℕ → ℕ → Flow → Type 0
  Flows gs m (continue s) = Onward gs m s
  Flows gs m (return_ok s) = Onward gs m s
  Flows gs m (return_err e s) = Onward gs m s

  -- from fewer tables
  pub onward_after : {gs gs' : List ℕ} {m : ℕ} {s : SolveState} → Within gs gs' → Onward gs' m s → Onward gs m s
  onward_after w x = record { goals = x.goals; within = λ i g q. x.within i g (w i g q); kept = x.kept }

  pub flows_after : {gs gs' : List ℕ} {m : ℕ} {r : Stops Flow} → Within gs gs' → Fine (Flows gs' m) r → Fine (Flows gs m) r
  flows_after {gs} {gs'} {m} w x = weaker x (λ flow y. on flow y)
    where
      on : (flow : Flow) → Flows gs' m flow → Flows gs m flow
      on (continue s) y = onward_after w y
      on (return_ok s) y = onward_after w y
      on (return_err e s) y = onward_after w y

  module _ (gs : List ℕ) (m : ℕ) where
    abbrev Kept : SolveState → Type 0
    Kept s = KeptState book P Q gs m s

    abbrev KeptF : Forest → Type 0
    KeptF f = KeptForest book P Q gs m f

    abbrev Entry : StackEntry → Type 0
    Entry e = KeptEntry book P Q gs e

    pub onward : {s : SolveState} → Kept s → Onward gs m s
    onward k = record { goals = gs; within = λ i g q. q; kept = k }

    pub goes_on : (s : SolveState) → Kept s → Fine (Flows gs m) (go (continue s))
    goes_on s k = goes {a = continue s} (onward k)

    pub gives_up : (e : RootSearchFail) (s : SolveState) → Kept s → Fine (Flows gs m) (unwound e s)
    gives_up e s k = after (unwinds_stack closed s k) (λ u q. goes {a = return_err e u} (onward q))

    pub enqueues_top : (f : Forest) (e : StackEntry) (es : Stack) → KeptF f → (x : Entry e) → All Entry es → (strand : Strand)
        → P gs x.goal strand → Fine Kept (enqueue_at_top (record { forest = f; stack = e ∷ es }) strand)
    enqueues_top f e es k x xs strand p = after (enqueues k e.table x.goal x.is_made strand p)
        (λ f' q. goes (record { kept_forest = q; kept_stack = more x xs }))

    pub activates : (f : Forest) (e : StackEntry) (es : Stack) → KeptF f → (x : Entry e) → All Entry es → (strand : Strand)
        → P gs x.goal strand → Fine Kept (activate (record { forest = f; stack = e ∷ es }) strand)
    activates f e es k x xs strand p = goes (record {
      kept_forest = k;
      kept_stack = more (record { goal = x.goal; is_made = x.is_made; kept_active = p }) xs;
    })

    -- minimums are not the active strand
    abbrev pub minimums_kept : (l : Literal) (low : Minimums) (e : StackEntry) → Entry e → Entry (cycle_minimums l low e)
    minimums_kept (Positive goal want outsized) low e x = record { goal = x.goal; is_made = x.is_made; kept_active = x.kept_active }
    minimums_kept (Negative goal outsized) low e x = record { goal = x.goal; is_made = x.is_made; kept_active = x.kept_active }

    pub same_entry : (l : Literal) (low : Minimums) (e : StackEntry) (x : Entry e) {strand : Strand} → P gs x.goal strand
        → P gs (minimums_kept l low e x).goal strand
    same_entry (Positive goal want outsized) low e x p = p
    same_entry (Negative goal outsized) low e x p = p

    pub ticks : (f : Forest) → KeptF f → Fine KeptF (increment_clock f)
    ticks f k = guard (leb f.clock_limit f.clock) 21 (λ b. goes (record {
      book_is = k.book_is;
      mark_is = k.mark_is;
      goals_are = k.goals_are;
      kept_tables = k.kept_tables;
    }))
