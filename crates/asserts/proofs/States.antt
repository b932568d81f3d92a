-- The state of a search in a turn: its top takes a strand back, gets an active strand, or the search is given up.
use Prim.Native.Nat.{ℕ, ◌+◌, ◌≤◌, ◌<◌}
use native.Mathlib.Omega.{arith}
use mathlib.Core.Path.{◌≡◌}
use mathlib.Core.Bool.{false}
use mathlib.Core.Option.{some}
use mathlib.Core.List.{[], ◌∷◌}
use lib.ListN.{get_elem?, set}
use Rattle.definitions.specs.Stop.{Stops, go, ◌>>=◌}
use Rattle.definitions.specs.Strand.{Strand}
use Rattle.definitions.specs.Table.{Table, enqueue_strand}
use Rattle.definitions.specs.Tables.{Forest, queued, with_tables}
use Rattle.definitions.specs.Stack.{StackEntry, Stack, with_active, active}
use Rattle.definitions.specs.Logic.{SolveState, RootSearchFail, continue, unwind_stack, unwound, enqueue_at_top, activate}
use Rattle.definitions.specs.Turn.{fail}
use Rattle.definitions.specs.Forest.{is_invalid}
use Rattle.asserts.proofs.Safe.{Safe, goes, after}
use Rattle.asserts.specs.Sound.{SoundStrand, SoundStack, SoundState}
use Rattle.asserts.proofs.Keeping.{grows_above, active_grows, Kept, enqueue_kept, queued_enqueue, searching_kept}
use Rattle.asserts.proofs.Unwinding.{Left, Flows, searching_ended, searching_waits, unwinds, ended_kept, left_top}

-- a state with an entry on top
abbrev pub state : Forest → StackEntry → Stack → SolveState
state f e es = record { forest = f; stack = e ∷ es }

-- the forest with a strand put into a queue
abbrev pub with_queued : Forest → ℕ → Table → Strand → Forest
with_queued f i t s = with_tables f (set f.tables i (enqueue_strand s t))

pub enqueue_is : (f : Forest) (e : StackEntry) (es : Stack) (s : Strand) (t : Table) → get_elem? f.tables e.table ≡ some t
    → enqueue_at_top (state f e es) s ≡ go (state (with_queued f e.table t s) e es)
enqueue_is f e es s t k = rw k

module _ (n root index first : ℕ) where
  pub stack_kept : (f f' : Forest) (e : StackEntry) (es : Stack) → SoundStack n root index first f (e ∷ es) → Kept n f f'
      → queued f' + active (e ∷ es) ≤ 256 → SoundStack n root index first f' (e ∷ es)
  stack_kept f f' e es x k o = (searching_kept x.0 k, active_grows n (grows_above k.grows) e.active_strand x.1, o)

  -- what the top takes back
  pub takes_back : (f : Forest) (e : StackEntry) (es : Stack) (s : Strand) (x : SoundStack n root index first f (e ∷ es))
      → queued f + active (e ∷ es) < 256 → SoundStrand n f.tables s
      → SoundStack n root index first (with_queued f e.table x.0.standing.own s) (e ∷ es)
  takes_back f e es s x free y =
      let k = x.0.standing.is_made in
      let one_more = queued_enqueue f e.table x.0.standing.own s k in
      stack_kept f (with_queued f e.table x.0.standing.own s) e es x
      (enqueue_kept x.0.forest e.table k (omega arith) x.0.standing.unfloundered s y) (omega arith)

  activates_on : (f : Forest) (es : Stack) (s : Strand) → SoundStack n root index first f es → queued f + active es < 256
      → SoundStrand n f.tables s → Safe (SoundState n root index first) (activate (record { forest = f; stack = es }) s)
  activates_on f [] s x free y = absurd x
  activates_on f (e ∷ es) s x free y = goes {a = state f (with_active e (some s)) es} (x.0, y, (omega arith))

  pub activates : (st : SolveState) (s : Strand) → SoundState n root index first st → queued st.forest + active st.stack < 256
      → SoundStrand n st.forest.tables s → Safe (SoundState n root index first) (activate st s)
  activates st s x free y = activates_on st.forest st.stack s x free y

  gives_up_on : (f : Forest) (es : Stack) → SoundStack n root index first f es
      → Safe (Left n root index) (unwind_stack (record { forest = f; stack = es }))
  gives_up_on f [] x = absurd x
  gives_up_on f (e ∷ es) x = let o = x.2 in after (unwinds x.0.forest (omega arith) (searching_waits x.0))
      (λ h y. let z = ended_kept (searching_ended x.0) y in goes {a = record { forest = h; stack = [] }} (z, goes z))

  pub gives_up : (st : SolveState) → SoundState n root index first st → Safe (Left n root index) (unwind_stack st)
  gives_up st x = gives_up_on st.forest st.stack x

  pub unwinds_up : (r : RootSearchFail) → is_invalid (fail r) ≡ false → (st : SolveState) → SoundState n root index first st
      → Safe (Flows n root index first) (unwound r st)
  unwinds_up r v st x = after (gives_up st x) (λ u y. goes (v, y))

  -- a search that ends with its stack still there
  pub leaves : (f : Forest) (e : StackEntry) (es : Stack) → SoundStack n root index first f (e ∷ es) → Left n root index (state f e es)
  leaves f e es x = left_top e (searching_ended x.0) x.0.standing.own x.0.standing.is_made x.0.standing.unfloundered
      x.2 x.1 (searching_waits x.0)

  -- the loop goes on
  pub continues : {r : Stops SolveState} → Safe (SoundState n root index first) r
      → Safe (Flows n root index first) (r >>= λ s. go (continue s))
  continues x = after x (λ s k. goes {a = continue s} k)
