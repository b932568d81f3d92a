-- Unwinding a search: every caller has a strand to put back, and a table to put it into.
use Prim.Native.Nat.{ℕ, suc, ◌+◌, ◌≤◌}
use native.Mathlib.Omega.{arith}
use mathlib.Core.Path.{◌≡◌, ap, ◌∙◌}
use mathlib.Core.Bool.{false}
use mathlib.Core.Logic.{inr}
use mathlib.Core.Option.{Option, none, some}
use mathlib.Core.List.{[], ◌∷◌}
use lib.ListN.{get_elem?}
use Rattle.definitions.specs.{Minimums}
use Rattle.definitions.specs.Strand.{Strand}
use Rattle.definitions.specs.Table.{Table, enqueue_strand}
use Rattle.definitions.specs.Tables.{Tables, Forest, queued}
use Rattle.definitions.specs.Stack.{StackEntry, Stack, with_active, active, active_count}
use Rattle.definitions.specs.Logic.{SolveState, RootSearchFail, Flow, continue, return_ok, return_err, unwind_callers, unwind_stack}
use Rattle.definitions.specs.Logic.{drop_state, unwound}
use Rattle.definitions.specs.Turn.{fail}
use Rattle.definitions.specs.Forest.{is_invalid}
use Rattle.laws.specs.All.{All, end, more}
use Rattle.laws.proofs.All.{all_map, all_first, all_rest}
use Rattle.asserts.proofs.Safe.{Safe, goes, after, weaker, known, unwraps}
use Rattle.asserts.specs.Sound.{Reached, SoundForest, Calls, Below, Rooted, Searching, Active, SoundState}
use Rattle.asserts.proofs.Keeping.{Steady, Grows, grows_above, calls_grow, Kept, kept_same, kept_trans, enqueue_kept}
use Rattle.asserts.proofs.Keeping.{queued_enqueue, change_is}

-- what unwinding asks of an entry
pub record Waits (n : ℕ) (ts : Tables) (e : StackEntry) : Type 0 where
  pub own : Table
  pub is_made : get_elem? ts e.table ≡ some own
  pub unfloundered : own.floundered ≡ false
  pub awaited : ℕ
  pub calls : Calls n ts awaited e.active_strand

below_waits : (n : ℕ) (ts : Tables) (root first table clock : ℕ) (es : Stack) → Below n ts root first table clock es → All (Waits n ts) es
below_waits n ts root first table clock [] x = end
below_waits n ts root first table clock (e ∷ es) x = more (record {
  own = x.0.own;
  is_made = x.0.is_made;
  unfloundered = x.0.unfloundered;
  awaited = table;
  calls = x.1;
}) (below_waits n ts root first e.table e.clock es x.2)

pub searching_waits : {n root index first : ℕ} {f : Forest} {table clock : ℕ} {m : Minimums} {es : Stack}
    → Searching n root index first f table clock m es → All (Waits n f.tables) es
searching_waits {n} {root} {index} {first} {f} {table} {clock} {m} {es} x = below_waits n f.tables root first table clock es x.below

pub waits_grows : {n : ℕ} {ts ts' : Tables} {es : Stack} → Grows Steady ts ts' → All (Waits n ts) es → All (Waits n ts') es
waits_grows g x = all_map (λ e w. let y = g.grown e.table w.own w.is_made in record {
  own = y.after;
  is_made = y.is_made;
  unfloundered = y.related.same_floundered ∙ w.unfloundered;
  awaited = w.awaited;
  calls = calls_grow (grows_above g) w.calls;
}) x

unwinds_from : {n : ℕ} (es : Stack) {f : Forest} → SoundForest n f → queued f + active es ≤ 256 → All (Waits n f.tables) es
    → Safe (Kept n f) (unwind_callers f es)
unwinds_from [] s free ws = goes (kept_same s)
unwinds_from {n} (e ∷ es) {f} s free ws =
    let w = all_first ws in
    let one : active_count e.active_strand ≡ 1 = ap active_count w.calls.is_active in
    let more-queued = queued_enqueue f e.table w.own w.calls.strand w.is_made in
    let k = enqueue_kept s e.table w.is_made (omega arith) w.unfloundered w.calls.strand w.calls.sound in
    known _ (unwraps e.active_strand w.calls.strand w.calls.is_active)
    (known _ (change_is f e.table w.own (enqueue_strand w.calls.strand) w.is_made)
    (weaker (unwinds_from es k.sound (omega arith) (waits_grows k.grows (all_rest ws))) (λ h x. kept_trans k x)))

pub unwinds : {n : ℕ} {f : Forest} {es : Stack} → SoundForest n f → queued f + active es ≤ 256 → All (Waits n f.tables) es
    → Safe (Kept n f) (unwind_callers f es)
unwinds {es = es} s free ws = unwinds_from es s free ws

-- A search that is over.

-- what is left of it: the root's table is floundered, or has the answers below the index that was searched for
pub record Ended (n root index : ℕ) (f : Forest) : Type 0 where
  pub sound : SoundForest n f
  pub own : Table
  pub is_made : get_elem? f.tables root ≡ some own
  pub reached : Reached own index

pub ended_kept : {n root index : ℕ} {f f' : Forest} → Ended n root index f → Kept n f f' → Ended n root index f'
ended_kept {root = root} {index = index} x k = let y = (grows_above k.grows).grown root x.own x.is_made in record {
  sound = k.sound;
  own = y.after;
  is_made = y.is_made;
  reached = y.related index x.reached;
}

-- the search can be put back
abbrev pub Left : (n root index : ℕ) → SolveState → Type 0
Left n root index s = Ended n root index s.forest × Safe (Ended n root index) (drop_state s)

-- it can, with these entries under the top
pub left_top : {n root index : ℕ} {f : Forest} (e : StackEntry) {es : Stack} → Ended n root index f → (t : Table)
    → get_elem? f.tables e.table ≡ some t → t.floundered ≡ false → queued f + active (e ∷ es) ≤ 256
    → Active n f.tables e.active_strand → All (Waits n f.tables) es → Left n root index (record { forest = f; stack = e ∷ es })
left_top {n} {root} {index} {f} e {es} x t k u free a w = (x, on e.active_strand free a)
  where
    on : (o : Option Strand) → queued f + (active_count o + active es) ≤ 256 → Active n f.tables o
        → Safe (Ended n root index) (drop_state (record { forest = f; stack = with_active e o ∷ es }))
    on none free a = weaker (unwinds x.sound (omega arith) w) (λ h y. ended_kept x y)
    on (some s) free a =
        let more-queued = queued_enqueue f e.table t s k in
        let c = enqueue_kept x.sound e.table k (omega arith) u s a in
        known _ (change_is f e.table t (enqueue_strand s) k)
        (weaker (unwinds c.sound (omega arith) (waits_grows c.grows w)) (λ h y. ended_kept x (kept_trans c y)))

pub searching_ended : {n root index first : ℕ} {f : Forest} {table clock : ℕ} {m : Minimums} {es : Stack}
    → Searching n root index first f table clock m es → Ended n root index f
searching_ended x = record { sound = x.forest; own = x.rooted.own; is_made = x.rooted.is_made; reached = inr x.rooted.enough }

-- what a turn comes to
abbrev pub Flows : (n root index first : ℕ) → Flow → Type 0
Flows n root index first (continue s) = SoundState n root index first s
Flows n root index first (return_ok s) = (s.stack ≡ []) × SoundForest n s.forest × Rooted s.forest.tables root (suc index)
Flows n root index first (return_err e s) = (is_invalid (fail e) ≡ false) × Left n root index s

-- `unwind_stack` before the search gives up
pub unwinding : {n root index first : ℕ} (r : RootSearchFail) → is_invalid (fail r) ≡ false → {f : Forest} (e : StackEntry) {es : Stack}
    → Ended n root index f → queued f + active es ≤ 256 → All (Waits n f.tables) es
    → Safe (Flows n root index first) (unwound r (record { forest = f; stack = e ∷ es }))
unwinding {n} {root} {index} {first} r v {f} e {es} x free w = after given (λ u y. goes (v, y))
  where
    given : Safe (Left n root index) (unwind_stack (record { forest = f; stack = e ∷ es }))
    given = after (unwinds x.sound free w) (λ h y. goes {a = record { forest = h; stack = [] }} (ended_kept x y, goes (ended_kept x y)))
