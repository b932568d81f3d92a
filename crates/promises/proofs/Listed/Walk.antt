-- Statements that stop by a number of some kind, or go on with what has some property.
use Prim.Native.Nat.{ℕ}
use borrow.Author.Tests.{eqb-true}
use mathlib.Core.Bool.{Bool, true, false, ◌||◌, false≢true}
use mathlib.Core.List.{List, [], ◌∷◌}
use mathlib.Core.Option.{Option, none, some}
use mathlib.Core.Logic.{inl, inr}
use mathlib.Core.Path.{◌≡◌, refl}
use lib.Dec.{eqb}
use lib.ListN.{get_elem?}
use Rattle.definitions.specs.{TableIndex}
use Rattle.definitions.specs.Book.{Want, Literal, Positive, Negative}
use Rattle.definitions.specs.Stop.{Stops, stop, go, ◌>>=◌, ◌>>◌, stop_if, unwrap}
use Rattle.definitions.specs.Table.{Table, enqueue_strand}
use Rattle.definitions.specs.Tables.{Forest, table_at, change_table}
use Rattle.definitions.specs.Stack.{StackEntry, Stack, top, change_top, pop_and_take_caller_strand}
use Rattle.definitions.specs.Stack.{pop_and_borrow_caller_strand}
use Rattle.definitions.specs.Logic.{SolveState, unwind_callers, unwind_stack, drop_state}
use Rattle.promises.specs.Total.{OneOf}

-- one of these numbers, by computation
abbrev pub is_one_of : List ℕ → ℕ → Bool
is_one_of [] n = false
is_one_of (m ∷ ms) n = eqb n m || is_one_of ms n

pub one_of : (ms : List ℕ) (n : ℕ) → is_one_of ms n ≡ true → OneOf ms n
one_of [] n e = false≢true e
one_of (m ∷ ms) n e = on (eqb n m) refl e (one_of ms n)
  where
    on : (b : Bool) → eqb n m ≡ b → (b || is_one_of ms n) ≡ true → (is_one_of ms n ≡ true → OneOf ms n) → OneOf (m ∷ ms) n
    on true k x h = inl (eqb-true n m k)
    on false k x h = inr (h x)

pub data Comes (N : ℕ → Type 0) {A : Type 0} (P : A → Type 0) : Stops A → Type 0 where
  stops : {n : ℕ} → N n → Comes N P (stop n)
  goes : {a : A} → P a → Comes N P (go a)

-- of which nothing is to be known
abbrev pub Any : {A : Type 0} → A → Type 0
Any a = Unit {0}

module _ {N : ℕ → Type 0} {A B : Type 0} {P : A → Type 0} {Q : B → Type 0} where
  -- one statement after another
  pub then : {r : Stops A} {k : A → Stops B} → Comes N P r → ((a : A) → P a → Comes N Q (k a)) → Comes N Q (r >>= k)
  then (stops n) h = stops n
  then (goes {a = a} p) h = h a p

  -- a stop that is passed on
  pub passed : {r : Stops A} {k : A → Stops B} → Comes N P r → ((a : A) → P a → Comes N Q (k a))
      → Comes N Q (elim r [ stop n ↦ stop n | go a ↦ k a ])
  passed (stops n) h = stops n
  passed (goes {a = a} p) h = h a p

-- more numbers
pub more : {N M : ℕ → Type 0} {A : Type 0} {P : A → Type 0} {r : Stops A} → ((n : ℕ) → N n → M n) → Comes N P r → Comes M P r
more h (stops {n = n} z) = stops (h n z)
more h (goes p) = goes p

module _ {N : ℕ → Type 0} {B : Type 0} {Q : B → Type 0} where
  pub guard : (b : Bool) (n : ℕ) {r : Stops B} → N n → Comes N Q r → Comes N Q (stop_if b n >> r)
  guard true n z h = stops z
  guard false n z h = h

  pub either : (b : Bool) {x y : Stops B} → Comes N Q x → Comes N Q y → Comes N Q (elim b [ true ↦ x | false ↦ y ])
  either true h k = h
  either false h k = k

  pub by_literal : (l : Literal) {x : ℕ → Want → Bool → Stops B} {y : ℕ → Bool → Stops B}
      → ((goal : ℕ) (want : Want) (outsized : Bool) → Comes N Q (x goal want outsized))
      → ((goal : ℕ) (outsized : Bool) → Comes N Q (y goal outsized))
      → Comes N Q (elim l [ Positive goal want outsized ↦ x goal want outsized | Negative goal outsized ↦ y goal outsized ])
  by_literal (Positive goal want outsized) h k = h goal want outsized
  by_literal (Negative goal outsized) h k = k goal outsized

module _ {N : ℕ → Type 0} {A B : Type 0} {Q : B → Type 0} where
  pub given : (o : Option A) {x : Stops B} {y : A → Stops B} → Comes N Q x → ((a : A) → Comes N Q (y a))
      → Comes N Q (elim o [ none ↦ x | some a ↦ y a ])
  given none h k = h
  given (some a) h k = k a

-- with this mark
abbrev pub Marked : ℕ → Forest → Type 0
Marked m f = f.mark ≡ m

abbrev pub StateMarked : ℕ → SolveState → Type 0
StateMarked m s = s.forest.mark ≡ m

-- What only asserts: 0 is one of the numbers.
module _ {N : ℕ → Type 0} (z : N 0) where
  pub unwrap_comes : {A : Type 0} (o : Option A) → Comes N Any (unwrap o)
  unwrap_comes none = stops z
  unwrap_comes (some a) = goes tt

  pub table_comes : (f : Forest) (i : TableIndex) → Comes N Any (table_at f i)
  table_comes f i = unwrap_comes (get_elem? f.tables i)

  pub top_comes : (es : Stack) → Comes N Any (top es)
  top_comes [] = stops z
  top_comes (e ∷ es) = goes tt

  pub change_top_comes : (es : Stack) (change : StackEntry → StackEntry) → Comes N Any (change_top es change)
  change_top_comes [] change = stops z
  change_top_comes (e ∷ es) change = goes tt

  pub take_caller_comes : (es : Stack) → Comes N Any (pop_and_take_caller_strand es)
  take_caller_comes [] = goes tt
  take_caller_comes (e ∷ []) = goes tt
  take_caller_comes (e ∷ c ∷ es) = then (unwrap_comes c.active_strand) (λ s _. goes tt)

  pub borrow_caller_comes : (es : Stack) → Comes N Any (pop_and_borrow_caller_strand es)
  borrow_caller_comes [] = goes tt
  borrow_caller_comes (e ∷ []) = goes tt
  borrow_caller_comes (e ∷ c ∷ es) = then (unwrap_comes c.active_strand) (λ s _. goes tt)

  -- the mark stays as it is
  module _ {m : ℕ} where
    pub change_comes : (f : Forest) (i : TableIndex) (change : Table → Table) → Marked m f → Comes N (Marked m) (change_table f i change)
    change_comes f i change e = then (table_comes f i) (λ t _. goes e)

    pub callers_come : (es : Stack) (f : Forest) → Marked m f → Comes N (Marked m) (unwind_callers f es)
    callers_come [] f e = goes e
    callers_come (c ∷ es) f e =
        then (unwrap_comes c.active_strand) (λ s _. then (change_comes f c.table (enqueue_strand s) e) (λ g h. callers_come es g h))

    unwinds_come : (es : Stack) (f : Forest) → Marked m f → Comes N (StateMarked m) (unwind_stack (record { forest = f; stack = es }))
    unwinds_come [] f e = goes e
    unwinds_come (c ∷ es) f e = then (callers_come es f e) (λ g h. goes h)

    pub unwind_comes : (s : SolveState) → StateMarked m s → Comes N (StateMarked m) (unwind_stack s)
    unwind_comes s e = unwinds_come s.stack s.forest e

    drops_come : (es : Stack) (f : Forest) → Marked m f → Comes N (Marked m) (drop_state (record { forest = f; stack = es }))
    drops_come [] f e = goes e
    drops_come (c ∷ es) f e = given c.active_strand (callers_come es f e)
        (λ s. then (change_comes f c.table (enqueue_strand s) e) (λ g h. callers_come es g h))

    pub drop_comes : (s : SolveState) → StateMarked m s → Comes N (Marked m) (drop_state s)
    drop_comes s e = drops_come s.stack s.forest e
