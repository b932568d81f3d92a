-- What it means that a turn of the definitions comes to what a turn of the machine comes to, and what a turn may ask of the stack.
use Prim.Native.Nat.{ℕ, ◌≤◌}
use native.Mathlib.Decide.{ℕ_discrete}
use borrow.Author.Tests.{eq-eqb, ne_eqb}
use mathlib.Core.Path.{◌≡◌, refl, sym, ap, subst, ◌∙◌}
use mathlib.Core.Bool.{Bool, true, false}
use mathlib.Core.Logic.{inl, inr}
use mathlib.Core.Option.{Option, none, some}
use mathlib.Core.List.{List, [], ◌∷◌}
use lib.ListN.{length, get_elem?}
use lib.Dec.{eqb}
use Rattle.definitions.specs.Book.{Book}
use Rattle.definitions.specs.Stop.{Stops, stop, go}
use Rattle.definitions.specs.Tables.{Tables, Forest}
use Rattle.definitions.specs.Stack.{StackEntry, Stack, is_active}
use Rattle.definitions.specs.Logic.{SolveState, Flow, continue, return_ok, return_err, NoMoreSolutions, QuantumExceeded, drop_state}
use Rattle.laws.proofs.Distinct.{Distinct}
use Rattle.laws.proofs.Options.{same_some}
use Rattle.promises.proofs.Plain.Machine as M
use Rattle.promises.proofs.Plain.Steps.{Setting}
use Rattle.promises.proofs.Plain.Stack.{On, Calls, Piled}
use Rattle.promises.proofs.Link.View.{entry_of, StackIs, s_end, s_more}
use Rattle.promises.proofs.Link.Tables.{Extends, forest_of, Agree}
use Rattle.promises.proofs.Link.Back.{Busy}

abbrev pub state_of : Book → (limit : ℕ) → Tables → (clock : ℕ) → Stack → SolveState
state_of book limit ts c ds = record { forest = forest_of book limit 0 ts c; stack = ds }

-- the outcomes that the machine's theorem shuts out
abbrev pub Lost : M.Outcome → Type 0
Lost M.found = ⊥
Lost M.no_more_left = ⊥
Lost M.again = ⊥
Lost M.cut = ⊥
Lost M.clock_ended = ⊥
Lost M.noted = ⊥
Lost (M.refused n) = ⊥
Lost M.negative_cycled = Unit {0}
Lost M.unselected = Unit {0}
Lost M.repeated = Unit {0}
Lost M.broken = Unit {0}

-- a turn beside a turn; gs are the goals of the tables before it, `before` is the machine's forest with the search put back before the
-- turn, r the goal that is searched for
pub data TurnIs (book : Book) (limit : ℕ) (gs : List ℕ) (before : M.Forest) (r : ℕ) : Stops Flow → M.Turn → Type 0 where
  going : {hs : List ℕ} {ts : Tables} {p : M.Forest} {d : StackEntry} {ds : Stack} {e : M.Entry} {es : List M.Entry} → Extends gs hs
      → Agree book hs ts p → StackIs (length book) hs (d ∷ ds) (e ∷ es)
      → TurnIs book limit gs before r (go (continue (state_of book limit ts p.clock (d ∷ ds)))) (M.turn_goes_on p e es)
  gave_up : {hs : List ℕ} {ts : Tables} {p : M.Forest} {s : SolveState} → Extends gs hs
      → drop_state s ≡ go (forest_of book limit 0 ts p.clock) → Agree book hs ts p
      → TurnIs book limit gs before r (go (return_err QuantumExceeded s)) (M.stop M.again p)
  no_more : {hs : List ℕ} {ts : Tables} {p : M.Forest} {s : SolveState} → Extends gs hs
      → drop_state s ≡ go (forest_of book limit 0 ts p.clock) → Agree book hs ts p
      → TurnIs book limit gs before r (go (return_err NoMoreSolutions s)) (M.stop M.no_more_left p)
  answered : {hs : List ℕ} {ts : Tables} {p : M.Forest} → Extends gs hs → Agree book hs ts p → p.answered r ≡ true
      → TurnIs book limit gs before r (go (return_ok (state_of book limit ts p.clock []))) (M.stop M.found p)
  clock_out : limit ≤ before.clock → TurnIs book limit gs before r (stop 21) (M.stop M.clock_ended before)
  lost : {d : Stops Flow} {o : M.Outcome} {p : M.Forest} → Lost o → TurnIs book limit gs before r d (M.stop o p)

pub from_more : {book : Book} {limit : ℕ} {gs hs : List ℕ} {before : M.Forest} {r : ℕ} {d : Stops Flow} {t : M.Turn} → Extends gs hs
    → TurnIs book limit hs before r d t → TurnIs book limit gs before r d t
from_more x (going y a s) = going (λ i g o. y i g (x i g o)) a s
from_more x (gave_up y e a) = gave_up (λ i g o. y i g (x i g o)) e a
from_more x (no_more y e a) = no_more (λ i g o. y i g (x i g o)) e a
from_more x (answered y a e) = answered (λ i g o. y i g (x i g o)) a e
from_more x (clock_out o) = clock_out o
from_more x (lost o) = lost o

-- The stack: each entry below the top waits for the one above it, no table stands there twice, no minimum came through a "not".

abbrev pub Lined : M.Limits → M.Entry → List M.Entry → Type 0
Lined N e [] = e.negative_min ≡ N.max
Lined N e (c ∷ es) = (e.negative_min ≡ N.max) × (On e.goal (c ∷ es) → ⊥) × Calls c e.goal e.clock × Lined N c es

pub lined_top : (N : M.Limits) (e : M.Entry) (es : List M.Entry) → Lined N e es → e.negative_min ≡ N.max
lined_top N e [] l = l
lined_top N e (c ∷ es) l = l.0

pub lined_busy : (N : M.Limits) (e : M.Entry) (es : List M.Entry) → Lined N e es → Busy es
lined_busy N e [] l = tt
lined_busy N e (c ∷ es) l = ((l.2.strand, l.2.active), lined_busy N c es l.3)

abbrev pub Apart : List M.Entry → Type 0
Apart [] = Unit {0}
Apart (e ∷ es) = (On e.goal es → ⊥) × Apart es

pub lined_apart : (N : M.Limits) (e : M.Entry) (es : List M.Entry) → Lined N e es → Apart (e ∷ es)
lined_apart N e [] l = ((λ o. o), tt)
lined_apart N e (c ∷ es) l = (l.1, lined_apart N c es l.3)

pub piled_lined : (S : Setting) (ans : ℕ → Bool) (H : ℕ → M.Strand → Type 0) (q : M.Queues) (e : M.Entry) (es : List M.Entry)
    → Piled S ans H q e es → Lined S.limits e es
piled_lined S ans H q e [] x = x.1.plain
piled_lined S ans H q e (c ∷ es) x = (x.1.plain, x.1.new, x.2, piled_lined S ans H q c es x.3)

-- Whether a table is on the stack.

pub data CycleIs (ds : Stack) : Option ℕ → Option ℕ → Type 0 where
  no_cycle : CycleIs ds none none
  a_cycle : {depth clock : ℕ} {x : StackEntry} → get_elem? ds depth ≡ some x → x.clock ≡ clock → CycleIs ds (some depth) (some clock)

module _ (n : ℕ) (gs : List ℕ) (distinct : Distinct gs) (j u : ℕ) (named : get_elem? gs j ≡ some u) where
  inactive : {ds : Stack} {es : List M.Entry} → StackIs n gs ds es → (On u es → ⊥) → is_active j ds ≡ none
  inactive s_end o = refl
  inactive (s_more i g c p r e a xs) o = rw (inactive xs (λ x. o (inr x)), is_active)
      (rw (ne_eqb i j (λ k. o (inl (same_some (sym e ∙ ap (get_elem? gs) k ∙ named))))))

  cycle_next : (d : StackEntry) (ds : Stack) (o : Option ℕ) (k : Option ℕ) → eqb d.table j ≡ false → is_active j ds ≡ o → CycleIs ds o k
      → CycleIs (d ∷ ds) (is_active j (d ∷ ds)) k
  cycle_next d ds none none q e no_cycle = rw (e, is_active) (rw q no_cycle)
  cycle_next d ds none (some c) q e x = elim x [ ]
  cycle_next d ds (some depth) none q e x = elim x [ ]
  cycle_next d ds (some depth) (some c) q e (a_cycle x y) = rw (e, is_active) (a_cycle x y)

  pub cycle_is : {ds : Stack} {es : List M.Entry} → StackIs n gs ds es → Apart es → CycleIs ds (is_active j ds) (M.find_clock u es)
  cycle_is s_end w = no_cycle
  cycle_is (s_more {ds = ds} {es = es} {a = a} i g c p r e act xs) w = at (ℕ_discrete g u) (cycle_is xs w.1)
    where
      at : (d : Dec (g ≡ u)) → CycleIs ds (is_active j ds) (M.find_clock u es)
          → CycleIs (entry_of i c p r a ∷ ds) (is_active j (entry_of i c p r a ∷ ds)) (M.pick d (some c) (M.find_clock u es))
      at (yes k) x = rw (inactive xs (λ o. w.0 (subst (λ v. On v es) (sym k) o)), is_active)
          (rw (eq-eqb i j (distinct i j u (e ∙ ap some k) named)) (a_cycle refl refl))
      at (no k) x = cycle_next (entry_of i c p r a) ds (is_active j ds) (M.find_clock u es)
          (ne_eqb i j (λ y. k (same_some (sym e ∙ ap (get_elem? gs) y ∙ named)))) refl x
