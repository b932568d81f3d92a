-- stack.rs. The top of the stack stands first; a stack index counts from the top.
use Rattle.std.specs.Prelude.{ℕ, suc, true, false, List, [], ◌∷◌, take, eqb}
use Rattle.std.proofs.Math.Option.{Option, none, some}
use Rattle.definitions.specs.{TableIndex, TimeStamp, Minimums}
use Rattle.definitions.specs.Stop.{Stops, stop, go, ◌>>=◌, unwrap}
use Rattle.definitions.specs.Lists.{total}
use Rattle.definitions.specs.Strand.{Strand}

-- `StackEntry`
pub record StackEntry : Type 0 where
  pub table : TableIndex
  pub clock : TimeStamp
  pub cyclic_minimums : Minimums
  pub active_strand : Option Strand

-- `Stack`
abbrev pub Stack : Type 0
Stack = List StackEntry

abbrev pub with_active : StackEntry → Option Strand → StackEntry
with_active e s = record {
  table = e.table;
  clock = e.clock;
  cyclic_minimums = e.cyclic_minimums;
  active_strand = s;
}

abbrev pub with_minimums : StackEntry → Minimums → StackEntry
with_minimums e m = record {
  table = e.table;
  clock = e.clock;
  cyclic_minimums = m;
  active_strand = e.active_strand;
}

-- `is_active`: the entry nearest the bottom counts
abbrev pub is_active : TableIndex → Stack → Option ℕ
is_active t [] = none
is_active t (e ∷ es) = elim (is_active t es) [
  | some depth ↦ some (suc depth)
  | none ↦ elim (eqb e.table t) [ true ↦ some 0 | false ↦ none ]
]

-- `top_of_stack_from`: the entries from the one at that depth up to the top
abbrev pub top_of_stack_from : ℕ → Stack → Stack
top_of_stack_from depth es = take (suc depth) es

-- `top`
abbrev pub top : Stack → Stops StackEntry
top [] = stop 0
top (e ∷ es) = go e

-- `top`, changed
abbrev pub change_top : Stack → (StackEntry → StackEntry) → Stops Stack
change_top [] change = stop 0
change_top (e ∷ es) change = go (change e ∷ es)

-- `push`
abbrev pub push_entry : TableIndex → Minimums → TimeStamp → Stack → Stack
push_entry t m c es = record {
  table = t;
  clock = c;
  cyclic_minimums = m;
  active_strand = none;
} ∷ es

-- What a pop leaves: nothing, or the caller's strand and the stack with the caller on top.
pub data Popped : Type 0 where
  no_caller : Popped
  caller : Strand → Stack → Popped

-- `pop_and_take_caller_strand`: the caller's strand is no longer in its entry
abbrev pub pop_and_take_caller_strand : Stack → Stops Popped
pop_and_take_caller_strand [] = go no_caller
pop_and_take_caller_strand (e ∷ []) = go no_caller
pop_and_take_caller_strand (e ∷ c ∷ es) = unwrap c.active_strand >>= λ s. go (caller s (with_active c none ∷ es))

-- `pop_and_borrow_caller_strand`: it is still there
abbrev pub pop_and_borrow_caller_strand : Stack → Stops Popped
pop_and_borrow_caller_strand [] = go no_caller
pop_and_borrow_caller_strand (e ∷ []) = go no_caller
pop_and_borrow_caller_strand (e ∷ c ∷ es) = unwrap c.active_strand >>= λ s. go (caller s (c ∷ es))

abbrev pub active_count : Option Strand → ℕ
active_count none = 0
active_count (some s) = 1

-- the active strands
abbrev pub active : Stack → ℕ
active es = total (λ e. active_count e.active_strand) es
