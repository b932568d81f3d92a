-- The functions of perform_idle.rt at their tests' answers, over variables. From what the functions that they call leave.
use Prim.Native.Nat.{ℕ, ◌-◌, ◌≤◌, ◌<◌}
use mathlib.Core.Bool.{Bool, true, false}
use mathlib.Core.List.{List}
use mathlib.Core.Path.{◌≡◌, sym, ap, ap₂, subst, ◌∙◌}
use lib.Dec.{ltb}
use lib.ListN.{get_or, set}
use borrow.Author.Tests.{lt-ltb, le-ltb}
use Rattle.definitions.specs.{Minimums}
use Rattle.strands.specs.declared.Strand.{Strand}
use Rattle.stores.specs.declared.places.Places.{Places}
use Rattle.stores.specs.declared.queue.Strands.{Strands}
use Rattle.stores.specs.declared.stack.Stack.{Stack}
use Rattle.stores.specs.Numbers.{within, flag_number}
use Rattle.stores.specs.Places.{places}
use Rattle.stores.specs.Queue.{waits_of, wants_of, store}
use Rattle.stores.specs.Stack.{caller_written, caller_taken}
use Rattle.control.specs.declared.clear_strands_after_cycle.Cleared.{Cleared}
use Rattle.control.specs.declared.performed.Flow.{Flow}
use Rattle.control.specs.ClearStrandsAfterCycle.{rings_in}
use Rattle.control.specs.OnPositiveCycle.{top_cycled, Minimized, cycled}
use Rattle.control.specs.UnwindStack.{Rings, all_back}
use Rattle.control.specs.PerformDeed.{stack_of}
use Rattle.control.specs.PerformIdle.{noted, cleared_by, clearing, cycle_cleared, table_by, caller_table, Idling, idling, idled}

-- `prove_caller`: the numbers of a strand written
pub noted_is : (strands : List Strand) (p : Places) (time ambiguous variant waits wants : List ℕ) (q at : ℕ) (x : Strand)
    (time' ambiguous' variant' waits' wants' : List ℕ) → time' ≡ set time q at → ambiguous' ≡ set ambiguous q (flag_number x.ambiguous)
    → variant' ≡ set variant q x.variant → waits' ≡ set waits q (waits_of x) → wants' ≡ set wants q (wants_of x)
    → store strands time' ambiguous' variant' waits' wants' p ≡ noted q at x (store strands time ambiguous variant waits wants p)
noted_is strands p time ambiguous variant waits wants q at x time' ambiguous' variant' waits' wants' et ea ev ew en = cc

-- `clear_cycle`
module _ (waits table active : List ℕ) (t depth : ℕ) (n tl l : List ℕ) (c : Cleared) (is : c ≡ clearing waits t (places n tl l 0)) where
  cleared_is : (met : Bool) → c.met_29 ≡ met → (top : ℕ)
      → cleared_by met table active depth (places n tl l top) (rings_in top c) ≡ cycle_cleared waits table active t depth
      (places n tl l top)
  cleared_is met e top =
      ap (λ (b : Bool). cleared_by b table active depth (places n tl l top) (rings_in top c)) (sym e)
      ∙ ap (λ (d : Cleared). cleared_by d.met_29 table active depth (places n tl l top) (rings_in top d)) is

  pub clearing_met : c.met_29 ≡ true
      → (true ≡ (clearing waits t (places n tl l 0)).met_29) × Rings (cycle_cleared waits table active t depth) n tl l n tl l
  clearing_met e = (sym e ∙ ap (λ (d : Cleared). d.met_29) is, λ top. cleared_is true e top)

  pub clearing_done : c.met_29 ≡ false → (n' tl' l' : List ℕ)
      → Rings (all_back table active (within (depth - 1))) c.next c.tail c.len n' tl' l'
      → (false ≡ (clearing waits t (places n tl l 0)).met_29) × Rings (cycle_cleared waits table active t depth) n tl l n' tl' l'
  clearing_done e n' tl' l' u = (sym e ∙ ap (λ (d : Cleared). d.met_29) is, λ top. u top ∙ cleared_is false e top)

-- `caller_table`
module _ (depth : ℕ) (table : List ℕ) where
  pub table_none : depth < 2 → 64 ≡ caller_table depth table
  table_none h = sym (ap (λ (b : Bool). table_by b (ltb 64 depth) (get_or table (depth - 2) 0)) (lt-ltb depth 2 h))

  pub table_far : 2 ≤ depth → 64 < depth → 64 ≡ caller_table depth table
  table_far h k = sym (ap₂ (λ (b c : Bool). table_by b c (get_or table (depth - 2) 0)) (le-ltb depth 2 h) (lt-ltb 64 depth k))

  pub table_some : 2 ≤ depth → depth ≤ 64 → get_or table (depth - 2) 0 ≡ caller_table depth table
  table_some h k = sym (ap₂ (λ (b c : Bool). table_by b c (get_or table (depth - 2) 0)) (le-ltb depth 2 h) (le-ltb 64 depth k))

-- `rejoin_cycle`: the stack
pub rejoined_stack : (depth : ℕ) (tb ck p n a p' n' a' : List ℕ) (not not' : Bool) (m m' : Minimums) (d : ℕ) → d ≡ depth - 1 → not ≡ not'
    → m ≡ m' → a' ≡ caller_written depth a → Minimized (top_cycled not m ck p n d) d p n p' n'
    → stack_of (depth - 1) tb ck p' n' a' ≡ cycled not' m' (caller_taken (stack_of depth tb ck p n a))
rejoined_stack depth tb ck p n a p' n' a' not not' m m' d ed eb em ea h =
    let r = top_cycled not' m' ck p n (depth - 1) in
    let k : Minimized r (depth - 1) p n p' n' =
    subst (λ (x : Minimums). Minimized x (depth - 1) p n p' n')
    (ap₂ (λ (b : Bool) (y : Minimums). top_cycled b y ck p n (depth - 1)) eb em)
    (subst (λ (e : ℕ). Minimized (top_cycled not m ck p n e) e p n p' n') ed h) in
    let ep : _ ≡ _ = k.0 in
    let en : _ ≡ _ = k.1 in
    cc

-- `perform_idle`: what is left, by its parts
pub idling_is : {s s'' : Strands} {c c' : List ℕ} {k k' : Stack} → s ≡ s'' → c ≡ c' → k ≡ k' → idling s c k ≡ idling s'' c' k'
idling_is es ec ek = cc

pub idled_is : {f f' : Flow} {x x' : Strand} {m m' : Idling} → f ≡ f' → x ≡ x' → m ≡ m' → idled f x m ≡ idled f' x' m'
idled_is ef ex em = cc
