-- The doings of `perform` are those of the definitions, unless these assert.
use Prim.Native.Nat.{ℕ, zero, suc}
use mathlib.Core.Path.{◌≡◌, refl, sym, ap, subst, ◌∙◌}
use mathlib.Core.Bool.{Bool, true, false}
use mathlib.Core.Option.{Option, none, some}
use mathlib.Core.List.{List, [], ◌∷◌, map}
use lib.ListN.{get_elem?, set}
use Rattle.definitions.specs.Stop.{Stops, stop, go, ◌>>=◌, unwrap}
use Rattle.definitions.specs.Strand.{Strand}
use Rattle.definitions.specs.Table.{Table, with_strands, take_strands, enqueue_strand}
use Rattle.definitions.specs.Tables.{Tables, Forest, with_tables, table_at, change_table}
use Rattle.definitions.specs.Stack.{StackEntry, Stack}
use Rattle.definitions.specs.Logic.{RootSearchFail, return_err, unwind_callers, unwind_stack, unwound, enqueue_at_top}
use Rattle.laws.proofs.Options.{no_such, same_some}
use Rattle.asserts.proofs.States.{state}
use Rattle.small_steps.specs.Acts.{changed, queued_at_top, callers_unwound, gone}
use Rattle.small_steps.specs.Decide.{or, no_table, table_of}
use Rattle.small_steps.proofs.Matches.{Matches, asserts, Goes, asserting, going, goes_after}

pub changes : (f : Forest) (i : ℕ) (change : Table → Table) → Goes (changed f i change) (change_table f i change)
changes f i change = on (get_elem? f.tables i)
  where
    on : (o : Option Table) → Goes (elim o [ none ↦ f | some t ↦ with_tables f (set f.tables i (change t)) ])
        (unwrap o >>= λ t. go (with_tables f (set f.tables i (change t))))
    on none = asserting
    on (some t) = going

pub changed_is : (f : Forest) (i : ℕ) (t : Table) (change : Table → Table) → get_elem? f.tables i ≡ some t
    → changed f i change ≡ with_tables f (set f.tables i (change t))
changed_is f i t change e = on (get_elem? f.tables i) e
  where
    on : (o : Option Table) → o ≡ some t → elim o [ none ↦ f | some u ↦ with_tables f (set f.tables i (change u)) ] ≡ with_tables f
        (set f.tables i (change t))
    on none p = absurd (no_such p)
    on (some u) p = ap (λ z. with_tables f (set f.tables i (change z))) (same_some p)

pub enqueues : (f : Forest) (e : StackEntry) (es : Stack) (strand : Strand)
    → Goes (queued_at_top strand (state f e es)) (enqueue_at_top (state f e es) strand)
enqueues f e es strand = goes_after _ (changes f e.table (enqueue_strand strand)) going

pub unwinds_callers : (f : Forest) (es : Stack) → Goes (callers_unwound f es) (unwind_callers f es)
unwinds_callers f [] = going
unwinds_callers f (c ∷ es) = on c.active_strand
    (λ strand. goes_after _ (changes f c.table (enqueue_strand strand))
    (unwinds_callers (changed f c.table (enqueue_strand strand)) es))
  where
    on : (o : Option Strand) → ((strand : Strand) → Goes (callers_unwound (changed f c.table (enqueue_strand strand)) es)
        (change_table f c.table (enqueue_strand strand) >>= λ f'. unwind_callers f' es))
        → Goes (elim o [ none ↦ callers_unwound f es | some strand ↦ callers_unwound (changed f c.table (enqueue_strand strand)) es ])
        (unwrap o >>= λ strand. change_table f c.table (enqueue_strand strand) >>= λ f'. unwind_callers f' es)
    on none h = asserting
    on (some strand) h = h strand

pub unwinds : (f : Forest) (e : StackEntry) (es : Stack) → Goes (gone (state f e es)) (unwind_stack (state f e es))
unwinds f e es = goes_after _ (unwinds_callers f es) going

pub unwinds_up : (r : RootSearchFail) (f : Forest) (e : StackEntry) (es : Stack)
    → Goes (return_err r (gone (state f e es))) (unwound r (state f e es))
unwinds_up r f e es = goes_after _ (unwinds f e es) going

-- Heads: the tables without their queues. Deciding reads no more of a table than its head.

abbrev pub heads : Forest → Forest
heads f = with_tables f (map take_strands f.tables)

at_heads : (ts : Tables) (i : ℕ) → or no_table (get_elem? (map take_strands ts) i) ≡ take_strands (or no_table (get_elem? ts i))
at_heads [] i = refl
at_heads (t ∷ ts) zero = refl
at_heads (t ∷ ts) (suc i) = at_heads ts i

-- a table of a forest with the same heads
pub same_head : (f g : Forest) → heads f ≡ heads g → (i : ℕ) → take_strands (table_of f i) ≡ take_strands (table_of g i)
same_head f g e i = sym (at_heads f.tables i) ∙ ap (λ h. table_of h i) e ∙ at_heads g.tables i

module _ {C D : Type 0} {Q : C → D → Type 0} where
  pub after_table : (f g : Forest) → heads f ≡ heads g → (i : ℕ) {k : Table → Stops C} (l : Table → Stops D)
      → ((t : Table) (ss : List Strand) → get_elem? f.tables i ≡ some t → Matches Q (k t) (l (with_strands t ss)))
      → Matches Q (table_at f i >>= k) (l (table_of g i))
  after_table f g e i {k} l h = on (get_elem? f.tables i) refl
    where
      on : (o : Option Table) → get_elem? f.tables i ≡ o → Matches Q (unwrap o >>= k) (l (table_of g i))
      on none q = asserts
      on (some t) q = subst (λ z. Matches Q (k t) (l z))
          (ap (λ z. with_strands z (table_of g i).strands) (ap (λ z. take_strands (or no_table z)) (sym q) ∙ same_head f g e i))
          (h t (table_of g i).strands q)
