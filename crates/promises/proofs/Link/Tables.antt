-- The tables beside the machine's forest: finding one by its place or its goal, and changing one.
use Prim.Native.Nat.{ℕ, zero, suc, ◌<◌}
use native.Mathlib.Omega.{arith}
use native.Mathlib.Decide.{ℕ_discrete}
use borrow.Author.Tests.{eq-eqb, ne_eqb}
use mathlib.Core.Path.{◌≡◌, refl, sym, ap, subst, ◌∙◌}
use mathlib.Core.Bool.{Bool, true, false}
use mathlib.Core.Option.{Option, none, some}
use mathlib.Core.List.{List, [], ◌∷◌, ◌++◌, map}
use lib.ListN.{length, get_elem?, set}
use Rattle.definitions.specs.Book.{Book, Clause, Literal, Positive, Negative}
use Rattle.definitions.specs.Lists.{position}
use Rattle.definitions.specs.Strand.{Strand}
use Rattle.definitions.specs.Table.{Table}
use Rattle.definitions.specs.Tables.{Tables, Forest, index_of}
use Rattle.definitions.specs.Stack.{Stack}
use Rattle.papers.specs.Model.{clauses_of}
use Rattle.laws.proofs.Options.{no_such, same_some}
use Rattle.promises.proofs.Plain.Model.{Lit, pos, neg, Body, literal_goal}
use Rattle.promises.proofs.Plain.Machine as M
use Rattle.promises.proofs.Link.View.{StrandIs, free, bound, QueueIs, q_end, q_more, TableIs, table_is, TableAt, TablesAre, t_end}
use Rattle.promises.proofs.Link.View.{t_more, ActiveIs, no_active, an_active, StackIs, s_end, s_more}

abbrev pub lit : Literal → Lit
lit (Positive g w o) = pos g
lit (Negative g o) = neg g

-- the last literal first
abbrev pub body_of : List Literal → Body
body_of [] = []
body_of (l ∷ ls) = body_of ls ++ (lit l ∷ [])

abbrev pub bodies : List Clause → List Body
bodies [] = []
bodies (c ∷ cs) = body_of c.literals ∷ bodies cs

abbrev pub book_of : Book → ℕ → List Body
book_of book g = bodies (clauses_of book g)

abbrev pub Extends : (gs gs' : List ℕ) → Type 0
Extends gs gs' = (i g : ℕ) → get_elem? gs i ≡ some g → get_elem? gs' i ≡ some g

abbrev pub Absent : ℕ → List ℕ → Type 0
Absent g gs = (i : ℕ) → get_elem? gs i ≡ some g → ⊥

-- More goals.

module _ {n : ℕ} {gs gs' : List ℕ} (more : Extends gs gs') where
  pub strand_more : {s : Strand} {m : M.Strand} → StrandIs n gs s m → StrandIs n gs' s m
  strand_more (free a b t w) = free a b t w
  strand_more (bound a l b t i w e) = bound a l b t i w (more i (literal_goal l) e)

  pub queue_more : {s : List Strand} {m : List M.Strand} → QueueIs n gs s m → QueueIs n gs' s m
  queue_more q_end = q_end
  queue_more (q_more x xs) = q_more (strand_more x) (queue_more xs)

  pub table_more : {g : ℕ} {a m : Bool} {q : List M.Strand} {t : Table} → TableIs n gs g a m q t → TableIs n gs' g a m q t
  table_more (table_is ss x) = table_is ss (queue_more x)

  pub active_more : {s : Option Strand} {m : Option M.Strand} → ActiveIs n gs s m → ActiveIs n gs' s m
  active_more no_active = no_active
  active_more (an_active x) = an_active (strand_more x)

  pub stack_more : {ds : Stack} {es : List M.Entry} → StackIs n gs ds es → StackIs n gs' ds es
  stack_more s_end = s_end
  stack_more (s_more i g c p r e a x) = s_more i g c p r (more i g e) (active_more a) (stack_more x)

pub queue_append : {n : ℕ} {gs : List ℕ} {ss ts : List Strand} {ms os : List M.Strand} → QueueIs n gs ss ms → QueueIs n gs ts os
    → QueueIs n gs (ss ++ ts) (ms ++ os)
queue_append q_end y = y
queue_append (q_more x xs) y = q_more x (queue_append xs y)

-- Places.

pub table_found : {n : ℕ} {gs : List ℕ} {p : M.Forest} {hs : List ℕ} {ts : Tables} → TablesAre n gs p hs ts → (i g : ℕ)
    → get_elem? hs i ≡ some g → (t : Table) × (get_elem? ts i ≡ some t) × TableAt n gs p g t
table_found t_end i g e = absurd (no_such e)
table_found {n} {gs} {p} (t_more {g = h} {t = t} x xs) zero g e = (t, refl, subst (λ z. TableAt n gs p z t) (same_some e) x)
table_found (t_more x xs) (suc i) g e = table_found xs i g e

pub tables_map : {n : ℕ} {gs gs' : List ℕ} {p p' : M.Forest} {hs : List ℕ} {ts : Tables} → TablesAre n gs p hs ts
    → ((i g : ℕ) → get_elem? hs i ≡ some g → (t : Table) → TableAt n gs p g t → TableAt n gs' p' g t) → TablesAre n gs' p' hs ts
tables_map t_end f = t_end
tables_map (t_more {g = g} {t = t} x xs) f = t_more (f 0 g refl t x) (tables_map xs (λ i. f (suc i)))

pub tables_set : {n : ℕ} {gs : List ℕ} {p p' : M.Forest} {hs : List ℕ} {ts : Tables} → TablesAre n gs p hs ts → (i g : ℕ)
    → get_elem? hs i ≡ some g → (t : Table) → TableAt n gs p' g t
    → ((j h : ℕ) → get_elem? hs j ≡ some h → (i ≡ j → ⊥) → (t : Table) → TableAt n gs p h t → TableAt n gs p' h t)
    → TablesAre n gs p' hs (set ts i t)
tables_set t_end i g e t x f = absurd (no_such e)
tables_set {n} {gs} {p} {p'} (t_more y ys) zero g e t x f =
    t_more (subst (λ z. TableAt n gs p' z t) (sym (same_some e)) x) (tables_map ys (λ j h o. f (suc j) h o (λ w. omega arith)))
tables_set (t_more {g = h} {t = u} y ys) (suc i) g e t x f =
    t_more (f 0 h refl (λ w. omega arith) u y) (tables_set ys i g e t x (λ j h' o w. f (suc j) h' o (λ v. w (omega arith))))

-- By goal.

pub data FoundIs (g : ℕ) (hs : List ℕ) : Option ℕ → Type 0 where
  found_at : (i : ℕ) → get_elem? hs i ≡ some g → FoundIs g hs (some i)
  found_none : Absent g hs → FoundIs g hs none

pub table_names : {n : ℕ} {gs : List ℕ} {g : ℕ} {a m : Bool} {q : List M.Strand} {t : Table} → TableIs n gs g a m q t → t.table_goal ≡ g
table_names (table_is ss x) = refl

found_next : (g h : ℕ) (hs : List ℕ) (o : Option ℕ) → (h ≡ g → ⊥) → FoundIs g hs o
    → FoundIs g (h ∷ hs) (elim o [ none ↦ none | some i ↦ some (suc i) ])
found_next g h hs none no-h (found_none a) = found_none go
  where
    go : (i : ℕ) → get_elem? (h ∷ hs) i ≡ some g → ⊥
    go zero e = no-h (same_some e)
    go (suc i) e = a i e
found_next g h hs (some i) no-h (found_at j e) = found_at (suc j) e

found_step : (g h : ℕ) (hs : List ℕ) (t : Table) (ts : Tables) → t.table_goal ≡ h → Dec (h ≡ g) → FoundIs g hs (index_of g ts)
    → FoundIs g (h ∷ hs) (index_of g (t ∷ ts))
found_step g h hs t ts k (yes e) r = rw (eq-eqb t.table_goal g (k ∙ e), position) (found_at 0 (ap some e))
found_step g h hs t ts k (no o) r = rw (ne_eqb t.table_goal g (λ x. o (sym k ∙ x)), position) (found_next g h hs (index_of g ts) o r)

pub goal_found : {n : ℕ} {gs : List ℕ} {p : M.Forest} {hs : List ℕ} {ts : Tables} → TablesAre n gs p hs ts → (g : ℕ)
    → FoundIs g hs (index_of g ts)
goal_found t_end g = found_none (λ i e. no_such e)
goal_found (t_more {g = h} {hs = hs} {t = t} {ts = ts} x xs) g = found_step g h hs t ts (table_names x) (ℕ_discrete h g) (goal_found xs g)

-- The forest beside the machine's: each table, and a goal without a table, of which the machine holds what a new table holds.

abbrev pub forest_of : Book → (limit mark : ℕ) → Tables → (clock : ℕ) → Forest
forest_of book limit mark ts c = record { book = book; clock_limit = limit; mark = mark; tables = ts; clock = c }

pub record Agree (book : Book) (gs : List ℕ) (ts : Tables) (p : M.Forest) : Type 0 where
  pub tables : TablesAre (length book) gs p gs ts
  pub distinct : (i j g : ℕ) → get_elem? gs i ≡ some g → get_elem? gs j ≡ some g → i ≡ j
  pub within : (i g : ℕ) → get_elem? gs i ≡ some g → g < length book
  pub made : (i g : ℕ) → get_elem? gs i ≡ some g → p.made g ≡ true
  pub unmade : (g : ℕ) → Absent g gs → (p.answered g ≡ false) × (p.first g ≡ true) × (p.queue g ≡ map M.fresh (book_of book g))

-- p' is p but at the goal g
pub record SameBut (g : ℕ) (p p' : M.Forest) : Type 0 where
  pub made : (h : ℕ) → p'.made h ≡ p.made h
  pub answered : (h : ℕ) → (g ≡ h → ⊥) → p'.answered h ≡ p.answered h
  pub first : (h : ℕ) → (g ≡ h → ⊥) → p'.first h ≡ p.first h
  pub queue : (h : ℕ) → (g ≡ h → ⊥) → p'.queue h ≡ p.queue h

table_same : {n : ℕ} {gs : List ℕ} {g h : ℕ} {p p' : M.Forest} → SameBut g p p' → (g ≡ h → ⊥) → (t : Table) → TableAt n gs p h t
    → TableAt n gs p' h t
table_same {h = h} s o t x = rw (s.answered h o, s.first h o, s.queue h o) x

pub agree_set : {book : Book} {gs : List ℕ} {ts : Tables} {p p' : M.Forest} → Agree book gs ts p → (i g : ℕ) → get_elem? gs i ≡ some g
    → (t : Table) → TableAt (length book) gs p' g t → SameBut g p p' → Agree book gs (set ts i t) p'
agree_set {p = p} {p' = p'} a i g e t x s = record {
  tables = tables_set a.tables i g e t x (λ j h o w u y. table_same s (λ k. w (a.distinct i j h (e ∙ ap some k) o)) u y);
  distinct = a.distinct;
  within = a.within;
  made = λ j h o. s.made h ∙ a.made j h o;
  unmade = λ h o. let w : g ≡ h → ⊥ = λ k. o i (e ∙ ap some k) in let r = a.unmade h o in
      (s.answered h w ∙ r.0, s.first h w ∙ r.1, s.queue h w ∙ r.2);
}
