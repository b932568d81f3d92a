-- Putting strands back: a strand joins its table's queue, the callers' strands go back when a search ends, and `Drop`.
use Prim.Native.Nat.{ℕ}
use mathlib.Core.Path.{◌≡◌, refl, sym, subst}
use mathlib.Core.Option.{some}
use mathlib.Core.List.{List, [], ◌∷◌, ◌++◌}
use lib.ListN.{length, get_elem?, set}
use Rattle.definitions.specs.Book.{Book}
use Rattle.definitions.specs.Stop.{Stops, go}
use Rattle.definitions.specs.Strand.{Strand}
use Rattle.definitions.specs.Table.{Table, enqueue_strand}
use Rattle.definitions.specs.Tables.{Tables, Forest, change_table}
use Rattle.definitions.specs.Stack.{StackEntry, Stack}
use Rattle.definitions.specs.Logic.{unwind_callers, drop_state}
use Rattle.laws.proofs.Options.{no_such}
use Rattle.promises.proofs.Plain.Machine as M
use Rattle.promises.proofs.Plain.Steps.{put_here, put_there}
use Rattle.promises.proofs.Link.View.{StrandIs, QueueIs, q_end, q_more, table_of, TableIs, table_is, TableAt, no_active, an_active}
use Rattle.promises.proofs.Link.View.{StackIs, s_end, s_more}
use Rattle.promises.proofs.Link.Tables.{queue_append, table_found, forest_of, Agree, SameBut, agree_set}

-- the table at a place, as it stands beside the machine's
pub record TableHere (book : Book) (gs : List ℕ) (ts : Tables) (p : M.Forest) (i g : ℕ) : Type 0 where
  pub waiting : List Strand
  pub queue : QueueIs (length book) gs waiting (p.queue g)
  pub is : get_elem? ts i ≡ some (table_of g (p.answered g) (p.first g) waiting)

pub table_here : {book : Book} {gs : List ℕ} {ts : Tables} {p : M.Forest} → Agree book gs ts p → (i g : ℕ) → get_elem? gs i ≡ some g
    → TableHere book gs ts p i g
table_here {book} {gs} {ts} {p} a i g e = let r = table_found a.tables i g e in go r.0 r.1 r.2
  where
    go : (t : Table) → get_elem? ts i ≡ some t → TableAt (length book) gs p g t → TableHere book gs ts p i g
    go t k (table_is ss x) = record { waiting = ss; queue = x; is = k }

-- a queue is changed
pub same_queue : (p : M.Forest) (g : ℕ) (q : List M.Strand) → SameBut g p (M.with_queue p (M.put p.queue g q))
same_queue p g q = record { made = λ h. refl; answered = λ h o. refl; first = λ h o. refl; queue = λ h o. put_there p.queue g h q o }

pub queue_set : {book : Book} {gs : List ℕ} {ts : Tables} {p : M.Forest} → Agree book gs ts p → (i g : ℕ) → get_elem? gs i ≡ some g
    → (ss : List Strand) (q : List M.Strand) → QueueIs (length book) gs ss q
    → Agree book gs (set ts i (table_of g (p.answered g) (p.first g) ss)) (M.with_queue p (M.put p.queue g q))
queue_set {book} {gs} {p = p} a i g e ss q x =
    agree_set a i g e (table_of g (p.answered g) (p.first g) ss)
    (subst (λ z. TableIs (length book) gs g (p.answered g) (p.first g) z (table_of g (p.answered g) (p.first g) ss))
    (sym (put_here p.queue g g q refl)) (table_is ss x)) (same_queue p g q)

-- what a change of the forest gives
pub record Became (book : Book) (limit mark c : ℕ) (gs : List ℕ) (result : Stops Forest) (p : M.Forest) : Type 0 where
  pub after : Tables
  pub is : result ≡ go (forest_of book limit mark after c)
  pub agree : Agree book gs after p

module _ (book : Book) (limit mark c : ℕ) {gs : List ℕ} where
  pub enqueued : {ts : Tables} {p : M.Forest} → Agree book gs ts p → (i g : ℕ) → get_elem? gs i ≡ some g → (s : Strand) (m : M.Strand)
      → StrandIs (length book) gs s m
      → Became book limit mark c gs (change_table (forest_of book limit mark ts c) i (enqueue_strand s))
      (M.with_queue p (M.append p.queue g m))
  enqueued {ts} {p} a i g e s m x =
      let t = table_here a i g e in
      record {
        after = set ts i (table_of g (p.answered g) (p.first g) (t.waiting ++ (s ∷ [])));
        is = rw t.is;
        agree = queue_set a i g e (t.waiting ++ (s ∷ [])) (p.queue g ++ (m ∷ [])) (queue_append t.queue (q_more x q_end));
      }

-- every entry has an active strand
abbrev pub Busy : List M.Entry → Type 0
Busy [] = Unit {0}
Busy (e ∷ es) = ((s : M.Strand) × (e.active ≡ some s)) × Busy es

module _ (book : Book) (limit mark c : ℕ) {gs : List ℕ} where
  pub unwound_is : {ds : Stack} {es : List M.Entry} → StackIs (length book) gs ds es → Busy es → {ts : Tables} {p : M.Forest}
      → Agree book gs ts p
      → Became book limit mark c gs (unwind_callers (forest_of book limit mark ts c) ds) (M.with_queue p (M.all_back p.queue es))
  unwound_is s_end w {ts} a = record { after = ts; is = refl; agree = a }
  unwound_is (s_more i g k m r e no_active xs) w a = absurd (no_such w.0.1)
  unwound_is (s_more i g k m r e (an_active {s = s} {m = o} x) xs) w a =
      let b = enqueued book limit mark c a i g e s o x in
      let d = unwound_is xs w.1 b.agree in
      record { after = d.after; is = rw b.is d.is; agree = d.agree }

  pub dropped_is : {d : StackEntry} {ds : Stack} {e : M.Entry} {es : List M.Entry} → StackIs (length book) gs (d ∷ ds) (e ∷ es) → Busy es
      → {ts : Tables} {p : M.Forest} → Agree book gs ts p
      → Became book limit mark c gs (drop_state (record { forest = forest_of book limit mark ts c; stack = d ∷ ds }))
      (M.with_queue p (M.all_back p.queue (e ∷ es)))
  dropped_is (s_more i g k m r e no_active xs) w a = unwound_is xs w a
  dropped_is (s_more i g k m r e (an_active {s = s} {m = o} x) xs) w a =
      let b = enqueued book limit mark c a i g e s o x in
      let d = unwound_is xs w b.agree in
      record { after = d.after; is = rw b.is d.is; agree = d.agree }
