-- No strand can be taken: the table is done with, changes its mode, is part of a cycle, or clears its own.
use Prim.Native.Nat.{ℕ, zero, suc, ◌≤◌, min}
use native.Mathlib.Omega.{arith}
use native.Mathlib.Decide.{dec_le, ℕ_discrete}
use borrow.Author.Tests.{le-leb, lt-leb, le-ltb}
use mathlib.Core.Path.{◌≡◌, refl, sym, ap, subst, ◌∙◌}
use mathlib.Core.Bool.{Bool, true, false, false≢true}
use mathlib.Core.Option.{Option, none, some}
use mathlib.Core.List.{List, [], ◌∷◌, append-nil}
use lib.ListN.{length, get_elem?, set}
use Rattle.definitions.specs.{MAX}
use Rattle.definitions.specs.Book.{any, Book, Positive, Negative}
use Rattle.definitions.specs.Strand.{Strand}
use Rattle.definitions.specs.Tables.{Tables, Forest}
use Rattle.definitions.specs.Stack.{Stack}
use Rattle.definitions.specs.Stop.{go, ◌>>=◌}
use Rattle.definitions.specs.Logic.{return_err, QuantumExceeded}
use Rattle.definitions.specs.Turn.{on_no_strands, on_own_cycle, on_part_of_cycle, on_no_strands_left}
use Rattle.definitions.proofs.Lists.{remove_push}
use Rattle.laws.proofs.Lists.{last_one}
use Rattle.laws.proofs.Options.{no_such, same_some}
use Rattle.laws.proofs.Sums.{sum}
use Rattle.promises.proofs.Plain.Model.{pos, neg, Body}
use Rattle.promises.proofs.Plain.Machine as M
use Rattle.promises.proofs.Plain.Steps.{put_here, put_there}
use Rattle.promises.proofs.Link.View.{literals, strand_of, selection, machine_strand, free, bound, QueueIs, q_end, q_more, table_of}
use Rattle.promises.proofs.Link.View.{table_is, no_active, an_active, entry_of, machine_entry, StackIs, s_end, s_more}
use Rattle.promises.proofs.Link.Tables.{Agree, agree_set}
use Rattle.promises.proofs.Link.Back.{table_here, queue_set, enqueued, unwound_is}
use Rattle.promises.proofs.Link.Turn.{state_of, TurnIs, going, gave_up, no_more, lost, Lined, lined_busy}
use Rattle.promises.proofs.Link.Selected.{limits_of, names_tail}
use Rattle.promises.proofs.Link.Clearing.{strands_in, clears}

-- the caller's strand is selected
not_free : {b : Body} {t : ℕ} {s : M.Strand} → ◌≡◌ {A = Option M.Strand} (some (machine_strand b false t)) (some s) → s.chosen ≡ true → ⊥
not_free e o = false≢true (ap (λ (z : M.Strand). z.chosen) (same_some e) ∙ o)

-- a search that gives up, its stack unwound
over : {book : Book} {limit : ℕ} {gs : List ℕ} {before : M.Forest} {r : ℕ} {ts : Tables} {p : M.Forest} → Agree book gs ts p
    → TurnIs book limit gs before r (go (return_err QuantumExceeded (state_of book limit ts p.clock []))) (M.stop M.again p)
over a = gave_up (λ i h o. o) refl a

module _ (book : Book) (limit : ℕ) {gs : List ℕ} {ts : Tables} {p : M.Forest} (agree : Agree book gs ts p) (i g c pm nm : ℕ)
    (at : get_elem? gs i ≡ some g) (before : M.Forest) (r : ℕ) where
  -- the queue is empty
  emptied_is : {ds : Stack} {es : List M.Entry} → StackIs (length book) gs ds es
      → Lined (limits_of book limit) (machine_entry g c pm nm none) es
      → TurnIs book limit gs before r (on_no_strands (state_of book limit ts p.clock (entry_of i c pm nm none ∷ ds)))
      (M.emptied (limits_of book limit) p es)
  emptied_is s_end lined = no_more (λ i h o. o) refl agree
  emptied_is (s_more i' g' c' pm' nm' e' no_active xs) lined = absurd (no_such lined.2.active)
  emptied_is (s_more i' g' c' pm' nm' e' (an_active (free a b t w)) xs) lined = absurd (not_free lined.2.active lined.2.chosen)
  emptied_is (s_more {es = es} i' g' c' pm' nm' e' (an_active (bound a (pos h) b t j w k)) xs) lined =
      let d = unwound_is book limit 0 p.clock xs (lined_busy (limits_of book limit) (machine_entry g' c' pm' nm' _) es lined.3)
      agree in
      rw (last_one (literals b) (Positive h any false)) (rw d.is (gave_up (λ i h o. o) refl d.agree))
  emptied_is (s_more i' g' c' pm' nm' e' (an_active (bound a (neg h) b t j w k)) xs) lined =
      rw (last_one (literals b) (Negative h false)) (rw (remove_push (literals b) (Negative h false))
      (going (λ i h o. o) agree (s_more i' g' c' pm' nm' e' (an_active (free a b t (names_tail w))) xs)))

  -- part of a cycle that ends further down
  part_is : {ds : Stack} {es : List M.Entry} → StackIs (length book) gs ds es
      → Lined (limits_of book limit) (machine_entry g c pm nm none) es
      → TurnIs book limit gs before r (on_part_of_cycle (state_of book limit ts p.clock (entry_of i c pm nm none ∷ ds))
      (entry_of i c pm nm none)) (M.part_of (limits_of book limit) p (machine_entry g c pm nm none) es)
  part_is s_end lined = lost tt
  part_is (s_more i' g' c' pm' nm' e' no_active xs) lined = absurd (no_such lined.2.active)
  part_is (s_more i' g' c' pm' nm' e' (an_active (free a b t w)) xs) lined = absurd (not_free lined.2.active lined.2.chosen)
  part_is (s_more i' g' c' pm' nm' e' (an_active (bound a (pos h) b t j w k)) xs) lined =
      let d = enqueued book limit 0 p.clock agree i' g' e' (strand_of a (pos h ∷ b) (some (selection j b)) t)
      (machine_strand (pos h ∷ b) true t) (bound a (pos h) b t j w k) in
      rw (last_one (literals b) (Positive h any false))
      (rw d.is (going (λ i h o. o) d.agree (s_more i' g' c' (min pm' pm) (min nm' nm) e' no_active xs)))
  part_is (s_more i' g' c' pm' nm' e' (an_active (bound a (neg h) b t j w k)) xs) lined =
      let d = enqueued book limit 0 p.clock agree i' g' e' (strand_of a (neg h ∷ b) (some (selection j b)) t)
      (machine_strand (neg h ∷ b) true t) (bound a (neg h) b t j w k) in
      rw (last_one (literals b) (Negative h false)) (rw d.is
      (going (λ i h o. o) d.agree (s_more i' g' c' (min pm' c') (min nm' (min pm nm)) e' no_active xs)))

  -- a cycle that ends at the table itself
  cleared_is : {ds : Stack} {es : List M.Entry} → StackIs (length book) gs ds es
      → Lined (limits_of book limit) (machine_entry g c pm nm none) es → (a m : Bool) (ss : List Strand)
      → QueueIs (length book) gs ss (p.queue g) → get_elem? ts i ≡ some (table_of g a m ss)
      → (o : Option M.Queues) → M.clear (sum (length book) (λ g. length (p.queue g))) (p.queue g) (M.put p.queue g []) ≡ o
      → nm ≡ MAX
      → TurnIs book limit gs before r (on_own_cycle (state_of book limit ts p.clock (entry_of i c pm nm none ∷ ds))
      (entry_of i c pm nm none) (table_of g a m ss)) (M.cleared (limits_of book limit) o p es)
  cleared_is xs lined a m ss x e none k top = lost tt
  cleared_is {es = es} xs lined a m ss x e (some q') k top =
      let t = table_here agree i g at in
      let emptied = table_of g (p.answered g) (p.first g) [] in
      let ts' = set ts i emptied in
      let d = clears book limit 0 p.clock gs p (suc (strands_in ts')) ss (p.queue g) x ts' (M.put p.queue g [])
      (queue_set agree i g at [] [] q_end) (omega arith) (sum (length book) (λ g. length (p.queue g))) [] q'
      (ap (λ z. M.clear (sum (length book) (λ g. length (p.queue g))) z (M.put p.queue g [])) (append-nil (p.queue g)) ∙ k) in
      let done : Agree book gs d.after (M.with_queue p q') =
      subst (λ z. Agree book gs d.after (M.with_queue p z)) (finished d.fuel d.queues q' d.onward) d.agree in
      let b = unwound_is book limit 0 p.clock xs (lined_busy (limits_of book limit) (machine_entry g c pm nm none) es lined) done in
      rw (le-ltb nm MAX (omega arith), on_own_cycle) (rw t.is (rw d.is (rw b.is (over {ts = b.after} b.agree))))
    where
      finished : (n : ℕ) (q q' : M.Queues) → M.clear n [] q ≡ some q' → q ≡ q'
      finished zero q q' e = same_some e
      finished (suc n) q q' e = same_some e

  own_is : {ds : Stack} {es : List M.Entry} → StackIs (length book) gs ds es
      → Lined (limits_of book limit) (machine_entry g c pm nm none) es → (a m : Bool) (ss : List Strand)
      → QueueIs (length book) gs ss (p.queue g) → get_elem? ts i ≡ some (table_of g a m ss)
      → (d : Dec (nm ≡ MAX))
      → TurnIs book limit gs before r (on_own_cycle (state_of book limit ts p.clock (entry_of i c pm nm none ∷ ds))
      (entry_of i c pm nm none) (table_of g a m ss)) (M.clearing (limits_of book limit) d p (machine_entry g c pm nm none) es)
  own_is xs lined a m ss x e (yes k) = cleared_is xs lined a m ss x e
      (M.clear (sum (length book) (λ g. length (p.queue g))) (p.queue g) (M.put p.queue g [])) refl k
  own_is xs lined a m ss x e (no o) = lost tt

  mode_agree : (ss : List Strand) → QueueIs (length book) gs ss (p.queue g)
      → Agree book gs (set ts i (table_of g (p.answered g) false ss))
      (record { made = p.made; answered = p.answered; first = M.put p.first g false; queue = p.queue; clock = p.clock })
  mode_agree ss x = agree_set agree i g at (table_of g (p.answered g) false ss) (rw (put_here p.first g g false refl) (table_is ss x))
      (record { made = λ h. refl; answered = λ h o. refl; first = λ h o. put_there p.first g h false o; queue = λ h o. refl })

  waiting_is : {ds : Stack} {es : List M.Entry} → StackIs (length book) gs ds es
      → Lined (limits_of book limit) (machine_entry g c pm nm none) es → (m : Bool) (s : Strand) (ss : List Strand)
      → QueueIs (length book) gs (s ∷ ss) (p.queue g)
      → get_elem? ts i ≡ some (table_of g (p.answered g) m (s ∷ ss)) → (d : Dec (c ≤ pm)) (d' : Dec (c ≤ nm))
      → TurnIs book limit gs before r (on_no_strands_left (state_of book limit ts p.clock (entry_of i c pm nm none ∷ ds)))
      (M.waiting (limits_of book limit) m d d' p (machine_entry g c pm nm none) es)
  waiting_is {es = es} xs lined true s ss x e d d' =
      let b = unwound_is book limit 0 p.clock xs (lined_busy (limits_of book limit) (machine_entry g c pm nm none) es lined)
      (mode_agree (s ∷ ss) x) in
      rw e (rw e (gave_up (λ i h o. o) b.is b.agree))
  waiting_is xs lined false s ss x e (yes o) (yes o') =
      rw e (rw (le-leb c pm o, ◌>>=◌) (rw (le-leb c nm o') (own_is xs lined (p.answered g) false (s ∷ ss) x e (ℕ_discrete nm MAX))))
  waiting_is xs lined false s ss x e (yes o) (no n) = rw e (rw (le-leb c pm o, ◌>>=◌) (rw (lt-leb c nm (omega arith)) (part_is xs lined)))
  waiting_is xs lined false s ss x e (no n) d' = rw e (rw (lt-leb c pm (omega arith), ◌>>=◌) (part_is xs lined))

  idle_at : {ds : Stack} {es : List M.Entry} → StackIs (length book) gs ds es
      → Lined (limits_of book limit) (machine_entry g c pm nm none) es → (m : Bool) (ss : List Strand) (q : List M.Strand)
      → QueueIs (length book) gs ss q → p.queue g ≡ q → p.first g ≡ m
      → get_elem? ts i ≡ some (table_of g (p.answered g) m ss)
      → TurnIs book limit gs before r (on_no_strands_left (state_of book limit ts p.clock (entry_of i c pm nm none ∷ ds)))
      (M.idle (limits_of book limit) q p (machine_entry g c pm nm none) es)
  idle_at xs lined m ss q q_end k f e = rw e (emptied_is xs lined)
  idle_at xs lined m ss q (q_more {s = s} {ss = ss'} {m = o} {ms = ms} y ys) k f e =
      rw f (waiting_is xs lined m s ss' (subst (QueueIs (length book) gs (s ∷ ss')) (sym k) (q_more y ys)) e (dec_le c pm) (dec_le c nm))

  pub idle_is : {ds : Stack} {es : List M.Entry} → StackIs (length book) gs ds es
      → Lined (limits_of book limit) (machine_entry g c pm nm none) es
      → TurnIs book limit gs before r (on_no_strands_left (state_of book limit ts p.clock (entry_of i c pm nm none ∷ ds)))
      (M.idle (limits_of book limit) (p.queue g) p (machine_entry g c pm nm none) es)
  idle_is xs lined = let t = table_here agree i g at in idle_at xs lined (p.first g) t.waiting (p.queue g) t.queue refl refl t.is
