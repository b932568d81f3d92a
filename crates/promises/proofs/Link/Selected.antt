-- A selected literal: its table has its answer, stands on the stack already, or is pushed. The definitions do what the machine does.
use Prim.Native.Nat.{ℕ, zero, suc, ◌≤◌, ◌<◌, min}
use native.Mathlib.Omega.{arith}
use native.Mathlib.Decide.{dec_lt}
use borrow.Author.Tests.{le-leb, lt-leb}
use mathlib.Core.Path.{◌≡◌, refl, ap, ◌∙◌}
use mathlib.Core.Bool.{Bool, true, false, and-false}
use mathlib.Core.Option.{Option, none, some}
use mathlib.Core.List.{List, [], ◌∷◌}
use lib.ListN.{length, get_elem?, take}
use Rattle.definitions.specs.{MAX, Answer, is_complete}
use Rattle.definitions.specs.Book.{any, Book, Positive, Negative}
use Rattle.definitions.specs.Stop.{go, ◌>>=◌}
use Rattle.definitions.specs.Strand.{Strand}
use Rattle.definitions.specs.Table.{Table}
use Rattle.definitions.specs.Tables.{Tables, Forest}
use Rattle.definitions.specs.Stack.{StackEntry, Stack, is_active}
use Rattle.definitions.specs.Logic.{merge_answer_into_strand, merged, failed, unwind_stack}
use Rattle.definitions.specs.Turn.{on_subgoal_selected, coinductive_entries, on_cycle}
use Rattle.definitions.proofs.Lists.{remove_push}
use Rattle.laws.proofs.Lists.{last_one}
use Rattle.promises.proofs.Plain.Model.{Lit, pos, neg, Body, literal_goal}
use Rattle.promises.proofs.Plain.Machine as M
use Rattle.promises.proofs.Link.View.{literals, Names, names, strand_of, selection, machine_strand, free, bound, table_of, no_active}
use Rattle.promises.proofs.Link.View.{an_active, entry_of, machine_entry, StackIs, s_end, s_more}
use Rattle.promises.proofs.Link.Tables.{tables_map, forest_of, Agree}
use Rattle.promises.proofs.Link.Back.{table_here, enqueued, unwound_is}
use Rattle.promises.proofs.Link.Turn.{state_of, TurnIs, going, gave_up, clock_out, Lined, lined_top, lined_busy, lined_apart}
use Rattle.promises.proofs.Link.Turn.{CycleIs, no_cycle, a_cycle, cycle_is}

abbrev pub limits_of : Book → (limit : ℕ) → M.Limits
limits_of book limit = record { goals = length book; limit = limit; max = MAX }

abbrev the_answer : Answer
the_answer = record { variant = 0; delayed_subgoals = []; ambiguous = false }

module _ (book : Book) (limit : ℕ) (ts : Tables) (k i c pm nm : ℕ) (ds : Stack) (tb : Table) (here : get_elem? ts i ≡ some tb) (h : ℕ)
    (b : Body) (t a j : ℕ) where
  merge_positive : merge_answer_into_strand (state_of book limit ts k (entry_of i c pm nm none ∷ ds))
      (strand_of a (pos h ∷ b) (some (selection j b)) t) (selection j b) the_answer
      ≡ go (merged (strand_of (suc a) b none t) (state_of book limit ts k (entry_of i c pm nm none ∷ ds)))
  merge_positive = rw here (rw (and-false (is_complete tb.answer_mode), ◌>>=◌)
      (rw (last_one (literals b) (Positive h any false)) (rw (remove_push (literals b) (Positive h any false)))))

  merge_negative : merge_answer_into_strand (state_of book limit ts k (entry_of i c pm nm none ∷ ds))
      (strand_of a (neg h ∷ b) (some (selection j b)) t) (selection j b) the_answer
      ≡ (unwind_stack (state_of book limit ts k (entry_of i c pm nm none ∷ ds)) >>= λ u. go (failed u))
  merge_negative = rw here (rw (and-false (is_complete tb.answer_mode), ◌>>=◌) (rw (last_one (literals b) (Negative h false))))

-- no stretch of the stack is coinductive
stretch : (book : Book) (limit mark c : ℕ) {gs : List ℕ} {ts : Tables} {p : M.Forest} → Agree book gs ts p
    → {ds : Stack} {es : List M.Entry} → StackIs (length book) gs ds es → (k : ℕ)
    → (b : Bool) × (coinductive_entries (forest_of book limit mark ts c) (take k ds) ≡ go b)
stretch book limit mark c a x zero = (true, refl)
stretch book limit mark c a s_end (suc k) = (true, refl)
stretch book limit mark c a (s_more i g d q r e act xs) (suc k) =
    let t = table_here a i g e in
    let s = stretch book limit mark c a xs k in
    (false, rw t.is (rw s.1))

-- the clock does not matter to the tables
pub ticked : {book : Book} {gs : List ℕ} {ts : Tables} {p : M.Forest} → Agree book gs ts p → {c : ℕ} → Agree book gs ts (record {
  made = p.made;
  answered = p.answered;
  first = p.first;
  queue = p.queue;
  clock = c;
})
ticked a = record {
  tables = tables_map a.tables (λ i g e t x. x);
  distinct = a.distinct;
  within = a.within;
  made = a.made;
  unmade = a.unmade;
}

pub names_tail : {n : ℕ} {l : Lit} {b : Body} → Names n (l ∷ b) → Names n b
names_tail (names x y) = y

module _ (book : Book) (limit : ℕ) {gs : List ℕ} {ts : Tables} {p : M.Forest} (agree : Agree book gs ts p) (i g c pm nm : ℕ)
    (at : get_elem? gs i ≡ some g) {ds : Stack} {es : List M.Entry} (xs : StackIs (length book) gs ds es)
    (m : M.Strand) (lined : Lined (limits_of book limit) (machine_entry g c pm nm (some m)) es) (a j : ℕ) (before : M.Forest)
    (now : before.clock ≡ p.clock) (r : ℕ) where
  answered_positive : (h : ℕ) (b : Body) → Names (length book) (pos h ∷ b) → get_elem? gs j ≡ some h → p.answered h ≡ true
      → TurnIs book limit gs before r (on_subgoal_selected (state_of book limit ts p.clock (entry_of i c pm nm none ∷ ds))
      (strand_of a (pos h ∷ b) (some (selection j b)) c)) (M.turn_goes_on p (machine_entry g c pm nm (some (M.popped c b))) es)
  answered_positive h b w at_j yes-h =
      let t = table_here agree i g at in
      let u = table_here agree j h at_j in
      let e : get_elem? ts j ≡ some (table_of h true (p.first h) u.waiting) =
      u.is ∙ ap (λ z. some (table_of h z (p.first h) u.waiting)) yes-h in
      rw e (rw (merge_positive book limit ts p.clock i c pm nm ds _ t.is h b c a j)
      (going (λ i h o. o) agree (s_more i g c pm nm at (an_active (free (suc a) b c (names_tail w))) xs)))

  answered_negative : (h : ℕ) (b : Body) → get_elem? gs j ≡ some h → p.answered h ≡ true
      → TurnIs book limit gs before r (on_subgoal_selected (state_of book limit ts p.clock (entry_of i c pm nm none ∷ ds))
      (strand_of a (neg h ∷ b) (some (selection j b)) c)) (M.ended (limits_of book limit) M.again p es)
  answered_negative h b at_j yes-h =
      let t = table_here agree i g at in
      let u = table_here agree j h at_j in
      let e : get_elem? ts j ≡ some (table_of h true (p.first h) u.waiting) =
      u.is ∙ ap (λ z. some (table_of h z (p.first h) u.waiting)) yes-h in
      let d = unwound_is book limit 0 p.clock xs (lined_busy (limits_of book limit) (machine_entry g c pm nm (some m)) es lined) agree in
      rw e (rw (merge_negative book limit ts p.clock i c pm nm ds _ t.is h b c a j)
      (rw d.is (gave_up (λ i h o. o) refl d.agree)))

  -- on the stack already
  parked : (l : Lit) (b : Body) → Names (length book) (l ∷ b) → get_elem? gs j ≡ some (literal_goal l) → (depth clock : ℕ) (x : StackEntry)
      → get_elem? (entry_of i c pm nm none ∷ ds) depth ≡ some x → x.clock ≡ clock
      → TurnIs book limit gs before r (on_cycle (state_of book limit ts p.clock (entry_of i c pm nm none ∷ ds))
      (strand_of a (l ∷ b) (some (selection j b)) c) (selection j b) depth)
      (M.parking (limits_of book limit) l clock p (machine_entry g c pm nm (some m)) es (M.pursued c (l ∷ b)))
  parked (pos h) b w at_j depth clock x e k =
      let t = table_here agree i g at in
      let s = stretch book limit 0 p.clock agree xs depth in
      let d = enqueued book limit 0 p.clock agree i g at (strand_of a (pos h ∷ b) (some (selection j b)) c)
      (machine_strand (pos h ∷ b) true c) (bound a (pos h) b c j w at_j) in
      let o = lined_top (limits_of book limit) (machine_entry g c pm nm (some m)) es lined in
      let q : min nm MAX ≡ nm = omega arith in
      rw e (rw t.is (rw s.1 (rw (last_one (literals b) (Positive h any false))
      (rw d.is (rw (k, q) (going (λ i h o. o) d.agree (s_more i g c (min pm clock) nm at no_active xs)))))))
  parked (neg h) b w at_j depth clock x e k =
      let t = table_here agree i g at in
      let s = stretch book limit 0 p.clock agree xs depth in
      let d = enqueued book limit 0 p.clock agree i g at (strand_of a (neg h ∷ b) (some (selection j b)) c)
      (machine_strand (neg h ∷ b) true c) (bound a (neg h) b c j w at_j) in
      let o = lined_top (limits_of book limit) (machine_entry g c pm nm (some m)) es lined in
      let q : min nm (min clock MAX) ≡ min nm clock = omega arith in
      rw e (rw t.is (rw s.1 (rw (last_one (literals b) (Negative h false))
      (rw d.is (rw (k, q) (going (λ i h o. o) d.agree (s_more i g c (min pm c) (min nm clock) at no_active xs)))))))

  -- pushed, or the clock is at its limit
  pushed : (l : Lit) (b : Body) → Names (length book) (l ∷ b) → get_elem? gs j ≡ some (literal_goal l) → p.answered (literal_goal l) ≡ false
      → is_active j (entry_of i c pm nm none ∷ ds) ≡ none → (d : Dec (p.clock < limit))
      → TurnIs book limit gs before r (on_subgoal_selected (state_of book limit ts p.clock (entry_of i c pm nm none ∷ ds))
      (strand_of a (l ∷ b) (some (selection j b)) c))
      (M.pushing (limits_of book limit) d before p (literal_goal l) (machine_entry g c pm nm (some m)) es (M.pursued c (l ∷ b)))
  pushed l b w at_j no-h off (yes lt) =
      let u = table_here agree j (literal_goal l) at_j in
      let e : get_elem? ts j ≡ some (table_of (literal_goal l) false (p.first (literal_goal l)) u.waiting) =
      u.is ∙ ap (λ z. some (table_of (literal_goal l) z (p.first (literal_goal l)) u.waiting)) no-h in
      rw e (rw off (rw (lt-leb limit p.clock lt) (going (λ i h o. o) (ticked agree)
      (s_more j (literal_goal l) (suc p.clock) MAX MAX at_j no_active
      (s_more i g c pm nm at (an_active (bound a l b c j w at_j)) xs)))))
  pushed l b w at_j no-h off (no o) =
      let u = table_here agree j (literal_goal l) at_j in
      let e : get_elem? ts j ≡ some (table_of (literal_goal l) false (p.first (literal_goal l)) u.waiting) =
      u.is ∙ ap (λ z. some (table_of (literal_goal l) z (p.first (literal_goal l)) u.waiting)) no-h in
      let full : limit ≤ p.clock = omega arith in
      rw e (rw off (rw (le-leb limit p.clock full) (clock_out (rw now full))))

  unanswered_is : (l : Lit) (b : Body) → Names (length book) (l ∷ b) → get_elem? gs j ≡ some (literal_goal l)
      → p.answered (literal_goal l) ≡ false → (o : Option ℕ) (k : Option ℕ) → is_active j (entry_of i c pm nm none ∷ ds) ≡ o
      → CycleIs (entry_of i c pm nm none ∷ ds) o k
      → TurnIs book limit gs before r (on_subgoal_selected (state_of book limit ts p.clock (entry_of i c pm nm none ∷ ds))
      (strand_of a (l ∷ b) (some (selection j b)) c))
      (M.unanswered (limits_of book limit) k before p (machine_entry g c pm nm (some m)) es l b)
  unanswered_is l b w at_j no-h none none off no_cycle = pushed l b w at_j no-h off (dec_lt p.clock limit)
  unanswered_is l b w at_j no-h none (some clock) off x = elim x [ ]
  unanswered_is l b w at_j no-h (some depth) none on x = elim x [ ]
  unanswered_is l b w at_j no-h (some depth) (some clock) on (a_cycle {x = x} e k) =
      let u = table_here agree j (literal_goal l) at_j in
      let q : get_elem? ts j ≡ some (table_of (literal_goal l) false (p.first (literal_goal l)) u.waiting) =
      u.is ∙ ap (λ z. some (table_of (literal_goal l) z (p.first (literal_goal l)) u.waiting)) no-h in
      rw q (rw on (parked l b w at_j depth clock x e k))

  selected_at : (t : Bool) (l : Lit) (b : Body) → Names (length book) (l ∷ b) → get_elem? gs j ≡ some (literal_goal l)
      → p.answered (literal_goal l) ≡ t
      → TurnIs book limit gs before r (on_subgoal_selected (state_of book limit ts p.clock (entry_of i c pm nm none ∷ ds))
      (strand_of a (l ∷ b) (some (selection j b)) c))
      (M.selected (limits_of book limit) t before p (machine_entry g c pm nm (some m)) es l b)
  selected_at true (pos h) b w at_j e = answered_positive h b w at_j e
  selected_at true (neg h) b w at_j e = answered_negative h b at_j e
  selected_at false l b w at_j e =
      unanswered_is l b w at_j e (is_active j (entry_of i c pm nm none ∷ ds))
      (M.find_clock (literal_goal l) (machine_entry g c pm nm (some m) ∷ es)) refl
      (cycle_is (length book) gs agree.distinct j (literal_goal l) at_j (s_more i g c pm nm at no_active xs)
      (lined_apart (limits_of book limit) (machine_entry g c pm nm (some m)) es lined))

  pub selected_is : (l : Lit) (b : Body) → Names (length book) (l ∷ b) → get_elem? gs j ≡ some (literal_goal l)
      → TurnIs book limit gs before r (on_subgoal_selected (state_of book limit ts p.clock (entry_of i c pm nm none ∷ ds))
      (strand_of a (l ∷ b) (some (selection j b)) c))
      (M.selected (limits_of book limit) (p.answered (literal_goal l)) before p (machine_entry g c pm nm (some m)) es l b)
  selected_is l b w at_j = selected_at (p.answered (literal_goal l)) l b w at_j refl
