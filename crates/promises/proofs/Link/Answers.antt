-- A strand with no literal left: its table gets its answer, and its caller goes on, or the search is over.
use Prim.Native.Nat.{ℕ, ◌≤◌, ◌<◌}
use native.Mathlib.Omega.{arith}
use borrow.Author.Tests.{lt-leb}
use mathlib.Core.Path.{◌≡◌, refl, ap, ◌∙◌}
use mathlib.Core.Bool.{Bool, true, false, and-false}
use mathlib.Core.Option.{none, some}
use mathlib.Core.List.{List, [], ◌∷◌}
use lib.ListN.{length, get_elem?, set}
use Rattle.definitions.specs.{is_complete}
use Rattle.definitions.specs.Book.{Book}
use Rattle.definitions.specs.Stop.{go, ◌>>=◌}
use Rattle.definitions.specs.Lists.{total}
use Rattle.definitions.specs.Strand.{Strand}
use Rattle.definitions.specs.Tables.{Tables, Forest}
use Rattle.definitions.specs.Stack.{Stack}
use Rattle.definitions.specs.Turn.{pursue_answer, on_no_remaining_subgoals}
use Rattle.laws.proofs.Distinct.{few_distinct}
use Rattle.laws.proofs.Lists.{set_here}
use Rattle.laws.proofs.Options.{no_such}
use Rattle.promises.proofs.Plain.Machine as M
use Rattle.promises.proofs.Plain.Steps.{put_here, put_there}
use Rattle.promises.proofs.Plain.Turns.{root_of}
use Rattle.promises.proofs.Link.View.{strand_of, q_end, table_of, mode_of, table_is, no_active, an_active, entry_of, machine_entry}
use Rattle.promises.proofs.Link.View.{StackIs, s_end, s_more}
use Rattle.promises.proofs.Link.Tables.{forest_of, Agree, agree_set}
use Rattle.promises.proofs.Link.Sums.{held_few}
use Rattle.promises.proofs.Link.Back.{table_here}
use Rattle.promises.proofs.Link.Turn.{state_of, TurnIs, going, answered, lost, Lined}
use Rattle.promises.proofs.Link.Selected.{limits_of}

abbrev with_answer : M.Forest → ℕ → M.Forest
with_answer p g = record {
  made = p.made;
  answered = M.put p.answered g true;
  first = p.first;
  queue = M.put p.queue g [];
  clock = p.clock;
}

answer-agree : {book : Book} {gs : List ℕ} {ts : Tables} {p : M.Forest} → Agree book gs ts p → (i g : ℕ) → get_elem? gs i ≡ some g
    → Agree book gs (set ts i (table_of g true (p.first g) [])) (with_answer p g)
answer-agree {book} {gs} {p = p} a i g e =
    agree_set a i g e (table_of g true (p.first g) [])
    (rw (put_here p.answered g g true refl, put_here p.queue g g [] refl) (table_is [] q_end))
    (record {
      made = λ h. refl;
      answered = λ h o. put_there p.answered g h true o;
      first = λ h o. refl;
      queue = λ h o. put_there p.queue g h [] o;
    })

pursue_is : (book : Book) (limit mark c : ℕ) (ts : Tables) (i g : ℕ) (m : Bool) (ss : List Strand) (a t : ℕ)
    → get_elem? ts i ≡ some (table_of g false m ss) → total (λ t. length t.answers) ts < 256
    → pursue_answer (forest_of book limit mark ts c) i (strand_of a [] none t) ≡ go
    (some 0, forest_of book limit mark (set ts i (table_of g true m [])) c)
pursue_is book limit mark c ts i g m ss a t e few = rw e (rw (lt-leb 256 (total (λ t. length t.answers) ts) few) (rw e))

module _ (book : Book) (limit : ℕ) (few_goals : length book ≤ 64) {gs : List ℕ} {ts : Tables} {p : M.Forest} (agree : Agree book gs ts p)
    (i g c pm nm : ℕ) (at : get_elem? gs i ≡ some g) (m : M.Strand) (a : ℕ) (before : M.Forest) where
  few_answers : total (λ t. length t.answers) ts < 256
  few_answers = let x = held_few agree.tables in let y = few_distinct (length book) gs agree.distinct agree.within in omega arith

  answering-go : {ds : Stack} {es : List M.Entry} → StackIs (length book) gs ds es
      → Lined (limits_of book limit) (machine_entry g c pm nm (some m)) es → p.answered g ≡ false
      → TurnIs book limit gs before (root_of (machine_entry g c pm nm (some m)) es)
      (on_no_remaining_subgoals (state_of book limit ts p.clock (entry_of i c pm nm none ∷ ds)) (strand_of a [] none c))
      (M.answering (limits_of book limit) false p (machine_entry g c pm nm (some m)) es)
  answering-go s_end lined no-g =
      let t = table_here agree i g at in
      let e : get_elem? ts i ≡ some (table_of g false (p.first g) t.waiting) =
      t.is ∙ ap (λ z. some (table_of g z (p.first g) t.waiting)) no-g in
      rw e (rw (and-false (is_complete (mode_of (p.first g))), ◌>>=◌)
      (rw (pursue_is book limit 0 p.clock ts i g (p.first g) t.waiting a c e few_answers)
      (rw (set_here ts i (table_of g false (p.first g) t.waiting) (table_of g true (p.first g) []) e)
      (answered (λ i h o. o) (answer-agree agree i g at) (put_here p.answered g g true refl)))))
  answering-go (s_more i' g' c' pm' nm' e' no_active xs) lined no-g = absurd (no_such lined.2.active)
  answering-go (s_more i' g' c' pm' nm' e' (an_active x) xs) lined no-g =
      let t = table_here agree i g at in
      let e : get_elem? ts i ≡ some (table_of g false (p.first g) t.waiting) =
      t.is ∙ ap (λ z. some (table_of g z (p.first g) t.waiting)) no-g in
      rw e (rw (and-false (is_complete (mode_of (p.first g))), ◌>>=◌)
      (rw (pursue_is book limit 0 p.clock ts i g (p.first g) t.waiting a c e few_answers)
      (going (λ i h o. o) (answer-agree agree i g at) (s_more i' g' c' pm' nm' e' (an_active x) xs))))

  answering-at : (b : Bool) {ds : Stack} {es : List M.Entry} → StackIs (length book) gs ds es
      → Lined (limits_of book limit) (machine_entry g c pm nm (some m)) es → p.answered g ≡ b
      → TurnIs book limit gs before (root_of (machine_entry g c pm nm (some m)) es)
      (on_no_remaining_subgoals (state_of book limit ts p.clock (entry_of i c pm nm none ∷ ds)) (strand_of a [] none c))
      (M.answering (limits_of book limit) b p (machine_entry g c pm nm (some m)) es)
  answering-at true xs lined e = lost tt
  answering-at false xs lined e = answering-go xs lined e

  pub answering-is : {ds : Stack} {es : List M.Entry} → StackIs (length book) gs ds es
      → Lined (limits_of book limit) (machine_entry g c pm nm (some m)) es
      → TurnIs book limit gs before (root_of (machine_entry g c pm nm (some m)) es)
      (on_no_remaining_subgoals (state_of book limit ts p.clock (entry_of i c pm nm none ∷ ds)) (strand_of a [] none c))
      (M.answering (limits_of book limit) (p.answered g) p (machine_entry g c pm nm (some m)) es)
  answering-is xs lined = answering-at (p.answered g) xs lined refl
