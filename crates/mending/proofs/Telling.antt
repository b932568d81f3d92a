-- What the proofs of `lines` cite: the lines put down one after the other are those of the clauses that go. Assumes nothing.
use Prim.Native.Nat.{ℕ, suc, ◌+◌, ◌-◌, ◌<◌, ◌≤◌}
use Rattle.std.specs.declared.option.Option as found
use native.Mathlib.Omega.{arith}
use mathlib.Core.Path.{◌≡◌, sym, ap, ap₂, ◌∙◌}
use mathlib.Core.Option.{Option}
use mathlib.Core.List.{List, ◌++◌}
use lib.ListN.{get_or}
use Rattle.laws.specs.Spans.{span}
use Rattle.laws.proofs.Spans.{span_left, span_done}
use Rattle.definitions.specs.Book as said
use Rattle.papers.specs.Mend.{reason_line, clause_lines, goal_lines}
use Rattle.book.specs.declared.Book.{Book}
use Rattle.book.specs.Access.{entry}
use Rattle.book.specs.View.{goal_viewed, view, Formed}
use Rattle.book.proofs.Looks.{entry_in}
use Rattle.book.proofs.Held.{goal_within}
use Rattle.pen.specs.Pen.{Pen, put_all}
use Rattle.pen.proofs.Putting.{put_left, put_ended}
use Rattle.mending.specs.declared.reasons.Reason.{Reason}
use Rattle.mending.specs.Reasons.{reason_at, Reasoned}

-- The lines of a goal's clauses.

module _ (reasons : List (found.Option Reason)) (g first n : ℕ) where
  -- what is left to say at clause k of n
  abbrev pub clauses_left : ℕ → List ℕ
  clauses_left k = clause_lines g k (span (reason_at reasons) (first + k) (n - k))

  pub clauses_step : (k : ℕ) (p q start : Pen) → k < n → put_all (clauses_left k) p ≡ put_all (clauses_left 0) start
      → q ≡ put_all (reason_line g k (reason_at reasons (first + k))) p → put_all (clauses_left (k + 1)) q ≡ put_all (clauses_left 0) start
  clauses_step k p q start h i f =
      let next : first + (k + 1) ≡ first + k + 1 = omega arith in
      let one : k + 1 ≡ suc k = omega arith in
      let rest = clause_lines g (suc k) (span (reason_at reasons) (first + k + 1) (n - (k + 1))) in
      ap₂ (λ (a m : ℕ). put_all (clause_lines g a (span (reason_at reasons) m (n - (k + 1)))) q) one next
      ∙ put_left (reason_line g k (reason_at reasons (first + k))) rest p q f
      ∙ ap (λ (rs : List (Option ℕ)). put_all (clause_lines g k rs) p) (sym (span_left (reason_at reasons) (first + k) n k h)) ∙ i

  pub clauses_said : (k : ℕ) (p q : Pen) → n ≤ k → put_all (clauses_left k) q ≡ put_all (clauses_left 0) p
      → q ≡ put_all (clause_lines g 0 (span (reason_at reasons) first n)) p
  clauses_said k p q h i =
      let start : first + 0 ≡ first = omega arith in
      let whole : n - 0 ≡ n = omega arith in
      put_ended (clauses_left k) (clauses_left 0) p q (ap (clause_lines g k) (span_done (reason_at reasons) (first + k) n k h)) i
      ∙ ap₂ (λ (m t : ℕ). put_all (clause_lines g 0 (span (reason_at reasons) m t)) p) start whole

-- The lines of a book.

module _ (b : Book) where
  -- what is left to say at goal g
  abbrev pub goals_left : ℕ → List ℕ
  goals_left g = goal_lines b.goals g (span (goal_viewed b) g (b.goals - g))

  module _ (formed : Formed b) (g first count : ℕ) (h : g < b.goals) (hf : first ≡ entry 64 b.goal_first g)
      (hc : count ≡ entry 64 b.goal_len g) where
    pub first_there : first ≡ get_or b.goal_first g 0
    first_there = hf ∙ entry_in 64 b.goal_first g (omega (arith, formed.few_goals))

    pub count_there : count ≡ get_or b.goal_len g 0
    count_there = hc ∙ entry_in 64 b.goal_len g (omega (arith, formed.few_goals))

    pub goal_few : first + count ≤ 256
    goal_few =
        let x = goal_within b b.goals g formed.tiles h in
        omega (arith, x, first_there, count_there, formed.few_clauses)

    pub goals_step : (reasons : List (found.Option Reason)) (p q start : Pen) → Reasoned b reasons
        → put_all (goals_left g) p ≡ put_all (goals_left 0) start
        → q ≡ put_all (clause_lines g 0 (span (reason_at reasons) first count)) p
        → put_all (goals_left (g + 1)) q ≡ put_all (goals_left 0) start
    goals_step reasons p q start reasoned i e =
        let one : g + 1 ≡ suc g = omega arith in
        let rest = span (goal_viewed b) (g + 1) (b.goals - (g + 1)) in
        let mine = ap₂ (λ (m n : ℕ). span (reason_at reasons) m n) first_there count_there ∙ sym (reasoned.own g h) in
        ap (λ (m : ℕ). put_all (goal_lines b.goals m rest) q) one
        ∙ put_left (clause_lines g 0 (span (reason_at reasons) first count)) (goal_lines b.goals (suc g) rest) p q e
        ∙ ap (λ (rs : List (Option ℕ)). put_all (clause_lines g 0 rs ++ goal_lines b.goals (suc g) rest) p) mine
        ∙ ap (λ (gs : List said.Goal). put_all (goal_lines b.goals g gs) p) (sym (span_left (goal_viewed b) g b.goals g h)) ∙ i

  pub goals_said : (g : ℕ) (p q : Pen) → b.goals ≤ g → put_all (goals_left g) q ≡ put_all (goals_left 0) p
      → q ≡ put_all (goal_lines b.goals 0 (view b)) p
  goals_said g p q h i =
      let whole : b.goals - 0 ≡ b.goals = omega arith in
      put_ended (goals_left g) (goals_left 0) p q
      (ap (goal_lines b.goals g) (span_done (goal_viewed b) g b.goals g h)) i
      ∙ ap (λ (n : ℕ). put_all (goal_lines b.goals 0 (span (goal_viewed b) 0 n)) p) whole
