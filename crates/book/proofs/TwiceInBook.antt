-- The search for a clause that stands twice, through the arrays of a sound book, is the definitions', through the book that they show.
use Prim.Native.Nat.{ℕ, ◌+◌, ◌-◌, ◌≤◌, ◌<◌}
use native.Mathlib.Omega.{arith}
use mathlib.Core.Path.{◌≡◌, sym, ap, ap₂, ◌∙◌}
use Rattle.std.specs.declared.option.Option as found
use Rattle.std.proofs.Common.{Some, None}
use mathlib.Core.List.{List, []}
use lib.ListN.{get_or}
use Rattle.laws.specs.Spans.{span}
use Rattle.laws.proofs.Spans.{span_ext}
use Rattle.definitions.specs.Desk.{repeat_behind, repeat_from, first_repeat}
use Rattle.book.specs.declared.Book.{Book}
use Rattle.book.specs.declared.Repeat.{Repeat}
use Rattle.book.specs.Access.{entry}
use Rattle.book.specs.View.{clause_viewed, goal_viewed, view, Sound}
use Rattle.book.specs.Repeats.{Keys, lent_by, clause_read, repeat_seen}
use Rattle.book.proofs.Looks.{entry_in, clauses_within}
use Rattle.book.proofs.Shown.{clause_shown}
use Rattle.book.proofs.Twice.{from_again, from_found}

-- the goals behind goal g decide, as long as none before it has a clause twice
abbrev pub FromGoal : Book → (g : ℕ) → Type 0
FromGoal b g = repeat_from g (span (goal_viewed b) g (b.goals - g)) ≡ first_repeat (view b)

module _ (b : Book) (s : Sound b) where
  -- a goal by its first place and the number of its clauses
  module _ (g first count : ℕ) (h : g < b.goals) (hf : first ≡ entry 64 b.goal_first g)
      (hc : count ≡ entry 64 b.goal_len g) where
    first_there : first ≡ get_or b.goal_first g 0
    first_there = hf ∙ entry_in 64 b.goal_first g (omega (arith, s.few_goals))

    count_there : count ≡ get_or b.goal_len g 0
    count_there = hc ∙ entry_in 64 b.goal_len g (omega (arith, s.few_goals))

    pub goal_inside : first + count ≤ b.clauses
    goal_inside =
        let x = clauses_within b s g (goal_viewed b 0) h in
        let y = first_there in
        let z = count_there in
        omega arith

    pub goal_few : first + count ≤ 256
    goal_few = omega (arith, goal_inside, s.few_clauses)

    pub goal_keys : (keys : List ℕ) → Keys (lent_by b) keys b.clauses → Keys (lent_by b) keys (first + count)
    goal_keys keys known c l = known c (omega (arith, goal_inside))

    pub goal_shown : span (clause_read (lent_by b)) first count ≡ (goal_viewed b g).clauses
    goal_shown =
        span_ext (clause_read (lent_by b)) (clause_viewed b) first count (λ i x y. clause_shown b s i (omega (arith, goal_inside)))
        ∙ ap₂ (λ (m n : ℕ). span (clause_viewed b) m n) first_there count_there

    module _ (left : FromGoal b g) where
      told : (r : found.Option Repeat) → repeat_seen r ≡ repeat_behind g [] (span (clause_read (lent_by b)) first count)
          → repeat_behind g [] (goal_viewed b g).clauses ≡ repeat_seen r
      told r e = sym (e ∙ ap (repeat_behind g []) goal_shown)

      pub goal_has : (r : Repeat) → repeat_seen (Some r) ≡ repeat_behind g [] (span (clause_read (lent_by b)) first count)
          → repeat_seen (Some r) ≡ first_repeat (view b)
      goal_has r e = from_found (goal_viewed b) g b.goals (first_repeat (view b)) left _ h (told (Some r) e)

      pub goal_has_none : repeat_seen None ≡ repeat_behind g [] (span (clause_read (lent_by b)) first count) → FromGoal b (g + 1)
      goal_has_none e = from_again (goal_viewed b) g b.goals (first_repeat (view b)) left h (told None e)
