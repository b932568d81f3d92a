-- What is in order while a book is read, and the laws of its arrays that reading rests on.
use Prim.Native.Nat.{ℕ, zero, suc, ◌+◌, ◌≤◌, ◌<◌}
use native.Mathlib.Omega.{arith}
use mathlib.Core.Path.{◌≡◌, sym, subst, ◌∙◌}
use mathlib.Core.List.{List}
use lib.ListN.{length, get_or}
use lib.Dec.{leb}
use Rattle.definitions.specs.Book.{goals_name, clause_count}
use Rattle.laws.proofs.Spans.{length_span}
use Rattle.book.specs.declared.Book.{Book}
use Rattle.book.specs.View.{clause_viewed, goal_viewed, view, Tiles, Full, Ranged}
use Rattle.book.proofs.Tilings.{tiles_count, tiles_within}

-- Goals side by side.

module _ (first len first' len' : List ℕ) where
  pub tiles_goal : (n g at end : ℕ) → Tiles first len g n at end
      → ((i : ℕ) → i < g + n → get_or first' i 0 ≡ get_or first i 0) → ((i : ℕ) → i < g + n → get_or len' i 0 ≡ get_or len i 0)
      → get_or first' (g + n) 0 ≡ end → get_or len' (g + n) 0 ≡ 0 → Tiles first' len' g (suc n) at end
  tiles_goal zero g at end t sf sl ef el =
      let e : g + 0 ≡ g = omega arith in
      let p : get_or first' g 0 ≡ end = subst (λ (i : ℕ). get_or first' i 0 ≡ end) e ef in
      let q : get_or len' g 0 ≡ 0 = subst (λ (i : ℕ). get_or len' i 0 ≡ 0) e el in
      (omega arith, omega arith)
  tiles_goal (suc n) g at end t sf sl ef el =
      let e : g + suc n ≡ suc g + n = omega arith in
      let u : Tiles first len (suc g) n (at + get_or len' g 0) end =
      subst (λ (k : ℕ). Tiles first len (suc g) n (at + k) end) (sym (sl g (omega arith))) t.1 in (
        sf g (omega arith) ∙ t.0,
        tiles_goal n (suc g) (at + get_or len' g 0) end u (λ i h. sf i (omega arith)) (λ i h. sl i (omega arith))
            (subst (λ (i : ℕ). get_or first' i 0 ≡ end) e ef) (subst (λ (i : ℕ). get_or len' i 0 ≡ 0) e el),
      )

  pub tiles_clause : (n g at end : ℕ) → Tiles first len g (suc n) at end
      → ((i : ℕ) → i < g + n → get_or len' i 0 ≡ get_or len i 0) → get_or len' (g + n) 0 ≡ get_or len (g + n) 0 + 1
      → Tiles first len' g (suc n) at (end + 1)
  tiles_clause zero g at end t sl el =
      let e : g + 0 ≡ g = omega arith in
      let q : get_or len' g 0 ≡ get_or len g 0 + 1 = subst (λ (i : ℕ). get_or len' i 0 ≡ get_or len i 0 + 1) e el in
      let u : at + get_or len g 0 ≡ end = t.1 in
      (t.0, omega arith)
  tiles_clause (suc n) g at end t sl el =
      let e : g + suc n ≡ suc g + n = omega arith in
      let u : Tiles first len (suc g) (suc n) (at + get_or len' g 0) end =
      subst (λ (k : ℕ). Tiles first len (suc g) (suc n) (at + k) end) (sym (sl g (omega arith))) t.1 in (
        t.0,
        tiles_clause n (suc g) (at + get_or len' g 0) end u (λ i h. sl i (omega arith))
            (subst (λ (i : ℕ). get_or len' i 0 ≡ get_or len i 0 + 1) e el),
      )

-- What is in order while a book is read: `literals` are those of the last clause, and `named` the count of goals that holds every goal
-- named.
pub record Held (b : Book) (literals named : ℕ) : Type 0 where
  pub full : Full b
  pub ranged : Ranged b
  pub few_goals : b.goals ≤ 64
  pub few_clauses : b.clauses ≤ 256
  pub few_literals : (c : ℕ) → get_or b.clause_len c 0 ≤ 8
  pub tiles : Tiles b.goal_first b.goal_len 0 b.goals 0 b.clauses
  pub last : (c : ℕ) → b.clauses ≡ suc c → get_or b.clause_len c 0 ≡ literals
  pub none : b.clauses ≡ 0 → literals ≡ 0
  pub naming : (n : ℕ) → goals_name n (view b) ≡ leb named n

-- how many goals and clauses a book has
pub goals_counted : (b : Book) → length (view b) ≡ b.goals
goals_counted b = length_span (goal_viewed b) 0 b.goals

pub clauses_counted : (b : Book) → Tiles b.goal_first b.goal_len 0 b.goals 0 b.clauses
    → clause_count (view b) ≡ b.clauses
clauses_counted b t =
    omega (arith, tiles_count (clause_viewed b) b.goal_flags b.goal_first b.goal_len b.goals 0 0 b.clauses t)

-- the clauses of each of n goals that lie side by side are among the book's
pub goal_within : (b : Book) (n g : ℕ) → Tiles b.goal_first b.goal_len 0 n 0 b.clauses → g < n
    → get_or b.goal_first g 0 + get_or b.goal_len g 0 ≤ b.clauses
goal_within b n g t h =
    let z : 0 + g ≡ g = omega arith in
    subst (λ (i : ℕ). get_or b.goal_first i 0 + get_or b.goal_len i 0 ≤ b.clauses) z
    (tiles_within (clause_viewed b) b.goal_flags b.goal_first b.goal_len n 0 0 b.clauses g t h)
