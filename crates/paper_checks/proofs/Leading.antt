-- The edges, step by step: those of a literal, of a clause, of a goal and of a book.
use Prim.Native.Nat.{ℕ, suc, ◌+◌, ◌*◌, ◌≤◌, ◌<◌}
use native.Mathlib.Omega.{arith}
use mathlib.Core.Path.{◌≡◌, refl, sym, ap, subst, ◌∙◌}
use mathlib.Core.Bool.{Bool, true, false}
use mathlib.Core.Logic.{◌⊎◌, inl, inr, ⊎_elim}
use mathlib.Core.List.{List, Memᴰ}
use lib.ListN.{length, replicate, length-replicate}
use Rattle.laws.proofs.Lists.{get_or_zeros}
use Rattle.laws.proofs.Spans.{length_span}
use Rattle.definitions.specs.Book as said
use Rattle.definitions.specs.Book.{Clause, goal_of, bit1}
use Rattle.papers.specs.Model.{clauses_of}
use Rattle.papers.specs.Levels.{Walk, is_not}
use Rattle.papers.specs.Levels.Walk.{stays, goes}
use Rattle.papers.proofs.Passes.{is_not_small}
use Rattle.book.specs.declared.Book.{Book}
use Rattle.book.specs.declared.Literal.{Literal}
use Rattle.book.specs.Access.{entry, literal_read}
use Rattle.book.specs.View.{meant, goal_viewed, view, Sound}
use Rattle.book.specs.Repeats.{lent_by, clause_read}
use Rattle.paper_checks.specs.Reach.{cell, Raised, Here, Names, said_literal, NamesFew, ClauseLeads, GoalLeads, Leads, NotStep, Edges}
use Rattle.paper_checks.proofs.Raising.{Steps, raised_as, raised_more, raised_then}
use Rattle.paper_checks.proofs.Members.{goal_of_meant, has_clause, clause_placed, placed_clause, literal_placed, placed_literal}

pub zeros_whole : {A : (v i j : ℕ) → Type 0} {m : List ℕ} → Raised A (replicate 4096 0) m → length m ≡ 4096
zeros_whole r = r.whole ∙ length-replicate {A = ℕ} 4096 0

-- A literal.

module _ (l : Literal) (p : Bool) (lp : p ≡ bit1 l.kind) where
  pub edge_of_not : p ≡ true → 2 ≡ suc (is_not (meant l))
  edge_of_not e = rw (sym lp ∙ e) refl

  pub edge_of_positive : p ≡ false → 1 ≡ suc (is_not (meant l))
  edge_of_positive e = rw (sym lp ∙ e) refl

-- A clause.

module _ (b : Book) (g c : ℕ) where
  abbrev pub LiteralLeads : (k v i j : ℕ) → Type 0
  LiteralLeads k v i j = (i ≡ g) × Names (said_literal b c k) v j

  pub literal_few : (k count : ℕ) (l : Literal) → NamesFew b c → count ≡ entry 256 b.clause_len c → k < count
      → l ≡ literal_read b.literal_kind b.literal_goal b.literal_want c k → l.goal < 64
  literal_few k count l few e lt own = subst (λ (x : Literal). x.goal < 64) (sym own) (few k (omega arith))

  pub literals_more : (old mid new : List ℕ) (k w : ℕ) (l : Literal) → Raised (Steps LiteralLeads k) old mid
      → l ≡ literal_read b.literal_kind b.literal_goal b.literal_want c k → w ≡ suc (is_not (meant l)) → Raised (Here g l.goal w) mid new
      → Raised (Steps LiteralLeads (k + 1)) old new
  literals_more old mid new k w l so_far own e r =
      raised_more LiteralLeads k so_far
      (subst (λ (x : Literal). Raised (λ v i j. (i ≡ g) × Names (meant x) v j) mid new) own
      (raised_as r (λ v i j z a. (a.0, (goal_of_meant l ∙ sym a.1, omega (arith, a.2))))
      (λ v i j a. (a.0, sym a.1.0 ∙ goal_of_meant l, omega (arith, a.1.1)))))

  pub literals_all : (old new : List ℕ) (n count : ℕ) → count ≡ entry 256 b.clause_len c → n ≤ count → count ≤ n
      → Raised (Steps LiteralLeads n) old new → Raised (λ v i j. (i ≡ g) × ClauseLeads b c v j) old new
  literals_all old new n count e few past r =
      raised_as r (λ v i j z a. let h = a.1 in (a.2.0, (a.0, omega arith, a.2.1)))
      (λ v i j a. let h = a.1.1 in (a.1.0, omega arith, (a.0, a.1.2)))

-- A goal.

module _ (b : Book) (g first : ℕ) where
  abbrev pub ClauseStep : (d v i j : ℕ) → Type 0
  ClauseStep d v i j = (i ≡ g) × ClauseLeads b (first + d) v j

  pub clauses_all : (old new : List ℕ) (n count : ℕ) → n ≤ count → count ≤ n
      → Raised (Steps ClauseStep n) old new → Raised (λ v i j. (i ≡ g) × GoalLeads b first count v j) old new
  clauses_all old new n count few past r =
      raised_as r (λ v i j z a. let h = a.1 in (a.2.0, (a.0, omega arith, a.2.1)))
      (λ v i j a. let h = a.1.1 in (a.1.0, omega arith, (a.0, a.1.2)))

-- A book.

-- goal g by its clauses, so many from `first` on
abbrev pub LeadsBy : Book → (g first count : ℕ) → (v i j : ℕ) → Type 0
LeadsBy b g first count v i j =
    (i ≡ g) × GoalLeads b first count v j

module _ (b : Book) where
  -- goal g leads to itself, and by its clauses
  abbrev pub GoalStep : (g v i j : ℕ) → Type 0
  GoalStep g v i j = Here g g 1 v i j ⊎ LeadsBy b g (entry 64 b.goal_first g) (entry 64 b.goal_len g) v i j

  pub goals_more : (old mid own new : List ℕ) (g first count : ℕ) → first ≡ entry 64 b.goal_first g
      → count ≡ entry 64 b.goal_len g → Raised (Steps GoalStep g) old mid → Raised (Here g g 1) mid own
      → Raised (LeadsBy b g first count) own new → Raised (Steps GoalStep (g + 1)) old new
  goals_more old mid own new g first count hf hc so_far r s =
      raised_more GoalStep g so_far
      (raised_then r (subst (λ (n : ℕ). Raised (LeadsBy b g (entry 64 b.goal_first g) n) own new) hc
      (subst (λ (n : ℕ). Raised (LeadsBy b g n count) own new) hf s)))

  module _ (s : Sound b) (m : List ℕ) (n : ℕ) (few : n ≤ b.goals) (past : b.goals ≤ n)
      (r : Raised (Steps GoalStep n) (replicate 4096 0) m) where
    -- nothing was in before
    blank : (v i j : ℕ) → 0 < v → v ≤ cell (replicate 4096 0) i j → ⊥
    blank v i j z h = omega (arith, get_or_zeros 4096 (64 * i + j))

    own : (g : ℕ) → g < length (view b) → 0 < cell m g g
    own g h = r.met 1 g g (g, omega (arith, length_span (goal_viewed b) 0 b.goals), inl (refl, refl, omega arith))

    steps_in : (g : ℕ) (c : Clause) (l : said.Literal) → Memᴰ c (clauses_of (view b) g) → Memᴰ l c.literals
        → suc (is_not l) ≤ cell m g (goal_of l)
    steps_in g c l mc ml =
        let h = has_clause b g c mc in
        let x = clause_placed b s g h c mc in
        let y = literal_placed b (entry 64 b.goal_first g + x.0) l (subst (λ (k : Clause). Memᴰ l k.literals) x.2 ml) in
        r.met (suc (is_not l)) g (goal_of l)
        (g, omega arith, inr (refl, (x.0, x.1, (y.0, y.1, (ap goal_of (sym y.2), omega (arith, ap is_not y.2))))))

    -- what an entry is of
    module _ (i j : ℕ) where
      abbrev Stepped : ℕ → Type 0
      Stepped v =
          (c : Clause) × (l : said.Literal) × Memᴰ c (clauses_of (view b) i) × Memᴰ l c.literals × (goal_of l ≡ j)
          × (v ≤ suc (is_not l))

      stepped : (v g : ℕ) → g < b.goals → LeadsBy b g (entry 64 b.goal_first g) (entry 64 b.goal_len g) v i j → Stepped v
      stepped v g h a =
          let d = a.1 in
          let k = d.2 in
          let c = entry 64 b.goal_first g + d.0 in (
            clause_read (lent_by b) c,
            said_literal b c k.0,
            subst (λ (x : ℕ). Memᴰ (clause_read (lent_by b) c) (clauses_of (view b) x)) (sym a.0)
                (placed_clause b s g h d.0 d.1),
            placed_literal b c k.0 k.1,
            k.2.0,
            k.2.1,
          )

      entry_of : (v : ℕ) → 0 < v → j < 64 → v ≤ cell m i j → ((i ≡ j) × (v ≤ 1)) ⊎ Stepped v
      entry_of v z h l =
          ⊎_elim (λ x. absurd (blank v i j z x))
          (λ a. let lt = a.1 in ⊎_elim (λ e. inl (e.0 ∙ sym e.1, e.2)) (λ x. inr (stepped v a.0 (omega arith) x)) a.2)
          (r.only v i j z h l)

      walk_in : j < 64 → 0 < cell m i j → Leads (view b) i j
      walk_in h l =
          ⊎_elim (λ e. (0, subst (λ (x : ℕ). Walk (view b) i x 0) e.0 stays))
          (λ x. (
            is_not x.1 + 0,
            subst (λ (t : ℕ). Walk (view b) i t (is_not x.1 + 0)) x.4 (goes x.0 x.1 x.2 x.3 stays),
          )) (entry_of 1 (omega arith) h (omega arith))

      not_in : j < 64 → 2 ≤ cell m i j → NotStep (view b) i j
      not_in h l =
          ⊎_elim (λ e. let few = e.1 in absurd (omega arith))
          (λ x. (x.0, x.1, x.2, x.3, omega (arith, x.5, is_not_small x.1), x.4)) (entry_of 2 (omega arith) h l)

    pub goals_all : Edges (view b) m
    goals_all = record { whole = zeros_whole r; stays = own; steps = steps_in; walks = walk_in; nots = not_in }
