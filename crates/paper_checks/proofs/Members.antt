-- A sound book's clauses and literals by their places in its arrays, and back.
use Prim.Native.Nat.{ℕ, zero, suc, ◌+◌, ◌≤◌, ◌<◌}
use native.Mathlib.Omega.{arith}
use mathlib.Core.Path.{◌≡◌, refl, sym, ap, subst, ◌∙◌}
use mathlib.Core.Bool.{Bool, true, false}
use mathlib.Core.Logic.{⊎_elim}
use mathlib.Core.List.Memᴰ
use mathlib.Core.List.{[], Memᴰ}
use Rattle.laws.specs.Spans.{span}
use Rattle.laws.proofs.Spans.{length_span}
use Rattle.definitions.specs.Book.{Want, Literal, Clause, Goal, goal_of, bit1}
use Rattle.papers.specs.Model.{clauses_of}
use Rattle.book.specs.declared.Book.{Book}
use Rattle.book.specs.declared.Literal as kept
use Rattle.book.specs.Access.{entry, literal_read}
use Rattle.book.specs.View.{signed, meant, goal_viewed, view, Sound}
use Rattle.book.specs.Repeats.{lent_by, clause_read}
use Rattle.book.proofs.Looks.{entry_in, literal_names}
use Rattle.book.proofs.TwiceInBook.{goal_inside, goal_shown}
use Rattle.papers.proofs.Passes.{clause_inside}
use Rattle.paper_checks.specs.Reach.{said_literal, NamesFew}

goal_of_signed : (negative : Bool) (g : ℕ) (w : Want) (outsized : Bool) → goal_of (signed negative g w outsized) ≡ g
goal_of_signed true g w outsized = refl
goal_of_signed false g w outsized = refl

pub goal_of_meant : (l : kept.Literal) → goal_of (meant l) ≡ l.goal
goal_of_meant l = goal_of_signed (bit1 l.kind) _ _ _

module _ {A : Type 0} (f : ℕ → A) where
  pub mem_span : (s n k : ℕ) → k < n → Memᴰ (f (s + k)) (span f s n)
  mem_span s zero k h = absurd (omega arith)
  mem_span s (suc n) zero h = let e : s + 0 ≡ s = omega arith in Memᴰ.head (ap f e)
  mem_span s (suc n) (suc k) h =
      let e : suc s + k ≡ s + suc k = omega arith in
      Memᴰ.tail (subst (λ (i : ℕ). Memᴰ (f i) (span f (suc s) n)) e (mem_span (suc s) n k (omega arith)))

  pub span_mem : (s n : ℕ) (a : A) → Memᴰ a (span f s n) → (k : ℕ) × (k < n) × (a ≡ f (s + k))
  span_mem s zero a m = absurd (Memᴰ.not-nil m)
  span_mem s (suc n) a m =
      ⊎_elim (λ e. let z : s ≡ s + 0 = omega arith in (0, omega arith, e ∙ ap f z))
      (λ l. let r = span_mem (suc s) n a l in
      let lt = r.1 in let z : suc s + r.0 ≡ s + suc r.0 = omega arith in (suc r.0, omega arith, r.2 ∙ ap f z))
      (Memᴰ.cases_cons m)

pub clauses_in : (f : ℕ → Goal) (s n g : ℕ) → g < n → clauses_of (span f s n) g ≡ (f (s + g)).clauses
clauses_in f s zero g h = absurd (omega arith)
clauses_in f s (suc n) zero h = let e : s ≡ s + 0 = omega arith in ap (λ (i : ℕ). (f i).clauses) e
clauses_in f s (suc n) (suc g) h =
    let e : suc s + g ≡ s + suc g = omega arith in
    clauses_in f (suc s) n g (omega arith) ∙ ap (λ (i : ℕ). (f i).clauses) e

pub clauses_past : (f : ℕ → Goal) (s n g : ℕ) → n ≤ g → clauses_of (span f s n) g ≡ []
clauses_past f s zero g h = refl
clauses_past f s (suc n) zero h = absurd (omega arith)
clauses_past f s (suc n) (suc g) h = clauses_past f (suc s) n g (omega arith)

module _ (b : Book) where
  -- only a goal of the book has clauses
  pub has_clause : (g : ℕ) (c : Clause) → Memᴰ c (clauses_of (view b) g) → g < b.goals
  has_clause g c m = subst (λ (n : ℕ). g < n) (length_span (goal_viewed b) 0 b.goals) (clause_inside (view b) g c m)

  module _ (s : Sound b) (g : ℕ) (h : g < b.goals) where
    abbrev first : ℕ
    first = entry 64 b.goal_first g

    abbrev count : ℕ
    count = entry 64 b.goal_len g

    -- its clauses
    clauses_are : clauses_of (view b) g ≡ span (clause_read (lent_by b)) first count
    clauses_are =
        let z : 0 + g ≡ g = omega arith in
        clauses_in (goal_viewed b) 0 b.goals g h ∙ ap (λ (i : ℕ). (goal_viewed b i).clauses) z
        ∙ sym (goal_shown b s g first count h refl refl)

    pub clause_placed : (c : Clause) → Memᴰ c (clauses_of (view b) g)
        → (d : ℕ) × (d < count) × (c ≡ clause_read (lent_by b) (first + d))
    clause_placed c m = span_mem (clause_read (lent_by b)) first count c (subst (Memᴰ c) clauses_are m)

    pub placed_clause : (d : ℕ) → d < count → Memᴰ (clause_read (lent_by b) (first + d)) (clauses_of (view b) g)
    placed_clause d l = subst (Memᴰ (clause_read (lent_by b) (first + d))) (sym clauses_are)
        (mem_span (clause_read (lent_by b)) first count d l)

  -- the literals of a goal's clauses name goals of the book
  module _ (s : Sound b) (g first count : ℕ) (h : g < b.goals) (hf : first ≡ entry 64 b.goal_first g)
      (hc : count ≡ entry 64 b.goal_len g) (d : ℕ) (l : d < count) where
    names_goal : (k : ℕ) → k < entry 256 b.clause_len (first + d)
        → (literal_read b.literal_kind b.literal_goal b.literal_want (first + d) k).goal < b.goals
    names_goal k lt =
        let inside = goal_inside b s g first count h hf hc in
        let c : first + d < b.clauses = omega arith in
        let e = entry_in 256 b.clause_len (first + d) (omega (arith, s.few_clauses)) in
        literal_names b s (first + d) c k (omega arith)

    pub names_few : NamesFew b (first + d)
    names_few k lt = omega (arith, names_goal k lt, s.few_goals)

  module _ (c : ℕ) where
    abbrev literal : ℕ → Literal
    literal = said_literal b c

    pub literal_placed : (l : Literal) → Memᴰ l (clause_read (lent_by b) c).literals
        → (k : ℕ) × (k < entry 256 b.clause_len c) × (l ≡ literal k)
    literal_placed l m =
        let r = span_mem literal 0 (entry 256 b.clause_len c) l m in
        let z : 0 + r.0 ≡ r.0 = omega arith in
        (r.0, r.1, r.2 ∙ ap literal z)

    pub placed_literal : (k : ℕ) → k < entry 256 b.clause_len c → Memᴰ (literal k) (clause_read (lent_by b) c).literals
    placed_literal k h =
        let z : 0 + k ≡ k = omega arith in
        subst (λ (i : ℕ). Memᴰ (literal i) (clause_read (lent_by b) c).literals) z
        (mem_span literal 0 (entry 256 b.clause_len c) k h)

  pub names_inside : (s : Sound b) (g : ℕ) (c : Clause) (l : Literal) → Memᴰ c (clauses_of (view b) g) → Memᴰ l c.literals
      → goal_of l < b.goals
  names_inside s g c l mc ml =
      let h = has_clause g c mc in
      let x = clause_placed s g h c mc in
      let at = first s g h + x.0 in
      let y = literal_placed at l (subst (λ (k : Clause). Memᴰ l k.literals) x.2 ml) in
      let e = ap goal_of y.2 ∙ goal_of_meant (literal_read b.literal_kind b.literal_goal b.literal_want at y.0) in
      omega (arith, names_goal s g (first s g h) (count s g h) h refl refl x.0 x.1 y.0 y.1)
