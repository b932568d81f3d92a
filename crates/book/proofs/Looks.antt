-- A sound book by goal, clause and literal: what `access` gives at a place is what the view has there.
use Prim.Native.Nat.{ℕ, zero, suc, ◌+◌, ◌*◌, ◌%◌, ◌≤◌, ◌<◌}
use native.Mathlib.Omega.{arith}
use mathlib.Core.Path.{◌≡◌, refl, sym, ap, subst, ◌∙◌}
use mathlib.Core.Bool.{Bool, true, false}
use mathlib.Core.List.{List}
use lib.ListN.{length, get_or}
use lib.Dec.{ltb}
use borrow.Author.Tests.{lt-ltb, ltb-true, ltb-false}
use Rattle.definitions.specs.Book as said
use Rattle.definitions.specs.Book.{Clause, Goal, goal_of, literals_name, clauses_name, goals_name, bit0, bit1}
use Rattle.laws.proofs.Bools.{both_true}
use Rattle.laws.proofs.Spans.{length_span, get_or_span}
use Rattle.laws.specs.Spans.{span}
use Rattle.book.specs.declared.Book.{Book}
use Rattle.book.specs.declared.Literal.{Literal}
use Rattle.book.specs.View.{kept, meant, literal_viewed, clause_viewed, goal_in, goal_viewed, view, Tiles, Sound}
use Rattle.book.specs.Access.{entry, entry_by, literal_there, literal_read, literal_by}
use Rattle.book.proofs.MoreLiterals.{goal_of_kept}
use Rattle.book.proofs.Held.{goal_within}

-- an entry within the size is the array's
pub entry_in : (size : ℕ) (l : List ℕ) (i : ℕ) → i < size → entry size l i ≡ get_or l i 0
entry_in size l i h = ap (λ (t : Bool). entry_by t (get_or l i 0)) (lt-ltb i size h)

pub literal_in : (kind goal want : List ℕ) (c j : ℕ) → c < 256 → j < 8
    → literal_read kind goal want c j ≡ literal_there kind goal want (8 * c + j)
literal_in kind goal want c j h k =
    ap (λ (t : Bool). literal_by t (ltb j 8) (literal_there kind goal want (8 * c + j))) (lt-ltb c 256 h)
    ∙ ap (λ (t : Bool). literal_by true t (literal_there kind goal want (8 * c + j))) (lt-ltb j 8 k)

-- Names.

module _ (n : ℕ) where
  named_literal : (f : ℕ → said.Literal) (s k j : ℕ) → literals_name n (span f s k) ≡ true → j < k → goal_of (f (s + j)) < n
  named_literal f s zero j e h = absurd (omega arith)
  named_literal f s (suc k) zero e h =
      let z : s ≡ s + 0 = omega arith in
      subst (λ (i : ℕ). goal_of (f i) < n) z (ltb-true (goal_of (f s)) n
      (both_true (ltb (goal_of (f s)) n) (literals_name n (span f (suc s) k)) e).0)
  named_literal f s (suc k) (suc j) e h =
      let z : suc s + j ≡ s + suc j = omega arith in
      subst (λ (i : ℕ). goal_of (f i) < n) z
      (named_literal f (suc s) k j (both_true (ltb (goal_of (f s)) n) (literals_name n (span f (suc s) k)) e).1 (omega arith))

  named_clause : (f : ℕ → Clause) (s k c : ℕ) → clauses_name n (span f s k) ≡ true → s ≤ c → c < s + k
      → literals_name n (f c).literals ≡ true
  named_clause f s zero c e l h = absurd (omega arith)
  named_clause f s (suc k) c e l h =
      by (ltb s c) refl
      (λ p. named_clause f (suc s) k c (both_true (literals_name n (f s).literals) (clauses_name n (span f (suc s) k)) e).1 (omega arith)
      (omega arith))
    where
      by : (t : Bool) → ltb s c ≡ t → (s < c → literals_name n (f c).literals ≡ true) → literals_name n (f c).literals ≡ true
      by true q behind = behind (ltb-true s c q)
      by false q behind =
          let p : s ≡ c = omega (arith, ltb-false s c q) in
          subst (λ (i : ℕ). literals_name n (f i).literals ≡ true) p
          (both_true (literals_name n (f s).literals) (clauses_name n (span f (suc s) k)) e).0

  named_tiles : (f : ℕ → Clause) (flags first len : List ℕ) (k g at end c : ℕ) → Tiles first len g k at end
      → goals_name n (span (goal_in f flags first len) g k) ≡ true → at ≤ c → c < end → literals_name n (f c).literals ≡ true
  named_tiles f flags first len zero g at end c t e l h = absurd (omega arith)
  named_tiles f flags first len (suc k) g at end c t e l h =
      by (ltb c (at + get_or len g 0)) refl
      (λ p. named_tiles f flags first len k (suc g) (at + get_or len g 0) end c t.1
      (both_true (clauses_name n (span f (get_or first g 0) (get_or len g 0))) (goals_name n (span (goal_in f flags first len) (suc g) k)) e).1
      p h)
    where
      by : (b : Bool) → ltb c (at + get_or len g 0) ≡ b → (at + get_or len g 0 ≤ c → literals_name n (f c).literals ≡ true)
          → literals_name n (f c).literals ≡ true
      by true q behind =
          let p : get_or first g 0 ≡ at = t.0 in
          named_clause f (get_or first g 0) (get_or len g 0) c
          (both_true (clauses_name n (span f (get_or first g 0) (get_or len g 0))) (goals_name n (span (goal_in f flags first len) (suc g) k))
          e).0
          (omega arith) (omega (arith, ltb-true c (at + get_or len g 0) q))
      by false q behind = behind (ltb-false c (at + get_or len g 0) q)

-- The literals of a clause whose literals name goals below n, which the byte that a goal is read into can hold.

module _ (b : Book) (n c : ℕ) (small : n ≤ 64) (inside : c < 256) (few : get_or b.clause_len c 0 ≤ 8)
    (names : literals_name n (clause_viewed b c).literals ≡ true) (j : ℕ) (l : j < get_or b.clause_len c 0) where
  goal_below : get_or b.literal_goal (8 * c + j) 0 < n
  goal_below =
      subst (λ (g : ℕ). g < n)
      (goal_of_kept (get_or b.literal_kind (8 * c + j) 0) (get_or b.literal_goal (8 * c + j) 0)
      (get_or b.literal_want (8 * c + j) 0))
      (named_literal n (literal_viewed b) (8 * c) (get_or b.clause_len c 0) j names l)

  goal_fits : get_or b.literal_goal (8 * c + j) 0 % 256 ≡ get_or b.literal_goal (8 * c + j) 0
  goal_fits = omega (arith, goal_below, small)

  here : literal_read b.literal_kind b.literal_goal b.literal_want c j
      ≡ literal_there b.literal_kind b.literal_goal b.literal_want (8 * c + j)
  here = literal_in b.literal_kind b.literal_goal b.literal_want c j inside (omega (arith, few, l))

  pub literal_shown : meant (literal_read b.literal_kind b.literal_goal b.literal_want c j) ≡ literal_viewed b (8 * c + j)
  literal_shown =
      ap meant here
      ∙ ap (λ (g : ℕ). kept (get_or b.literal_kind (8 * c + j) 0) g (get_or b.literal_want (8 * c + j) 0)) goal_fits

  pub literal_below : (literal_read b.literal_kind b.literal_goal b.literal_want c j).goal < n
  literal_below = subst (λ (x : Literal). x.goal < n) (sym here) (subst (λ (g : ℕ). g < n) (sym goal_fits) goal_below)

-- The book.

module _ (b : Book) (s : Sound b) where
  module _ (g : ℕ) (d : Goal) (h : g < b.goals) where
    pub goal_is : get_or (view b) g d ≡ goal_viewed b g
    goal_is =
        let z : 0 + g ≡ g = omega arith in
        get_or_span (goal_viewed b) 0 b.goals g d h ∙ ap (goal_viewed b) z

    pub coinductive_is : bit0 (entry 64 b.goal_flags g) ≡ (get_or (view b) g d).coinductive
    coinductive_is =
        ap bit0 (entry_in 64 b.goal_flags g (omega (arith, s.few_goals))) ∙ sym (ap (λ (x : Goal). x.coinductive) goal_is)

    pub floundered_is : bit1 (entry 64 b.goal_flags g) ≡ (get_or (view b) g d).floundered
    floundered_is =
        ap bit1 (entry_in 64 b.goal_flags g (omega (arith, s.few_goals))) ∙ sym (ap (λ (x : Goal). x.floundered) goal_is)

    pub first_is : entry 64 b.goal_first g ≡ get_or b.goal_first g 0
    first_is = entry_in 64 b.goal_first g (omega (arith, s.few_goals))

    pub clauses_of_are : entry 64 b.goal_len g ≡ length (get_or (view b) g d).clauses
    clauses_of_are =
        entry_in 64 b.goal_len g (omega (arith, s.few_goals))
        ∙ sym (ap (λ (x : Goal). length x.clauses) goal_is ∙ length_span (clause_viewed b) (get_or b.goal_first g 0)
        (get_or b.goal_len g 0))

    -- a goal's clauses are among the book's
    pub clauses_within : get_or b.goal_first g 0 + get_or b.goal_len g 0 ≤ b.clauses
    clauses_within = goal_within b b.goals g s.tiles h

    -- clause i of a goal is the book's clause at its first place and i
    pub clause_is : (i : ℕ) (e : Clause) → i < get_or b.goal_len g 0
        → get_or (get_or (view b) g d).clauses i e ≡ clause_viewed b (get_or b.goal_first g 0 + i)
    clause_is i e l =
        ap (λ (x : Goal). get_or x.clauses i e) goal_is
        ∙ get_or_span (clause_viewed b) (get_or b.goal_first g 0) (get_or b.goal_len g 0) i e l

  module _ (c : ℕ) (h : c < b.clauses) where
    pub variant_is : entry 256 b.clause_variant c ≡ (clause_viewed b c).variant
    variant_is = entry_in 256 b.clause_variant c (omega (arith, s.few_clauses))

    pub cannot_prove_is : bit0 (entry 256 b.clause_flags c) ≡ (clause_viewed b c).cannot_prove
    cannot_prove_is = ap bit0 (entry_in 256 b.clause_flags c (omega (arith, s.few_clauses)))

    pub outsized_is : bit1 (entry 256 b.clause_flags c) ≡ (clause_viewed b c).outsized
    outsized_is = ap bit1 (entry_in 256 b.clause_flags c (omega (arith, s.few_clauses)))

    pub literals_are : entry 256 b.clause_len c ≡ length (clause_viewed b c).literals
    literals_are =
        entry_in 256 b.clause_len c (omega (arith, s.few_clauses))
        ∙ sym (length_span (literal_viewed b) (8 * c) (get_or b.clause_len c 0))

    pub clause_names : literals_name b.goals (clause_viewed b c).literals ≡ true
    clause_names =
        named_tiles b.goals (clause_viewed b) b.goal_flags b.goal_first b.goal_len b.goals 0 0 b.clauses c
        s.tiles s.named (omega arith) h

    module _ (j : ℕ) (l : j < get_or b.clause_len c 0) where
      pub literal_is : (d : said.Literal)
          → meant (literal_read b.literal_kind b.literal_goal b.literal_want c j) ≡ get_or (clause_viewed b c).literals j d
      literal_is d =
          literal_shown b b.goals c s.few_goals (omega (arith, s.few_clauses)) (s.few_literals c) clause_names j l
          ∙ sym (get_or_span (literal_viewed b) (8 * c) (get_or b.clause_len c 0) j d l)

      -- a literal names a goal of the book
      pub literal_names : (literal_read b.literal_kind b.literal_goal b.literal_want c j).goal < b.goals
      literal_names = literal_below b b.goals c s.few_goals (omega (arith, s.few_clauses)) (s.few_literals c) clause_names j l
