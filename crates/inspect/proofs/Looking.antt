-- What the proofs of the lines on missing goals cite: what is left to say, put down from where the pen is, is the same at each turn.
-- Assumes nothing.
use Rattle.std.specs.Prelude.{Ok, Err}
use Prim.Native.Nat.{ℕ, suc, ◌+◌, ◌*◌, ◌<◌, ◌≤◌}
use native.Mathlib.Omega.{arith}
use mathlib.Core.Bool.{Bool}
use mathlib.Core.Path.{◌≡◌, refl, sym, ap, ap₂, ◌∙◌}
use mathlib.Core.List.{List, [], ◌++◌}
use lib.ListN.{get_or}
use lib.Dec.{eqb, ltb}
use borrow.Author.Tests.{lt-ltb, le-ltb}
use Rattle.laws.specs.Spans.{span}
use Rattle.definitions.specs.Text.{ascii, decimal}
use Rattle.definitions.specs.Refusal.{Refusable}
use Rattle.definitions.specs.Book as Said
use Rattle.definitions.specs.Mend.{read_loosely}
use Rattle.pen.specs.Pen.{Pen, put_all}
use Rattle.pen.proofs.Putting.{put_two, put_nothing, put_left, put_ended}
use Rattle.book.specs.declared.Book.{Book}
use Rattle.book.specs.declared.refusal.Refusal.{Refusal}
use Rattle.book.specs.declared.refusal.Refusal.TheVariants as why
use Rattle.book.specs.Refusals.{number}
use Rattle.book.specs.View.{view, literal_viewed, clause_viewed, goal_viewed, Formed, ReadLoosely}
use Rattle.book.proofs.Held.{goals_counted}
use Rattle.book.proofs.MoreLiterals.{goal_of_kept}
use Rattle.inspect.specs.Words.{goals_words}
use Rattle.inspect.specs.Missing.{numbered_words, missing_by, missing_literal, missing_clause, missing_goal, missing_from}
use Rattle.inspect.specs.Missing.{loose_words, behind_6, behind_by}
use Rattle.inspect.proofs.Lines.{from, from_next, from_end, from_start}

-- A literal.

pub there_said : (goals g k j named n : ℕ) (p : Pen) → n ≡ named → n < goals → p ≡ put_all (missing_by (ltb named goals) g k j named) p
unfolding missing_by
there_said goals g k j named n p e h =
    sym (put_nothing p) ∙ ap (λ (t : Bool). put_all (missing_by t g k j named) p) (sym (lt-ltb named goals (omega arith)))

pub missing_said : (goals g k j named n : ℕ) (p q r s t u : Pen) → n ≡ named → goals ≤ n → q ≡ put_all (ascii "goal " ++ decimal g) p
    → r ≡ put_all (ascii ", clause " ++ decimal k) q → s ≡ put_all (ascii ", literal " ++ decimal j) r
    → t ≡ put_all (ascii ": no goal " ++ decimal named) s → u ≡ put_all (ascii "\n") t
    → u ≡ put_all (missing_by (ltb named goals) g k j named) p
unfolding missing_by
missing_said goals g k j named n p q r s t u e h a b c d f =
    put_two (ascii "goal " ++ decimal g) _ p q u a
    (put_two (ascii ", clause " ++ decimal k) _ q r u b
    (put_two (ascii ", literal " ++ decimal j) _ r s u c
    (put_two (ascii ": no goal " ++ decimal named) (ascii "\n") s t u d f)))
    ∙ ap (λ (x : Bool). put_all (missing_by x g k j named) p) (sym (le-ltb named goals (omega arith)))

-- a clause has few literals
pub few_in : (b : Book) (c n : ℕ) → Formed b → n ≡ get_or b.clause_len c 0 → n ≤ 8
few_in b c n s e = omega (arith, s.few_literals c)

-- Members of a list one after the other.

module _ {A : Type 0} (words : ℕ → A → List ℕ) (f : ℕ → A) (s n : ℕ) where
  -- what is left to say at place k of n from s on
  abbrev pub left : ℕ → List ℕ
  left k = numbered_words words k (from f s n k)

  left_next : (k : ℕ) → k < n → left k ≡ words k (f (s + k)) ++ left (k + 1)
  unfolding numbered_words
  left_next k h =
      let one : suc k ≡ k + 1 = omega arith in
      ap (numbered_words words k) (from_next f s n k h)
      ∙ ap (λ (t : ℕ). words k (f (s + k)) ++ numbered_words words t (from f s n (k + 1))) one

  left_end : (k : ℕ) → n ≤ k → left k ≡ []
  unfolding numbered_words
  left_end k h = ap (numbered_words words k) (from_end f s n k h)

  left_step : (k : ℕ) (p q start : Pen) → k < n → put_all (left k) p ≡ put_all (left 0) start → q ≡ put_all (words k (f (s + k))) p
      → put_all (left (k + 1)) q ≡ put_all (left 0) start
  left_step k p q start h i e =
      put_left (words k (f (s + k))) (left (k + 1)) p q e ∙ ap (λ (w : List ℕ). put_all w p) (sym (left_next k h)) ∙ i

  left_said : (k : ℕ) (p q : Pen) → n ≤ k → put_all (left k) q ≡ put_all (left 0) p → q ≡ put_all (numbered_words words 0 (span f s n)) p
  left_said k p q h i =
      put_ended (left k) (left 0) p q (left_end k h) i ∙ ap (λ l. put_all (numbered_words words 0 l) p) (from_start f s n)

-- The literals of clause c, which is clause k of goal g.

module _ (b : Book) (g k c : ℕ) where
  abbrev pub literals_left : (count j : ℕ) → List ℕ
  literals_left count j = left (missing_literal b.goals g k) (literal_viewed b) (8 * c) count j

  abbrev named : (j : ℕ) → ℕ
  named j = get_or b.literal_goal (8 * c + j) 0

  pub literals_step : (count j : ℕ) (p q start : Pen) → j < count
      → put_all (literals_left count j) p ≡ put_all (literals_left count 0) start
      → q ≡ put_all (missing_by (ltb (get_or b.literal_goal (8 * c + j) 0) b.goals) g k j (get_or b.literal_goal (8 * c + j) 0)) p
      → put_all (literals_left count (j + 1)) q ≡ put_all (literals_left count 0) start
  literals_step count j p q start h i e =
      left_step (missing_literal b.goals g k) (literal_viewed b) (8 * c) count j p q start h i
      (e ∙ ap (λ (n : ℕ). put_all (missing_by (ltb n b.goals) g k j n) p)
      (sym (goal_of_kept (get_or b.literal_kind (8 * c + j) 0) (named j) (get_or b.literal_want (8 * c + j) 0))))

  pub literals_said : (count j : ℕ) (p q : Pen) → count ≡ get_or b.clause_len c 0 → count ≤ j
      → put_all (literals_left count j) q ≡ put_all (literals_left count 0) p
      → q ≡ put_all (missing_clause b.goals g k (clause_viewed b c)) p
  literals_said count j p q e h i =
      left_said (missing_literal b.goals g k) (literal_viewed b) (8 * c) count j p q h i
      ∙ ap (λ (n : ℕ). put_all (numbered_words (missing_literal b.goals g k) 0 (span (literal_viewed b) (8 * c) n)) p) e

-- The clauses of goal g.

module _ (b : Book) (g : ℕ) where
  abbrev pub clauses_left : (first count k : ℕ) → List ℕ
  clauses_left first count k = left (missing_clause b.goals g) (clause_viewed b) first count k

  pub clauses_step : (first count k : ℕ) (p q start : Pen) → k < count
      → put_all (clauses_left first count k) p ≡ put_all (clauses_left first count 0) start
      → q ≡ put_all (missing_clause b.goals g k (clause_viewed b (first + k))) p
      → put_all (clauses_left first count (k + 1)) q ≡ put_all (clauses_left first count 0) start
  clauses_step first count k p q start h i e =
      left_step (missing_clause b.goals g) (clause_viewed b) first count k p q start h i e

  pub clauses_said : (first count k : ℕ) (p q : Pen) → first ≡ get_or b.goal_first g 0 → count ≡ get_or b.goal_len g 0 → count ≤ k
      → put_all (clauses_left first count k) q ≡ put_all (clauses_left first count 0) p
      → q ≡ put_all (missing_goal b.goals g (goal_viewed b g)) p
  clauses_said first count k p q e f h i =
      left_said (missing_clause b.goals g) (clause_viewed b) first count k p q h i
      ∙ ap₂ (λ (s n : ℕ). put_all (numbered_words (missing_clause b.goals g) 0 (span (clause_viewed b) s n)) p) e f

-- The goals.

module _ (b : Book) where
  abbrev pub goals_left : (g : ℕ) → List ℕ
  goals_left g = left (missing_goal b.goals) (goal_viewed b) 0 b.goals g

  pub goals_step : (g : ℕ) (p q start : Pen) → g < b.goals → put_all (goals_left g) p ≡ put_all (goals_left 0) start
      → q ≡ put_all (missing_goal b.goals g (goal_viewed b g)) p → put_all (goals_left (g + 1)) q ≡ put_all (goals_left 0) start
  goals_step g p q start h i e =
      let z : g ≡ 0 + g = omega arith in
      left_step (missing_goal b.goals) (goal_viewed b) 0 b.goals g p q start h i
      (e ∙ ap (λ (n : ℕ). put_all (missing_goal b.goals g (goal_viewed b n)) p) z)

  pub goals_said : (g : ℕ) (p q : Pen) → b.goals ≤ g → put_all (goals_left g) q ≡ put_all (goals_left 0) p
      → q ≡ put_all (missing_from b.goals (view b)) p
  goals_said g p q h i = left_said (missing_goal b.goals) (goal_viewed b) 0 b.goals g p q h i

-- What was read without the test for 6.

pub unread_said : (bytes : List ℕ) (e : Refusal) (p : Pen) → ReadLoosely bytes (Err e) → p ≡ put_all (loose_words (read_loosely bytes)) p
unread_said bytes e p given = sym (put_nothing p) ∙ ap (λ (x : Refusable Said.Book). put_all (loose_words x) p) given.means

pub read_said : (bytes : List ℕ) (b : Book) (p q r : Pen) → ReadLoosely bytes (Ok b) → q ≡ put_all (goals_words 0 (view b)) p
    → r ≡ put_all (missing_from b.goals (view b)) q → r ≡ put_all (loose_words (read_loosely bytes)) p
read_said bytes b p q r given e f =
    put_two (goals_words 0 (view b)) (missing_from b.goals (view b)) p q r e f
    ∙ ap (λ (n : ℕ). put_all (goals_words 0 (view b) ++ missing_from n (view b)) p) (sym (goals_counted b))
    ∙ ap (λ (x : Refusable Said.Book). put_all (loose_words x) p) given.means

-- Behind a refusal.

pub behind_said : (e : Refusal) (loose : Refusable Said.Book) (p q : Pen) → e ≡ why.NoSuchGoal → q ≡ put_all (loose_words loose) p
    → q ≡ put_all (behind_by (number e) loose) p
unfolding behind_by
behind_said e loose p q is f = f ∙ ap (λ (x : Refusal). put_all (behind_6 (eqb (number x) 6) loose) p) (sym is)

pub not_behind : (e : Refusal) (loose : Refusable Said.Book) (p : Pen) → (e ≡ why.NoSuchGoal → ⊥)
    → p ≡ put_all (behind_by (number e) loose) p
unfolding behind_by
not_behind why.PartMissing loose p other = sym (put_nothing p)
not_behind why.UnknownCommand loose p other = sym (put_nothing p)
not_behind why.OutOfPlace loose p other = sym (put_nothing p)
not_behind why.UnknownFlag loose p other = sym (put_nothing p)
not_behind why.TooMany loose p other = sym (put_nothing p)
not_behind why.NoSuchGoal loose p other = absurd (other refl)
not_behind why.BehindEnd loose p other = sym (put_nothing p)
not_behind why.NoGoal loose p other = sym (put_nothing p)
not_behind why.CrossedRange loose p other = sym (put_nothing p)
not_behind why.RepeatedClause loose p other = sym (put_nothing p)
not_behind why.NotPlain loose p other = sym (put_nothing p)
not_behind why.NotLevelled loose p other = sym (put_nothing p)
not_behind why.NotText loose p other = sym (put_nothing p)
