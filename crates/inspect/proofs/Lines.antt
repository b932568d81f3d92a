-- What the proofs of the loops over literals, clauses and goals cite: what is left to say, put down from where the pen is, is the same at
-- each turn. Assumes nothing.
use Rattle.std.specs.Prelude.{Ok, Err}
use Prim.Native.Nat.{ℕ, suc, ◌+◌, ◌-◌, ◌*◌, ◌<◌, ◌≤◌}
use native.Mathlib.Omega.{arith}
use mathlib.Core.Option.{Option}
use mathlib.Core.Path.{◌≡◌, sym, ap, ◌∙◌}
use mathlib.Core.List.{List, [], ◌∷◌, ◌++◌, append-nil}
use lib.ListN.{get_or}
use Rattle.definitions.specs.Text.{ascii}
use Rattle.definitions.specs.Desk as Desk
use Rattle.definitions.specs.Desk.{repeat_of}
use Rattle.definitions.specs.Refusal.{Refusable}
use Rattle.definitions.specs.Mend.{read_loosely}
use Rattle.definitions.specs.Book as Said
use Rattle.definitions.specs.Book.{Literal, Clause, Goal, bit0, bit1}
use Rattle.pen.specs.Pen.{Pen, put, put_all}
use Rattle.laws.specs.Spans.{span}
use Rattle.laws.proofs.Spans.{span_left, span_done}
use Rattle.pen.proofs.Putting.{put_two, put_one, put_nothing, put_all_append, put_left, put_ended}
use Rattle.book.specs.declared.Book.{Book}
use Rattle.book.specs.declared.refusal.Refusal.{Refusal}
use Rattle.book.specs.Refusals.{number}
use Rattle.book.specs.declared.Looked.{Looked}
use Rattle.book.specs.Repeats.{repeat_seen, Looks}
use Rattle.book.specs.View.{Formed, clause_made, view}
use Rattle.book.proofs.Held.{goal_within}
use Rattle.inspect.specs.Words.{before, literal_words, body_words, head_words, clause_words, clauses_words, goal_line, goal_words}
use Rattle.inspect.specs.Words.{goals_words, refusal_words, book_words, desk_words, reading_words}
use Rattle.inspect.specs.Missing.{behind_by, behind_words, paper_words}

module _ {A : Type 0} (f : ℕ → A) where
  -- f from a place on, k places in, of n
  abbrev pub from : (s n k : ℕ) → List A
  from s n k = span f (s + k) (n - k)

  pub from_next : (s n k : ℕ) → k < n → from s n k ≡ f (s + k) ∷ from s n (k + 1)
  from_next s n k h = span_left f (s + k) n k h ∙ ap (λ (t : ℕ). f (s + k) ∷ span f t (n - (k + 1))) (next_place s k)
    where
      next_place : (s k : ℕ) → s + k + 1 ≡ s + (k + 1)
      next_place s k = omega arith

  pub from_end : (s n k : ℕ) → n ≤ k → from s n k ≡ []
  from_end s n k h = span_done f (s + k) n k h

  pub from_start : (s n : ℕ) → from s n 0 ≡ span f s n
  from_start s n = ap (λ (t : ℕ). span f t (n - 0)) (start s) ∙ ap (span f s) (whole n)
    where
      start : (s : ℕ) → s + 0 ≡ s
      start s = omega arith

      whole : (n : ℕ) → n - 0 ≡ n
      whole n = omega arith

-- a text, then another, and what is left
put_three : (a b d : List ℕ) (p q r : Pen) → q ≡ put_all a p → r ≡ put_all b q → put_all d r ≡ put_all (a ++ (b ++ d)) p
put_three a b d p q r e f =
    ap (put_all d) (f ∙ ap (put_all b) e) ∙ sym (put_all_append b d (put_all a p)) ∙ sym (put_all_append a (b ++ d) p)

-- Literals.

abbrev pub literals_left : (ℕ → Literal) → (s n j : ℕ) → List ℕ
literals_left f s n j = body_words j (from f s n j)

body_next : (f : ℕ → Literal) (s n j : ℕ) → j < n
    → literals_left f s n j ≡ before j ++ (literal_words (f (s + j)) ++ literals_left f s n (j + 1))
unfolding body_words
body_next f s n j h =
    ap (body_words j) (from_next f s n j h)
    ∙ ap (λ (t : ℕ). before j ++ (literal_words (f (s + j)) ++ body_words t (from f s n (j + 1)))) (suc_one j)
  where
    suc_one : (j : ℕ) → suc j ≡ j + 1
    suc_one j = omega arith

pub literals_step : (f : ℕ → Literal) (s n j : ℕ) (p q r start : Pen) → j < n
    → put_all (literals_left f s n j) p ≡ put_all (literals_left f s n 0) start
    → q ≡ put_all (before j) p → r ≡ put_all (literal_words (f (s + j))) q
    → put_all (literals_left f s n (j + 1)) r ≡ put_all (literals_left f s n 0) start
literals_step f s n j p q r start h i e g =
    put_three (before j) (literal_words (f (s + j))) (literals_left f s n (j + 1)) p q r e g
    ∙ ap (λ (w : List ℕ). put_all w p) (sym (body_next f s n j h)) ∙ i

body_end : (f : ℕ → Literal) (s n j : ℕ) → n ≤ j → literals_left f s n j ≡ []
unfolding body_words
body_end f s n j h = ap (body_words j) (from_end f s n j h)

pub clause_said : (f : ℕ → Literal) (goal c variant flags len n j : ℕ) (p q r s : Pen) → n ≡ len → n ≤ j
    → q ≡ put_all (head_words goal variant (bit0 flags) (bit1 flags)) p
    → put_all (literals_left f (8 * c) n j) r ≡ put_all (literals_left f (8 * c) n 0) q
    → s ≡ put 10 r → s ≡ put_all (clause_words goal (clause_made f c variant flags len)) p
unfolding clause_words
clause_said f goal c variant flags len n j p q r s e h g i k =
    let said : r ≡ put_all (body_words 0 (span f (8 * c) len)) q =
    sym (put_nothing r) ∙ ap (λ (w : List ℕ). put_all w r) (sym (body_end f (8 * c) n j h)) ∙ i
    ∙ ap (λ (l : List Literal). put_all (body_words 0 l) q) (from_start f (8 * c) n)
    ∙ ap (λ (m : ℕ). put_all (body_words 0 (span f (8 * c) m)) q) e in
    put_two (head_words goal variant (bit0 flags) (bit1 flags)) (body_words 0 (span f (8 * c) len) ++ ascii "\n") p q s g
    (put_two (body_words 0 (span f (8 * c) len)) (ascii "\n") q r s said (put_one 10 r s k))

-- Clauses.

abbrev pub clauses_left : (goal : ℕ) → (ℕ → Clause) → (s n k : ℕ) → List ℕ
clauses_left goal f s n k = clauses_words goal (from f s n k)

clauses_next : (goal : ℕ) (f : ℕ → Clause) (s n k : ℕ) → k < n
    → clauses_left goal f s n k ≡ clause_words goal (f (s + k)) ++ clauses_left goal f s n (k + 1)
unfolding clauses_words
clauses_next goal f s n k h = ap (clauses_words goal) (from_next f s n k h)

clauses_end : (goal : ℕ) (f : ℕ → Clause) (s n k : ℕ) → n ≤ k → clauses_left goal f s n k ≡ []
unfolding clauses_words
clauses_end goal f s n k h = ap (clauses_words goal) (from_end f s n k h)

pub clauses_step : (goal : ℕ) (f : ℕ → Clause) (s n k : ℕ) (p q start : Pen) → k < n
    → put_all (clauses_left goal f s n k) p ≡ put_all (clauses_left goal f s n 0) start
    → q ≡ put_all (clause_words goal (f (s + k))) p
    → put_all (clauses_left goal f s n (k + 1)) q ≡ put_all (clauses_left goal f s n 0) start
clauses_step goal f s n k p q start h i e =
    put_left (clause_words goal (f (s + k))) (clauses_left goal f s n (k + 1)) p q e
    ∙ ap (λ (w : List ℕ). put_all w p) (sym (clauses_next goal f s n k h)) ∙ i

pub clauses_said : (goal : ℕ) (f : ℕ → Clause) (s t n m k : ℕ) (p q : Pen) → n ≤ k → s ≡ t → n ≡ m
    → put_all (clauses_left goal f s n k) q ≡ put_all (clauses_left goal f s n 0) p
    → q ≡ put_all (clauses_words goal (span f t m)) p
clauses_said goal f s t n m k p q h e g i =
    put_ended (clauses_left goal f s n k) (clauses_left goal f s n 0) p q (clauses_end goal f s n k h) i
    ∙ ap (λ (l : List Clause). put_all (clauses_words goal l) p) (from_start f s n)
    ∙ ap (λ (x : ℕ). put_all (clauses_words goal (span f x n)) p) e
    ∙ ap (λ (x : ℕ). put_all (clauses_words goal (span f t x)) p) g

-- Goals.

abbrev pub goals_left : (ℕ → Goal) → (n g : ℕ) → List ℕ
goals_left f n g = goals_words g (from f 0 n g)

goals_next : (f : ℕ → Goal) (n g : ℕ) → g < n → goals_left f n g ≡ goal_words g (f g) ++ goals_left f n (g + 1)
unfolding goals_words
goals_next f n g h =
    ap (goals_words g) (from_next f 0 n g h)
    ∙ ap (λ (t : ℕ). goal_words g (f t) ++ goals_words (suc g) (from f 0 n (g + 1))) (plain g)
    ∙ ap (λ (t : ℕ). goal_words g (f g) ++ goals_words t (from f 0 n (g + 1))) (suc_one g)
  where
    plain : (g : ℕ) → 0 + g ≡ g
    plain g = omega arith

    suc_one : (g : ℕ) → suc g ≡ g + 1
    suc_one g = omega arith

goals_end : (f : ℕ → Goal) (n g : ℕ) → n ≤ g → goals_left f n g ≡ []
unfolding goals_words
goals_end f n g h = ap (goals_words g) (from_end f 0 n g h)

pub goals_step : (f : ℕ → Goal) (n g : ℕ) (p q start : Pen) → g < n
    → put_all (goals_left f n g) p ≡ put_all (goals_left f n 0) start → q ≡ put_all (goal_words g (f g)) p
    → put_all (goals_left f n (g + 1)) q ≡ put_all (goals_left f n 0) start
goals_step f n g p q start h i e =
    put_left (goal_words g (f g)) (goals_left f n (g + 1)) p q e ∙ ap (λ (w : List ℕ). put_all w p) (sym (goals_next f n g h)) ∙ i

pub goals_said : (f : ℕ → Goal) (n g : ℕ) (p q : Pen) → n ≤ g
    → put_all (goals_left f n g) q ≡ put_all (goals_left f n 0) p → q ≡ put_all (goals_words 0 (span f 0 n)) p
goals_said f n g p q h i =
    put_ended (goals_left f n g) (goals_left f n 0) p q (goals_end f n g h) i
    ∙ ap (λ (l : List Goal). put_all (goals_words 0 l) p) (from_start f 0 n)

pub goal_all : (g : ℕ) (h : Goal) (p q r : Pen) → q ≡ put_all (goal_line g h.coinductive h.floundered) p
    → r ≡ put_all (clauses_words g h.clauses) q → r ≡ put_all (goal_words g h) p
unfolding goal_words
goal_all g h p q r e f = put_two (goal_line g h.coinductive h.floundered) (clauses_words g h.clauses) p q r e f

-- The clauses of a goal are clauses of the book.

pub clauses_in : (b : Book) (g : ℕ) → Formed b → g < b.goals → get_or b.goal_first g 0 + get_or b.goal_len g 0 ≤ 256
clauses_in b g s h = omega (arith, goal_within b b.goals g s.tiles h, s.few_clauses)

-- What reading gave.

pub book_said : (bytes : List ℕ) (l : Looked) (p q s : Pen) → Looks bytes (Ok l) → q ≡ put_all (goals_words 0 (view l.book)) p
    → s ≡ put_all (desk_words (repeat_seen l.repeat)) q → s ≡ put_all (paper_words bytes) p
book_said bytes l p q s x e f =
    let means = x.reads.means in
    put_two (goals_words 0 (view l.book)) (desk_words (repeat_of (Said.read bytes))) p q s e
    (f ∙ ap (λ (o : Option Desk.Repeat). put_all (desk_words o) q) x.repeats)
    ∙ ap (λ (w : List ℕ). put_all w p) (sym (append-nil (goals_words 0 (view l.book) ++ desk_words (repeat_of (Said.read bytes)))))
    ∙ ap (λ (b : Refusable Said.Book). put_all ((book_words b ++ desk_words (repeat_of (Said.read bytes)))
    ++ behind_words b (read_loosely bytes)) p) means

pub refused_said : (bytes : List ℕ) (e : Refusal) (p q s : Pen) → Looks bytes (Err e) → q ≡ put_all (refusal_words (number e)) p
    → s ≡ put_all (behind_by (number e) (read_loosely bytes)) q → s ≡ put_all (paper_words bytes) p
unfolding desk_words
refused_said bytes e p q s x f g =
    put_two (refusal_words (number e)) (behind_by (number e) (read_loosely bytes)) p q s f g
    ∙ ap (λ (w : List ℕ). put_all (w ++ behind_by (number e) (read_loosely bytes)) p) (sym (append-nil (refusal_words (number e))))
    ∙ ap (λ (b : Refusable Said.Book). put_all (reading_words b ++ behind_words b (read_loosely bytes)) p) x.reads.means
