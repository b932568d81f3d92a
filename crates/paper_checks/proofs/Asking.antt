-- What clauses ask of a level, by a book's arrays: the larger of two, a literal, and the loops over literals and clauses.
use Prim.Native.Nat.{ℕ, zero, suc, ◌+◌, ◌-◌, ◌≤◌, ◌<◌}
use native.Mathlib.Omega.{arith}
use mathlib.Core.Path.{◌≡◌, refl, sym, ap, subst, ◌∙◌}
use mathlib.Core.Bool.{Bool, true, false}
use mathlib.Core.List.{List}
use lib.ListN.{get_or}
use Rattle.std.specs.Prelude.{max}
use Rattle.laws.specs.Spans.{span}
use Rattle.laws.proofs.Spans.{span_left, span_done}
use Rattle.definitions.specs.Book as said
use Rattle.definitions.specs.Book.{bit1}
use Rattle.papers.specs.Levels.{larger, literal_asks, literals_ask, clauses_ask}
use Rattle.papers.proofs.Passes.{larger_left, larger_right, larger_most}
use Rattle.book.specs.declared.Book.{Book}
use Rattle.book.specs.declared.Literal.{Literal}
use Rattle.book.specs.View.{meant, signed, wanted, bit2}
use Rattle.book.specs.Access.{entry, literal_read}
use Rattle.book.specs.Repeats.{lent_by, clause_read}
use Rattle.paper_checks.specs.Asks.{Low, most, asked_from}

-- the library's, too
max_larger : (a b : ℕ) → max a b ≡ larger a b
max_larger a b =
    let x = larger_left a b in
    let y = larger_right a b in
    let z = larger_most a b (max a b) (omega arith) (omega arith) in
    omega arith

larger_zero : (n : ℕ) → larger 0 n ≡ n
larger_zero n =
    let x = larger_right 0 n in
    let y = larger_most 0 n n (omega arith) (omega arith) in
    omega arith

larger_none : (n : ℕ) → larger n 0 ≡ n
larger_none n =
    let x = larger_left n 0 in
    let y = larger_most n 0 n (omega arith) (omega arith) in
    omega arith

larger_assoc : (a b c : ℕ) → larger (larger a b) c ≡ larger a (larger b c)
larger_assoc a b c =
    let ab = larger_left a b in
    let ba = larger_right a b in
    let bc = larger_left b c in
    let cb = larger_right b c in
    let l = larger_left (larger a b) c in
    let r = larger_right (larger a b) c in
    let u = larger_left a (larger b c) in
    let v = larger_right a (larger b c) in
    let x = larger_most a b (larger a (larger b c)) (omega arith) (omega arith) in
    let y = larger_most b c (larger (larger a b) c) (omega arith) (omega arith) in
    let z = larger_most (larger a b) c (larger a (larger b c)) (omega arith) (omega arith) in
    let w = larger_most a (larger b c) (larger (larger a b) c) (omega arith) (omega arith) in
    omega arith

-- A literal.

module _ (levels : List ℕ) (l : Literal) where
  abbrev said_by : Bool → said.Literal
  said_by negative = signed negative l.goal (wanted (bit2 l.kind) l.want l.high) (said.bit0 l.kind)

  pub not_asks : (level : ℕ) (negative : Bool) → level ≡ get_or levels l.goal 0 → negative ≡ bit1 l.kind → negative ≡ true
      → level + 1 ≡ literal_asks levels (meant l)
  not_asks level negative e n t =
      let x : level + 1 ≡ suc (get_or levels l.goal 0) = omega arith in
      x ∙ ap (λ (b : Bool). literal_asks levels (said_by b)) (sym t ∙ n)

  pub goal_asks : (level : ℕ) (negative : Bool) → level ≡ get_or levels l.goal 0 → negative ≡ bit1 l.kind → negative ≡ false
      → level ≡ literal_asks levels (meant l)
  goal_asks level negative e n f = e ∙ ap (λ (b : Bool). literal_asks levels (said_by b)) (sym f ∙ n)

  pub level_room : (level : ℕ) → Low levels → level ≡ get_or levels l.goal 0 → level < 255
  level_room level low e = let x = low.room l.goal in omega arith

-- The loops: the most so far, and what is left.

abbrev pub MostLeft : (f : ℕ → ℕ) (i n k m X : ℕ) → Type 0
MostLeft f i n k m X = larger m (most (span f i (n - k))) ≡ X

pub most_begins : (f : ℕ → ℕ) (s n : ℕ) → MostLeft f s n 0 0 (most (span f s n))
most_begins f s n =
    let z : n - 0 ≡ n = omega arith in
    larger_zero (most (span f s (n - 0))) ∙ ap (λ (k : ℕ). most (span f s k)) z

pub most_again : (f : ℕ → ℕ) (i n k m X next : ℕ) → MostLeft f i n k m X → k < n → next ≡ larger m (f i)
    → MostLeft f (i + 1) n (k + 1) next X
most_again f i n k m X next left h e =
    ap (λ (x : ℕ). larger x (most (span f (i + 1) (n - (k + 1))))) e
    ∙ larger_assoc m (f i) (most (span f (i + 1) (n - (k + 1))))
    ∙ ap (λ (l : List ℕ). larger m (most l)) (sym (span_left f i n k h))
    ∙ left

pub most_over : (f : ℕ → ℕ) (i n k m X : ℕ) → MostLeft f i n k m X → n ≤ k → m ≡ X
most_over f i n k m X left h =
    sym (larger_none m) ∙ ap (λ (l : List ℕ). larger m (most l)) (sym (span_done f i n k h)) ∙ left

-- what the literals of a list ask is the most that one of them does; so of clauses
pub literals_most : (levels : List ℕ) (f : ℕ → said.Literal) (s n : ℕ)
    → most (span (λ j. literal_asks levels (f j)) s n) ≡ literals_ask levels (span f s n)
literals_most levels f s zero = refl
literals_most levels f s (suc n) = ap (larger (literal_asks levels (f s))) (literals_most levels f (suc s) n)

pub clauses_most : (levels : List ℕ) (f : ℕ → said.Clause) (s n : ℕ)
    → most (span (λ c. literals_ask levels (f c).literals) s n) ≡ clauses_ask levels (span f s n)
clauses_most levels f s zero = refl
clauses_most levels f s (suc n) = ap (larger (literals_ask levels (f s).literals)) (clauses_most levels f (suc s) n)

-- The literals of clause c, of which `count` are there.
module _ (levels : List ℕ) (b : Book) (c : ℕ) where
  abbrev read_at : ℕ → said.Literal
  read_at j = meant (literal_read b.literal_kind b.literal_goal b.literal_want c j)

  abbrev asks_at : ℕ → ℕ
  asks_at j = literal_asks levels (read_at j)

  abbrev all_ask : ℕ
  all_ask = literals_ask levels (clause_read (lent_by b) c).literals

  abbrev pub LiteralsLeft : (count j m : ℕ) → Type 0
  LiteralsLeft count j m = MostLeft asks_at j count j m all_ask

  pub literals_begin : (count : ℕ) → count ≡ entry 256 b.clause_len c → LiteralsLeft count 0 0
  literals_begin count e =
      most_begins asks_at 0 count ∙ literals_most levels read_at 0 count ∙ ap (λ (n : ℕ). literals_ask levels (span read_at 0 n)) e

  module _ (count j m : ℕ) (left : LiteralsLeft count j m) where
    pub literals_again : (l : Literal) (n next : ℕ) → j < count
        → l ≡ literal_read b.literal_kind b.literal_goal b.literal_want c j → n ≡ literal_asks levels (meant l)
        → next ≡ max m n → LiteralsLeft count (j + 1) next
    literals_again l n next h e q r =
        most_again asks_at j count j m all_ask next left h
        (r ∙ max_larger m n ∙ ap (larger m) (q ∙ ap (λ (x : Literal). literal_asks levels (meant x)) e))

    pub literals_over : count ≤ j → m ≡ all_ask
    literals_over h = most_over asks_at j count j m all_ask left h

-- The clauses from `first` on.
module _ (levels : List ℕ) (b : Book) (first count : ℕ) where
  abbrev clause_at : ℕ → ℕ
  clause_at c = literals_ask levels (clause_read (lent_by b) c).literals

  abbrev pub ClausesLeft : (k m : ℕ) → Type 0
  ClausesLeft k m = MostLeft clause_at (first + k) count k m (asked_from levels b first count)

  pub clauses_begin : ClausesLeft 0 0
  clauses_begin =
      let z : first + 0 ≡ first = omega arith in
      subst (λ (i : ℕ). MostLeft clause_at i count 0 0 (asked_from levels b first count)) (sym z) (most_begins clause_at first count)

  module _ (k m : ℕ) (left : ClausesLeft k m) where
    pub clauses_again : (c n next : ℕ) → k < count → c ≡ first + k → n ≡ literals_ask levels (clause_read (lent_by b) c).literals
        → next ≡ max m n → ClausesLeft (k + 1) next
    clauses_again c n next h e q r =
        let z : first + k + 1 ≡ first + (k + 1) = omega arith in
        subst (λ (i : ℕ). MostLeft clause_at i count (k + 1) next (asked_from levels b first count)) z
        (most_again clause_at (first + k) count k m (asked_from levels b first count) next left h
        (r ∙ max_larger m n ∙ ap (larger m) (q ∙ ap clause_at e)))

    pub clauses_over : count ≤ k → m ≡ asked_from levels b first count
    clauses_over h = most_over clause_at (first + k) count k m (asked_from levels b first count) left h
