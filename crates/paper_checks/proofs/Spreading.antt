-- The passes, by a book's arrays: by which goal a literal, a clause and a goal are spoilt. A goal that spoils is below 64.
use Prim.Native.Nat.{ℕ, zero, suc, ◌+◌, ◌≤◌, ◌<◌}
use native.Mathlib.Omega.{arith}
use mathlib.Core.Path.{◌≡◌, refl, sym, ap, subst, ◌∙◌}
use mathlib.Core.Option.{Option, none, some}
use mathlib.Core.List.{List, [], ◌∷◌}
use lib.ListN.{length, get_or, get_or-map, get_or-eq_default}
use Rattle.std.specs.declared.option.Option as found
use Rattle.std.proofs.Common.{Some, None}
use Rattle.laws.specs.Spans.{span}
use Rattle.definitions.specs.Book as said
use Rattle.definitions.specs.Book.{goal_of}
use Rattle.papers.specs.NotPlain.{or_else, first_from}
use Rattle.papers.specs.Spoilt.{spoil, spoiler_in, literals_spoilt, clauses_spoilt, by_itself, by_themselves, pass_from, spoilers_after}
use Rattle.book.specs.declared.Book.{Book}
use Rattle.book.specs.declared.Literal.{Literal}
use Rattle.book.specs.View.{meant}
use Rattle.book.specs.Access.{entry, literal_read}
use Rattle.book.specs.Repeats.{lent_by, clause_read}
use Rattle.paper_checks.specs.declared.Spoiler.{Spoiler}
use Rattle.paper_checks.specs.Spoilers.{by_told, by_seen, nothing, known, passed_read}
use Rattle.paper_checks.proofs.Members.{goal_of_meant}
use Rattle.paper_checks.proofs.Firsts.{FirstLeft, first_begins, told_first, told_other, told_again, told_found, told_over}

abbrev same : ℕ → ℕ
same g = g

-- it is below 64
abbrev pub Few : Option ℕ → Type 0
Few none = Unit {0}
Few (some g) = g < 64

few_or : (o p : Option ℕ) → Few o → Few p → Few (or_else o p)
few_or none p a b = b
few_or (some g) p a b = a

module _ (ss : List (Option ℕ)) (few : (g : ℕ) → Few (spoiler_in ss g)) where
  few_literals : (ls : List said.Literal) → Few (literals_spoilt ss ls)
  few_literals [] = tt
  few_literals (l ∷ ls) = few_or (spoiler_in ss (goal_of l)) (literals_spoilt ss ls) (few (goal_of l)) (few_literals ls)

  few_clauses : (cs : List said.Clause) → Few (clauses_spoilt ss cs)
  few_clauses [] = tt
  few_clauses (c ∷ cs) = few_or (literals_spoilt ss c.literals) (clauses_spoilt ss cs) (few_literals c.literals) (few_clauses cs)

  few_passed : (g : ℕ) (hs : List said.Goal) (i : ℕ) → Few (spoiler_in (pass_from ss g hs) i)
  few_passed g [] i = tt
  few_passed g (h ∷ hs) zero = few_or (spoiler_in ss g) (clauses_spoilt ss h.clauses) (few g) (few_clauses h.clauses)
  few_passed g (h ∷ hs) (suc i) = few_passed (suc g) hs i

few_themselves : (g : ℕ) (hs : List said.Goal) → g + length hs ≤ 64 → (i : ℕ) → Few (spoiler_in (by_themselves g hs) i)
few_themselves g [] e i = tt
few_themselves g (h ∷ hs) e zero = on (spoil h)
  where
    on : (o : Option _) → Few (by_itself g o)
    on none = tt
    on (some s) = omega arith
few_themselves g (h ∷ hs) e (suc i) = few_themselves (suc g) hs (omega arith) i

-- A GOAL THAT SPOILS IS BELOW 64, in a book of at most 64 goals.
pub few_after : (n : ℕ) (book : said.Book) → length book ≤ 64 → (g : ℕ) → Few (spoiler_in (spoilers_after n book) g)
few_after zero book e g = few_themselves 0 book (omega arith) g
few_after (suc n) book e g = few_passed (spoilers_after n book) (λ i. few_after n book e i) 0 book g

-- What is known by an array.

pub spoiler_get_or : (ss : List (Option ℕ)) (g : ℕ) → spoiler_in ss g ≡ get_or ss g none
spoiler_get_or [] g = refl
spoiler_get_or (o ∷ ss) zero = refl
spoiler_get_or (o ∷ ss) (suc g) = spoiler_get_or ss g

pub known_at : (l : List Spoiler) (g : ℕ) → spoiler_in (known l) g ≡ by_seen (get_or l g nothing).by
known_at l g = spoiler_get_or (known l) g ∙ get_or-map (λ (s : Spoiler). by_seen s.by) l g nothing

by_back : (o : found.Option ℕ) → o ≡ by_told (by_seen o)
by_back None = refl
by_back (Some g) = refl

pub seen_back : (o : Option ℕ) → by_seen (by_told o) ≡ o
seen_back none = refl
seen_back (some g) = refl

pub by_there : (l : List Spoiler) (g : ℕ) → (get_or l g nothing).by ≡ by_told (spoiler_in (known l) g)
by_there l g = by_back (get_or l g nothing).by ∙ ap by_told (sym (known_at l g))

pub by_past : (l : List Spoiler) (g : ℕ) → length l ≡ 64 → 64 ≤ g → None ≡ by_told (spoiler_in (known l) g)
by_past l g w h =
    ap (λ (s : Spoiler). s.by) (sym (get_or-eq_default l nothing {n = g} (omega (arith, w)))) ∙ by_there l g

-- The loops.

literals_first : (ss : List (Option ℕ)) (k : ℕ) (ls : List said.Literal)
    → first_from (λ (j : ℕ) (l : said.Literal). spoiler_in ss (goal_of l)) k ls ≡ literals_spoilt ss ls
literals_first ss k [] = refl
literals_first ss k (l ∷ ls) = ap (or_else (spoiler_in ss (goal_of l))) (literals_first ss (suc k) ls)

clauses_first : (ss : List (Option ℕ)) (k : ℕ) (cs : List said.Clause)
    → first_from (λ (j : ℕ) (c : said.Clause). literals_spoilt ss c.literals) k cs ≡ clauses_spoilt ss cs
clauses_first ss k [] = refl
clauses_first ss k (c ∷ cs) = ap (or_else (literals_spoilt ss c.literals)) (clauses_first ss (suc k) cs)

-- The literals of clause c.
module _ (l : List Spoiler) (b : Book) (c : ℕ) where
  abbrev read_at : ℕ → said.Literal
  read_at j = meant (literal_read b.literal_kind b.literal_goal b.literal_want c j)

  abbrev literal_spoilt : ℕ → said.Literal → Option ℕ
  literal_spoilt j m = spoiler_in (known l) (goal_of m)

  abbrev in_clause_c : Option ℕ
  in_clause_c = literals_spoilt (known l) (clause_read (lent_by b) c).literals

  abbrev pub LiteralsLeft : (count j : ℕ) → Type 0
  LiteralsLeft count j = FirstLeft literal_spoilt read_at j count j in_clause_c

  pub literals_begin : (count : ℕ) → count ≡ entry 256 b.clause_len c → LiteralsLeft count 0
  literals_begin count e =
      first_begins literal_spoilt read_at 0 count ∙ ap (λ (n : ℕ). first_from literal_spoilt 0 (span read_at 0 n)) e
      ∙ literals_first (known l) 0 (clause_read (lent_by b) c).literals

  module _ (count j : ℕ) (left : LiteralsLeft count j) where
    module _ (m : Literal) (lt : j < count) (e : m ≡ literal_read b.literal_kind b.literal_goal b.literal_want c j) where
      told_of : (r : found.Option ℕ) → r ≡ by_told (spoiler_in (known l) m.goal) → r ≡ by_told (literal_spoilt j (read_at j))
      told_of r q =
          q ∙ ap (λ (g : ℕ). by_told (spoiler_in (known l) g)) (sym (goal_of_meant m) ∙ ap (λ (x : Literal). goal_of (meant x)) e)

      pub literals_again : None ≡ by_told (spoiler_in (known l) m.goal) → LiteralsLeft count (j + 1)
      literals_again q = told_again same literal_spoilt read_at j count j in_clause_c left lt (told_of None q)

      pub literal_found : (by : ℕ) → Some by ≡ by_told (spoiler_in (known l) m.goal) → Some by ≡ by_told in_clause_c
      literal_found by q = told_found same literal_spoilt read_at j count j in_clause_c left by lt (told_of (Some by) q)

    pub literals_over : count ≤ j → None ≡ by_told in_clause_c
    literals_over h = told_over same literal_spoilt read_at j count j in_clause_c left h

-- The clauses of a goal, from `first` on.
module _ (l : List Spoiler) (b : Book) (first count : ℕ) where
  abbrev clause_spoilt : ℕ → said.Clause → Option ℕ
  clause_spoilt k c = literals_spoilt (known l) c.literals

  abbrev in_clauses : Option ℕ
  in_clauses = clauses_spoilt (known l) (span (clause_read (lent_by b)) first count)

  abbrev pub ClausesLeft : (k : ℕ) → Type 0
  ClausesLeft k = FirstLeft clause_spoilt (clause_read (lent_by b)) (first + k) count k in_clauses

  pub clauses_begin : ClausesLeft 0
  clauses_begin =
      let z : first + 0 ≡ first = omega arith in
      subst (λ (i : ℕ). FirstLeft clause_spoilt (clause_read (lent_by b)) i count 0 in_clauses) (sym z)
      (first_begins clause_spoilt (clause_read (lent_by b)) first count
      ∙ clauses_first (known l) 0 (span (clause_read (lent_by b)) first count))

  module _ (k : ℕ) (left : ClausesLeft k) where
    abbrev here : Option ℕ
    here = literals_spoilt (known l) (clause_read (lent_by b) (first + k)).literals

    pub clauses_again : k < count → None ≡ by_told here → ClausesLeft (k + 1)
    clauses_again lt q =
        let z : first + k + 1 ≡ first + (k + 1) = omega arith in
        subst (λ (i : ℕ). FirstLeft clause_spoilt (clause_read (lent_by b)) i count (k + 1) in_clauses) z
        (told_again same clause_spoilt (clause_read (lent_by b)) (first + k) count k in_clauses left lt q)

    pub clause_found : (by : ℕ) → k < count → Some by ≡ by_told here → Some by ≡ by_told in_clauses
    clause_found by lt q = told_found same clause_spoilt (clause_read (lent_by b)) (first + k) count k in_clauses left by lt q

    pub clauses_over : count ≤ k → None ≡ by_told in_clauses
    clauses_over h = told_over same clause_spoilt (clause_read (lent_by b)) (first + k) count k in_clauses left h

-- A goal.
module _ (l : List Spoiler) (b : Book) (g first count : ℕ) where
  abbrev by_clauses : Option ℕ
  by_clauses = clauses_spoilt (known l) (span (clause_read (lent_by b)) first count)

  pub spoilt_before : (by : ℕ) → Some by ≡ by_told (spoiler_in (known l) g) → Some by ≡ by_told (passed_read b (known l) g first count)
  spoilt_before by q = told_first same (spoiler_in (known l) g) by_clauses by q

  pub spoilt_now : (r : found.Option ℕ) → None ≡ by_told (spoiler_in (known l) g) → r ≡ by_told by_clauses
      → r ≡ by_told (passed_read b (known l) g first count)
  spoilt_now r q e = told_other same (spoiler_in (known l) g) by_clauses r q e
