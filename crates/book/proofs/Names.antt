-- Which goals the literals of a book name, as the book grows: the count of goals that holds all of them.
use Prim.Native.Nat.{ℕ, ◌+◌, ◌<◌, max}
use native.Mathlib.Omega.{arith}
use mathlib.Core.Path.{◌≡◌, refl, sym, ap, ◌∙◌}
use mathlib.Core.Bool.{Bool, true, false}
use mathlib.Core.List.{List, [], ◌∷◌, ◌++◌}
use lib.ListN.{length}
use lib.Dec.{ltb, leb, eqb}
use borrow.Author.Tests.{le-leb, lt-leb, ltb-true, ltb-false, leb-true, leb-false, eqb-true}
use Rattle.definitions.specs.Book.{Literal, Clause, Goal, Book, clause_count, add_clause, add_to_last, add_literal, with_clauses, goal_of}
use Rattle.definitions.specs.Book.{literals_name, clauses_name, goals_name}
use Rattle.laws.proofs.Bools.{and_then, and_then_true, and_then_assoc, and_then_swap, not_zero}

literals_append : (n : ℕ) (ls : List Literal) (l : Literal)
    → literals_name n (ls ++ (l ∷ [])) ≡ and_then (literals_name n ls) (ltb (goal_of l) n)
literals_append n [] l = and_then_true (ltb (goal_of l) n)
literals_append n (x ∷ ls) l =
    ap (and_then (ltb (goal_of x) n)) (literals_append n ls l)
    ∙ sym (and_then_assoc (ltb (goal_of x) n) (literals_name n ls) (ltb (goal_of l) n))

-- one more literal in the last clause
last_names : (n : ℕ) (l : Literal) (c : Clause) (cs : List Clause)
    → clauses_name n (add_to_last l (c ∷ cs)) ≡ and_then (clauses_name n (c ∷ cs)) (ltb (goal_of l) n)
last_names n l c [] =
    and_then_true (literals_name n (c.literals ++ (l ∷ []))) ∙ literals_append n c.literals l
    ∙ ap (λ (b : Bool). and_then b (ltb (goal_of l) n)) (sym (and_then_true (literals_name n c.literals)))
last_names n l c (d ∷ cs) =
    ap (and_then (literals_name n c.literals)) (last_names n l d cs)
    ∙ sym (and_then_assoc (literals_name n c.literals) (clauses_name n (d ∷ cs)) (ltb (goal_of l) n))

some_last : (n : ℕ) (l : Literal) (cs : List Clause) → 0 < length cs
    → clauses_name n (add_to_last l cs) ≡ and_then (clauses_name n cs) (ltb (goal_of l) n)
some_last n l [] h = absurd (omega arith)
some_last n l (c ∷ cs) h = last_names n l c cs

-- the goal that the literal goes to is the last with a clause
add_by : (n : ℕ) (l : Literal) (g : Goal) (gs : Book) (t : Bool) → eqb (clause_count gs) 0 ≡ t → 0 < clause_count (g ∷ gs)
    → (0 < clause_count gs → goals_name n (add_literal l gs) ≡ and_then (goals_name n gs) (ltb (goal_of l) n))
    → goals_name n (elim t [ true ↦ with_clauses g (add_to_last l g.clauses) ∷ gs | false ↦ g ∷ add_literal l gs ])
    ≡ and_then (goals_name n (g ∷ gs)) (ltb (goal_of l) n)
add_by n l g gs true e h ih =
    let z : clause_count gs ≡ 0 = eqb-true (clause_count gs) 0 e in
    ap (λ (b : Bool). and_then b (goals_name n gs)) (some_last n l g.clauses (omega arith))
    ∙ and_then_swap (clauses_name n g.clauses) (ltb (goal_of l) n) (goals_name n gs)
add_by n l g gs false e h ih =
    ap (and_then (clauses_name n g.clauses)) (ih (not_zero (clause_count gs) e))
    ∙ sym (and_then_assoc (clauses_name n g.clauses) (goals_name n gs) (ltb (goal_of l) n))

pub names_literal : (n : ℕ) (l : Literal) (book : Book) → 0 < clause_count book
    → goals_name n (add_literal l book) ≡ and_then (goals_name n book) (ltb (goal_of l) n)
names_literal n l [] h = absurd (omega arith)
names_literal n l (g ∷ gs) h = add_by n l g gs (eqb (clause_count gs) 0) refl h (names_literal n l gs)

clauses_append : (n : ℕ) (cs : List Clause) (c : Clause) → c.literals ≡ [] → clauses_name n (cs ++ (c ∷ [])) ≡ clauses_name n cs
clauses_append n [] c e = ap (λ (ls : List Literal). and_then (literals_name n ls) true) e
clauses_append n (x ∷ cs) c e = ap (and_then (literals_name n x.literals)) (clauses_append n cs c e)

-- a clause without literals names nothing
pub names_clause : (n : ℕ) (c : Clause) (book : Book) → c.literals ≡ [] → goals_name n (add_clause c book) ≡ goals_name n book
names_clause n c [] e = refl
names_clause n c (g ∷ []) e = ap (λ (b : Bool). and_then b true) (clauses_append n g.clauses c e)
names_clause n c (g ∷ h ∷ gs) e = ap (and_then (clauses_name n g.clauses)) (names_clause n c (h ∷ gs) e)

-- nor does a goal without clauses
pub names_goal : (n : ℕ) (g : Goal) (book : Book) → g.clauses ≡ [] → goals_name n (book ++ (g ∷ [])) ≡ goals_name n book
names_goal n g [] e = ap (λ (cs : List Clause). and_then (clauses_name n cs) true) e
names_goal n g (h ∷ gs) e = ap (and_then (clauses_name n h.clauses)) (names_goal n g gs e)

-- the count that holds all goals named so far, and one more
pub names_more : (n named g : ℕ) → leb (max named (g + 1)) n ≡ and_then (leb named n) (ltb g n)
names_more n named g = at (leb named n) (ltb g n) refl refl
  where
    at : (s t : Bool) → leb named n ≡ s → ltb g n ≡ t → leb (max named (g + 1)) n ≡ and_then s t
    at true true s t = le-leb (max named (g + 1)) n (omega (arith, leb-true named n s, ltb-true g n t))
    at true false s t = lt-leb (max named (g + 1)) n (omega (arith, ltb-false g n t))
    at false t s u = lt-leb (max named (g + 1)) n (omega (arith, leb-false named n s))
