-- What one goal, clause or literal more does to a book so far: its goals, its clauses, and the literals of its last clause. And a command
-- that was accepted had its operands.
use Prim.Native.Nat.{ℕ, zero, suc, ◌+◌, ◌<◌}
use native.Mathlib.Omega.{arith}
use mathlib.Core.Bool.{Bool, true, false}
use mathlib.Core.Path.{◌≡◌, refl, sym, ap, ◌∙◌}
use mathlib.Core.List.{List, [], ◌∷◌, ◌++◌}
use lib.ListN.{length, length-append}
use lib.Dec.{eqb, ltb}
use borrow.Author.Tests.{eq-eqb, ne_eqb, eqb-true, le-ltb}
use Rattle.laws.proofs.Bools.{not_zero}
use Rattle.definitions.specs.Refusal.{refused, accepted}
use Rattle.definitions.specs.Book.{low, high, want_of, Literal, Clause, Goal, Book, clause_count, with_clauses, with_literals}
use Rattle.definitions.specs.Book.{add_clause, add_to_last, add_literal, last_literals, literals_so_far}
use Rattle.definitions.specs.Book.{Command, width, byte, u16, bit0, bit1, apply_command, whole_command}
use Rattle.definitions.proofs.Refusal.{not_accepted}

-- what 50 wants is no range whose ends are crossed
pub want_straight : (v : ℕ) → ltb (high (want_of v)) (low (want_of v)) ≡ false
want_straight zero = refl
want_straight (suc v) = le-ltb (suc v) (suc v) (omega arith)

pub clause_count_append : (gs hs : Book) → clause_count (gs ++ hs) ≡ clause_count gs + clause_count hs
clause_count_append [] hs = omega arith
clause_count_append (g ∷ gs) hs = omega (arith, clause_count_append gs hs)

-- a goal after which no clause comes, and another
literals_here : (g : Goal) (gs : Book) → eqb (clause_count gs) 0 ≡ true → literals_so_far (g ∷ gs) ≡ last_literals g.clauses
literals_here g gs e = rw (e, literals_so_far)

literals_below : (g : Goal) (gs : Book) → eqb (clause_count gs) 0 ≡ false → literals_so_far (g ∷ gs) ≡ literals_so_far gs
literals_below g gs e = rw (e, literals_so_far)

-- A goal more.

-- a goal with no clause changes neither the clauses nor the last clause's literals
pub clause_count_goal : (book : Book) (g : Goal) → length g.clauses ≡ 0 → clause_count (book ++ (g ∷ [])) ≡ clause_count book
clause_count_goal book g e = omega (arith, clause_count_append book (g ∷ []))

last_literals_none : (cs : List Clause) → length cs ≡ 0 → last_literals cs ≡ 0
last_literals_none [] e = refl
last_literals_none (c ∷ cs) e = absurd (omega arith)

-- where there is no clause there is no literal
pub literals_none : (book : Book) → clause_count book ≡ 0 → literals_so_far book ≡ 0
literals_none [] e = refl
literals_none (g ∷ gs) e = literals_here g gs (eq-eqb (clause_count gs) 0 (omega arith)) ∙ last_literals_none g.clauses (omega arith)

pub literals_so_far_goal : (book : Book) (g : Goal) → length g.clauses ≡ 0 → literals_so_far (book ++ (g ∷ [])) ≡ literals_so_far book
literals_so_far_goal [] g e = last_literals_none g.clauses e
literals_so_far_goal (h ∷ book) g e =
    ap (λ (n : ℕ). elim (eqb n 0) as (λ b. ℕ) [ true ↦ last_literals h.clauses | false ↦ literals_so_far (book ++ (g ∷ [])) ])
    (clause_count_goal book g e)
    ∙ ap (λ (n : ℕ). elim (eqb (clause_count book) 0) as (λ b. ℕ) [ true ↦ last_literals h.clauses | false ↦ n ])
    (literals_so_far_goal book g e)

-- A clause more.

pub length_add_clause : (c : Clause) (book : Book) → length (add_clause c book) ≡ length book
length_add_clause c [] = refl
length_add_clause c (g ∷ []) = refl
length_add_clause c (g ∷ h ∷ gs) = ap suc (length_add_clause c (h ∷ gs))

pub clause_count_add_clause : (c : Clause) (book : Book) → 0 < length book → clause_count (add_clause c book) ≡ suc (clause_count book)
clause_count_add_clause c [] h = absurd (omega arith)
clause_count_add_clause c (g ∷ []) h = omega (arith, length-append g.clauses (c ∷ []))
clause_count_add_clause c (g ∷ i ∷ gs) h = omega (arith, clause_count_add_clause c (i ∷ gs) (omega arith))

pub add_clause_last : (c : Clause) (gs : Book) (g : Goal)
    → add_clause c (gs ++ (g ∷ [])) ≡ gs ++ (with_clauses g (g.clauses ++ (c ∷ [])) ∷ [])
add_clause_last c [] g = refl
add_clause_last c (h ∷ []) g = refl
add_clause_last c (h ∷ i ∷ gs) g = ap (λ (l : Book). h ∷ l) (add_clause_last c (i ∷ gs) g)

-- A literal more.

pub length_add_to_last : (l : Literal) (cs : List Clause) → length (add_to_last l cs) ≡ length cs
length_add_to_last l [] = refl
length_add_to_last l (c ∷ []) = refl
length_add_to_last l (c ∷ d ∷ cs) = ap suc (length_add_to_last l (d ∷ cs))

last_literals_add_to_last : (l : Literal) (cs : List Clause) → 0 < length cs → last_literals (add_to_last l cs) ≡ suc (last_literals cs)
last_literals_add_to_last l [] h = absurd (omega arith)
last_literals_add_to_last l (c ∷ []) h = omega (arith, length-append c.literals (l ∷ []))
last_literals_add_to_last l (c ∷ d ∷ []) h = last_literals_add_to_last l (d ∷ []) (omega arith)
last_literals_add_to_last l (c ∷ d ∷ e ∷ cs) h = last_literals_add_to_last l (d ∷ e ∷ cs) (omega arith)

pub add_to_last_last : (l : Literal) (cs : List Clause) (c : Clause)
    → add_to_last l (cs ++ (c ∷ [])) ≡ cs ++ (with_literals c (c.literals ++ (l ∷ [])) ∷ [])
add_to_last_last l [] c = refl
add_to_last_last l (d ∷ []) c = refl
add_to_last_last l (d ∷ e ∷ cs) c = ap (λ (k : List Clause). d ∷ k) (add_to_last_last l (e ∷ cs) c)

pub last_literals_last : (cs : List Clause) (c : Clause) → last_literals (cs ++ (c ∷ [])) ≡ length c.literals
last_literals_last [] c = refl
last_literals_last (d ∷ []) c = refl
last_literals_last (d ∷ e ∷ cs) c = last_literals_last (e ∷ cs) c

add_here : (l : Literal) (g : Goal) (gs : Book) → eqb (clause_count gs) 0 ≡ true
    → add_literal l (g ∷ gs) ≡ with_clauses g (add_to_last l g.clauses) ∷ gs
add_here l g gs e = rw (e, add_literal)

add_below : (l : Literal) (g : Goal) (gs : Book) → eqb (clause_count gs) 0 ≡ false → add_literal l (g ∷ gs) ≡ g ∷ add_literal l gs
add_below l g gs e = rw (e, add_literal)

-- a literal changes the last clause alone
pub record Added (l : Literal) (book : Book) : Type 0 where
  pub same_goals : length (add_literal l book) ≡ length book
  pub same_clauses : clause_count (add_literal l book) ≡ clause_count book
  pub one_more : 0 < clause_count book → literals_so_far (add_literal l book) ≡ suc (literals_so_far book)

added_by : (l : Literal) (g : Goal) (gs : Book) (t : Bool) → eqb (clause_count gs) 0 ≡ t → Added l gs → Added l (g ∷ gs)
added_by l g gs true e a =
    let none : clause_count gs ≡ 0 = eqb-true (clause_count gs) 0 e in
    let here : Goal = with_clauses g (add_to_last l g.clauses) in
    record {
      same_goals = ap length (add_here l g gs e);
      same_clauses = ap clause_count (add_here l g gs e) ∙ ap (λ (n : ℕ). n + clause_count gs) (length_add_to_last l g.clauses);
      one_more = λ h. ap literals_so_far (add_here l g gs e) ∙ literals_here here gs e
          ∙ last_literals_add_to_last l g.clauses (omega arith) ∙ ap suc (sym (literals_here g gs e));
    }
added_by l g gs false e a =
    let some : 0 < clause_count gs = not_zero (clause_count gs) e in
    record {
      same_goals = ap length (add_below l g gs e) ∙ ap suc a.same_goals;
      same_clauses = ap clause_count (add_below l g gs e) ∙ ap (λ (n : ℕ). length g.clauses + n) a.same_clauses;
      one_more = λ h. ap literals_so_far (add_below l g gs e)
          ∙ literals_below g (add_literal l gs) (ap (λ (n : ℕ). eqb n 0) a.same_clauses ∙ e)
          ∙ a.one_more some ∙ ap suc (sym (literals_below g gs e));
    }

pub added : (l : Literal) (book : Book) → Added l book
added l [] = record { same_goals = refl; same_clauses = refl; one_more = λ h. absurd (omega arith) }
added l (g ∷ gs) = added_by l g gs (eqb (clause_count gs) 0) refl (added l gs)

-- The last goal has a clause.

-- a book that ends in a goal with a clause has one
pub ends_in_clause : (gs : Book) (g : Goal) → 0 < length g.clauses → eqb (clause_count (gs ++ (g ∷ []))) 0 ≡ false
ends_in_clause gs g h = ne_eqb (clause_count (gs ++ (g ∷ []))) 0 (λ e. omega (arith, clause_count_append gs (g ∷ [])))

pub add_literal_last : (l : Literal) (gs : Book) (g : Goal) → 0 < length g.clauses
    → add_literal l (gs ++ (g ∷ [])) ≡ gs ++ (with_clauses g (add_to_last l g.clauses) ∷ [])
add_literal_last l [] g h = refl
add_literal_last l (i ∷ gs) g h = rw (ends_in_clause gs g h, add_literal) (ap (λ (k : Book). i ∷ k) (add_literal_last l gs g h))

pub literals_so_far_last : (gs : Book) (g : Goal) → 0 < length g.clauses → literals_so_far (gs ++ (g ∷ [])) ≡ last_literals g.clauses
literals_so_far_last [] g h = refl
literals_so_far_last (i ∷ gs) g h = rw (ends_in_clause gs g h, literals_so_far) (literals_so_far_last gs g h)

-- Commands.

-- the clause of a command 43, by its operands
abbrev pub new_clause : List ℕ → Clause
new_clause os = record { variant = u16 os 0; cannot_prove = bit0 (byte os 2); outsized = bit1 (byte os 2); literals = [] }

pub applied : (c : Command) (bs : List ℕ) (book next : Book) → whole_command c bs book ≡ accepted next
    → apply_command c bs book ≡ accepted next
applied c bs book next e = on (ltb (length bs) (width c)) e
  where
    on : (short : Bool) → elim short [ true ↦ refused 1 | false ↦ apply_command c bs book ] ≡ accepted next
        → apply_command c bs book ≡ accepted next
    on true f = absurd (not_accepted f)
    on false f = f
