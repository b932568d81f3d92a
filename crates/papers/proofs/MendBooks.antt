-- A book of which some clauses go: what a command does to it is what it does to the whole book, or nothing.
use Prim.Native.Nat.{ℕ, zero, suc, ◌+◌, ◌≤◌, ◌<◌}
use native.Mathlib.Omega.{arith}
use mathlib.Core.Path.{◌≡◌, refl, sym, ap, ap₂, ◌∙◌}
use mathlib.Core.Bool.{Bool, true, false, false≢true}
use mathlib.Core.List.{List, [], ◌∷◌}
use lib.Dec.{eqb}
use lib.Seq.{get_or-drop}
use lib.ListN.{length, drop, get_or}
use borrow.Author.Tests.{eq-eqb, ne_eqb, eqb-true, eqb-false}
use Rattle.definitions.specs.Lists.{push}
use Rattle.definitions.specs.Book.{Literal, Clause, Goal, Book, clause_count, with_clauses, add_clause, add_to_last, add_literal}
use Rattle.definitions.specs.Book.{last_literals, literals_so_far}
use Rattle.definitions.proofs.Book.{length_add_to_last}

-- clauses that stay, by a flag for each; one without a flag stays
abbrev pub stay : List Bool → List Clause → List Clause
stay ks [] = []
stay [] (c ∷ cs) = c ∷ stay [] cs
stay (true ∷ ks) (c ∷ cs) = c ∷ stay ks cs
stay (false ∷ ks) (c ∷ cs) = stay ks cs

abbrev pub staying : List Bool → Book → Book
staying ks [] = []
staying ks (g ∷ gs) = with_clauses g (stay ks g.clauses) ∷ staying (drop (length g.clauses) ks) gs

pub staying_length : (ks : List Bool) (gs : Book) → length (staying ks gs) ≡ length gs
staying_length ks [] = refl
staying_length ks (g ∷ gs) = ap suc (staying_length (drop (length g.clauses) ks) gs)

stay_fewer : (ks : List Bool) (cs : List Clause) → length (stay ks cs) ≤ length cs
stay_fewer ks [] = omega arith
stay_fewer [] (c ∷ cs) = let h = stay_fewer [] cs in omega arith
stay_fewer (true ∷ ks) (c ∷ cs) = let h = stay_fewer ks cs in omega arith
stay_fewer (false ∷ ks) (c ∷ cs) = let h = stay_fewer ks cs in omega arith

pub staying_fewer : (ks : List Bool) (gs : Book) → clause_count (staying ks gs) ≤ clause_count gs
staying_fewer ks [] = omega arith
staying_fewer ks (g ∷ gs) =
    let h = stay_fewer ks g.clauses in
    let k = staying_fewer (drop (length g.clauses) ks) gs in
    omega arith

-- A goal more.

pub staying_goal : (ks : List Bool) (gs : Book) (g : Goal) → g.clauses ≡ [] → staying ks (push gs g) ≡ push (staying ks gs) g
staying_goal ks [] g e =
    ap (λ (cs : List Clause). with_clauses g (stay ks cs) ∷ []) e ∙ ap (λ (cs : List Clause). with_clauses g cs ∷ []) (sym e)
staying_goal ks (h ∷ gs) g e =
    ap (λ (t : Book). with_clauses h (stay ks h.clauses) ∷ t) (staying_goal (drop (length h.clauses) ks) gs g e)

-- A clause more, with its flag.

stay_kept : (ks : List Bool) (cs : List Clause) (c : Clause) → get_or ks (length cs) true ≡ true → stay ks (push cs c) ≡ push (stay ks cs) c
stay_kept [] [] c e = refl
stay_kept (true ∷ ks) [] c e = refl
stay_kept (false ∷ ks) [] c e = absurd (false≢true e)
stay_kept [] (d ∷ cs) c e = ap (λ (t : List Clause). d ∷ t) (stay_kept [] cs c refl)
stay_kept (true ∷ ks) (d ∷ cs) c e = ap (λ (t : List Clause). d ∷ t) (stay_kept ks cs c e)
stay_kept (false ∷ ks) (d ∷ cs) c e = stay_kept ks cs c e

stay_gone : (ks : List Bool) (cs : List Clause) (c : Clause) → get_or ks (length cs) true ≡ false → stay ks (push cs c) ≡ stay ks cs
stay_gone [] cs c e = absurd (false≢true (sym e))
stay_gone (true ∷ ks) [] c e = absurd (false≢true (sym e))
stay_gone (false ∷ ks) [] c e = refl
stay_gone (true ∷ ks) (d ∷ cs) c e = ap (λ (t : List Clause). d ∷ t) (stay_gone ks cs c e)
stay_gone (false ∷ ks) (d ∷ cs) c e = stay_gone ks cs c e

-- the flag of a clause behind those of the first goal
flag_in : (ks : List Bool) (n m i : ℕ) (b : Bool) → get_or ks i true ≡ b → i ≡ n + m → get_or (drop n ks) m true ≡ b
flag_in ks n m i b e k = get_or-drop n ks m true ∙ ap (λ (j : ℕ). get_or ks j true) (sym k) ∙ e

pub clause_stays : (ks : List Bool) (gs : Book) (c : Clause) → get_or ks (clause_count gs) true ≡ true
    → staying ks (add_clause c gs) ≡ add_clause c (staying ks gs)
clause_stays ks [] c e = refl
clause_stays ks (g ∷ []) c e =
    let k : length g.clauses + 0 ≡ length g.clauses = omega arith in
    ap (λ (cs : List Clause). with_clauses g cs ∷ []) (stay_kept ks g.clauses c (ap (λ (j : ℕ). get_or ks j true) (sym k) ∙ e))
clause_stays ks (g ∷ h ∷ gs) c e =
    ap (λ (t : Book). with_clauses g (stay ks g.clauses) ∷ t)
    (clause_stays (drop (length g.clauses) ks) (h ∷ gs) c (flag_in ks (length g.clauses) (clause_count (h ∷ gs)) _ true e refl))

pub clause_goes : (ks : List Bool) (gs : Book) (c : Clause) → get_or ks (clause_count gs) true ≡ false
    → staying ks (add_clause c gs) ≡ staying ks gs
clause_goes ks [] c e = refl
clause_goes ks (g ∷ []) c e =
    let k : length g.clauses + 0 ≡ length g.clauses = omega arith in
    ap (λ (cs : List Clause). with_clauses g cs ∷ []) (stay_gone ks g.clauses c (ap (λ (j : ℕ). get_or ks j true) (sym k) ∙ e))
clause_goes ks (g ∷ h ∷ gs) c e =
    ap (λ (t : Book). with_clauses g (stay ks g.clauses) ∷ t)
    (clause_goes (drop (length g.clauses) ks) (h ∷ gs) c (flag_in ks (length g.clauses) (clause_count (h ∷ gs)) _ false e refl))

-- A literal more, of the last clause, whose number is i.

stay_some : (ks : List Bool) (cs : List Clause) (i : ℕ) → length cs ≡ suc i → get_or ks i true ≡ true → 0 < length (stay ks cs)
stay_some ks [] i h e = absurd (omega arith)
stay_some [] (c ∷ cs) i h e = omega arith
stay_some (true ∷ ks) (c ∷ cs) i h e = omega arith
stay_some (false ∷ ks) (c ∷ cs) zero h e = absurd (false≢true e)
stay_some (false ∷ ks) (c ∷ cs) (suc i) h e = stay_some ks cs i (omega arith) e

last_behind : (l : Literal) (c : Clause) (cs : List Clause) → 0 < length cs → add_to_last l (c ∷ cs) ≡ c ∷ add_to_last l cs
last_behind l c [] h = absurd (omega arith)
last_behind l c (d ∷ cs) h = refl

stay_literal : (ks : List Bool) (cs : List Clause) (l : Literal) (i : ℕ) → length cs ≡ suc i → get_or ks i true ≡ true
    → stay ks (add_to_last l cs) ≡ add_to_last l (stay ks cs)
stay_literal ks [] l i h e = absurd (omega arith)
stay_literal [] (c ∷ []) l i h e = refl
stay_literal (true ∷ ks) (c ∷ []) l i h e = refl
stay_literal (false ∷ ks) (c ∷ []) l zero h e = absurd (false≢true e)
stay_literal (false ∷ ks) (c ∷ []) l (suc i) h e = absurd (omega arith)
stay_literal ks (c ∷ d ∷ cs) l zero h e = absurd (omega arith)
stay_literal [] (c ∷ d ∷ cs) l (suc i) h e = ap (λ (t : List Clause). c ∷ t) (stay_literal [] (d ∷ cs) l i (omega arith) refl)
stay_literal (true ∷ ks) (c ∷ d ∷ cs) l (suc i) h e =
    ap (λ (t : List Clause). c ∷ t) (stay_literal ks (d ∷ cs) l i (omega arith) e)
    ∙ sym (last_behind l c (stay ks (d ∷ cs)) (stay_some ks (d ∷ cs) i (omega arith) e))
stay_literal (false ∷ ks) (c ∷ d ∷ cs) l (suc i) h e = stay_literal ks (d ∷ cs) l i (omega arith) e

stay_no_literal : (ks : List Bool) (cs : List Clause) (l : Literal) (i : ℕ) → length cs ≡ suc i → get_or ks i true ≡ false
    → stay ks (add_to_last l cs) ≡ stay ks cs
stay_no_literal ks [] l i h e = refl
stay_no_literal [] (c ∷ cs) l i h e = absurd (false≢true (sym e))
stay_no_literal (true ∷ ks) (c ∷ []) l zero h e = absurd (false≢true (sym e))
stay_no_literal (false ∷ ks) (c ∷ []) l zero h e = refl
stay_no_literal (k ∷ ks) (c ∷ []) l (suc i) h e = absurd (omega arith)
stay_no_literal (k ∷ ks) (c ∷ d ∷ cs) l zero h e = absurd (omega arith)
stay_no_literal (true ∷ ks) (c ∷ d ∷ cs) l (suc i) h e = ap (λ (t : List Clause). c ∷ t) (stay_no_literal ks (d ∷ cs) l i (omega arith) e)
stay_no_literal (false ∷ ks) (c ∷ d ∷ cs) l (suc i) h e = stay_no_literal ks (d ∷ cs) l i (omega arith) e

stay_last : (ks : List Bool) (cs : List Clause) (i : ℕ) → length cs ≡ suc i → get_or ks i true ≡ true
    → last_literals (stay ks cs) ≡ last_literals cs
stay_last ks [] i h e = refl
stay_last [] (c ∷ []) i h e = refl
stay_last (true ∷ ks) (c ∷ []) i h e = refl
stay_last (false ∷ ks) (c ∷ []) zero h e = absurd (false≢true e)
stay_last (false ∷ ks) (c ∷ []) (suc i) h e = absurd (omega arith)
stay_last ks (c ∷ d ∷ cs) zero h e = absurd (omega arith)
stay_last [] (c ∷ d ∷ cs) (suc i) h e = stay_last [] (d ∷ cs) i (omega arith) refl
stay_last (true ∷ ks) (c ∷ d ∷ cs) (suc i) h e =
    behind c (stay ks (d ∷ cs)) (stay_some ks (d ∷ cs) i (omega arith) e) ∙ stay_last ks (d ∷ cs) i (omega arith) e
  where
    behind : (c : Clause) (cs : List Clause) → 0 < length cs → last_literals (c ∷ cs) ≡ last_literals cs
    behind c [] h = absurd (omega arith)
    behind c (d ∷ cs) h = refl
stay_last (false ∷ ks) (c ∷ d ∷ cs) (suc i) h e = stay_last ks (d ∷ cs) i (omega arith) e

-- In a book the last clause is in the first goal, or behind it.

record Behind (n m i : ℕ) : Type 0 where
  rest : ℕ
  many : m ≡ suc rest
  place : i ≡ n + rest

behind_first : (n m i : ℕ) → n + m ≡ suc i → (m ≡ 0 → ⊥) → Behind n m i
behind_first n zero i h z = absurd (z refl)
behind_first n (suc m) i h z = record { rest = m; many = refl; place = omega arith }

pub staying_some : (ks : List Bool) (gs : Book) (i : ℕ) → clause_count gs ≡ suc i → get_or ks i true ≡ true
    → 0 < clause_count (staying ks gs)
staying_some ks [] i h e = absurd (omega arith)
staying_some ks (g ∷ gs) i h e = on (eqb (clause_count gs) 0) refl (staying_some (drop (length g.clauses) ks) gs)
  where
    on : (b : Bool) → eqb (clause_count gs) 0 ≡ b
        → ((j : ℕ) → clause_count gs ≡ suc j → get_or (drop (length g.clauses) ks) j true ≡ true
        → 0 < clause_count (staying (drop (length g.clauses) ks) gs))
        → 0 < clause_count (staying ks (g ∷ gs))
    on true z f =
        let z0 = eqb-true (clause_count gs) 0 z in
        let x = stay_some ks g.clauses i (omega arith) e in
        omega arith
    on false z f =
        let b = behind_first (length g.clauses) (clause_count gs) i h (eqb-false (clause_count gs) 0 z) in
        let x = f b.rest b.many (flag_in ks (length g.clauses) b.rest i true e b.place) in
        omega arith

pub literal_stays : (ks : List Bool) (gs : Book) (l : Literal) (i : ℕ) → clause_count gs ≡ suc i → get_or ks i true ≡ true
    → staying ks (add_literal l gs) ≡ add_literal l (staying ks gs)
literal_stays ks [] l i h e = refl
literal_stays ks (g ∷ gs) l i h e = on (eqb (clause_count gs) 0) refl (literal_stays (drop (length g.clauses) ks) gs l)
  where
    on : (b : Bool) → eqb (clause_count gs) 0 ≡ b
        → ((j : ℕ) → clause_count gs ≡ suc j → get_or (drop (length g.clauses) ks) j true ≡ true
        → staying (drop (length g.clauses) ks) (add_literal l gs) ≡ add_literal l (staying (drop (length g.clauses) ks) gs))
        → staying ks (elim b [ true ↦ with_clauses g (add_to_last l g.clauses) ∷ gs | false ↦ g ∷ add_literal l gs ])
        ≡ add_literal l (staying ks (g ∷ gs))
    on true z f =
        let z0 = eqb-true (clause_count gs) 0 z in
        let k = staying_fewer (drop (length g.clauses) ks) gs in
        let none_left : eqb (clause_count (staying (drop (length g.clauses) ks) gs)) 0 ≡ true
        = eq-eqb (clause_count (staying (drop (length g.clauses) ks) gs)) 0 (omega arith) in
        ap₂ (λ (cs : List Clause) (n : ℕ). with_clauses g cs ∷ staying (drop n ks) gs)
        (stay_literal ks g.clauses l i (omega arith) e) (length_add_to_last l g.clauses)
        ∙ sym (ap (λ (b : Bool). elim b [
          | true ↦ with_clauses g (add_to_last l (stay ks g.clauses)) ∷ staying (drop (length g.clauses) ks) gs
          | false ↦ with_clauses g (stay ks g.clauses) ∷ add_literal l (staying (drop (length g.clauses) ks) gs)
        ]) none_left)
    on false z f =
        let b = behind_first (length g.clauses) (clause_count gs) i h (eqb-false (clause_count gs) 0 z) in
        let flag = flag_in ks (length g.clauses) b.rest i true e b.place in
        let x = staying_some (drop (length g.clauses) ks) gs b.rest b.many flag in
        ap (λ (t : Book). with_clauses g (stay ks g.clauses) ∷ t) (f b.rest b.many flag)
        ∙ sym (ap (λ (b : Bool). elim b [
          | true ↦ with_clauses g (add_to_last l (stay ks g.clauses)) ∷ staying (drop (length g.clauses) ks) gs
          | false ↦ with_clauses g (stay ks g.clauses) ∷ add_literal l (staying (drop (length g.clauses) ks) gs)
        ]) (ne_eqb (clause_count (staying (drop (length g.clauses) ks) gs)) 0 (λ w. omega arith)))

pub literal_goes : (ks : List Bool) (gs : Book) (l : Literal) (i : ℕ) → clause_count gs ≡ suc i → get_or ks i true ≡ false
    → staying ks (add_literal l gs) ≡ staying ks gs
literal_goes ks [] l i h e = refl
literal_goes ks (g ∷ gs) l i h e = on (eqb (clause_count gs) 0) refl (literal_goes (drop (length g.clauses) ks) gs l)
  where
    on : (b : Bool) → eqb (clause_count gs) 0 ≡ b
        → ((j : ℕ) → clause_count gs ≡ suc j → get_or (drop (length g.clauses) ks) j true ≡ false
        → staying (drop (length g.clauses) ks) (add_literal l gs) ≡ staying (drop (length g.clauses) ks) gs)
        → staying ks (elim b [ true ↦ with_clauses g (add_to_last l g.clauses) ∷ gs | false ↦ g ∷ add_literal l gs ])
        ≡ staying ks (g ∷ gs)
    on true z f =
        let z0 = eqb-true (clause_count gs) 0 z in
        ap₂ (λ (cs : List Clause) (n : ℕ). with_clauses g cs ∷ staying (drop n ks) gs)
        (stay_no_literal ks g.clauses l i (omega arith) e) (length_add_to_last l g.clauses)
    on false z f =
        let b = behind_first (length g.clauses) (clause_count gs) i h (eqb-false (clause_count gs) 0 z) in
        ap (λ (t : Book). with_clauses g (stay ks g.clauses) ∷ t)
        (f b.rest b.many (flag_in ks (length g.clauses) b.rest i false e b.place))

pub last_stays : (ks : List Bool) (gs : Book) (i : ℕ) → clause_count gs ≡ suc i → get_or ks i true ≡ true
    → literals_so_far (staying ks gs) ≡ literals_so_far gs
last_stays ks [] i h e = refl
last_stays ks (g ∷ gs) i h e = on (eqb (clause_count gs) 0) refl (last_stays (drop (length g.clauses) ks) gs)
  where
    on : (b : Bool) → eqb (clause_count gs) 0 ≡ b
        → ((j : ℕ) → clause_count gs ≡ suc j → get_or (drop (length g.clauses) ks) j true ≡ true
        → literals_so_far (staying (drop (length g.clauses) ks) gs) ≡ literals_so_far gs)
        → literals_so_far (staying ks (g ∷ gs)) ≡ elim b [ true ↦ last_literals g.clauses | false ↦ literals_so_far gs ]
    on true z f =
        let z0 = eqb-true (clause_count gs) 0 z in
        let k = staying_fewer (drop (length g.clauses) ks) gs in
        ap (λ (b : Bool). elim b [
          | true ↦ last_literals (stay ks g.clauses)
          | false ↦ literals_so_far (staying (drop (length g.clauses) ks) gs)
        ]) (eq-eqb (clause_count (staying (drop (length g.clauses) ks) gs)) 0 (omega arith))
        ∙ stay_last ks g.clauses i (omega arith) e
    on false z f =
        let b = behind_first (length g.clauses) (clause_count gs) i h (eqb-false (clause_count gs) 0 z) in
        let flag = flag_in ks (length g.clauses) b.rest i true e b.place in
        let x = staying_some (drop (length g.clauses) ks) gs b.rest b.many flag in
        ap (λ (b : Bool). elim b [
          | true ↦ last_literals (stay ks g.clauses)
          | false ↦ literals_so_far (staying (drop (length g.clauses) ks) gs)
        ]) (ne_eqb (clause_count (staying (drop (length g.clauses) ks) gs)) 0 (λ w. omega arith))
        ∙ f b.rest b.many flag
