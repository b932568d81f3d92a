-- Why a clause goes, in plain words: it has 6 exactly if a literal of it names no goal; else it has 36 exactly if the same clause stands
-- before it in its goal; and the clauses that have no reason are those of the mended book.
use Prim.Native.Nat.{ℕ, zero, suc, ◌<◌}
use native.Mathlib.Omega.{arith}
use mathlib.Core.Path.{◌≡◌, refl, sym, ap, ◌∙◌}
use mathlib.Core.Bool.{Bool, true, false, true≢false}
use mathlib.Core.Option.{Option, none, some}
use mathlib.Core.List.{List, [], ◌∷◌, ◌++◌, map, append-nil, append_assoc}
use lib.ListN.{length, get_elem?, take}
use Rattle.laws.proofs.Options.{no_such}
use Rattle.definitions.specs.Lists.{push, position}
use Rattle.definitions.specs.Book.{Clause, Book, literals_name}
use Rattle.definitions.specs.Desk.{same_clause}
use Rattle.papers.specs.Mend.{repeated, reason, reasons_behind, reasons, mended_book, has_none, Why, undefined, again, stays}
use Rattle.definitions.proofs.Lists.{position_at, position_none}
use Rattle.definitions.proofs.Desk.{same_clause_is}
use Rattle.papers.proofs.MendBooks.{staying}
use Rattle.papers.proofs.Mend.{staying_reasons}

-- The first i of a list.

first_few : (i j : ℕ) (l : List Clause) (c : Clause) → get_elem? (take i l) j ≡ some c → (j < i) × (get_elem? l j ≡ some c)
first_few zero j l c e = absurd (no_such e)
first_few (suc i) j [] c e = absurd (no_such e)
first_few (suc i) zero (a ∷ l) c e = (omega arith, e)
first_few (suc i) (suc j) (a ∷ l) c e = let r = first_few i j l c e in let h = r.0 in (omega arith, r.1)

among_first : (i j : ℕ) (l : List Clause) (c : Clause) → j < i → get_elem? l j ≡ some c → get_elem? (take i l) j ≡ some c
among_first i j [] c h e = absurd (no_such e)
among_first zero j (a ∷ l) c h e = absurd (omega arith)
among_first (suc i) zero (a ∷ l) c h e = e
among_first (suc i) (suc j) (a ∷ l) c h e = among_first i j l c (omega arith) e

-- the reasons of a goal's clauses are each of the clause at that place, behind those before it
behind_at : (n : ℕ) (before cs : List Clause) (i : ℕ) (c : Clause) → get_elem? cs i ≡ some c
    → get_elem? (reasons_behind n before cs) i ≡ some (reason n (before ++ take i cs) c)
behind_at n before [] i c e = absurd (no_such e)
behind_at n before (d ∷ cs) zero c e =
    ap (λ (o : Option Clause). elim o [ none ↦ none | some x ↦ some (reason n before x) ]) e
    ∙ ap (λ (l : List Clause). some (reason n l c)) (sym (append-nil before))
behind_at n before (d ∷ cs) (suc i) c e =
    behind_at n (push before d) cs i c e
    ∙ ap (λ (l : List Clause). some (reason n l c)) (append_assoc before (d ∷ []) (take i cs))

-- THE THEOREMS.

pub reason_is : (n : ℕ) (cs : List Clause) (i : ℕ) (c : Clause) → get_elem? cs i ≡ some c
    → (r : Option ℕ) × (get_elem? (reasons_behind n [] cs) i ≡ some r) × Why n cs i c r
reason_is n cs i c e =
    (reason n (take i cs) c, behind_at n [] cs i c e, on (literals_name n c.literals) refl (position (same_clause c) (take i cs)) refl)
  where
    on : (b : Bool) → literals_name n c.literals ≡ b → (o : Option ℕ) → position (same_clause c) (take i cs) ≡ o
        → Why n cs i c (elim b [ false ↦ some 6 | true ↦ repeated o ])
    on false k o p = undefined k
    on true k none p =
        stays k (λ j h f. true≢false (sym ((same_clause_is c c).1 refl)
        ∙ position_none (same_clause c) (take i cs) p j c (among_first i j cs c h f)))
    on true k (some j) p =
        let q = position_at (same_clause c) (take i cs) j p in
        let f = first_few i j cs q.0 q.1 in
        again k j f.0 (f.1 ∙ ap some (sym ((same_clause_is c q.0).0 q.2)))

-- the mended book has the clauses that have none, each in its goal and in their order
pub kept_are : (book : Book) → staying (map has_none (reasons book)) book ≡ mended_book book
kept_are book = staying_reasons (length book) book
