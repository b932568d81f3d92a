-- XSB text, for byte strings: what the text of a paper is read as is the paper's book (`text_back`), and a text that is accepted is the
-- text of the bytes it gives (`bytes_back`). The definitions' proofs/Xsb has it for books within the limits; here is that plain books
-- that are read, and the books of texts, are within them. Nothing is assumed of the numbers in a byte string.
use Prim.Native.Nat.{ℕ, zero, suc, ◌≤◌, ◌<◌}
use native.Mathlib.Omega.{arith}
use borrow.Author.Tests.{ltb-true, ltb-false}
use mathlib.Core.Path.{◌≡◌, refl, sym, ap, subst, ◌∙◌}
use mathlib.Core.Bool.{Bool, true, false}
use mathlib.Core.List.{List, [], ◌∷◌}
use lib.ListN.{length}
use lib.Dec.{eqb, ltb}
use Rattle.definitions.specs.Refusal.{Refusable, refused, accepted}
use Rattle.definitions.specs.Lists.{any_passes, Each}
use Rattle.definitions.specs.Book.{Literal, Positive, Negative, Clause, Goal, Book, clause_count}
use Rattle.definitions.specs.Book.{literals_name, clauses_name, goals_name, read, write}
use Rattle.definitions.specs.Book.{WantWithin, LiteralsWithin, ClausesWithin, GoalsWithin, Within}
use Rattle.definitions.specs.Desk.{desk}
use Rattle.papers.specs.Model.{PlainLiteral, PlainClause, Plain}
use Rattle.papers.specs.Levels.{is_plain}
use Rattle.papers.specs.Xsb.{Rule, export, plain_export, export_at_desk, check_export, clause_of, clauses_for, goals_for}
use Rattle.papers.specs.Xsb.{is_long, import, bytes_of, check_import}
use Rattle.definitions.proofs.Refusal.{same_accepted, not_accepted}
use Rattle.definitions.proofs.RoundTrip.{read_write}
use Rattle.definitions.proofs.Desk.{desk_reads, desk_takes}
use Rattle.papers.proofs.PlainTest.{plain_is, is_plain_of}
use Rattle.papers.specs.XsbForm.{BareRule}
use Rattle.papers.proofs.XsbBooks.{goals_for_length, rules_back}
use Rattle.papers.proofs.XsbOrder.{parse_fits}
use Rattle.papers.proofs.Xsb.{rules_length, import_export, accepts, export_import}
use Rattle.laws.proofs.Bools.{both_true, both_false}
use Rattle.laws.specs.All.{All, more}
use Rattle.laws.proofs.All.{all_first, all_rest}
use Rattle.definitions.proofs.ReadKeeps.{read_some}
use Rattle.definitions.proofs.ReadLimits.{Small, Good, book_good, Few, FewLiterals, book_few}

-- The limits of a plain book: its variants are 0 and its literals want any variant, so its goals' numbers and the counts are all.

literals_within : (n : ℕ) (ls : List Literal) → Each PlainLiteral ls → literals_name n ls ≡ true → LiteralsWithin n ls
literals_within n [] p e = tt
literals_within n (Positive g want outsized ∷ ls) p e =
    let x = both_true (ltb g n) (literals_name n ls) e in
    ((ltb-true g n x.0, subst WantWithin (sym p.0.0) tt), literals_within n ls p.1 x.1)
literals_within n (Negative g outsized ∷ ls) p e =
    let x = both_true (ltb g n) (literals_name n ls) e in
    (ltb-true g n x.0, literals_within n ls p.1 x.1)

clauses_within : (n : ℕ) (cs : List Clause) → Each PlainClause cs → Few cs → clauses_name n cs ≡ true → ClausesWithin n cs
clauses_within n [] p few e = tt
clauses_within n (c ∷ cs) p few e =
    let x = both_true (literals_name n c.literals) (clauses_name n cs) e in
    let whole = p.0.as_a_whole in (
      record {
        variant_fits = omega arith;
        few_literals = all_first few;
        literals_fit = literals_within n c.literals p.0.literals_plain x.0;
      },
      clauses_within n cs p.1 (all_rest few) x.1,
    )

goals_within : (n : ℕ) (gs : List Goal) → Plain gs → FewLiterals gs → goals_name n gs ≡ true → GoalsWithin n gs
goals_within n [] p few e = tt
goals_within n (g ∷ gs) p few e =
    let x = both_true (clauses_name n g.clauses) (goals_name n gs) e in
    (clauses_within n g.clauses p.0.clauses_plain (all_first few) x.0, goals_within n gs p.1 (all_rest few) x.1)

-- a plain book that passed the tests of reading is within the limits
pub good_within : (book : Book) → Plain book → Good book → 0 < length book → FewLiterals book → Within book
good_within book p g some few = record {
  some_goal = some;
  few_goals = g.small.few_goals;
  few_clauses = g.small.few_clauses;
  clauses_fit = goals_within (length book) book p few g.named;
}

-- a plain book that is read is within the limits
pub plain_within : (bytes : List ℕ) (book : Book) → read bytes ≡ accepted book → Plain book → Within book
plain_within bytes book e p =
    good_within book p (book_good bytes book e) (read_some bytes book e) (book_few bytes book e)

-- A paper's text.

-- every plain paper that the desk takes has a text
pub plain_has_text : (bytes : List ℕ) (book : Book) → desk bytes ≡ accepted book → Plain book → check_export bytes ≡ accepted (export book)
plain_has_text bytes book k p =
    ap export_at_desk k
    ∙ ap (λ (b : Bool). elim b as (λ c. Refusable (List ℕ)) [ false ↦ refused 37 | true ↦ accepted (export book) ]) (is_plain_of book p)

-- and no other has
plain_exported : (book : Book) (text : List ℕ) → plain_export book ≡ accepted text → Plain book × (export book ≡ text)
plain_exported book text e = on (is_plain book) refl e
  where
    on : (b : Bool) → is_plain book ≡ b → elim b [ false ↦ refused 37 | true ↦ accepted (export book) ] ≡ accepted text
        → Plain book × (export book ≡ text)
    on true k x = (plain_is book k, same_accepted x)
    on false k x = absurd (not_accepted x)

exported_back : (bytes text : List ℕ) (book : Book) → desk bytes ≡ accepted book → plain_export book ≡ accepted text
    → import text ≡ accepted book
exported_back bytes text book k e =
    let d = desk_reads bytes book k in
    let x = plain_exported book text e in
    ap import (sym x.1) ∙ import_export book x.0 (plain_within bytes book d.0 x.0) d.1

-- the text of a paper is accepted, and its book is the paper's
pub text_back : (bytes text : List ℕ) → check_export bytes ≡ accepted text → import text ≡ desk bytes
text_back bytes text e = on (desk bytes) refl e
  where
    on : (r : Refusable Book) → desk bytes ≡ r → export_at_desk r ≡ accepted text → import text ≡ r
    on (refused n) k x = absurd (not_accepted x)
    on (accepted book) k x = exported_back bytes text book k x

-- a text settles the book: two papers with the same text have the same one
pub settled_text : (bytes others text : List ℕ) → check_export bytes ≡ accepted text → check_export others ≡ accepted text
    → desk bytes ≡ desk others
settled_text bytes others text e f = sym (text_back bytes text e) ∙ text_back others text f

-- The book of a text.

clauses_plain : (g : ℕ) (rs : List Rule) → All BareRule rs → Each PlainClause (clauses_for g rs)
clauses_plain g [] p = tt
clauses_plain g (r ∷ rs) (more x p) = on (eqb r.head g) (clauses_plain g rs p)
  where
    on : (b : Bool) → Each PlainClause (clauses_for g rs)
        → Each PlainClause (elim b [ true ↦ clause_of r ∷ clauses_for g rs | false ↦ clauses_for g rs ])
    on true q = (record { as_a_whole = refl; provable = refl; small = refl; literals_plain = x }, q)
    on false q = q

goals_plain : (g n : ℕ) (rs : List Rule) → All BareRule rs → Plain (goals_for g n rs)
goals_plain g zero rs p = tt
goals_plain g (suc n) rs p =
    (record { inductive = refl; unfloundered = refl; clauses_plain = clauses_plain g rs p }, goals_plain (suc g) n rs p)

clauses_few : (g : ℕ) (rs : List Rule) → any_passes is_long rs ≡ false → Few (clauses_for g rs)
clauses_few g [] e = All.end
clauses_few g (r ∷ rs) e =
    let q = both_false (is_long r) (any_passes is_long rs) e in
    on (ltb-false 8 (length r.body) q.0) (eqb r.head g) (clauses_few g rs q.1)
  where
    on : length r.body ≤ 8 → (b : Bool) → Few (clauses_for g rs)
        → Few (elim b [ true ↦ clause_of r ∷ clauses_for g rs | false ↦ clauses_for g rs ])
    on few true x = more few x
    on few false x = x

goals_few : (g n : ℕ) (rs : List Rule) → any_passes is_long rs ≡ false → FewLiterals (goals_for g n rs)
goals_few g zero rs e = All.end
goals_few g (suc n) rs e = more (clauses_few g rs e) (goals_few (suc g) n rs e)

-- a text's book is plain, and what is written for it is a paper that the desk takes
pub imported_at_desk : (text : List ℕ) (book : Book) → import text ≡ accepted book → Plain book × (desk (write book) ≡ accepted book)
imported_at_desk text book e =
    let a = accepts text book e in
    let n = a.state.tables in
    let rs = a.state.rules in
    let b = goals_for 0 n rs in
    let fits = parse_fits text a.state a.parsed in
    let p : Plain b = goals_plain 0 n rs fits.bare in
    let goals : length b ≡ n = goals_for_length 0 n rs in
    let clauses : clause_count b ≡ length rs = sym (rules_length 0 b) ∙ ap length (rules_back n rs fits.in_order) in
    let few = a.few in
    let few_rules = a.few_rules in
    let some = a.some_goal in
    let small : Small b = record { few_goals = omega arith; few_clauses = omega arith } in
    let good : Good b = record { small = small; named = ap (λ (k : ℕ). goals_name k b) goals ∙ a.named } in
    let w : Within b = good_within b p good (omega arith) (goals_few 0 n rs a.short) in
    let within : Within book = subst Within a.book_is w in
    (subst Plain a.book_is p, desk_takes (write book) book (read_write book within) a.apart)

-- the bytes that a text gives are a paper with just this text
pub bytes_back : (text bytes : List ℕ) → check_import text ≡ accepted bytes → check_export bytes ≡ accepted text
bytes_back text bytes e = on (import text) refl e
  where
    on : (r : Refusable Book) → import text ≡ r → bytes_of r ≡ accepted bytes → check_export bytes ≡ accepted text
    on (refused n) k x = absurd (not_accepted x)
    on (accepted book) k x =
        let d = imported_at_desk text book k in
        ap check_export (sym (same_accepted x)) ∙ plain_has_text (write book) book d.1 d.0
        ∙ ap accepted (export_import text book k)
