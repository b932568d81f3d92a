-- A book that is read keeps within the limits and names goals of its own (`book_good`), and each of its clauses has at most eight literals
-- (`book_few`). Assumes nothing.
use Prim.Native.Nat.{ℕ, zero, suc, ◌+◌, ◌≤◌, ◌<◌}
use native.Mathlib.Omega.{arith}
use borrow.Author.Tests.{leb-false, not-false}
use mathlib.Core.Path.{◌≡◌, refl, subst}
use mathlib.Core.Bool.{Bool, true, false, not, true≢false}
use mathlib.Core.List.{List, [], ◌∷◌, ◌++◌}
use lib.ListN.{length, length-append}
use lib.Dec.{ltb, leb, eqb}
use Rattle.laws.proofs.Bools.{not_zero}
use Rattle.laws.specs.All.{All, more}
use Rattle.laws.proofs.All.{all_first, all_rest}
use Rattle.definitions.specs.Refusal.{Refusable, refused, accepted, ◌refuses◌}
use Rattle.definitions.specs.Book.{Book, Goal, Clause, Literal, Positive, Negative, clause_count}
use Rattle.definitions.specs.Book.{Command, goal, clause, positive, ranged, negative, end, unknown, command, width, is_end}
use Rattle.definitions.specs.Book.{with_clauses, add_clause, add_to_last, add_literal, last_literals, literals_so_far, goals_name}
use Rattle.definitions.specs.Book.{byte, u16, bit0, bit1, between, want_of, crossed}
use Rattle.definitions.specs.Book.{apply_command, whole_command, literal_command, end_command, read_from, read}
use Rattle.definitions.specs.Mend.{read_loosely}
use Rattle.definitions.proofs.Refusal.{same_accepted, not_accepted, all_pass}
use Rattle.definitions.proofs.Lists.{all_push}
use Rattle.definitions.proofs.Book.{added, clause_count_goal, length_add_clause, clause_count_add_clause, applied}
use Rattle.definitions.proofs.Prefix.{go_on}
use Rattle.definitions.proofs.ReadKeeps.{loosely_keeps}

-- the limits of goals and clauses
pub record Small (book : Book) : Type 0 where
  pub few_goals : length book ≤ 64
  pub few_clauses : clause_count book ≤ 256

literal_small : (l : Literal) (flags : ℕ) (book next : Book) → literal_command l flags book ≡ accepted next → Small book → Small next
literal_small l flags book next e s =
    let a = all_pass (eqb (clause_count book) 0 refuses 3 ∷ ltb 1 flags refuses 4 ∷ crossed l refuses 32
    ∷ leb 8 (literals_so_far book) refuses 5 ∷ []) (add_literal l book) next e in
    let r = added l book in
    subst Small a.1 (record {
      few_goals = let x = s.few_goals in let y = r.same_goals in omega arith;
      few_clauses = let x = s.few_clauses in let y = r.same_clauses in omega arith;
    })

-- each command but the end keeps the limits
command_small : (c : Command) (operands : List ℕ) (book next : Book) → is_end c ≡ false → apply_command c operands book ≡ accepted next
    → Small book → Small next
command_small goal operands book next n e s =
    let flags = byte operands 0 in
    let g : Goal = record { coinductive = bit0 flags; floundered = bit1 flags; clauses = [] } in
    let a = all_pass (ltb 3 flags refuses 4 ∷ leb 64 (length book) refuses 5 ∷ []) (book ++ (g ∷ [])) next e in
    let o = leb-false 64 (length book) a.0.1.0 in
    subst Small a.1 (record {
      few_goals = let x : length (book ++ (g ∷ [])) ≡ length book + 1 = length-append book (g ∷ []) in omega arith;
      few_clauses = let x = s.few_clauses in let y = clause_count_goal book g refl in omega arith;
    })
command_small clause operands book next n e s =
    let flags = byte operands 2 in
    let c : Clause = record { variant = u16 operands 0; cannot_prove = bit0 flags; outsized = bit1 flags; literals = [] } in
    let a = all_pass (eqb (length book) 0 refuses 3 ∷ ltb 3 flags refuses 4 ∷ leb 256 (clause_count book) refuses 5 ∷ [])
    (add_clause c book) next e in
    let o = leb-false 256 (clause_count book) a.0.1.1.0 in
    subst Small a.1 (record {
      few_goals = let x = s.few_goals in let y = length_add_clause c book in omega arith;
      few_clauses = let y = clause_count_add_clause c book (not_zero (length book) a.0.0) in omega arith;
    })
command_small positive operands book next n e s =
    literal_small (Positive (u16 operands 0) (want_of (u16 operands 2)) (bit0 (byte operands 4))) (byte operands 4) book next e s
command_small ranged operands book next n e s =
    literal_small (Positive (u16 operands 0) (between (u16 operands 2) (u16 operands 4)) (bit0 (byte operands 6))) (byte operands 6) book
    next e s
command_small negative operands book next n e s =
    literal_small (Negative (u16 operands 0) (bit0 (byte operands 2))) (byte operands 2) book next e s
command_small end operands book next n e s = absurd (true≢false n)
command_small unknown operands book next n e s = absurd (not_accepted e)

-- a book that is read
pub record Good (book : Book) : Type 0 where
  pub small : Small book
  pub named : goals_name (length book) book ≡ true

-- whatever its literals name
pub loosely_small : (bytes : List ℕ) (book : Book) → read_loosely bytes ≡ accepted book → Small book
loosely_small bytes book e =
    loosely_keeps Small command_small (record { few_goals = omega arith; few_clauses = omega arith }) bytes book e

end_good : (after : List ℕ) (book next : Book) → end_command after book ≡ accepted next → Small book → Good next
end_good after book next e s =
    let a = all_pass (ltb 0 (length after) refuses 7 ∷ eqb (length book) 0 refuses 8 ∷ not (goals_name (length book) book) refuses 6 ∷ [])
    book next e in
    subst Good a.1 (record { small = s; named = not-false (goals_name (length book) book) a.0.1.1.0 })

command_read : (c : Command) (bs : List ℕ) (book r : Book) → Small book
    → ((skip : ℕ) (next : Book) → Small next → read_from bs skip next ≡ accepted r → Good r) → (o : Refusable Book)
    → whole_command c bs book ≡ o → go_on c bs o ≡ accepted r → Good r
command_read c bs book r s ih (refused n) k e = absurd (not_accepted e)
command_read goal bs book r s ih (accepted next) k e =
    ih 1 next (command_small goal bs book next refl (applied goal bs book next k) s) e
command_read clause bs book r s ih (accepted next) k e =
    ih 3 next (command_small clause bs book next refl (applied clause bs book next k) s) e
command_read positive bs book r s ih (accepted next) k e =
    ih 5 next (command_small positive bs book next refl (applied positive bs book next k) s) e
command_read ranged bs book r s ih (accepted next) k e =
    ih 7 next (command_small ranged bs book next refl (applied ranged bs book next k) s) e
command_read negative bs book r s ih (accepted next) k e =
    ih 3 next (command_small negative bs book next refl (applied negative bs book next k) s) e
command_read end bs book r s ih (accepted next) k e =
    subst Good (same_accepted e) (end_good bs book next (applied end bs book next k) s)
command_read unknown bs book r s ih (accepted next) k e = absurd (not_accepted (applied unknown bs book next k))

pub read_good : (bs : List ℕ) (skip : ℕ) (book r : Book) → Small book → read_from bs skip book ≡ accepted r → Good r
read_good [] skip book r s e = absurd (not_accepted e)
read_good (b ∷ bs) (suc skip) book r s e = read_good bs skip book r s e
read_good (b ∷ bs) zero book r s e = command_read (command b) bs book r s (λ skip next x y. read_good bs skip next r x y)
    (whole_command (command b) bs book) refl e

-- a book that is read
pub book_good : (bytes : List ℕ) (book : Book) → read bytes ≡ accepted book → Good book
book_good bytes book e = read_good bytes 0 [] book (record { few_goals = omega arith; few_clauses = omega arith }) e

-- Literals.

abbrev pub Few : List Clause → Type 0
Few cs = All (λ c. length c.literals ≤ 8) cs

abbrev pub FewLiterals : Book → Type 0
FewLiterals book = All (λ g. Few g.clauses) book

few_clause : (c : Clause) → length c.literals ≤ 8 → (book : Book) → FewLiterals book → FewLiterals (add_clause c book)
few_clause c o [] x = x
few_clause c o (g ∷ []) x = more (all_push (all_first x) o) All.end
few_clause c o (g ∷ h ∷ gs) x = more (all_first x) (few_clause c o (h ∷ gs) (all_rest x))

few_last : (l : Literal) (cs : List Clause) → last_literals cs < 8 → Few cs → Few (add_to_last l cs)
few_last l [] o x = x
few_last l (c ∷ []) o x =
    let y : length (c.literals ++ (l ∷ [])) ≡ length c.literals + 1 = length-append c.literals (l ∷ []) in
    let z : length (c.literals ++ (l ∷ [])) ≤ 8 = omega arith in
    more z All.end
few_last l (c ∷ d ∷ cs) o x = more (all_first x) (few_last l (d ∷ cs) o (all_rest x))

few_literal : (l : Literal) (book : Book) → literals_so_far book < 8 → FewLiterals book → FewLiterals (add_literal l book)
few_literal l [] o x = x
few_literal l (g ∷ gs) o x = at (eqb (clause_count gs) 0) o (few_literal l gs)
  where
    at : (b : Bool) → elim b [ true ↦ last_literals g.clauses | false ↦ literals_so_far gs ] < 8
        → (literals_so_far gs < 8 → FewLiterals gs → FewLiterals (add_literal l gs))
        → FewLiterals (elim b [ true ↦ with_clauses g (add_to_last l g.clauses) ∷ gs | false ↦ g ∷ add_literal l gs ])
    at true o h = more (few_last l g.clauses o (all_first x)) (all_rest x)
    at false o h = more (all_first x) (h o (all_rest x))

literal_few : (l : Literal) (flags : ℕ) (book next : Book) → literal_command l flags book ≡ accepted next → FewLiterals book
    → FewLiterals next
literal_few l flags book next e x =
    let a = all_pass (eqb (clause_count book) 0 refuses 3 ∷ ltb 1 flags refuses 4 ∷ crossed l refuses 32
    ∷ leb 8 (literals_so_far book) refuses 5 ∷ []) (add_literal l book) next e in
    subst FewLiterals a.1 (few_literal l book (leb-false 8 (literals_so_far book) a.0.1.1.1.0) x)

command_few : (c : Command) (operands : List ℕ) (book next : Book) → apply_command c operands book ≡ accepted next → FewLiterals book
    → FewLiterals next
command_few goal operands book next e x =
    let flags = byte operands 0 in
    let g : Goal = record { coinductive = bit0 flags; floundered = bit1 flags; clauses = [] } in
    subst FewLiterals (all_pass (ltb 3 flags refuses 4 ∷ leb 64 (length book) refuses 5 ∷ []) (book ++ (g ∷ [])) next e).1
    (all_push x All.end)
command_few clause operands book next e x =
    let flags = byte operands 2 in
    let c : Clause = record { variant = u16 operands 0; cannot_prove = bit0 flags; outsized = bit1 flags; literals = [] } in
    subst FewLiterals (all_pass (eqb (length book) 0 refuses 3 ∷ ltb 3 flags refuses 4 ∷ leb 256 (clause_count book) refuses 5 ∷ [])
    (add_clause c book) next e).1 (few_clause c (omega arith) book x)
command_few positive operands book next e x = literal_few (Positive (u16 operands 0) (want_of (u16 operands 2)) (bit0 (byte operands 4)))
    (byte operands 4) book next e x
command_few ranged operands book next e x =
    literal_few (Positive (u16 operands 0) (between (u16 operands 2) (u16 operands 4)) (bit0 (byte operands 6))) (byte operands 6) book next
    e x
command_few negative operands book next e x = literal_few (Negative (u16 operands 0) (bit0 (byte operands 2))) (byte operands 2) book next e
    x
command_few end operands book next e x =
    subst FewLiterals (all_pass (ltb 0 (length operands) refuses 7 ∷ eqb (length book) 0 refuses 8 ∷ not
    (goals_name (length book) book) refuses 6 ∷ []) book next e).1 x
command_few unknown operands book next e x = absurd (not_accepted e)

whole_few : (c : Command) (after : List ℕ) (book next : Book) → whole_command c after book ≡ accepted next → FewLiterals book
    → FewLiterals next
whole_few c after book next e x = on (ltb (length after) (width c)) e
  where
    on : (t : Bool) → elim t [ true ↦ refused 1 | false ↦ apply_command c after book ] ≡ accepted next → FewLiterals next
    on true e = absurd (not_accepted e)
    on false e = command_few c after book next e x

pub read_few : (bs : List ℕ) (skip : ℕ) (book r : Book) → FewLiterals book → read_from bs skip book ≡ accepted r → FewLiterals r
read_few [] skip book r x e = absurd (not_accepted e)
read_few (b ∷ bs) (suc skip) book r x e = read_few bs skip book r x e
read_few (b ∷ bs) zero book r x e = on (λ skip next y k. read_few bs skip next r y k) (whole_command (command b) bs book) refl e
  where
    ending : (t : Bool) → ((skip : ℕ) (next : Book) → FewLiterals next → read_from bs skip next ≡ accepted r → FewLiterals r)
        → (next : Book) → FewLiterals next → elim t [ true ↦ accepted next | false ↦ read_from bs (width (command b)) next ] ≡ accepted r
        → FewLiterals r
    ending true h next y e = subst FewLiterals (same_accepted e) y
    ending false h next y e = h (width (command b)) next y e

    on : ((skip : ℕ) (next : Book) → FewLiterals next → read_from bs skip next ≡ accepted r → FewLiterals r) → (o : Refusable Book)
        → whole_command (command b) bs book ≡ o → elim o [
          | refused n ↦ refused n
          | accepted next ↦ elim (is_end (command b)) [ true ↦ accepted next | false ↦ read_from bs (width (command b)) next ]
        ] ≡ accepted r → FewLiterals r
    on h (refused n) k e = absurd (not_accepted e)
    on h (accepted next) k e = ending (is_end (command b)) h next (whole_few (command b) bs book next k x) e

pub book_few : (bytes : List ℕ) (book : Book) → read bytes ≡ accepted book → FewLiterals book
book_few bytes book e = read_few bytes 0 [] book All.end e
