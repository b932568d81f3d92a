-- What every command keeps, and what the end command makes of it, a book that is read has: a goal, for one (`read_some`). And what holds of
-- a clause just made and is kept by one literal more, each of its clauses has: where the bytes are below 256 every variant is below 65,536
-- (`read_variants`).
use Prim.Native.Nat.{ℕ, zero, suc, ◌<◌}
use native.Mathlib.Omega.{arith}
use mathlib.Core.Path.{◌≡◌, refl, sym, ap, subst, ◌∙◌}
use mathlib.Core.Bool.{Bool, true, false, not, true≢false, false≢true}
use mathlib.Core.List.{List, [], ◌∷◌, ◌++◌}
use lib.ListN.{length}
use lib.Dec.{eqb, ltb, leb}
use Rattle.laws.proofs.Bools.{not_zero, was_true}
use Rattle.laws.specs.All.{All, more}
use Rattle.laws.proofs.All.{all_first, all_rest}
use Rattle.definitions.specs.Refusal.{Refusable, refused, accepted, ◌refuses◌}
use Rattle.definitions.specs.Lists.{Each}
use Rattle.definitions.specs.Book.{Literal, Positive, Negative, between, Clause, Goal, Book, clause_count, goals_name}
use Rattle.definitions.specs.Book.{Command, goal, clause, positive, ranged, negative, end, unknown, command, width, is_end}
use Rattle.definitions.specs.Book.{byte, u16, bit0, bit1, want_of, crossed, with_clauses, with_literals, add_clause, add_to_last}
use Rattle.definitions.specs.Book.{add_literal, literals_so_far, literal_command, end_command, apply_command, whole_command}
use Rattle.sizes.specs.Limits.{most_goals, most_clauses, most_literals}
use Rattle.definitions.specs.Book.{read_from, read}
use Rattle.definitions.specs.Mend.{loose_end, loose_from, read_loosely}
use Rattle.definitions.proofs.Refusal.{not_accepted, same_accepted, all_pass}
use Rattle.definitions.proofs.Lists.{all_push}
use Rattle.definitions.proofs.Members.{each_by}
use Rattle.definitions.proofs.Book.{new_clause, applied}
use Rattle.definitions.proofs.Mend.{named}

pub is_the_end : (c : Command) → is_end c ≡ true → c ≡ end
is_the_end goal e = absurd (false≢true e)
is_the_end clause e = absurd (false≢true e)
is_the_end positive e = absurd (false≢true e)
is_the_end ranged e = absurd (false≢true e)
is_the_end negative e = absurd (false≢true e)
is_the_end end e = refl
is_the_end unknown e = absurd (false≢true e)

-- `B` of each byte, `P` of the book so far, and `Q` of the book behind the end command
module _ (B : ℕ → Type 0) (P Q : Book → Type 0)
    (keeps : (c : Command) (after : List ℕ) (book next : Book) → is_end c ≡ false → Each B after
    → apply_command c after book ≡ accepted next → P book → P next)
    (ends : (after : List ℕ) (book next : Book) → end_command after book ≡ accepted next → P book → Q next) where
  pub read_keeps : (bytes : List ℕ) (skip : ℕ) (book final : Book) → Each B bytes → P book → read_from bytes skip book ≡ accepted final
      → Q final
  read_keeps [] skip book final b x e = absurd (not_accepted e)
  read_keeps (c ∷ bs) (suc skip) book final b x e = read_keeps bs skip book final b.1 x e
  read_keeps (c ∷ bs) zero book final b x e =
      on (whole_command (command c) bs book) refl (λ next. read_keeps bs (width (command c)) next final b.1) e
    where
      Later : Type 0
      Later = (next : Book) → P next → read_from bs (width (command c)) next ≡ accepted final → Q final

      by_end : (last : Bool) → is_end (command c) ≡ last → (next : Book) → apply_command (command c) bs book ≡ accepted next → Later
          → elim last [ true ↦ accepted next | false ↦ read_from bs (width (command c)) next ] ≡ accepted final → Q final
      by_end true i next k ih z = subst Q (same_accepted z)
          (ends bs book next (subst (λ (d : Command). apply_command d bs book ≡ accepted next) (is_the_end (command c) i) k) x)
      by_end false i next k ih z = ih next (keeps (command c) bs book next i b.1 k x) z

      on : (r : Refusable Book) → whole_command (command c) bs book ≡ r → Later → elim r [
        | refused n ↦ refused n
        | accepted next ↦ elim (is_end (command c)) [ true ↦ accepted next | false ↦ read_from bs (width (command c)) next ]
      ] ≡ accepted final → Q final
      on (refused n) k ih z = absurd (not_accepted z)
      on (accepted next) k ih z = by_end (is_end (command c)) refl next (applied (command c) bs book next k) ih z

-- what an accepted end command says
pub end_passed : (after : List ℕ) (book next : Book) → end_command after book ≡ accepted next → (0 < length book) × (book ≡ next)
end_passed after book next e =
    let a = all_pass (ltb 0 (length after) refuses 7 ∷ eqb (length book) 0 refuses 8 ∷ not (goals_name (length book) book) refuses 6 ∷ [])
    book next e in
    (not_zero (length book) a.0.1.0, a.1)

-- the test for 6 comes behind all others, and changes nothing of the book
pub named_passed : (r : Refusable Book) (book : Book) → named r ≡ accepted book
    → (r ≡ accepted book) × (goals_name (length book) book ≡ true)
named_passed (refused n) book e = absurd (not_accepted e)
named_passed (accepted b) book e =
    let a = all_pass (not (goals_name (length b) b) refuses 6 ∷ []) b book e in
    (ap accepted a.1, ap (λ (g : Book). goals_name (length g) g) (sym a.1) ∙ was_true (goals_name (length b) b) a.0.0)

-- whatever the bytes are: what each command but the end keeps of the book so far, the whole book has
module _ (P : Book → Type 0)
    (keeps : (c : Command) (after : List ℕ) (book next : Book) → is_end c ≡ false → apply_command c after book ≡ accepted next → P book
    → P next) where
  loose_keeps : (bytes : List ℕ) (skip : ℕ) (book final : Book) → P book → loose_from bytes skip book ≡ accepted final → P final
  loose_keeps [] skip book final x e = absurd (not_accepted e)
  loose_keeps (c ∷ bs) (suc skip) book final x e = loose_keeps bs skip book final x e
  loose_keeps (c ∷ bs) zero book final x e =
      on (is_end (command c)) refl (λ next y z. loose_keeps bs (width (command c)) next final y z) e
    where
      Later : Type 0
      Later = (next : Book) → P next → loose_from bs (width (command c)) next ≡ accepted final → P final

      given : (r : Refusable Book) → whole_command (command c) bs book ≡ r → is_end (command c) ≡ false → Later
          → elim r [ refused n ↦ refused n | accepted next ↦ loose_from bs (width (command c)) next ] ≡ accepted final → P final
      given (refused n) k i ih z = absurd (not_accepted z)
      given (accepted next) k i ih z = ih next (keeps (command c) bs book next i (applied (command c) bs book next k) x) z

      on : (ends : Bool) → is_end (command c) ≡ ends → Later
          → elim ends [
            | true ↦ loose_end bs book
            | false ↦ elim (whole_command (command c) bs book) [
              | refused n ↦ refused n
              | accepted next ↦ loose_from bs (width (command c)) next
            ]
          ] ≡ accepted final → P final
      on true i ih z = subst P (all_pass (ltb 0 (length bs) refuses 7 ∷ eqb (length book) 0 refuses 8 ∷ []) book final z).1 x
      on false i ih z = given (whole_command (command c) bs book) refl i ih z

  pub loosely_keeps : P [] → (bytes : List ℕ) (book : Book) → read_loosely bytes ≡ accepted book → P book
  loosely_keeps first bytes book e = loose_keeps bytes 0 [] book first e

-- whatever the bytes, a book that is read has a goal
pub read_some : (bytes : List ℕ) (book : Book) → read bytes ≡ accepted book → 0 < length book
read_some bytes book e = read_keeps (λ b. Unit {0}) (λ so_far. Unit {0}) (λ whole. 0 < length whole)
    (λ c after so_far next i b k x. tt)
    (λ after so_far next k x. let a = end_passed after so_far next k in subst (λ (l : Book). 0 < length l) a.1 a.0)
    bytes 0 [] book (each_by (λ b. Unit {0}) bytes (λ b m. tt)) tt e

-- Clauses.

abbrev pub EachClause : (C : Clause → Type 0) → Book → Type 0
EachClause C book = All (λ g. All C g.clauses) book

module _ (B : ℕ → Type 0) (C : Clause → Type 0)
    (made : (after : List ℕ) → Each B after → C (new_clause after))
    (longer : (l : Literal) (c : Clause) → C c → C (with_literals c (c.literals ++ (l ∷ [])))) where
  clause_more : (c : Clause) → C c → (book : Book) → EachClause C book → EachClause C (add_clause c book)
  clause_more c y [] x = x
  clause_more c y (g ∷ []) x = more (all_push (all_first x) y) All.end
  clause_more c y (g ∷ h ∷ gs) x = more (all_first x) (clause_more c y (h ∷ gs) (all_rest x))

  last_longer : (l : Literal) (cs : List Clause) → All C cs → All C (add_to_last l cs)
  last_longer l [] x = x
  last_longer l (c ∷ []) x = more (longer l c (all_first x)) All.end
  last_longer l (c ∷ d ∷ cs) x = more (all_first x) (last_longer l (d ∷ cs) (all_rest x))

  literal_more : (l : Literal) (book : Book) → EachClause C book → EachClause C (add_literal l book)
  literal_more l [] x = x
  literal_more l (g ∷ gs) x = on (eqb (clause_count gs) 0) (literal_more l gs)
    where
      on : (b : Bool) → (EachClause C gs → EachClause C (add_literal l gs))
          → EachClause C (elim b [ true ↦ with_clauses g (add_to_last l g.clauses) ∷ gs | false ↦ g ∷ add_literal l gs ])
      on true h = more (last_longer l g.clauses (all_first x)) (all_rest x)
      on false h = more (all_first x) (h (all_rest x))

  literal_keeps : (l : Literal) (flags : ℕ) (book next : Book) → literal_command l flags book ≡ accepted next → EachClause C book
      → EachClause C next
  literal_keeps l flags book next e x =
      subst (EachClause C) (all_pass (eqb (clause_count book) 0 refuses 3 ∷ ltb 1 flags refuses 4 ∷ crossed l refuses 32
      ∷ leb most_literals (literals_so_far book) refuses 5 ∷ []) (add_literal l book) next e).1 (literal_more l book x)

  command_keeps : (c : Command) (after : List ℕ) (book next : Book) → is_end c ≡ false → Each B after
      → apply_command c after book ≡ accepted next → EachClause C book → EachClause C next
  command_keeps goal after book next i b e x =
      let flags = byte after 0 in
      let g : Goal = record { coinductive = bit0 flags; floundered = bit1 flags; clauses = [] } in
      subst (EachClause C) (all_pass (ltb 3 flags refuses 4 ∷ leb most_goals (length book) refuses 5 ∷ []) (book ++ (g ∷ [])) next e).1
      (all_push x All.end)
  command_keeps clause after book next i b e x =
      subst (EachClause C) (all_pass (eqb (length book) 0 refuses 3 ∷ ltb 3 (byte after 2) refuses 4
      ∷ leb most_clauses (clause_count book) refuses 5 ∷ []) (add_clause (new_clause after) book) next e).1
      (clause_more (new_clause after) (made after b) book x)
  command_keeps positive after book next i b e x =
      literal_keeps (Positive (u16 after 0) (want_of (u16 after 2)) (bit0 (byte after 4))) (byte after 4) book next e x
  command_keeps ranged after book next i b e x =
      literal_keeps (Positive (u16 after 0) (between (u16 after 2) (u16 after 4)) (bit0 (byte after 6))) (byte after 6) book next e x
  command_keeps negative after book next i b e x =
      literal_keeps (Negative (u16 after 0) (bit0 (byte after 2))) (byte after 2) book next e x
  command_keeps end after book next i b e x = absurd (true≢false i)
  command_keeps unknown after book next i b e x = absurd (not_accepted e)

  pub read_clauses : (bytes : List ℕ) (book : Book) → Each B bytes → read bytes ≡ accepted book → EachClause C book
  read_clauses bytes book b e = read_keeps B (EachClause C) (EachClause C) command_keeps
      (λ after so_far next k x. subst (EachClause C) (end_passed after so_far next k).1 x) bytes 0 [] book b All.end e

-- Variants.

pub byte_below : (bytes : List ℕ) (i : ℕ) → Each (λ b. b < 256) bytes → byte bytes i < 256
byte_below [] i x = omega arith
byte_below (b ∷ bs) zero x = x.0
byte_below (b ∷ bs) (suc i) x = byte_below bs i x.1

pub read_variants : (bytes : List ℕ) (book : Book) → Each (λ b. b < 256) bytes → read bytes ≡ accepted book
    → EachClause (λ c. c.variant < 65536) book
read_variants bytes book b e = read_clauses (λ b. b < 256) (λ c. c.variant < 65536)
    (λ after x. omega (arith, byte_below after 0 x, byte_below after 1 x))
    (λ l c x. x) bytes book b e
