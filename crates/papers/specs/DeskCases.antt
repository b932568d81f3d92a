-- A fourth table of cases: books in which a goal has two clauses that are the same, or nearly (change request 10). Each has what the old
-- entry, the desk and the listing give for it; what is listed of a book that the desk takes is what the Rust lists.
use Rattle.std.specs.Prelude.{ℕ, zero, suc, ◌≡◌, refl, true, false, List, [], ◌∷◌, ◌++◌, map}
use Rattle.std.proofs.Math.Option.{Option, none, some}
use Rattle.definitions.specs.Text.{ascii}
use Rattle.definitions.specs.Refusal.{Refusable, refused, accepted}
use Rattle.definitions.specs.Lists.{push}
use Rattle.definitions.specs.Book.{any, exactly, Positive, Clause, Book, read, write}
use Rattle.definitions.specs.Desk.{Repeat, repeat_of, desk}
use Rattle.papers.specs.Listing.{fields}
use Rattle.papers.specs.Cases.{pos, neg, rule, fact, unproved, one_rule, inductive}
use Rattle.papers.specs.RangeCases.{range}

-- What is told of a byte string: the number that the old entry refuses it with, and the desk's, 0 where it is taken; the clause that the
-- desk turns its book down for; and what the listing prints.
pub record Tells : Type 0 where
  pub by_read : ℕ
  pub by_desk : ℕ
  pub repeat : Option Repeat
  pub prints : List ℕ

pub record DeskCase : Type 0 where
  pub bytes : List ℕ
  pub tells : Tells

abbrev pub number : Refusable Book → ℕ
number (refused n) = n
number (accepted book) = 0

abbrev pub told : List ℕ → Tells
told bytes = record {
  by_read = number (read bytes);
  by_desk = number (desk bytes);
  repeat = repeat_of (read bytes);
  prints = fields bytes;
}

-- The three ways: taken by both; turned down by the desk alone; refused by both, which the bytes settle.

abbrev pub taken : List ℕ → List ℕ → DeskCase
taken bytes text = record { bytes = bytes; tells = record { by_read = 0; by_desk = 0; repeat = none; prints = text } }

abbrev pub turned_down : List ℕ → (goal clause earlier : ℕ) → DeskCase
turned_down bytes g c e = record {
  bytes = bytes;
  tells = record {
    by_read = 0;
    by_desk = 36;
    repeat = some (record { goal = g; clause = c; earlier = e });
    prints = ascii "refused 36\n";
  };
}

abbrev pub unread : List ℕ → (number : ℕ) → List ℕ → DeskCase
unread bytes n text = record { bytes = bytes; tells = record { by_read = n; by_desk = n; repeat = none; prints = text } }

-- The books.

-- a book whose first goal has these clauses; goals 1 and 2 have one fact each
abbrev pub of_three : List Clause → List ℕ
of_three cs = write (inductive cs ∷ inductive (fact 3 ∷ []) ∷ inductive (fact 0 ∷ []) ∷ [])

-- what is listed of it where goal 0 has an answer as a whole
abbrev pub three_listed : List ℕ
three_listed = ascii "0 0 yes 0\n0 1 none\n1 0 yes 3\n1 1 none\n2 0 yes 0\n2 1 none\n"

abbrev pub of_one : List Clause → List ℕ
of_one cs = write (inductive cs ∷ [])

abbrev pub one_listed : List ℕ
one_listed = ascii "0 0 yes 0\n0 1 none\n"

-- facts of so many variants from 0 on
abbrev pub facts : ℕ → List Clause
facts zero = []
facts (suc n) = push (facts n) (fact n)

-- a literal that stands behind a later goal's command, and is the last clause's all the same: `0.  0 :- 0.  1` without a clause
abbrev pub literal_behind : List ℕ
literal_behind =
    0x47 ∷ 0x00 ∷ 0x43 ∷ 0x00 ∷ 0x00 ∷ 0x00 ∷ 0x43 ∷ 0x00 ∷ 0x00 ∷ 0x00
    ∷ 0x47 ∷ 0x00 ∷ 0x50 ∷ 0x00 ∷ 0x00 ∷ 0x00 ∷ 0x00 ∷ 0x00 ∷ 0x45 ∷ []

-- The table.

abbrev pub desk_cases : List DeskCase
desk_cases =
    -- two facts that are the same; that differ in the variant, in a flag; that are of two goals
    turned_down (of_one (fact 0 ∷ fact 0 ∷ [])) 0 1 0
    ∷ taken (of_one (fact 0 ∷ fact 1 ∷ [])) one_listed
    ∷ taken (of_one (fact 0 ∷ unproved 0 ∷ [])) one_listed
    ∷ taken (of_one (fact 0 ∷ record { variant = 0; cannot_prove = false; outsized = true; literals = [] } ∷ [])) one_listed
    ∷ taken (write (inductive (fact 0 ∷ []) ∷ inductive (fact 0 ∷ []) ∷ [])) (ascii "0 0 yes 0\n0 1 none\n1 0 yes 0\n1 1 none\n")
    -- literals in another order; a literal and the same one negated
    ∷ taken (of_three (rule 0 (pos 1 ∷ pos 2 ∷ []) ∷ rule 0 (pos 2 ∷ pos 1 ∷ []) ∷ [])) three_listed
    ∷ taken (of_one (one_rule (pos 0) ∷ one_rule (neg 0) ∷ [])) (ascii "0 0 negcycle\n")
    -- wants that fit the same answers and are written by different commands; the mark of a literal alone
    ∷ taken (of_three (one_rule (Positive 1 (exactly 3) false) ∷ one_rule (range 1 3 3) ∷ [])) three_listed
    ∷ taken (of_three (one_rule (pos 1) ∷ one_rule (range 1 0 65535) ∷ [])) three_listed
    ∷ taken (of_three (one_rule (pos 1) ∷ one_rule (Positive 1 any true) ∷ [])) three_listed
    ∷ turned_down (of_three (one_rule (range 1 3 3) ∷ one_rule (range 1 3 3) ∷ [])) 0 1 0
    -- 36 comes after 6 and 7
    ∷ unread (of_one (one_rule (pos 5) ∷ one_rule (pos 5) ∷ [])) 6 (ascii "refused 6\n")
    ∷ unread (of_one (fact 0 ∷ fact 0 ∷ []) ++ (0x00 ∷ [])) 7 (ascii "refused 7\n")
    -- the first clause that is an earlier one's like, and the first that it is like
    ∷ turned_down (of_one (fact 0 ∷ fact 1 ∷ fact 0 ∷ [])) 0 2 0
    ∷ turned_down (of_one (fact 0 ∷ fact 1 ∷ fact 1 ∷ fact 0 ∷ [])) 0 2 1
    ∷ turned_down (write (inductive (fact 0 ∷ []) ∷ inductive (fact 0 ∷ fact 0 ∷ fact 0 ∷ []) ∷ [])) 1 1 0
    -- what a clause is, is known at the end
    ∷ taken literal_behind (ascii "0 0 yes 0\n0 1 none\n1 0 none\n")
    -- as many clauses as a book may have, the last as the first
    ∷ turned_down (of_one (push (facts 255) (fact 0))) 0 255 0
    ∷ []

pub desk_cases_agree : map (λ (c : DeskCase). told c.bytes) desk_cases ≡ map (λ (c : DeskCase). c.tells) desk_cases
desk_cases_agree = refl
